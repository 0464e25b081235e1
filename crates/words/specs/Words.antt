-- Numbers in bytes, their lowest byte first. A byte beyond the end counts as 0. The signed number that bits stand for is the kit's `to_z`,
-- and the bits of a signed number are its `of_z`. Assumes nothing.
use Rattle.std.specs.Prelude.{List, [], ◌∷◌, ℕ, ◌+◌, ◌*◌, ◌/◌, ◌%◌, get_or}

-- the byte at a place
abbrev pub byte_at : List ℕ → ℕ → ℕ
byte_at bytes at = get_or bytes at 0

-- the number of the two bytes from a place on
unfoldable pub two_at : List ℕ → ℕ → ℕ
two_at bytes at = byte_at bytes at + 256 * byte_at bytes (at + 1)

-- the number of the four bytes from a place on
unfoldable pub word_at : List ℕ → ℕ → ℕ
word_at bytes at =
    byte_at bytes at + 256 * byte_at bytes (at + 1) + 65536 * byte_at bytes (at + 2) + 16777216 * byte_at bytes (at + 3)

-- the number of the eight bytes from a place on
unfoldable pub long_at : List ℕ → ℕ → ℕ
long_at bytes at = word_at bytes at + 4294967296 * word_at bytes (at + 4)

-- ---- the bytes of a number

-- of one below 65,536, two
abbrev pub two_bytes : ℕ → List ℕ
two_bytes k = k % 256 ∷ k / 256 ∷ []

-- of one below 4,294,967,296, four
abbrev pub word_bytes : ℕ → List ℕ
word_bytes u = u % 256 ∷ u / 256 % 256 ∷ u / 65536 % 256 ∷ u / 16777216 ∷ []
