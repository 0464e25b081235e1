-- A line of text: a word, fields with a space before each, and a line feed. Bytes are ASCII codes. Assumes nothing.
use Rattle.std.specs.Prelude.{List, [], ◌∷◌, ◌++◌, ℕ, ℤ}
use Prim.Native.Char.{code}
use Prim.Native.String.{String, [] as empty, ◌∷◌ as ◌then◌}
use Rattle.whole.specs.Table.{each}
use Rattle.digits.specs.Digits.{decimal, hexadecimal}

-- the bytes of a quoted word
abbrev pub ascii : String → List ℕ
ascii empty = []
ascii (letter then more) = code letter ∷ ascii more

-- a field: a space and what stands in it
abbrev pub field : List ℕ → List ℕ
field bytes = 32 ∷ bytes

-- a line
abbrev pub line : String → List ℕ → List ℕ
line word fields = ascii word ++ (fields ++ (10 ∷ []))

-- ---- fields

-- whole numbers, in decimal
unfoldable pub numbers : List ℤ → List ℕ
numbers list = each (λ z. field (decimal z)) list

-- the 64 bits of a float, as 16 hexadecimal digits
unfoldable pub bits : ℕ → List ℕ
bits x = field (hexadecimal x)
