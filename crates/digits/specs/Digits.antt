-- Numbers as they are printed, in ASCII: in decimal with `-` in front where they are below 0, no plus and no zeros in front; in hexadecimal
-- with capitals. Assumes nothing.
use Rattle.std.specs.Prelude.{cond, List, [], ◌∷◌, ◌++◌, ℕ, zero, suc, ◌+◌, ◌/◌, ◌%◌, ltb, ℤ, pos, negsuc}

-- the code of a digit below 16: `0` to `9`, then `A` to `F`
abbrev pub digit : ℕ → ℕ
digit d = cond (ltb d 10) (48 + d) (55 + d)

-- the decimal digits of n: below 10 its one digit, and otherwise those of n / 10, then the last. `most` is more digits than n has
abbrev pub digits_of : ℕ → ℕ → List ℕ
digits_of zero n = []
digits_of (suc most) n = cond (ltb n 10) (digit n ∷ []) (digits_of most (n / 10) ++ (digit (n % 10) ∷ []))

-- a number without a sign has fewer digits than its size and one
unfoldable pub unsigned : ℕ → List ℕ
unsigned n = digits_of (suc n) n

-- a whole number in decimal
unfoldable pub decimal : ℤ → List ℕ
decimal (pos n) = unsigned n
decimal (negsuc n) = 45 ∷ unsigned (suc n)

-- the last k digits of n in a base up to 16, the lowest first
abbrev pub low_digits : ℕ → ℕ → ℕ → List ℕ
low_digits base zero n = []
low_digits base (suc k) n = digit (n % base) ∷ low_digits base k (n / base)

-- the last k hexadecimal digits of n, the highest first
abbrev pub hexadecimal_digits : ℕ → ℕ → List ℕ
hexadecimal_digits zero n = []
hexadecimal_digits (suc k) n = hexadecimal_digits k (n / 16) ++ (digit (n % 16) ∷ [])

-- 64 bits as 16 hexadecimal digits
unfoldable pub hexadecimal : ℕ → List ℕ
hexadecimal bits = hexadecimal_digits 16 bits
