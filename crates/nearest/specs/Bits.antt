-- A 64-bit float read by its 64 bits, as a number b: the highest bit is the sign, the next 11 are the field of the exponent and the last
-- 52 the digits. Assumes nothing.
use Rattle.std.specs.Prelude.{Bool, true, false, ℕ, zero, suc, ◌+◌, ◌*◌, ◌/◌, ◌%◌, ◌^◌, ◌<◌, leb, ℤ, pos, neg_ℤ}

-- whether the sign is a minus
abbrev pub negative : ℕ → Bool
negative b = leb (2 ^ 63) b

-- the field of the exponent
abbrev pub field : ℕ → ℕ
field b = b % 2 ^ 63 / 2 ^ 52

-- the digits
abbrev pub digits : ℕ → ℕ
digits b = b % 2 ^ 52

-- 64 bits that are a number's: infinities and NaNs have the field 2047
abbrev pub Finite : ℕ → Type 0
Finite b = (b < 2 ^ 64) × (field b < 2047)

-- How many steps of 2^-1074 a field and digits stand for: in the field 0 as many as the digits say. From the field 1 on a leading 1
-- stands before the digits, and each further field doubles the steps.
abbrev pub steps : ℕ → ℕ → ℕ
steps zero t = t
steps (suc x) t = (2 ^ 52 + t) * 2 ^ x

-- the size of a finite float, times 2^1074
abbrev pub size_of : ℕ → ℕ
size_of b = steps (field b) (digits b)

-- a size with its sign
abbrev pub signed : Bool → ℕ → ℤ
signed false n = pos n
signed true n = neg_ℤ (pos n)

-- the value of a finite float, times 2^1074
abbrev pub value_of : ℕ → ℤ
value_of b = signed (negative b) (size_of b)
