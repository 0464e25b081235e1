-- Words on an integer. Assumes nothing.
use Rattle.std.specs.Prelude.{Bool, true, false, ℕ, ltb, eqb, ℤ, pos, negsuc, nat_abs, ◌-ℤ◌, ◌*ℤ◌}

-- z squared
abbrev pub square : ℤ → ℤ
square z = z *ℤ z

-- whether z is 0
abbrev pub is_zero : ℤ → Bool
is_zero z = eqb (nat_abs z) 0

-- whether a and b are equal
abbrev pub equal : ℤ → ℤ → Bool
equal a b = is_zero (a -ℤ b)

-- whether z is below 0
abbrev pub below_zero : ℤ → Bool
below_zero (pos n) = false
below_zero (negsuc n) = true

-- whether z is beyond the limit in size
abbrev pub beyond : ℕ → ℤ → Bool
beyond limit z = ltb limit (nat_abs z)
