-- The rounding of a quotient, half to even. Assumes nothing.
use Rattle.std.specs.Prelude.{Bool, ◌||◌, ◌&&◌, ℕ, ◌*◌, ◌%◌, ltb, eqb}

-- a quotient, a whole part and rest / divisor, goes up: the rest is above half of the divisor, or just half and the whole part is odd
unfoldable pub rounds_up : ℕ → ℕ → ℕ → Bool
rounds_up whole rest divisor = ltb divisor (rest * 2) || (eqb (rest * 2) divisor && eqb (whole % 2) 1)
