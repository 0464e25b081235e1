-- What the steps of the division promise each other. Assumes nothing.
use Rattle.std.specs.Prelude.{◌⊎◌, ◌≡◌, Bool, not, cond, ℕ, ◌+◌, ◌*◌, ◌^◌, ◌≤◌, ◌<◌, eqb}
use mathlib.Core.Bool.{beq}
use Rattle.nearest.specs.declared.Side.{Side}
use Rattle.nearest.specs.declared.Side.TheVariants.{Equal, Below, Above}

-- the divisor is q doubled so often that a number below 2^63 has a quotient below 2^53
pub record Widened (q divisor doublings : ℕ) : Type 0 where
  pub same : divisor ≡ q * 2 ^ doublings
  pub often : (doublings ≡ 0) ⊎ (doublings ≡ 10)
  pub least : 1024 ≤ divisor
  pub most : divisor < 2 ^ 63

-- doubled so often, x stays below 2^64, and it cannot be doubled more often
pub record Room (x doublings : ℕ) : Type 0 where
  pub few : doublings ≤ 64
  pub inside : (x + 1) * 2 ^ doublings ≤ 2 ^ 64
  pub most : (k : ℕ) → x < 2 ^ k → 64 ≤ k + doublings

-- the quotient of a × 2^halvings by the divisor: a whole part of 53 binary digits, and the rest
pub record Divided (a divisor whole rest halvings : ℕ) : Type 0 where
  pub same : whole * divisor + rest ≡ a * 2 ^ halvings
  pub over : rest < divisor
  pub least : 2 ^ 52 ≤ whole
  pub most : whole < 2 ^ 53
  pub few : halvings ≤ 115

-- where the number taken for a quotient lies beside it, or the negative of the one beside the negative of the other: on it where nothing is
-- left over, else on the side of 0 or on the other, as the whole part is kept or not
abbrev pub taken_side : Bool → ℕ → ℕ → ℕ → Side
taken_side minus whole rest taken = cond (eqb rest 0) Equal (cond (beq (not (eqb taken whole)) minus) Below Above)
