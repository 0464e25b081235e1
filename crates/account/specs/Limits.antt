-- Document 01's sentence "Every numerator and divisor above is at most 6×10^18 in size", for the weights f and the values x of n zones.
-- Assumes nothing.
use Rattle.std.specs.Prelude.{ℕ, ◌*◌, ◌-◌, ◌≤◌, ◌<◌, ℤ, pos, nat_abs, ◌*ℤ◌}
use Rattle.whole.specs.Rules.{ratio_limit}
use Rattle.account.specs.Measures.{deviation_of, spread_of, weight_of, cross_of, squares_of, local_of}

pub record Limits (f : ℕ → ℕ → ℕ) (x : ℕ → ℤ) (n : ℕ) : Type 0 where
  -- Moran: P over W × M
  pub moran_numerator : nat_abs (cross_of f (deviation_of x n) n) ≤ ratio_limit
  pub moran_divisor : nat_abs (weight_of f n *ℤ spread_of x n) ≤ ratio_limit
  -- Geary: (n − 1) × n × G over 2 × W × M
  pub geary_numerator : nat_abs (pos ((n - 1) * n) *ℤ squares_of f x n) ≤ ratio_limit
  pub geary_divisor : nat_abs ((pos 2 *ℤ weight_of f n) *ℤ spread_of x n) ≤ ratio_limit
  -- local Moran: L(i) over M
  pub local_numerator : (i : ℕ) → i < n → nat_abs (local_of f (deviation_of x n) n i) ≤ ratio_limit
  pub local_divisor : nat_abs (spread_of x n) ≤ ratio_limit
