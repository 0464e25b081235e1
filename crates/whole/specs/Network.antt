-- A network: which zones are joined, as weights. Assumes nothing.
use Rattle.std.specs.Prelude.{◌≡◌, ℕ, ◌≤◌, ◌<◌}

-- the weights f(i,j) of n zones are 0 or 1, the same both ways, and 0 on the diagonal
pub record Network (f : ℕ → ℕ → ℕ) (n : ℕ) : Type 0 where
  pub zero_or_one : (i j : ℕ) → i < n → j < n → f i j ≤ 1
  pub both_ways : (i j : ℕ) → i < n → j < n → f i j ≡ f j i
  pub diagonal : (i : ℕ) → i < n → f i i ≡ 0
