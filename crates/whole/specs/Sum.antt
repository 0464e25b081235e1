-- A finite sum of integers. Assumes nothing.
use Rattle.std.specs.Prelude.{ℕ, zero, suc, ℤ, pos, ◌+ℤ◌}

-- f 0 + f 1 + .. + f (n − 1)
unfoldable pub sum : (ℕ → ℤ) → ℕ → ℤ
sum f zero = pos 0
sum f (suc n) = sum f n +ℤ f n
