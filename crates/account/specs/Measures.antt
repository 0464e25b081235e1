-- The measures of a job, as document 01 writes them. x gives each zone's value, d each zone's deviation, and f the weight that counts
-- of each ordered pair of zones, which in the whole job is w(i,j). Every sum is said once, for any such f. Assumes nothing.
use Rattle.std.specs.Prelude.{ℕ, ℤ, pos, ◌-ℤ◌, ◌*ℤ◌}
use Rattle.whole.specs.Integer.{square}
use Rattle.whole.specs.Sum.{sum}

-- ---- of the values x of n zones

-- S: the sum of x
unfoldable pub total_of : (ℕ → ℤ) → ℕ → ℤ
total_of x n = sum x n

-- the deviation d(i) = n × x(i) − S
unfoldable pub deviation_of : (ℕ → ℤ) → ℕ → ℕ → ℤ
deviation_of x n i = pos n *ℤ x i -ℤ total_of x n

-- the spread M: the sum over the pairs i < j of (x(i) − x(j)) squared
unfoldable pub spread_of : (ℕ → ℤ) → ℕ → ℤ
spread_of x n = sum (λ j. sum (λ i. square (x i -ℤ x j)) j) n

-- ---- of the weights f(i,j)

-- the sum over the zones j of f(i,j) × h(i,j)
unfoldable pub row_of : (ℕ → ℕ → ℕ) → (ℕ → ℕ → ℤ) → ℕ → ℕ → ℤ
row_of f h i n = sum (λ j. pos (f i j) *ℤ h i j) n

-- the same over all ordered pairs (i,j)
unfoldable pub pairs_of : (ℕ → ℕ → ℕ) → (ℕ → ℕ → ℤ) → ℕ → ℤ
pairs_of f h n = sum (λ i. row_of f h i n) n

-- W: the sum of w(i,j)
unfoldable pub weight_of : (ℕ → ℕ → ℕ) → ℕ → ℤ
weight_of f n = pairs_of f (λ i j. pos 1) n

-- P: the sum of w(i,j) × d(i) × d(j)
unfoldable pub cross_of : (ℕ → ℕ → ℕ) → (ℕ → ℤ) → ℕ → ℤ
cross_of f d n = pairs_of f (λ i j. d i *ℤ d j) n

-- G: the sum of w(i,j) × (x(i) − x(j)) squared
unfoldable pub squares_of : (ℕ → ℕ → ℕ) → (ℕ → ℤ) → ℕ → ℤ
squares_of f x n = pairs_of f (λ i j. square (x i -ℤ x j)) n

-- the local numerator L(i) = d(i) × (the sum over j of w(i,j) × d(j))
unfoldable pub local_of : (ℕ → ℕ → ℕ) → (ℕ → ℤ) → ℕ → ℕ → ℤ
local_of f d n i = d i *ℤ row_of f (λ i j. d j) i n
