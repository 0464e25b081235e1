-- How large the measures of up to 64 zones can be, for values of at most 100,000 in size and any weights of at most 9; and sharper
-- where no weight stands on the diagonal, so that every numerator and divisor is at most 6 × 10^18. Assumes nothing.
use mathlib.Core.Path.{◌≡◌, ap, ◌∙◌}
use Prim.Native.Nat.{ℕ, zero, suc, ◌+◌, ◌*◌, ◌≤◌, ◌<◌}
use native.Mathlib.Nat as N
use native.Mathlib.Omega.{arith}
use lib.IntN.{ℤ, pos, nat_abs, ◌-ℤ◌, ◌*ℤ◌, zero-*ℤ}
use Rattle.whole.specs.Integer.{square}
use Rattle.whole.specs.Sum.{sum}
use Rattle.whole.proofs.Size.{size___le, size_*_le}
use Rattle.whole.proofs.SumSize.{sum_size, sum_size_but, sum_size_pairs}
use Rattle.account.specs.Measures.{total_of, deviation_of, spread_of, row_of, pairs_of, weight_of, cross_of, squares_of, local_of}
use Rattle.account.proofs.Adding.{locals_sum}

-- up to 64 zones have up to 2,016 pairs i < j
two_pairs : (n : ℕ) → n ≤ 64 → n * n ≤ 4032 + n
two_pairs zero h = omega arith
two_pairs (suc n) h = omega (arith, N.mul-le-mul {n₂ = 64} {m₂ = 63} h (less n h))
  where
    less : (n : ℕ) → suc n ≤ 64 → n ≤ 63
    less n h = omega arith

-- ---- of the values
module _ (x : ℕ → ℤ) (n : ℕ) (zones : n ≤ 64) (near : (k : ℕ) → k < n → nat_abs (x k) ≤ 100000) where
  pub total_size : (m : ℕ) → m ≤ n → nat_abs (sum x m) ≤ 6400000
  total_size m h = omega (arith, sum_size x m 100000 (λ k p. near k (omega arith)))

  pub deviation_size : (i : ℕ) → i < n → nat_abs (deviation_of x n i) ≤ 12800000
  unfolding deviation_of total_of
  deviation_size i h =
      size___le (pos n *ℤ x i) (sum x n) 6400000 6400000 (size_*_le (pos n) (x i) 64 100000 zones (near i h)) (total_size n (omega arith))

  pub square_size : (i j : ℕ) → i < n → j < n → nat_abs (square (x i -ℤ x j)) ≤ 40000000000
  square_size i j h k =
      let e = size___le (x i) (x j) 100000 100000 (near i h) (near j k) in
      size_*_le (x i -ℤ x j) (x i -ℤ x j) 200000 200000 e e

  -- the pairs of the first m zones
  pub spread_size : (m : ℕ) → m ≤ n → nat_abs (sum (λ j. sum (λ i. square (x i -ℤ x j)) j) m) ≤ 80640000000000
  spread_size m h =
      omega (
        arith,
        sum_size_pairs (λ j. sum (λ i. square (x i -ℤ x j)) j) m 40000000000
            (λ j p. sum_size (λ i. square (x i -ℤ x j)) j 40000000000 (λ i q. square_size i j (omega arith) (omega arith))),
        two_pairs m (omega arith),
      )

  pub spread_of_size : nat_abs (spread_of x n) ≤ 80640000000000
  unfolding spread_of
  spread_of_size = spread_size n (omega arith)

-- ---- of any sum of f(i,j) × h(i,j), where h is at most b in size
module _ (f : ℕ → ℕ → ℕ) (h : ℕ → ℕ → ℤ) (n b : ℕ) (zones : n ≤ 64)
    (light : (i j : ℕ) → i < n → j < n → f i j ≤ 9) (small : (i j : ℕ) → i < n → j < n → nat_abs (h i j) ≤ b) where
  pub term_size : (i j : ℕ) → i < n → j < n → nat_abs (pos (f i j) *ℤ h i j) ≤ 9 * b
  term_size i j p q = size_*_le (pos (f i j)) (h i j) 9 b (light i j p q) (small i j p q)

  -- the first m of a row
  pub row_size : (i m : ℕ) → i < n → m ≤ n → nat_abs (sum (λ j. pos (f i j) *ℤ h i j) m) ≤ 64 * (9 * b)
  row_size i m p q =
      N.le_trans (sum_size (λ j. pos (f i j) *ℤ h i j) m (9 * b) (λ j r. term_size i j p (omega arith)))
      (N.mul-le-mul_right (9 * b) (N.le_trans q zones))

  -- the first m rows
  pub rows_size : (m : ℕ) → m ≤ n → nat_abs (sum (λ i. row_of f h i n) m) ≤ 64 * (64 * (9 * b))
  unfolding row_of
  rows_size m q =
      N.le_trans (sum_size (λ i. row_of f h i n) m (64 * (9 * b)) (λ i r. row_size i n (omega arith) (omega arith)))
      (N.mul-le-mul_right (64 * (9 * b)) (N.le_trans q zones))

  -- where no weight stands on the diagonal
  module _ (clear : (i : ℕ) → i < n → f i i ≡ 0) where
    pub row_sharp : (i : ℕ) → i < n → nat_abs (row_of f h i n) ≤ 63 * (9 * b)
    unfolding row_of
    row_sharp i p =
        let none = ap (λ v. pos v *ℤ h i i) (clear i p) ∙ zero-*ℤ (h i i) in
        let others = sum_size_but (λ j. pos (f i j) *ℤ h i j) n (9 * b) i p none (λ j r. term_size i j p r) in
        omega (arith, others, N.mul-le-mul_right (9 * b) zones)

    pub pairs_sharp : nat_abs (pairs_of f h n) ≤ 64 * (63 * (9 * b))
    unfolding pairs_of
    pairs_sharp = N.le_trans (sum_size (λ i. row_of f h i n) n (63 * (9 * b)) row_sharp) (N.mul-le-mul_right (63 * (9 * b)) zones)

-- ---- of W, G, L and P
module _ (f : ℕ → ℕ → ℕ) (n : ℕ) (zones : n ≤ 64) (light : (i j : ℕ) → i < n → j < n → f i j ≤ 9) where
  pub weight_size : nat_abs (weight_of f n) ≤ 36864
  unfolding weight_of pairs_of
  weight_size = rows_size f (λ i j. pos 1) n 1 zones light (λ i j p q. omega arith) n (omega arith)

  pub squares_size : (x : ℕ → ℤ) → ((k : ℕ) → k < n → nat_abs (x k) ≤ 100000) → nat_abs (squares_of f x n) ≤ 1474560000000000
  unfolding squares_of pairs_of
  squares_size x near = rows_size f (λ i j. square (x i -ℤ x j)) n 40000000000 zones light (square_size x n zones near) n (omega arith)

  module _ (d : ℕ → ℤ) (small : (i : ℕ) → i < n → nat_abs (d i) ≤ 12800000) where
    pub local_size : (i : ℕ) → i < n → nat_abs (local_of f d n i) ≤ 94371840000000000
    unfolding local_of row_of
    local_size i p =
        size_*_le (d i) (row_of f (λ i j. d j) i n) 12800000 7372800000 (small i p)
        (row_size f (λ i j. d j) n 12800000 zones light (λ i j p q. small j q) i n p (omega arith))

    pub cross_size : nat_abs (cross_of f d n) ≤ 6039797760000000000
    cross_size = rw (← locals_sum f d n) (omega (arith, sum_size (λ i. local_of f d n i) n 94371840000000000 local_size))

  module _ (clear : (i : ℕ) → i < n → f i i ≡ 0) where
    pub weight_sharp : nat_abs (weight_of f n) ≤ 36288
    unfolding weight_of
    weight_sharp = pairs_sharp f (λ i j. pos 1) n 1 zones light (λ i j p q. omega arith) clear

    pub squares_sharp : (x : ℕ → ℤ) → ((k : ℕ) → k < n → nat_abs (x k) ≤ 100000) → nat_abs (squares_of f x n) ≤ 1451520000000000
    unfolding squares_of
    squares_sharp x near = pairs_sharp f (λ i j. square (x i -ℤ x j)) n 40000000000 zones light (square_size x n zones near) clear

    module _ (d : ℕ → ℤ) (small : (i : ℕ) → i < n → nat_abs (d i) ≤ 12800000) where
      pub local_sharp : (i : ℕ) → i < n → nat_abs (local_of f d n i) ≤ 92897280000000000
      unfolding local_of
      local_sharp i p =
          size_*_le (d i) (row_of f (λ i j. d j) i n) 12800000 7257600000 (small i p)
          (row_sharp f (λ i j. d j) n 12800000 zones light (λ i j p q. small j q) clear i p)

      pub cross_sharp : nat_abs (cross_of f d n) ≤ 5945425920000000000
      cross_sharp = rw (← locals_sum f d n) (omega (arith, sum_size (λ i. local_of f d n i) n 92897280000000000 local_sharp))
