-- The coefficients of document 01 are those of document 001, whatever weights are counted: equations 9 (Moran's I), 12 (local Moran) and
-- 19 (Geary's c). There z(i) is x(i) less the mean, so that d(i) is n × z(i), and the sum of z z is that of d d over n × n. Two ratios
-- p / q and p' / q' of whole numbers are the same where p × q' is p' × q. Assumes nothing.
use mathlib.Core.Path.{◌≡◌, sym, ap, ◌∙◌}
use mathlib.Core.List.{List}
use Prim.Native.Nat.{ℕ, ◌*◌, ◌-◌, ◌<◌}
use lib.IntN.{ℤ, pos, ◌*ℤ◌}
use Rattle.whole.specs.Integer.{square}
use Rattle.whole.specs.Sum.{sum}
use Rattle.whole.specs.Table.{at, pair_at}
use Rattle.whole.proofs.Integer.{*_assoc, *_left_comm}
use Rattle.kept.specs.Kept.{kept_count, kept_zone, kept_values, kept_pairs}
use Rattle.kept.specs.Returned.{reduced}
use Rattle.kept.proofs.KeptZones.{zone_stands, put_back_zone}
use Rattle.account.specs.Measures.{deviation_of, spread_of, weight_of, cross_of, squares_of, local_of}
use Rattle.account.specs.Refusals.{job_spread}
use Rattle.account.specs.Answers.{class_row, zones_local, job_kept, job_row, job_locals}
use Rattle.account.proofs.Theorems.{deviations_squared_sum, job_locals_at}

carried : (p k m : ℤ) → p *ℤ (k *ℤ m) ≡ (k *ℤ p) *ℤ m
carried p k m = *_left_comm p k m ∙ sym (*_assoc k p m)

module _ (f : ℕ → ℕ → ℕ) (x : ℕ → ℤ) (n : ℕ) where
  abbrev d : ℕ → ℤ
  d = deviation_of x n

  -- the sum of d d
  abbrev dd : ℤ
  dd = sum (λ i. square (d i)) n

  same_divisor : (p q : ℤ) → p *ℤ (q *ℤ dd) ≡ (pos n *ℤ p) *ℤ (q *ℤ spread_of x n)
  same_divisor p q =
      ap (λ v. p *ℤ (q *ℤ v)) (deviations_squared_sum x n)
      ∙ ap (λ v. p *ℤ v) (*_left_comm q (pos n) (spread_of x n))
      ∙ carried p (pos n) (q *ℤ spread_of x n)

  -- 9: n × (sum of w z z) / (W × (sum of z z)), both sums times n × n, is P / (W × M)
  pub moran_of_paper : cross_of f d n *ℤ (weight_of f n *ℤ dd) ≡ (pos n *ℤ cross_of f d n) *ℤ (weight_of f n *ℤ spread_of x n)
  moran_of_paper = same_divisor (cross_of f d n) (weight_of f n)

  -- 12: n × z(i) × (sum of w z) / (sum of z z), both times n × n, is L(i) / M
  pub local_of_paper : (i : ℕ) → local_of f d n i *ℤ dd ≡ (pos n *ℤ local_of f d n i) *ℤ spread_of x n
  local_of_paper i = ap (λ v. local_of f d n i *ℤ v) (deviations_squared_sum x n) ∙ carried (local_of f d n i) (pos n) (spread_of x n)

  -- 19: (n − 1) × G / (2 × W × (sum of z z)), both times n × n, is (n − 1) × n × G / (2 × W × M)
  pub geary_of_paper :
      (pos ((n - 1) * n) *ℤ squares_of f x n) *ℤ ((pos 2 *ℤ weight_of f n) *ℤ dd)
      ≡ (pos n *ℤ (pos ((n - 1) * n) *ℤ squares_of f x n)) *ℤ ((pos 2 *ℤ weight_of f n) *ℤ spread_of x n)
  geary_of_paper = same_divisor (pos ((n - 1) * n) *ℤ squares_of f x n) (pos 2 *ℤ weight_of f n)

-- ---- so are the coefficients of a job, over the zones kept: n is their number, f their weights and x their values
module _ (n : ℕ) (values : List ℤ) (weights : List ℕ) where
  abbrev counting : List ℕ
  counting = reduced n values weights

  abbrev kept_deviation : ℕ → ℤ
  kept_deviation = deviation_of (at (kept_values n counting values)) (kept_count n counting)

  abbrev kept_dd : ℤ
  kept_dd = sum (λ k. square (kept_deviation k)) (kept_count n counting)

  pub job_moran_of_paper :
      (job_row n values weights).cross *ℤ ((job_row n values weights).weight *ℤ kept_dd)
      ≡ (pos (job_kept n values weights) *ℤ (job_row n values weights).cross)
      *ℤ ((job_row n values weights).weight *ℤ job_spread n values weights)
  unfolding job_row class_row job_kept job_spread
  job_moran_of_paper = moran_of_paper _ (at (kept_values n counting values)) (kept_count n counting)

  -- of the k-th zone kept, whose L stands in the list at its zone
  pub job_local_of_paper :
      (k : ℕ) → k < kept_count n counting →
      at (job_locals n values weights) (kept_zone n counting k) *ℤ kept_dd
      ≡ (pos (job_kept n values weights) *ℤ at (job_locals n values weights) (kept_zone n counting k)) *ℤ job_spread n values weights
  unfolding job_kept job_spread zones_local
  job_local_of_paper k h =
      let stands = zone_stands n counting k h in
      rw (job_locals_at n values weights (kept_zone n counting k) stands.below ∙ put_back_zone n counting _ k h)
      (local_of_paper (pair_at (kept_pairs n counting counting) (kept_count n counting)) (at (kept_values n counting values)) (kept_count n counting) k)

  pub job_geary_of_paper :
      let m = job_kept n values weights in
      let g = (job_row n values weights).squares in
      let w = (job_row n values weights).weight in
      (pos ((m - 1) * m) *ℤ g) *ℤ ((pos 2 *ℤ w) *ℤ kept_dd)
      ≡ (pos m *ℤ (pos ((m - 1) * m) *ℤ g)) *ℤ ((pos 2 *ℤ w) *ℤ job_spread n values weights)
  unfolding job_row class_row job_kept job_spread
  job_geary_of_paper = geary_of_paper _ (at (kept_values n counting values)) (kept_count n counting)
