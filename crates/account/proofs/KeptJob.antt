-- The job of the zones kept, by some weights. Its W, P and G are sums over all zones too, with the deviations that the kept zones give; two
-- zones are kept where 6 holds. By the weights that count it is one that the work takes where 3 and 4 hold. Assumes nothing.
use mathlib.Core.Path.{◌≡◌, refl, sym, ap, ◌∙◌}
use mathlib.Core.Bool.{Bool, true, false, ◌||◌}
use mathlib.Core.List.{List}
use Prim.Native.Nat.{ℕ, zero, suc, ◌+◌, ◌*◌, ◌/◌, ◌%◌, ◌≤◌, ◌<◌}
use native.Mathlib.Omega.{arith}
use borrow.Author.Tests.{ltb-true, ltb-false, not-false, not-true, eq-eqb, ne_eqb}
use lib.Dec.{ltb, eqb}
use lib.IntN.{ℤ, pos, nat_abs, ◌-ℤ◌, ◌*ℤ◌, zero-*ℤ}
use lib.ListN.{length, get_or}
use Rattle.whole.specs.Integer.{square, is_zero}
use Rattle.whole.specs.Search.{count, any_above, any_on_diagonal}
use Rattle.whole.specs.Sum.{sum}
use Rattle.whole.specs.Table.{at, pair_at}
use Rattle.whole.proofs.Search.{some_none, some_witness, none_above, none_some}
use Rattle.whole.proofs.Lists.{within}
use Rattle.whole.proofs.Sum.{sum_cong}
use Rattle.whole.proofs.Table.{table_length, table_at}
use Rattle.whole.proofs.TableRows.{split}
use Rattle.kept.specs.Kept.{keeps, kept_count, kept_zone, kept_values, kept_pairs, put_back}
use Rattle.kept.proofs.KeptZones.{
  kept_few,
  kept_two,
  zone_stands,
  values_length,
  values_at,
  pairs_length,
  pairs_at,
  pairs_each,
  kept_pairs_sum,
  put_back_sum,
}
use Rattle.account.specs.Measures.{total_of, deviation_of, row_of, pairs_of, weight_of, cross_of, squares_of}
use Rattle.kept.specs.Returned.{reduced}
use Rattle.kept.proofs.Reduced.{returned_near, reduced_length, reduced_light, reduced_clear, kept_near, kept_all_returned}
use Rattle.account.specs.Answers.{zones_local, job_locals}
use Rattle.account.specs.Steps.{Job, Weighted, Lent}
use Rattle.account.proofs.Adding.{locals_sum}
use Rattle.account.proofs.Reading.{weightless, weight_le}

-- ---- what rule 5 tells where it holds
pub clear_of : (weights : List ℕ) (n : ℕ) → any_on_diagonal n weights ≡ false → (i : ℕ) → i < n → pair_at weights n i i ≡ 0
unfolding any_on_diagonal
clear_of weights n e i h =
    let q = ltb-false 0 (pair_at weights n i i) (some_none (λ i. ltb 0 (pair_at weights n i i)) n i e h) in
    omega arith

module _ (n : ℕ) (values : List ℤ) (weights : List ℕ) where
  abbrev m : ℕ
  m = kept_count n weights

  abbrev x : List ℤ
  x = kept_values n weights values

  abbrev w : List ℕ
  w = kept_pairs n weights weights

  abbrev zone : ℕ → ℕ
  zone = kept_zone n weights

  -- ---- a sum over the pairs of the kept job is one over all pairs
  pub pairs_all :
      (h k : ℕ → ℕ → ℤ) → ((a b : ℕ) → a < m → b < m → k a b ≡ h (zone a) (zone b)) →
      pairs_of (pair_at w m) k m ≡ pairs_of (pair_at weights n) h n
  unfolding pairs_of row_of
  pairs_all h k same =
      sum_cong _ _ m
      (λ a p.
      sum_cong _ _ m
      (λ b q. ap (λ v. pos v *ℤ k a b) (pairs_at n weights weights a b p q)
      ∙ ap (λ z. pos (pair_at weights n (zone a) (zone b)) *ℤ z) (same a b p q)))
      ∙ kept_pairs_sum n weights (λ i j. pos (pair_at weights n i j) *ℤ h i j)
      (λ i j p q e. ap (λ v. pos v *ℤ h i j) e ∙ zero-*ℤ (h i j))

  pub weight_all : weight_of (pair_at w m) m ≡ weight_of (pair_at weights n) n
  unfolding weight_of
  weight_all = pairs_all (λ i j. pos 1) (λ i j. pos 1) (λ a b p q. refl)

  pub squares_all : squares_of (pair_at w m) (at x) m ≡ squares_of (pair_at weights n) (at values) n
  unfolding squares_of
  squares_all =
      pairs_all (λ i j. square (at values i -ℤ at values j)) (λ a b. square (at x a -ℤ at x b))
      (λ a b p q. rw (values_at n weights values a p, values_at n weights values b q) refl)

  -- the deviation of any zone from the mean of those kept: m × x(i) − S
  abbrev pub deviation : ℕ → ℤ
  deviation i = pos m *ℤ at values i -ℤ total_of (at x) m

  deviation_kept : (a : ℕ) → a < m → deviation_of (at x) m a ≡ deviation (zone a)
  unfolding deviation_of
  deviation_kept a p = ap (λ v. pos m *ℤ v -ℤ total_of (at x) m) (values_at n weights values a p)

  pub cross_all : cross_of (pair_at w m) (deviation_of (at x) m) m ≡ cross_of (pair_at weights n) deviation n
  unfolding cross_of
  cross_all =
      pairs_all (λ i j. deviation i *ℤ deviation j) (λ a b. deviation_of (at x) m a *ℤ deviation_of (at x) m b)
      (λ a b p q. rw (deviation_kept a p, deviation_kept b q) refl)

  -- ---- where the values of the zones kept are within their limit and the weights too, the job of those zones is one that the account's
  -- work takes; and its diagonal is clear where that of all zones is
  module _
      (zones : n ≤ 64) (near : (k : ℕ) → k < m → nat_abs (at x k) ≤ 100000)
      (light : (i j : ℕ) → i < n → j < n → pair_at weights n i j ≤ 9) where
    pub kept_job : Job x w m
    kept_job = record {
      valued = record {
        zones = omega (arith, kept_few n weights);
        near = record {
          count = values_length n weights values;
          size = near;
        };
      };
      weighted = record {
        zones = omega (arith, kept_few n weights);
        count = pairs_length n weights weights;
        light = pairs_each n weights (λ v. v ≤ 9) weights light;
      };
    }

  pub kept_clear : ((i : ℕ) → i < n → pair_at weights n i i ≡ 0) → (a : ℕ) → a < m → pair_at w m a a ≡ 0
  kept_clear clear a p = pairs_at n weights weights a a p p ∙ clear (zone a) (zone_stands n weights a p).below

  -- ---- and where 6 holds too two zones are kept
  at_pair : any_on_diagonal n weights ≡ false → (i j : ℕ) → i < n → j < n → 0 < pair_at weights n i j → 2 ≤ m
  at_pair clear i j p q above =
      kept_two n weights i j p q
      (λ e. let z : ⊥ = omega (arith, above, clear_of weights n clear i p, ap (λ t. pair_at weights n i t) e) in z)
      above

  at_place : any_on_diagonal n weights ≡ false → (p : ℕ) → p < n * n → 0 < get_or weights p 0 → 2 ≤ m
  unfolding pair_at
  at_place clear p h above =
      let s = split n n p h in
      at_pair clear (p / n) (p % n) s.row s.column (rw s.whole above)

  pub two_kept : Weighted weights n → any_on_diagonal n weights ≡ false → is_zero (weight_of (pair_at weights n) n) ≡ false → 2 ≤ m
  unfolding any_above
  two_kept good clear some_weight =
      let found = not-false (any_above 0 weights) (sym (weightless weights n good) ∙ some_weight) in
      let place = some_witness (λ k. ltb 0 (get_or weights k 0)) (length weights) found in
      at_place clear place.0 (omega (arith, place.1, good.count)) (ltb-true 0 (get_or weights place.0 0) place.2)

-- ---- 6 is that no zone is kept
no_one : (test : ℕ → Bool) (k : ℕ) → ((i : ℕ) → i < k → test i ≡ false) → count test k ≡ 0
unfolding count
no_one test zero h = refl
no_one test (suc k) h = rw (no_one test k (λ i p. h i (omega arith)), h k (omega arith)) refl

module _ (n : ℕ) (values : List ℤ) (weights : List ℕ) (good : Weighted weights n) where
  zero_weight : any_above 0 weights ≡ false → (i j : ℕ) → i < n → j < n → pair_at weights n i j ≡ 0
  unfolding pair_at
  zero_weight none i j p q = omega (arith, none_above 0 weights none (i * n + j) (omega (arith, within n i j p q, good.count)))

  quiet : any_above 0 weights ≡ false → (i : ℕ) → i < n → keeps n weights i ≡ false
  unfolding keeps
  quiet none i p =
      none_some (λ j. ltb 0 (pair_at weights n i j) || ltb 0 (pair_at weights n j i)) n
      (λ j q. rw (zero_weight none i j p q, zero_weight none j i q p) refl)

  pub six_by_count : any_on_diagonal n weights ≡ false → is_zero (weight_of (pair_at weights n) n) ≡ eqb (kept_count n weights) 0
  unfolding kept_count
  six_by_count clear = go (is_zero (weight_of (pair_at weights n) n)) refl
    where
      go : (b : Bool) → is_zero (weight_of (pair_at weights n) n) ≡ b → b ≡ eqb (count (keeps n weights) n) 0
      go true e =
          let none = not-true (any_above 0 weights) (sym (weightless weights n good) ∙ e) in
          sym (eq-eqb (count (keeps n weights) n) 0 (no_one (keeps n weights) n (quiet none)))
      go false e =
          sym (ne_eqb (count (keeps n weights) n) 0 (λ z. let x : ⊥ = omega (arith, two_kept n values weights good clear e) in x))

-- ---- of a job, by the weights that count
module _ (n : ℕ) (values : List ℤ) (weights : List ℕ) where
  abbrev r : List ℕ
  r = reduced n values weights

  abbrev own : ℕ → ℤ
  own = zones_local (kept_count n r) (kept_values n r values) (kept_pairs n r r)

  -- the local numerators by their places; together they are P
  pub job_locals_length : length (job_locals n values weights) ≡ n
  unfolding job_locals
  job_locals_length = table_length (put_back n r own) n

  pub job_locals_at : (i : ℕ) → i < n → at (job_locals n values weights) i ≡ put_back n r own i
  unfolding job_locals
  job_locals_at i h = table_at (put_back n r own) n i (pos 0) h

  pub job_locals_sum :
      sum (at (job_locals n values weights)) n
      ≡ cross_of (pair_at (kept_pairs n r r) (kept_count n r)) (deviation_of (at (kept_values n r values)) (kept_count n r)) (kept_count n r)
  unfolding zones_local
  job_locals_sum =
      sum_cong _ _ n job_locals_at
      ∙ put_back_sum n r own
      ∙ locals_sum (pair_at (kept_pairs n r r) (kept_count n r)) (deviation_of (at (kept_values n r values)) (kept_count n r)) (kept_count n r)

  module _ (lent : Lent values weights n) where
    -- the weights that count are weights between the zones
    pub counting_weighted : Weighted r n
    counting_weighted = record {
      zones = lent.weighted.zones;
      count = reduced_length n values weights;
      light = reduced_light n values weights 9 (weight_le weights n lent.weighted);
    }

    -- and the job of the zones kept is one that the work takes
    pub lent_job : Job (kept_values n r values) (kept_pairs n r r) (kept_count n r)
    lent_job =
        kept_job n values r lent.weighted.zones (kept_near n values weights lent.near lent.count) (weight_le r n counting_weighted)

    -- 6 is that no zone is kept
    pub six_by_kept : any_on_diagonal n weights ≡ false → is_zero (weight_of (pair_at r n) n) ≡ eqb (kept_count n r) 0
    six_by_kept clear = six_by_count n values r counting_weighted (reduced_clear n values weights clear)

    -- where every zone is kept, the job as it was lent is one that the work takes too
    pub whole_job : kept_count n r ≡ n → Job values weights n
    whole_job all = record {
      valued = record {
        zones = lent.weighted.zones;
        near = record {
          count = lent.count;
          size = λ i h. returned_near values lent.near i (omega (arith, h, lent.count)) (kept_all_returned n values weights all i h);
        };
      };
      weighted = lent.weighted;
    }
