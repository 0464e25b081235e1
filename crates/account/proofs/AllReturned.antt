-- A job in which every value is returned: nothing is reduced, so that every figure and every refusal is the one of the weights as they are
-- lent, and rule 3 asks of every value. Assumes nothing.
use mathlib.Core.Path.{◌≡◌, ap, refl}
use mathlib.Core.Bool.{false}
use mathlib.Core.List.{List, [], ◌∷◌, ◌++◌}
use Prim.Native.Nat.{ℕ, ◌*◌, ◌<◌}
use native.Mathlib.Omega.{arith}
use lib.IntN.{ℤ, pos}
use lib.ListN.{length}
use Rattle.whole.specs.Integer.{is_zero}
use Rattle.whole.specs.Search.{any_beyond, any_above, any_on_diagonal}
use Rattle.whole.specs.Table.{table, at, pair_at}
use Rattle.judges.specs.Values.{missing}
use Rattle.kept.specs.Kept.{kept_count, kept_values, kept_pairs, kept_shuffles, put_back}
use Rattle.kept.specs.Returned.{missing_count, reduced}
use Rattle.kept.proofs.Reduced.{none_missing, same_limit, all_returned}
use Rattle.shuffles.specs.Shuffles.{shuffle_count}
use Rattle.account.specs.Measures.{spread_of, weight_of}
use Rattle.account.specs.Refusals.{list_rules, job_spread, sum_rules}
use Rattle.account.specs.Answers.{class_row, zones_figures, zones_local, job_kept, job_figures, job_row, job_locals}
use Rattle.account.specs.Classes.{zones_class_row, zones_class_local, class_row_of, class_local_of}
use Rattle.account.specs.Rank.{zones_rank, job_rank}

module _ (n : ℕ) (values : List ℤ) (weights : List ℕ) (none : missing_count values ≡ 0) (values_fit : length values ≡ n)
    (weights_fit : length weights ≡ n * n) where
  each_returned : (i : ℕ) → i < n → missing values i ≡ false
  each_returned i h = none_missing values none i (omega (arith, h, values_fit))

  -- the weights that count are those that are lent
  pub returned_weights : reduced n values weights ≡ weights
  returned_weights = all_returned n values weights each_returned weights_fit

  -- the number of zones kept
  pub returned_kept : job_kept n values weights ≡ kept_count n weights
  unfolding job_kept
  returned_kept = ap (kept_count n) returned_weights

  -- S, M, W, P, G and the number of zones kept; none is not returned
  pub returned_figures :
      job_figures n values weights
      ≡ zones_figures (kept_count n weights) (kept_values n weights values) (kept_pairs n weights weights) ++ (pos 0 ∷ [])
  unfolding job_figures
  returned_figures = rw (returned_weights, none) refl

  -- W, P and G
  pub returned_row :
      job_row n values weights
      ≡ class_row (pair_at (kept_pairs n weights weights) (kept_count n weights)) (at (kept_values n weights values)) (kept_count n weights)
  unfolding job_row
  returned_row = rw returned_weights refl

  -- M
  pub returned_spread : job_spread n values weights ≡ spread_of (at (kept_values n weights values)) (kept_count n weights)
  unfolding job_spread
  returned_spread = rw returned_weights refl

  -- the local numerators
  pub returned_locals :
      job_locals n values weights
      ≡ table (put_back n weights (zones_local (kept_count n weights) (kept_values n weights values) (kept_pairs n weights weights))) n
  unfolding job_locals
  returned_locals = rw returned_weights refl

  -- 3, 4 and 5
  pub returned_lists :
      list_rules n values weights ≡ (any_beyond 100000 values, 3) ∷ (any_above 9 weights, 4) ∷ (any_on_diagonal n weights, 5) ∷ []
  returned_lists = rw (same_limit values (none_missing values none)) refl

  -- 6 and 7
  pub returned_sums :
      sum_rules n values weights
      ≡ (is_zero (weight_of (pair_at weights n) n), 6)
      ∷ (is_zero (spread_of (at (kept_values n weights values)) (kept_count n weights)), 7)
      ∷ []
  returned_sums = rw (returned_weights, returned_spread) refl

  -- the classes
  module _ (classes : List ℕ) (k : ℕ) where
    pub returned_class_row :
        class_row_of n values weights classes k
        ≡ zones_class_row (kept_count n weights) (kept_values n weights values) (kept_pairs n weights weights)
        (kept_pairs n weights classes) k
    unfolding class_row_of
    returned_class_row = rw returned_weights refl

    pub returned_class_local :
        (i : ℕ) →
        class_local_of n values weights classes k i
        ≡ put_back n weights
        (zones_class_local (kept_count n weights) (kept_values n weights values) (kept_pairs n weights weights)
        (kept_pairs n weights classes) k)
        i
    unfolding class_local_of
    returned_class_local i = rw returned_weights refl

  -- the rank among some shuffles
  pub returned_rank :
      (shuffles : List ℕ) →
      job_rank n values weights shuffles
      ≡ zones_rank (shuffle_count n (length shuffles)) (kept_count n weights) (kept_values n weights values) (kept_pairs n weights weights)
      (kept_shuffles n weights (shuffle_count n (length shuffles)) shuffles)
  unfolding job_rank
  returned_rank shuffles = rw returned_weights refl
