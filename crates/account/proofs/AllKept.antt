-- A territory in which every zone touches another: what holds of the zones kept is what holds of all, so that every figure and every
-- refusal is the one of zones that all count. Assumes nothing.
use mathlib.Core.Path.{◌≡◌, refl, sym, ap, ◌∙◌}
use mathlib.Core.Bool.{false}
use mathlib.Core.List.{List, [], ◌∷◌, ◌++◌}
use Prim.Native.Nat.{ℕ, ◌*◌, ◌<◌}
use native.Mathlib.Omega.{arith}
use lib.IntN.{ℤ, pos}
use lib.ListN.{length}
use Rattle.whole.specs.Integer.{is_zero}
use Rattle.whole.specs.Order.{lacks}
use Rattle.whole.specs.Table.{table, table_rows, at, pair_at}
use Rattle.whole.proofs.Table.{table_cong}
use Rattle.whole.proofs.TableRows.{rows_cong}
use Rattle.kept.specs.Kept.{kept_count, kept_values, kept_pairs, put_back}
use Rattle.kept.specs.Returned.{missing_count, reduced}
use Rattle.kept.proofs.Reduced.{missing_none, all_returned, kept_all_returned}
use Rattle.kept.proofs.KeptZones.{same_values, same_pairs, same_put_back}
use Rattle.kept.proofs.KeptShuffle.{same_shuffles}
use Rattle.shuffles.specs.Shuffles.{shuffle_count}
use Rattle.account.specs.Measures.{spread_of, weight_of}
use Rattle.account.specs.Refusals.{list_rules, job_spread, job_rules}
use Rattle.account.specs.Answers.{class_row, zones_figures, zones_local, job_kept, job_figures, job_row, job_locals}
use Rattle.account.specs.Classes.{sum_at, zones_class_row, zones_class_local, class_row_of, class_local_of, class_sums, class_locals_of}
use Rattle.account.specs.Rank.{zones_rank, job_rank}
use Rattle.account.specs.Steps.{zones_locals, zones_class_sums, zones_class_locals}

module _ (n : ℕ) (values : List ℤ) (weights : List ℕ) (by_counting : kept_count n (reduced n values weights) ≡ n)
    (values_fit : length values ≡ n) (weights_fit : length weights ≡ n * n) where
  -- every value is returned, so that nothing is reduced
  pub nothing_reduced : reduced n values weights ≡ weights
  nothing_reduced = all_returned n values weights (kept_all_returned n values weights by_counting) weights_fit

  all : kept_count n weights ≡ n
  all = ap (kept_count n) (sym nothing_reduced) ∙ by_counting

  none_missing : missing_count values ≡ 0
  none_missing = missing_none values (λ i h. kept_all_returned n values weights by_counting i (omega (arith, h, values_fit)))

  values_same : kept_values n weights values ≡ values
  values_same = same_values n weights all values values_fit

  weights_same : kept_pairs n weights weights ≡ weights
  weights_same = same_pairs n weights all weights weights_fit

  -- the number of zones
  pub all_kept : job_kept n values weights ≡ n
  unfolding job_kept
  all_kept = by_counting

  pub all_spread : job_spread n values weights ≡ spread_of (at values) n
  unfolding job_spread
  all_spread = rw (nothing_reduced, values_same, all) refl

  -- S, M, W, P, G and the number of zones; none is not returned
  pub all_figures : job_figures n values weights ≡ zones_figures n values weights ++ (pos 0 ∷ [])
  unfolding job_figures
  all_figures = rw (nothing_reduced, values_same, weights_same, all, none_missing) refl

  pub all_row : job_row n values weights ≡ class_row (pair_at weights n) (at values) n
  unfolding job_row
  all_row = rw (nothing_reduced, values_same, weights_same, all) refl

  -- the local numerators
  pub all_locals : job_locals n values weights ≡ zones_locals n values weights
  unfolding job_locals zones_locals
  all_locals =
      ap
      (λ w. table (put_back n w (zones_local (kept_count n w) (kept_values n w values) (kept_pairs n w w))) n)
      nothing_reduced
      ∙ table_cong _ _ n (pos 0)
      (λ i h.
      same_put_back n weights all (zones_local (kept_count n weights) (kept_values n weights values) (kept_pairs n weights weights)) i h
      ∙ rw (values_same, weights_same, all) refl)

  -- 3 to 7
  pub all_rules :
      job_rules n values weights
      ≡ list_rules n values weights
      ++ ((is_zero (weight_of (pair_at weights n) n), 6) ∷ (is_zero (spread_of (at values) n), 7) ∷ [])
  unfolding job_rules
  all_rules = rw (nothing_reduced, all_spread) refl

  -- the classes
  module _ (classes : List ℕ) (classes_fit : length classes ≡ n * n) where
    classes_same : kept_pairs n weights classes ≡ classes
    classes_same = same_pairs n weights all classes classes_fit

    pub all_class_row : (k : ℕ) → class_row_of n values weights classes k ≡ zones_class_row n values weights classes k
    unfolding class_row_of
    all_class_row k = rw (nothing_reduced, values_same, weights_same, classes_same, all) refl

    pub all_class_sums : class_sums n values weights classes ≡ zones_class_sums n values weights classes
    unfolding class_sums zones_class_sums
    all_class_sums = rows_cong _ _ 9 3 (pos 0) (λ k i p q. ap (λ row. sum_at row i) (all_class_row k))

    pub all_class_locals : class_locals_of n values weights classes ≡ zones_class_locals n values weights classes
    unfolding class_locals_of class_local_of zones_class_locals
    all_class_locals =
        ap
        (λ w.
        table_rows
        (λ k. put_back n w (zones_class_local (kept_count n w) (kept_values n w values) (kept_pairs n w w) (kept_pairs n w classes) k))
        9 n)
        nothing_reduced
        ∙ rows_cong _ _ 9 n (pos 0)
        (λ k i p q.
        same_put_back n weights all
        (zones_class_local (kept_count n weights) (kept_values n weights values) (kept_pairs n weights weights)
        (kept_pairs n weights classes) k)
        i q
        ∙ rw (values_same, weights_same, classes_same, all) refl)

  -- the rank among some shuffles
  pub all_rank :
      (shuffles : List ℕ) → length shuffles ≡ shuffle_count n (length shuffles) * n →
      ((r : ℕ) → r < shuffle_count n (length shuffles) → lacks (pair_at shuffles n r) n ≡ false) →
      job_rank n values weights shuffles ≡ zones_rank (shuffle_count n (length shuffles)) n values weights shuffles
  unfolding job_rank
  all_rank shuffles long full =
      rw (nothing_reduced, values_same, weights_same, same_shuffles n weights all (shuffle_count n (length shuffles)) shuffles long full, all) refl
