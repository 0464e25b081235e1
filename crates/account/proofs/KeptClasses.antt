-- The class account of the zones kept, worked from lists that were gathered, and put back at the zones. Assumes nothing.
use mathlib.Core.Path.{◌≡◌, refl, ap, ◌∙◌}
use mathlib.Core.List.{List, [], ◌∷◌, ◌++◌}
use Prim.Native.Nat.{ℕ, ◌+◌, ◌*◌, ◌≤◌}
use lib.IntN.{ℤ, pos}
use lib.ListN.{length}
use Rattle.whole.specs.Table.{table, table_rows, at, pair_at}
use Rattle.whole.proofs.Lists.{within}
use Rattle.whole.proofs.Table.{table_length, table_held, table_cong}
use Rattle.whole.proofs.TableRows.{rows_at, rows_cong}
use Rattle.kept.specs.Kept.{kept_zones, kept_count, kept_values, kept_pairs}
use Rattle.kept.specs.Returned.{missing_count, reduced}
use Rattle.kept.proofs.KeptZones.{pairs_length, pairs_each}
use Rattle.kept.proofs.Reduced.{kept_reduced}
use Rattle.account.specs.Answers.{zones_figures, zones_local, job_figures, job_locals}
use Rattle.account.specs.Classes.{zones_class_local, class_row_of, class_local_of, class_sums, class_locals_of}
use Rattle.account.specs.Steps.{
  Classed,
  ClassJob,
  Lent,
  gathered,
  gathered_pairs,
  place_in,
  at_place,
  zones_locals,
  zones_class_sums,
  zones_class_locals,
}
use Rattle.account.proofs.KeptJob.{lent_job}
use Rattle.account.proofs.KeptWork.{zones_count, values_are, pairs_are, places_long, back}

-- ---- what the code has of the kept zones: how many they are, their values, their weights and their classes
pub record Gathers (n : ℕ) (values : List ℤ) (weights classes : List ℕ) (many : ℕ) (x : List ℤ) (w c : List ℕ) : Type 0 where
  pub number : many ≡ kept_count n (reduced n values weights)
  pub of_values : x ≡ kept_values n (reduced n values weights) values
  pub of_weights : w ≡ kept_pairs n (reduced n values weights) (reduced n values weights)
  pub of_classes : c ≡ kept_pairs n (reduced n values weights) classes

module _ (n : ℕ) (values : List ℤ) (weights classes : List ℕ) where
  -- the weights that count
  abbrev counting : List ℕ
  counting = reduced n values weights

  -- as it gathers them
  pub gathers :
      (zones : List ℕ) → zones ≡ kept_zones n counting → {x : List ℤ} {w c : List ℕ} → x ≡ gathered values zones →
      w ≡ gathered_pairs n weights zones → c ≡ gathered_pairs n classes zones →
      Gathers n values weights classes (length zones) x w c
  gathers zones z e f g = record {
    number = zones_count n counting zones z;
    of_values = values_are n counting zones z values _ e;
    of_weights = pairs_are n counting zones z weights _ f ∙ kept_reduced n values weights;
    of_classes = pairs_are n counting zones z classes _ g;
  }

  -- the kept zones of a job with classes are such a job
  kept_class_job :
      Lent values weights n → Classed classes n →
      ClassJob (kept_values n counting values) (kept_pairs n counting counting) (kept_pairs n counting classes)
      (kept_count n counting)
  unfolding pair_at
  kept_class_job lent classed = record {
    job = lent_job n values weights lent;
    classed = record {
      count = pairs_length n counting classes;
      low = pairs_each n counting (λ v. v ≤ 8) classes (λ i j p q. classed.low (i * n + j) (within n i j p q));
    };
  }

  -- so is what was gathered, and what is worked of it is worked of the job
  module _ {many : ℕ} {x : List ℤ} {w c : List ℕ} (g : Gathers n values weights classes many x w c) where
    pub gathered_job : Lent values weights n → Classed classes n → ClassJob x w c many
    gathered_job lent classed = rw (g.number, g.of_values, g.of_weights, g.of_classes) (kept_class_job lent classed)

    pub figures_kept :
        {missing : ℕ} → missing ≡ missing_count values → {figures : List ℤ} → figures ≡ zones_figures many x w ++ (pos missing ∷ []) →
        figures ≡ job_figures n values weights
    unfolding job_figures
    figures_kept r e = e ∙ rw (g.number, g.of_values, g.of_weights, r) refl

    pub sums_kept : {rows : List ℤ} → rows ≡ zones_class_sums many x w c → rows ≡ class_sums n values weights classes
    unfolding zones_class_sums class_sums class_row_of
    sums_kept e = e ∙ rw (g.number, g.of_values, g.of_weights, g.of_classes) refl

    -- the local numerators, put back at the zones
    module _ (zones : List ℕ) (z : zones ≡ kept_zones n counting) (places : List ℕ) (p : places ≡ table (place_in zones) n) where
      abbrev m : ℕ
      m = kept_count n counting

      pub locals_back :
          {numbers out : List ℤ} → numbers ≡ zones_locals many x w →
          out ≡ table (at_place places (length numbers) (at numbers)) (length places) → out ≡ job_locals n values weights
      unfolding zones_locals job_locals
      locals_back {numbers} e o =
          let f = zones_local m (kept_values n counting values) (kept_pairs n counting counting) in
          let held : numbers ≡ table f m = e ∙ rw (g.number, g.of_values, g.of_weights) refl in
          o
          ∙ ap (table (at_place places (length numbers) (at numbers))) (places_long n counting zones z places p)
          ∙ table_cong _ _ n (pos 0)
          (back n counting zones z places p (length numbers) (at numbers) f (ap length held ∙ table_length f m)
          (table_held f m (pos 0) numbers held))

      pub class_locals_back :
          {numbers out : List ℤ} → numbers ≡ zones_class_locals many x w c →
          out ≡ table_rows (λ k. at_place places many (λ a. at numbers (k * many + a))) 9 (length places) →
          out ≡ class_locals_of n values weights classes
      unfolding zones_class_locals class_locals_of class_local_of
      class_locals_back {numbers} e o =
          let f =
          zones_class_local m (kept_values n counting values) (kept_pairs n counting counting) (kept_pairs n counting classes) in
          let held : numbers ≡ table_rows f 9 m = e ∙ rw (g.number, g.of_values, g.of_weights, g.of_classes) refl in
          o
          ∙ ap (table_rows (λ k. at_place places many (λ a. at numbers (k * many + a))) 9)
          (places_long n counting zones z places p)
          ∙ rows_cong _ _ 9 n (pos 0)
          (λ k i q h.
          back n counting zones z places p many (λ a. at numbers (k * many + a)) (f k) g.number
          (λ a r. ap (λ t. at numbers (k * t + a)) g.number ∙ ap (λ l. at l (k * m + a)) held ∙ rows_at f 9 m k a (pos 0) q r)
          i h)
