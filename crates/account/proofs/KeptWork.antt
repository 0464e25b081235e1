-- What the work on the zones kept makes of its lists: those that are gathered are a job and shuffles of the zones kept, and
-- what is worked of them is the job's. Where all are kept the lists are the job's own. Assumes nothing.
use mathlib.Core.Path.{◌≡◌, refl, sym, ap, ◌∙◌, subst}
use mathlib.Core.List.{List, [], ◌∷◌, ◌++◌}
use Prim.Native.Nat.{ℕ, ◌*◌, ◌≤◌, ◌<◌}
use native.Mathlib.Nat as N
use native.Mathlib.Omega.{arith}
use lib.Dec.{ltb}
use lib.IntN.{ℤ, pos}
use lib.ListN.{length, get_or}
use Rattle.whole.specs.Search.{count}
use Rattle.whole.specs.Table.{table, table_rows, at, pair_at}
use Rattle.whole.proofs.Table.{table_length, table_held, table_cong}
use Rattle.kept.specs.Kept.{kept_zones, kept_count, kept_values, kept_pairs, kept_shuffles, put_back}
use Rattle.kept.specs.Returned.{missing_count, reduced}
use Rattle.kept.proofs.Reduced.{kept_reduced}
use Rattle.kept.proofs.KeptZones.{zones_length, kept_few, put_back_cong, same_values, same_pairs}
use Rattle.kept.proofs.KeptShuffle.{shuffle_full, shuffles_length, same_shuffles}
use Rattle.shuffles.specs.Steps.{Shuffles}
use Rattle.account.specs.Answers.{zones_figures, zones_local, job_figures, job_locals}
use Rattle.account.specs.Rank.{zones_desk, four}
use Rattle.account.specs.Steps.{Job, Lent, gathered, gathered_pairs, place_in, at_place, placed_number, zones_locals, ranked}
use Rattle.account.proofs.Locals.{zones_locals_length}
use Rattle.account.proofs.KeptLists.{values_gathered, pairs_gathered, placed_back, all_placed, shuffles_kept}
use Rattle.account.proofs.KeptJob.{lent_job}
use Rattle.account.proofs.AllKept.{nothing_reduced, all_figures, all_locals}

-- ---- the shuffles' kept numbers are shuffles of the kept zones
are_shuffles :
    (n : ℕ) (weights : List ℕ) (rows : ℕ) (shuffles : List ℕ) → Shuffles shuffles n rows →
    Shuffles (kept_shuffles n weights rows shuffles) (kept_count n weights) rows
are_shuffles n weights rows shuffles all = record {
  zones = omega (arith, kept_few n weights, all.zones);
  few = all.few;
  count = shuffles_length n weights rows shuffles;
  full = λ r h. shuffle_full n weights rows shuffles r h (all.full r h);
}

-- and those of so many zones
pub of_zones : {shuffles : List ℕ} {n m rows : ℕ} → n ≡ m → Shuffles shuffles n rows → Shuffles shuffles m rows
of_zones {shuffles = s} {rows = r} e = subst (λ n. Shuffles s n r) e

-- ---- by the list of the zones kept, as the code has it
module _ (n : ℕ) (weights zones : List ℕ) (e : zones ≡ kept_zones n weights) where
  pub zones_count : length zones ≡ kept_count n weights
  zones_count = ap length e ∙ zones_length n weights

  -- they are few
  zones_few : n ≤ 64 → length zones ≤ 64
  zones_few most = omega (arith, zones_count, kept_few n weights, most)

  -- the lists that are gathered
  pub values_are : (values x : List ℤ) → x ≡ gathered values zones → x ≡ kept_values n weights values
  values_are values x p = p ∙ ap (gathered values) e ∙ values_gathered n weights values

  pub pairs_are : (pairs w : List ℕ) → w ≡ gathered_pairs n pairs zones → w ≡ kept_pairs n weights pairs
  pairs_are pairs w q = q ∙ ap (gathered_pairs n pairs) e ∙ pairs_gathered n weights pairs

  -- the places that are found
  places_are : (places : List ℕ) → places ≡ table (place_in zones) n → places ≡ table (place_in (kept_zones n weights)) n
  places_are places s = s ∙ ap (λ z. table (place_in z) n) e

  pub places_long : (places : List ℕ) → places ≡ table (place_in zones) n → length places ≡ n
  places_long places s = ap length s ∙ table_length (place_in zones) n

  -- what a zone has by its place
  pub back :
      (places : List ℕ) → places ≡ table (place_in zones) n → (k : ℕ) (numbers f : ℕ → ℤ) → k ≡ kept_count n weights →
      ((a : ℕ) → a < kept_count n weights → numbers a ≡ f a) → (i : ℕ) → i < n → at_place places k numbers i ≡ put_back n weights f i
  back places p k numbers f m same i h =
      ap (λ t. at_place t k numbers i) (places_are places p)
      ∙ ap (λ t. at_place (table (place_in (kept_zones n weights)) n) t numbers i) m
      ∙ placed_back n weights numbers i h
      ∙ put_back_cong n weights numbers f same i h

  -- the shuffles of the kept zones
  module _ (rows : ℕ) (shuffles : List ℕ) (all : Shuffles shuffles n rows) where
    pub rows_few : rows * length zones ≤ 31936
    rows_few = N.mul-le-mul {n₂ = 499} {m₂ = 64} all.few (zones_few all.zones)

    module _ (places : List ℕ) (s : places ≡ table (place_in zones) n) where
      pub places_count : count (λ i. ltb (get_or places i 0) (length zones)) n ≡ length zones
      places_count = rw (places_are places s, zones_count) (all_placed n weights)

      module _
          (out : List ℕ)
          (o : out ≡ table_rows (λ r. placed_number places (length zones) n (pair_at shuffles n r)) rows (length zones)) where
        pub shuffles_are : out ≡ kept_shuffles n weights rows shuffles
        shuffles_are = o ∙ rw (places_are places s, zones_count) (shuffles_kept n weights rows shuffles all.full)

        pub gathered_shuffles : Shuffles out (length zones) rows
        gathered_shuffles = rw (shuffles_are, zones_count) (are_shuffles n weights rows shuffles all)

-- ---- the job of the zones kept by the weights that count: the weights between these are those lent
module _
    (n : ℕ) (values : List ℤ) (weights zones : List ℕ) (e : zones ≡ kept_zones n (reduced n values weights)) (x : List ℤ) (w : List ℕ)
    (p : x ≡ gathered values zones) (q : w ≡ gathered_pairs n weights zones) where
  abbrev counting : List ℕ
  counting = reduced n values weights

  abbrev m : ℕ
  m = kept_count n counting

  weights_are : w ≡ kept_pairs n counting counting
  weights_are = pairs_are n counting zones e weights w q ∙ kept_reduced n values weights

  pub gathered_job : Lent values weights n → Job x w (length zones)
  gathered_job lent = rw (values_are n counting zones e values x p, weights_are, zones_count n counting zones e) (lent_job n values weights lent)

  -- its figures, where so many values are not returned
  pub figures_kept :
      (missing : ℕ) → missing ≡ missing_count values → (figures : List ℤ) → figures ≡ zones_figures (length zones) x w ++ (pos missing ∷ []) →
      figures ≡ job_figures n values weights
  unfolding job_figures
  figures_kept missing r figures t =
      t ∙ rw (values_are n counting zones e values x p, weights_are, zones_count n counting zones e, r) refl

  -- its local numerators, put back
  locals_kept : zones_locals (length zones) x w ≡ zones_locals m (kept_values n counting values) (kept_pairs n counting counting)
  locals_kept = rw (values_are n counting zones e values x p, weights_are, zones_count n counting zones e) refl

  local_kept :
      (locals : List ℤ) → locals ≡ zones_locals (length zones) x w → (k : ℕ) → k < m →
      at locals k ≡ zones_local m (kept_values n counting values) (kept_pairs n counting counting) k
  unfolding zones_locals
  local_kept locals l k h = table_held _ m (pos 0) locals (l ∙ locals_kept) k h

  pub locals_back :
      (locals out : List ℤ) (places : List ℕ) → locals ≡ zones_locals (length zones) x w → places ≡ table (place_in zones) n →
      out ≡ table (at_place places (length locals) (at locals)) (length places) → out ≡ job_locals n values weights
  unfolding job_locals
  locals_back locals out places l s o =
      let many : length locals ≡ m = ap length l ∙ zones_locals_length (length zones) x w ∙ zones_count n counting zones e in
      o
      ∙ ap (table (at_place places (length locals) (at locals))) (places_long n counting zones e places s)
      ∙ table_cong _ _ n (pos 0) (back n counting zones e places s (length locals) (at locals) _ many (local_kept locals l))

  -- its rank among shuffles
  pub rank_kept :
      (rows : ℕ) (shuffles : List ℕ) → Shuffles shuffles n rows → (places : List ℕ) → places ≡ table (place_in zones) n →
      (out : List ℕ) → out ≡ table_rows (λ r. placed_number places (length zones) n (pair_at shuffles n r)) rows (length zones) →
      (desks counts : List ℕ) → counts ≡ four (zones_desk rows (length zones) x w out desks) → counts ≡ ranked n values weights rows shuffles desks
  rank_kept rows shuffles all places s out o desks counts t =
      t
      ∙ rw (
        values_are n counting zones e values x p,
        weights_are,
        shuffles_are n counting zones e rows shuffles all places s out o,
        zones_count n counting zones e,
      ) refl

-- ---- where all zones are kept what is worked of them is the job's
module _ (n : ℕ) (values : List ℤ) (weights : List ℕ) (lent : Lent values weights n) (all : kept_count n (reduced n values weights) ≡ n) where
  pub whole_figures :
      {figures : List ℤ} → figures ≡ zones_figures n values weights ++ (pos 0 ∷ []) → figures ≡ job_figures n values weights
  whole_figures t = t ∙ sym (all_figures n values weights all lent.count lent.weighted.count)

  pub whole_locals : {locals : List ℤ} → locals ≡ zones_locals n values weights → locals ≡ job_locals n values weights
  whole_locals t = t ∙ sym (all_locals n values weights all lent.count lent.weighted.count)

-- ---- where all zones are kept the rank is the one of the lists that are lent
pub rank_of_all :
    (n : ℕ) (values : List ℤ) (weights : List ℕ) → kept_count n (reduced n values weights) ≡ n → Lent values weights n →
    (rows : ℕ) (shuffles : List ℕ) → Shuffles shuffles n rows →
    (desks counts : List ℕ) → counts ≡ four (zones_desk rows n values weights shuffles desks) → counts ≡ ranked n values weights rows shuffles desks
rank_of_all n values weights same lent rows shuffles all desks counts t =
    let as_lent = nothing_reduced n values weights same lent.count lent.weighted.count in
    let every : kept_count n weights ≡ n = ap (kept_count n) (sym as_lent) ∙ same in
    rw (
      as_lent,
      same_values n weights every values lent.count,
      same_pairs n weights every weights lent.weighted.count,
      same_shuffles n weights every rows shuffles all.count all.full,
      every,
    ) t
