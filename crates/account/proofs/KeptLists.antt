-- The lists of the kept zones, as the code gathers them and puts them back. Assumes nothing.
use mathlib.Core.Path.{◌≡◌, refl, sym, ap, ◌∙◌}
use mathlib.Core.Bool.{Bool, true, false, false≢true, cond}
use mathlib.Core.List.{List}
use Prim.Native.Nat.{ℕ, zero, suc, ◌-◌, ◌≤◌, ◌<◌}
use native.Mathlib.Decide.{ℕ_discrete, dec_lt}
use native.Mathlib.Omega.{arith}
use borrow.Author.Tests.{lt-ltb, le-ltb, eq-eqb, ne_eqb}
use lib.Dec.{eqb, ltb}
use lib.IntN.{ℤ, pos}
use lib.ListN.{length, get_or}
use Rattle.std.specs.List.{slice_get}
use Rattle.std.specs.Option.{unwrap_or}
use Rattle.std.proofs.lemmas.Option.{unwrap_or-slice_get}
use Rattle.whole.specs.Order.{lacks}
use Rattle.whole.specs.Search.{count}
use Rattle.whole.specs.Table.{table, table_rows, at, pair_at}
use Rattle.whole.proofs.Counting.{count_cong, first_is, none_first}
use Rattle.whole.proofs.Permutation.{full}
use Rattle.whole.proofs.Search.{none_some}
use Rattle.whole.proofs.Table.{table_at, is_table}
use Rattle.whole.proofs.TableRows.{rows_cong}
use Rattle.kept.specs.Kept.{passing, keeps, kept_zones, kept_count, kept_zone, kept_place, kept_values, kept_pairs, kept_row, kept_shuffles, put_back}
use Rattle.kept.proofs.KeptZones.{kept_few, zone_stands, zone_at_place, place_within, zones_length}
use Rattle.kept.proofs.KeptShuffle.{as_many}
use Rattle.kept.proofs.Passing.{Stands, place_below, nth_stands, passing_cong}
use Rattle.account.specs.Steps.{Zones, gathered, gathered_pairs, place_in, at_place, placed_number}

-- ---- what is read of a list at some zones is the table of it
pub gathered_by :
    {A : Type 0} (d : A) (list out : List A) (zones : List ℕ) → length out ≡ length zones →
    ((k : ℕ) → k < length zones → slice_get out k ≡ slice_get list (get_or zones k 0)) →
    out ≡ table (λ k. get_or list (get_or zones k 0) d) (length zones)
gathered_by d list out zones l so =
    is_table (λ k. get_or list (get_or zones k 0) d) (length zones) d out l
    (λ k h.
    sym (unwrap_or-slice_get out k d) ∙ ap (λ o. unwrap_or o d) (so k h) ∙ unwrap_or-slice_get list (get_or zones k 0) d)

-- ---- the lists of the kept zones
module _ (n : ℕ) (weights : List ℕ) where
  abbrev m : ℕ
  m = kept_count n weights

  abbrev zone : ℕ → ℕ
  zone = kept_zone n weights

  -- a place of the list is a place among the kept zones
  place_few : (k : ℕ) → k < length (kept_zones n weights) → k < m
  place_few k h = omega (arith, zones_length n weights)

  -- the zone at a later place is the greater one
  rises : (k l : ℕ) → k < l → l < m → zone k < zone l
  rises k l h p = pick (dec_lt (zone k) (zone l)) (ℕ_discrete (zone k) (zone l))
    where
      t : ℕ → Bool
      t = keeps n weights

      pick : Dec (zone k < zone l) → Dec (zone k ≡ zone l) → zone k < zone l
      pick (yes q) d = q
      pick (no q) (yes e) =
          let same = sym (zone_stands n weights k (omega arith)).before ∙ ap (count t) e ∙ (zone_stands n weights l p).before in
          let z : ⊥ = omega arith in absurd z
      pick (no q) (no e) =
          let a = zone_stands n weights k (omega arith) in
          let b = zone_stands n weights l p in
          let fewer = place_below t (zone k) (zone l) (omega arith) b.passes in
          let z : ⊥ = omega (arith, fewer, a.before, b.before) in absurd z

  -- the list of the kept zones is one of rising zones below n
  pub zones_are : n ≤ 64 → Zones (kept_zones n weights) n
  zones_are most = record {
    most = most;
    few = omega (arith, zones_length n weights, kept_few n weights);
    below = λ k h. (zone_stands n weights k (place_few k h)).below;
    rising = λ k l h p. rises k l h (place_few l p);
  }

  -- the values of the kept zones, gathered by the list, and their pairs
  pub values_gathered : (values : List ℤ) → gathered values (kept_zones n weights) ≡ kept_values n weights values
  unfolding kept_values
  values_gathered values = ap (table (λ k. at values (zone k))) (zones_length n weights)

  pub pairs_gathered : (pairs : List ℕ) → gathered_pairs n pairs (kept_zones n weights) ≡ kept_pairs n weights pairs
  unfolding kept_pairs
  pairs_gathered pairs = ap (λ t. table_rows (λ a b. pair_at pairs n (zone a) (zone b)) t t) (zones_length n weights)

  -- the place of a kept zone, and of one left out
  pub place_kept : (i : ℕ) → i < n → keeps n weights i ≡ true → place_in (kept_zones n weights) i ≡ kept_place n weights i
  place_kept i h e =
      let here = zone_at_place n weights i h e in
      let few = place_within n weights i h e in
      let test : ℕ → Bool = λ k. eqb (zone k) i in
      first_is test (length (kept_zones n weights)) (kept_place n weights i) (omega (arith, few, zones_length n weights))
      (none_some test (kept_place n weights i)
      (λ k p. ne_eqb (zone k) i (λ q. omega (arith, rises k (kept_place n weights i) p few, here, q))))
      (eq-eqb (zone (kept_place n weights i)) i here)

  pub place_left : (i : ℕ) → i < n → keeps n weights i ≡ false → place_in (kept_zones n weights) i ≡ kept_count n weights
  place_left i h e =
      none_first test (length (kept_zones n weights))
      (none_some test (length (kept_zones n weights)) (λ k p. ne_eqb (zone k) i (other k p)))
      ∙ zones_length n weights
    where
      test : ℕ → Bool
      test k = eqb (zone k) i

      other : (k : ℕ) → k < length (kept_zones n weights) → zone k ≡ i → ⊥
      other k p q =
          false≢true (sym e ∙ ap (keeps n weights) (sym q) ∙ (zone_stands n weights k (place_few k p)).passes)

  abbrev places : List ℕ
  places = table (place_in (kept_zones n weights)) n

  -- what the table of places holds of a kept zone, and of one left out
  kept_there : (i : ℕ) → i < n → keeps n weights i ≡ true → get_or places i 0 ≡ kept_place n weights i
  kept_there i h e = table_at (place_in (kept_zones n weights)) n i 0 h ∙ place_kept i h e

  left_there : (i : ℕ) → i < n → keeps n weights i ≡ false → get_or places i 0 ≡ m
  left_there i h e = table_at (place_in (kept_zones n weights)) n i 0 h ∙ place_left i h e

  -- a zone has a place where it is kept
  placed : (i : ℕ) → i < n → ltb (get_or places i 0) m ≡ keeps n weights i
  placed i h = go (keeps n weights i) refl
    where
      go : (b : Bool) → keeps n weights i ≡ b → ltb (get_or places i 0) m ≡ keeps n weights i
      go true e = lt-ltb (get_or places i 0) m (omega (arith, kept_there i h e, place_within n weights i h e)) ∙ sym e
      go false e = le-ltb (get_or places i 0) m (omega (arith, left_there i h e)) ∙ sym e

  -- what a zone has by its place is what is put back at it
  pub placed_back :
      (numbers : ℕ → ℤ) (i : ℕ) → i < n → at_place places (kept_count n weights) numbers i ≡ put_back n weights numbers i
  unfolding put_back
  placed_back numbers i h =
      ap (λ b. cond b (numbers (get_or places i 0)) (pos 0)) (placed i h) ∙ go (keeps n weights i) refl
    where
      go :
          (b : Bool) → keeps n weights i ≡ b →
          cond (keeps n weights i) (numbers (get_or places i 0)) (pos 0)
          ≡ cond (keeps n weights i) (numbers (kept_place n weights i)) (pos 0)
      go true e = ap (λ k. cond (keeps n weights i) (numbers k) (pos 0)) (kept_there i h e)
      go false e = rw e refl

  -- as many zones have a place as are kept
  pub all_placed : count (λ i. ltb (get_or places i 0) (kept_count n weights)) n ≡ kept_count n weights
  unfolding kept_count
  all_placed = count_cong (λ i. ltb (get_or places i 0) m) (keeps n weights) n placed

  -- the k-th place of a full row whose number is kept
  row_stands :
      (row : ℕ → ℕ) → lacks row n ≡ false → (k : ℕ) → k < m →
      Stands (λ p. keeps n weights (row p)) n k (get_or (passing (λ p. keeps n weights (row p)) n) k 0)
  unfolding kept_count
  row_stands row e k h =
      let few : k < count (keeps n weights) n = h in
      nth_stands (λ p. keeps n weights (row p)) n k (omega (arith, few, as_many (keeps n weights) row n e))

  -- the k-th number of a shuffle that has a place, by that place, is the k-th kept one
  pub row_kept :
      (row : ℕ → ℕ) → lacks row n ≡ false → (k : ℕ) → k < kept_count n weights →
      placed_number places (kept_count n weights) n row k ≡ kept_row n weights row k
  unfolding kept_row
  row_kept row e k h =
      let into = (full row n e).into in
      let kept : ℕ → Bool = λ p. keeps n weights (row p) in
      let same = passing_cong (λ p. ltb (get_or places (row p) 0) m) kept n (λ p q. placed (row p) (into p q)) in
      let place = get_or (passing kept n) k 0 in
      let s = row_stands row e k h in
      ap (λ l. get_or places (row (get_or l k 0)) 0) same ∙ kept_there (row place) (into place s.below) s.passes

  -- the shuffles' kept numbers, gathered by the places
  pub shuffles_kept :
      (rows : ℕ) (shuffles : List ℕ) → ((r : ℕ) → r < rows → lacks (pair_at shuffles n r) n ≡ false) →
      table_rows (λ r. placed_number places (kept_count n weights) n (pair_at shuffles n r)) rows (kept_count n weights)
      ≡ kept_shuffles n weights rows shuffles
  unfolding kept_shuffles
  shuffles_kept rows shuffles each =
      rows_cong (λ r. placed_number places m n (pair_at shuffles n r)) (λ r. kept_row n weights (pair_at shuffles n r)) rows m 0
      (λ r k p q. row_kept (pair_at shuffles n r) (each r p) k q)

-- ---- as many rising zones as there are: each stands at its own place, and the values gathered are the values
module _ (zones : List ℕ) (n : ℕ) (z : Zones zones n) (all : length zones ≡ n) where
  -- none stands before its place, and none behind it
  not_before : (k : ℕ) → k < n → k ≤ get_or zones k 0
  not_before zero h = omega arith
  not_before (suc k) h = omega (arith, not_before k (omega arith), z.rising k (suc k) (omega arith) (omega (arith, all)))

  not_behind : (d : ℕ) → d < n → get_or zones (n - suc d) 0 ≤ n - suc d
  not_behind zero h = omega (arith, z.below (n - 1) (omega (arith, all)))
  not_behind (suc d) h =
      omega (
        arith,
        not_behind d (omega arith),
        z.rising (n - suc (suc d)) (n - suc d) (omega arith) (omega (arith, all)),
      )

  own_zone : (k : ℕ) → k < n → get_or zones k 0 ≡ k
  own_zone k h =
      let at_most : get_or zones k 0 ≤ k = rw (sym place) (not_behind (n - suc k) (omega arith)) in
      omega (arith, not_before k h, at_most)
    where
      place : n - suc (n - suc k) ≡ k
      place = omega arith

  pub gathered_all : (values : List ℤ) → length values ≡ n → gathered values zones ≡ values
  gathered_all values l =
      ap (table (λ k. at values (get_or zones k 0))) all
      ∙ sym (is_table (λ k. at values (get_or zones k 0)) n (pos 0) values l (λ k p. ap (at values) (sym (own_zone k p))))
