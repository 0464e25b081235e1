-- Laws of the kept zones and of their lists: what stands where, the lists themselves where all zones are kept, sums over the kept zones
-- and sums over all, and that two zones are kept where there is weight. Assumes nothing.
use mathlib.Core.Path.{◌≡◌, refl, sym, ap, ◌∙◌, subst}
use mathlib.Core.Bool.{Bool, true, false, ◌||◌}
use mathlib.Core.List.{List}
use Prim.Native.Nat.{ℕ, ◌+◌, ◌*◌, ◌/◌, ◌%◌, ◌≤◌, ◌<◌}
use native.Mathlib.Decide.{dec_lt}
use native.Mathlib.Omega.{arith}
use borrow.Author.Tests.{lt-ltb, ltb-false}
use lib.Dec.{ltb}
use lib.IntN.{ℤ, pos}
use lib.ListN.{length, get_or}
use Rattle.whole.specs.Search.{count}
use Rattle.whole.specs.Sum.{sum}
use Rattle.whole.specs.Table.{table, table_rows, at, pair_at}
use Rattle.whole.proofs.Counting.{count_le, count_less}
use Rattle.whole.proofs.Rules.{neither}
use Rattle.whole.proofs.Search.{some_none, some_found}
use Rattle.whole.proofs.Sum.{sum_cong, sum_none}
use Rattle.whole.proofs.Table.{table_length, table_at, is_table}
use Rattle.whole.proofs.TableRows.{split, rows_length, rows_at, rows_each, rows_flat}
use Rattle.kept.specs.Kept.{keeps, kept_zones, kept_count, kept_zone, kept_place, kept_values, kept_pairs, put_back}
use Rattle.kept.proofs.Passing.{Stands, passing_length, place_below, nth_place, nth_stands, passing_sum, passing_sum_all, all_pass, own_place}

module _ (n : ℕ) (weights : List ℕ) where
  abbrev m : ℕ
  m = kept_count n weights

  abbrev w : ℕ → ℕ → ℕ
  w = pair_at weights n

  abbrev zone : ℕ → ℕ
  zone = kept_zone n weights

  -- ---- a zone left out has no weight in its row and in its column
  pub left_out : (i j : ℕ) → keeps n weights i ≡ false → j < n → (w i j ≡ 0) × (w j i ≡ 0)
  unfolding keeps
  left_out i j e h =
      let both = neither (ltb 0 (w i j)) (ltb 0 (w j i)) (some_none (λ j. ltb 0 (w i j) || ltb 0 (w j i)) n j e h) in
      let a = ltb-false 0 (w i j) both.0 in
      let b = ltb-false 0 (w j i) both.1 in
      (omega arith, omega arith)

  -- and where there is weight both zones are kept
  pub joined : (i j : ℕ) → i < n → j < n → 0 < w i j → (keeps n weights i ≡ true) × (keeps n weights j ≡ true)
  unfolding keeps
  joined i j p q h = (
    sym (some_found (λ k. ltb 0 (w i k) || ltb 0 (w k i)) n j q (rw (lt-ltb 0 (w i j) h) refl)),
    sym (some_found (λ k. ltb 0 (w j k) || ltb 0 (w k j)) n i p (rw (lt-ltb 0 (w i j) h) (or_true (ltb 0 (w j i))))),
  )
    where
      or_true : (b : Bool) → (b || true) ≡ true
      or_true true = refl
      or_true false = refl

  -- ---- no more are kept than there are; two at least, where two zones are joined
  pub kept_few : m ≤ n
  unfolding kept_count
  kept_few = count_le (keeps n weights) n

  pub kept_two : (i j : ℕ) → i < n → j < n → (i ≡ j → ⊥) → 0 < w i j → 2 ≤ m
  unfolding kept_count
  kept_two i j p q r h = pick (dec_lt i j)
    where
      t : ℕ → Bool
      t = keeps n weights

      ordered : (a b : ℕ) → a < b → b < n → t a ≡ true → t b ≡ true → 2 ≤ count t n
      ordered a b l k e f = omega (arith, place_below t b a l e, place_below t n b k f)

      pick : Dec (i < j) → 2 ≤ count (keeps n weights) n
      pick (yes l) = ordered i j l q (joined i j p q h).0 (joined i j p q h).1
      pick (no l) = ordered j i (omega arith) p (joined i j p q h).1 (joined i j p q h).0

  -- ---- the k-th zone kept: below n, kept, and with k kept before it; and the zone at the place of a kept zone
  pub zone_stands : (k : ℕ) → k < m → Stands (keeps n weights) n k (zone k)
  unfolding kept_count kept_zones
  zone_stands k h = nth_stands (keeps n weights) n k h

  pub zone_at_place : (i : ℕ) → i < n → keeps n weights i ≡ true → zone (kept_place n weights i) ≡ i
  unfolding kept_zones
  zone_at_place i h e = nth_place (keeps n weights) n i h e

  pub place_within : (i : ℕ) → i < n → keeps n weights i ≡ true → kept_place n weights i < m
  unfolding kept_count
  place_within i h e = place_below (keeps n weights) n i h e

  -- ---- what the lists of the kept zones hold
  pub values_length : (values : List ℤ) → length (kept_values n weights values) ≡ m
  unfolding kept_values
  values_length values = table_length (λ k. at values (zone k)) m

  pub values_at : (values : List ℤ) (k : ℕ) → k < m → at (kept_values n weights values) k ≡ at values (zone k)
  unfolding kept_values
  values_at values k h = table_at (λ k. at values (zone k)) m k (pos 0) h

  pub pairs_length : (pairs : List ℕ) → length (kept_pairs n weights pairs) ≡ m * m
  unfolding kept_pairs
  pairs_length pairs = rows_length (λ a b. pair_at pairs n (zone a) (zone b)) m m

  pub pairs_at :
      (pairs : List ℕ) (a b : ℕ) → a < m → b < m → pair_at (kept_pairs n weights pairs) m a b ≡ pair_at pairs n (zone a) (zone b)
  unfolding kept_pairs pair_at
  pairs_at pairs a b p q = rows_at (λ a b. get_or pairs (zone a * n + zone b) 0) m m a b 0 p q

  -- what holds of every entry of a list holds of every entry of the kept one's
  pub pairs_each :
      (P : ℕ → Type 0) (pairs : List ℕ) → ((i j : ℕ) → i < n → j < n → P (pair_at pairs n i j)) → (t : ℕ) → t < m * m →
      P (get_or (kept_pairs n weights pairs) t 0)
  unfolding kept_pairs
  pairs_each P pairs h t p =
      rows_each (λ a b. pair_at pairs n (zone a) (zone b)) P m m 0
      (λ a b q r. h (zone a) (zone b) (zone_stands a q).below (zone_stands b r).below)
      t p

  -- ---- how many stand in the list of the kept zones
  pub zones_length : length (kept_zones n weights) ≡ m
  unfolding kept_zones kept_count
  zones_length = passing_length (keeps n weights) n

  -- ---- a sum over the kept zones of what is 0 at the others is a sum over all; the same over the pairs
  pub kept_sum : (h : ℕ → ℤ) → ((i : ℕ) → i < n → keeps n weights i ≡ false → h i ≡ pos 0) → sum (λ k. h (zone k)) m ≡ sum h n
  unfolding kept_count kept_zones
  kept_sum h none = passing_sum_all (keeps n weights) h n none

  pub kept_pairs_sum :
      (g : ℕ → ℕ → ℤ) → ((i j : ℕ) → i < n → j < n → w i j ≡ 0 → g i j ≡ pos 0) →
      sum (λ a. sum (λ b. g (zone a) (zone b)) m) m ≡ sum (λ i. sum (λ j. g i j) n) n
  kept_pairs_sum g none =
      sum_cong (λ a. sum (λ b. g (zone a) (zone b)) m) (λ a. sum (λ j. g (zone a) j) n) m
      (λ a p.
      kept_sum (λ j. g (zone a) j)
      (λ j q e. none (zone a) j (zone_stands a p).below q (left_out j (zone a) e (zone_stands a p).below).1))
      ∙ kept_sum (λ i. sum (λ j. g i j) n)
      (λ i p e. sum_cong (λ j. g i j) (λ j. pos 0) n (λ j q. none i j p q (left_out i j e q).0) ∙ sum_none n)

  -- what is put back adds up to what it was
  pub put_back_sum : (numbers : ℕ → ℤ) → sum (put_back n weights numbers) n ≡ sum numbers m
  unfolding put_back kept_count kept_zones
  put_back_sum numbers =
      sym (passing_sum (keeps n weights) (λ i. numbers (kept_place n weights i)) n)
      ∙ sum_cong _ numbers m (λ k p. ap numbers (zone_stands k p).before)

  -- by the answer for the zone
  back_kept : (f : ℕ → ℤ) (i : ℕ) → keeps n weights i ≡ true → put_back n weights f i ≡ f (kept_place n weights i)
  unfolding put_back
  back_kept f i e = rw e refl

  back_left : (f : ℕ → ℤ) (i : ℕ) → keeps n weights i ≡ false → put_back n weights f i ≡ pos 0
  unfolding put_back
  back_left f i e = rw e refl

  -- at the k-th zone kept stands the k-th number
  pub put_back_zone : (f : ℕ → ℤ) (k : ℕ) → k < m → put_back n weights f (zone k) ≡ f k
  put_back_zone f k h = let s = zone_stands k h in back_kept f (zone k) s.passes ∙ ap f s.before

  -- what is put back is known by the numbers of the kept zones
  pub put_back_cong :
      (f g : ℕ → ℤ) → ((a : ℕ) → a < m → f a ≡ g a) → (i : ℕ) → i < n → put_back n weights f i ≡ put_back n weights g i
  put_back_cong f g h i p = go (keeps n weights i) refl
    where
      go : (b : Bool) → keeps n weights i ≡ b → put_back n weights f i ≡ put_back n weights g i
      go true e = back_kept f i e ∙ h (kept_place n weights i) (place_within i p e) ∙ sym (back_kept g i e)
      go false e = back_left f i e ∙ sym (back_left g i e)

  -- what holds of 0 and of the numbers of the kept zones holds of what is put back
  pub put_back_each :
      (P : ℤ → Type 0) (f : ℕ → ℤ) → P (pos 0) → ((a : ℕ) → a < m → P (f a)) → (i : ℕ) → i < n → P (put_back n weights f i)
  put_back_each P f none h i p = go (keeps n weights i) refl
    where
      go : (b : Bool) → keeps n weights i ≡ b → P (put_back n weights f i)
      go true e = subst P (sym (back_kept f i e)) (h (kept_place n weights i) (place_within i p e))
      go false e = subst P (sym (back_left f i e)) none

  -- several numbers of each zone are put back one by one or added up
  pub put_back_sums :
      (f : ℕ → ℕ → ℤ) (many i : ℕ) →
      sum (λ k. put_back n weights (f k) i) many ≡ put_back n weights (λ a. sum (λ k. f k a) many) i
  put_back_sums f many i = go (keeps n weights i) refl
    where
      go : (b : Bool) → keeps n weights i ≡ b → sum (λ k. put_back n weights (f k) i) many ≡ put_back n weights (λ a. sum (λ k. f k a) many) i
      go true e = sum_cong _ _ many (λ k p. back_kept (f k) i e) ∙ sym (back_kept (λ a. sum (λ k. f k a) many) i e)
      go false e = sum_cong _ _ many (λ k p. back_left (f k) i e) ∙ sum_none many ∙ sym (back_left (λ a. sum (λ k. f k a) many) i e)

  -- ---- where all zones are kept, the job of the kept zones is the job itself
  module _ (all : m ≡ n) where
    pub keeps_all : (i : ℕ) → i < n → keeps n weights i ≡ true
    unfolding kept_count
    keeps_all i h = go (keeps n weights i) refl
      where
        go : (b : Bool) → keeps n weights i ≡ b → b ≡ true
        go true e = refl
        go false e =
            let fewer = count_less (keeps n weights) (λ j. true) n i (λ j q r. refl) h e refl in
            let z : ⊥ = omega (arith, fewer, count_le (λ j. true) n) in absurd z

    pub own_zone : (k : ℕ) → k < n → zone k ≡ k
    unfolding kept_zones
    own_zone k h = own_place (keeps n weights) n keeps_all k h

    pub own_kept_place : (i : ℕ) → i ≤ n → kept_place n weights i ≡ i
    own_kept_place i h = all_pass (keeps n weights) i (λ k p. keeps_all k (omega arith))

    pub same_values : (values : List ℤ) → length values ≡ n → kept_values n weights values ≡ values
    unfolding kept_values
    same_values values l =
        ap (table (λ k. at values (zone k))) all
        ∙ sym (is_table (λ k. at values (zone k)) n (pos 0) values l (λ k p. ap (at values) (sym (own_zone k p))))

    pub same_pairs : (pairs : List ℕ) → length pairs ≡ n * n → kept_pairs n weights pairs ≡ pairs
    unfolding kept_pairs pair_at
    same_pairs pairs l =
        ap (λ t. table_rows (λ a b. get_or pairs (zone a * n + zone b) 0) t t) all
        ∙ sym
        (rows_flat (λ a b. get_or pairs (zone a * n + zone b) 0) n n 0 pairs l
        (λ p h.
        let s = split n n p h in
        ap (λ t. get_or pairs t 0)
        (sym s.whole ∙ sym (rw (own_zone (p / n) s.row, own_zone (p % n) s.column) refl))))

    pub same_put_back : (numbers : ℕ → ℤ) (i : ℕ) → i < n → put_back n weights numbers i ≡ numbers i
    unfolding put_back
    same_put_back numbers i h = rw (keeps_all i h) (ap numbers (own_kept_place i (omega arith)))
