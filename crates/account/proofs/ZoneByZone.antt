-- The sums of the nine classes as the code runs them, pair by pair within a zone and then zone by zone: what they hold on the way, how
-- large they get, and that they end as the class account. Assumes nothing.
use mathlib.Core.Path.{◌≡◌, refl, sym, ap, ◌∙◌}
use mathlib.Core.Bool.{Bool, true, false, cond}
use mathlib.Core.List.{List}
use Prim.Native.Nat.{ℕ, zero, suc, ◌+◌, ◌*◌, ◌/◌, ◌≤◌, ◌<◌}
use native.Mathlib.Nat as N
use native.Mathlib.Decide.{ℕ_discrete}
use native.Mathlib.Omega.{arith}
use borrow.Author.Tests.{eq-eqb, ne_eqb, lt-ltb, le-ltb, ltb-true, ltb-false}
use lib.Arith.{digits_div}
use lib.Dec.{eqb, ltb, leb→le}
use lib.IntN.{ℤ, pos, nat_abs, ◌+ℤ◌, ◌*ℤ◌, +ℤ_idr}
use lib.ListN.{length, set, length-set}
use lib.Seq.{get_or-set_same, get_or-set_other}
use Rattle.whole.specs.Sum.{sum}
use Rattle.whole.specs.Table.{table_rows, at, pair_at}
use Rattle.whole.proofs.Machine.{Is}
use Rattle.whole.proofs.Sum.{sum_zero, sum_more}
use Rattle.whole.proofs.SumSize.{sum_size}
use Rattle.whole.proofs.TableRows.{rows_length}
use Rattle.account.specs.Measures.{deviation_of, row_of, pairs_of, weight_of, squares_of}
use Rattle.account.specs.Answers.{class_row}
use Rattle.account.specs.Classes.{class_weight, zones_class_row, zones_class_local, sum_at}
use Rattle.account.specs.Steps.{zones_class_sums, zones_class_locals, Sized, ClassJob, row_added, counted, zone_part, zone_sum, Zoned}
use Rattle.account.specs.declared.ClassRow.{ClassRow}
use Rattle.account.proofs.Adding.{part_of, locals_sum}
use Rattle.account.proofs.ByClass.{class_le, by_places, sums_sized, sums_alike, row_more}
use Rattle.account.proofs.Reading.{weight_le}
use Rattle.account.proofs.Sizes.{deviation_size, square_size, row_size, weight_size, squares_size, local_size}

-- ---- what is added fits
pub added_small : {y z : ℤ} {b : ℕ} → Is y z b → b ≤ 94371840000000000 → nat_abs y ≤ 94371840000000000
added_small i h = rw i.same (N.le_trans i.size h)

-- ---- how many zones are in the sums of class q, where those before i are in all, and zone i in those of the classes before k
abbrev pub zones_in : ℕ → ℕ → ℕ → ℕ
zones_in i k q = cond (ltb q k) (i + 1) i

-- zone i is not yet in those of class k, and then it is
zone_out : (i k : ℕ) → zones_in i k k ≡ i
zone_out i k = rw (le-ltb k k (N.le_refl k)) refl

zone_in : (i k : ℕ) → zones_in i (k + 1) k ≡ i + 1
zone_in i k = rw (lt-ltb k (k + 1) (omega arith)) refl

-- the other classes have what they had
zones_kept : (i k q : ℕ) → (q ≡ k → ⊥) → zones_in i k q ≡ zones_in i (k + 1) q
zones_kept i k q f = go (ltb q k) refl
  where
    after : k ≤ q → k + 1 ≤ q
    after h = omega arith

    go : (b : Bool) → ltb q k ≡ b → cond b (i + 1) i ≡ zones_in i (k + 1) q
    go true e = let less = ltb-true q k e in rw (lt-ltb q (k + 1) (omega arith)) refl
    go false e = rw (le-ltb q (k + 1) (after (ltb-false q k e))) refl

pub zones_most : (i k q : ℕ) → zones_in i k q ≤ i + 1
zones_most i k q = go (ltb q k)
  where
    go : (b : Bool) → cond b (i + 1) i ≤ i + 1
    go true = omega arith
    go false = omega arith

-- a place of another row is another place
elsewhere : (n q j k i : ℕ) → (q ≡ k → ⊥) → j < n → i < n → q * n + j ≡ k * n + i → ⊥
elsewhere n q j k i f p h e =
    f (sym (digits_div q {m = n} {r = j} p) ∙ ap (λ t. t / n) e ∙ digits_div k {m = n} {r = i} h)

pub zoned_length :
    {n : ℕ} {values : List ℤ} {weights classes : List ℕ} {done : ℕ → ℕ} {rows locals : List ℤ} →
    Zoned n values weights classes done rows locals → length rows ≡ 27
zoned_length z = ap length z.sums ∙ rows_length _ 9 3

module _ (n : ℕ) (values : List ℤ) (weights classes : List ℕ) where
  -- ---- the pairs of zone i
  module _ (i : ℕ) where
    -- what the pair (i,j) adds to the sums of class k
    abbrev pub term : ℕ → ℕ → ℕ → ℤ
    term k s j = pos (class_weight weights classes n k i j) *ℤ counted n values s i j

    -- the sums over the first j pairs
    abbrev pub pairs_in : ℕ → ℕ → ℕ → ℤ
    pairs_in j k s = sum (term k s) j

    pub no_pairs : (l : List ℤ) → l ≡ table_rows (λ k s. pos 0) 9 3 → l ≡ table_rows (pairs_in 0) 9 3
    no_pairs l e = sums_alike _ l e (pairs_in 0) (λ k s p q. sym (sum_zero (term k s)))

    -- one more: it adds to the sums of its own class
    pub one_pair :
        (j : ℕ) (row : ClassRow) (l out : List ℤ) → l ≡ table_rows (pairs_in j) 9 3 →
        out ≡ row_added l (pair_at classes n i j) row.weight row.cross row.squares →
        ((s : ℕ) → sum_at row s ≡ pos (pair_at weights n i j) *ℤ counted n values s i j) →
        out ≡ table_rows (pairs_in (j + 1)) 9 3
    unfolding class_weight
    one_pair j row l out e r each =
        row_more (pairs_in j) l e (pairs_in (j + 1)) (pair_at classes n i j) row out r
        (λ q s p. let own = eqb (pair_at classes n i j) q in
        ap (λ z. pairs_in j q s +ℤ cond own z (pos 0)) (each s)
        ∙ ap (λ z. pairs_in j q s +ℤ z) (sym (part_of own (pair_at weights n i j) (counted n values s i j)))
        ∙ sym (sum_more (term q s) j))

    pub all_pairs :
        (j : ℕ) (l : List ℤ) → j ≡ n → l ≡ table_rows (pairs_in j) 9 3 → l ≡ table_rows (zone_part n values weights classes i) 9 3
    unfolding zone_part row_of
    all_pairs j l a e = e ∙ ap (λ m. table_rows (pairs_in m) 9 3) a

  -- ---- the zones

  -- the same zones
  pub same_zones :
      (f g : ℕ → ℕ) (rows locals : List ℤ) → ((k : ℕ) → k < 9 → f k ≡ g k) → Zoned n values weights classes f rows locals →
      Zoned n values weights classes g rows locals
  same_zones f g rows locals same z = record {
    sums = sums_alike _ rows z.sums _ (λ k s p q. ap (sum (zone_sum n values weights classes k s)) (same k p));
    count = z.count;
    numerators = λ k i p q. z.numerators k i p (omega (arith, same k p));
  }

  -- no zone
  pub no_zones :
      (rows locals : List ℤ) → rows ≡ table_rows (λ k s. pos 0) 9 3 → length locals ≡ 9 * n →
      Zoned n values weights classes (λ k. 0) rows locals
  no_zones rows locals e l = record {
    sums = sums_alike _ rows e _ (λ k s p q. sym (sum_zero (zone_sum n values weights classes k s)));
    count = l;
    numerators = λ k i p q. let x : ⊥ = omega arith in absurd x;
  }

  -- all zones
  pub all_zones :
      (i : ℕ) (rows locals : List ℤ) → i ≡ n → Zoned n values weights classes (λ k. i) rows locals →
      (rows ≡ zones_class_sums n values weights classes) × (locals ≡ zones_class_locals n values weights classes)
  unfolding zones_class_sums zones_class_locals zones_class_row class_row weight_of squares_of pairs_of zone_part zones_class_local
  all_zones i rows locals a z = (
    sums_alike _ rows z.sums _ (λ k s p q. ap (sum (zone_sum n values weights classes k s)) a ∙ whole k s),
    by_places _ 9 n locals z.count (λ k j p q. z.numerators k j p (omega arith)),
  )
    where
      whole : (k s : ℕ) → sum (zone_sum n values weights classes k s) n ≡ sum_at (zones_class_row n values weights classes k) s
      whole k zero = refl
      whole k (suc zero) = locals_sum (class_weight weights classes n k) (deviation_of (at values) n) n
      whole k (suc (suc s)) = refl

  -- class k of zone i is worked
  module _
      (i k : ℕ) (row : ClassRow) (rows out locals : List ℤ) (h : i < n) (low : k < 9)
      (z : Zoned n values weights classes (zones_in i k) rows locals)
      (r : out ≡ row_added rows k row.weight row.cross row.squares)
      (each : (s : ℕ) → sum_at row s ≡ zone_sum n values weights classes k s i) where
    rows_next :
        (q s : ℕ) → Dec (q ≡ k) →
        sum (zone_sum n values weights classes q s) (zones_in i k q) +ℤ cond (eqb k q) (sum_at row s) (pos 0)
        ≡ sum (zone_sum n values weights classes q s) (zones_in i (k + 1) q)
    rows_next q s (yes e) =
        rw (e, zone_out i k, zone_in i k, eq-eqb k k refl, each s) (sym (sum_more (zone_sum n values weights classes k s) i))
    rows_next q s (no f) =
        rw (ne_eqb k q (λ e. f (sym e)), +ℤ_idr (sum (zone_sum n values weights classes q s) (zones_in i k q)))
        (ap (sum (zone_sum n values weights classes q s)) (zones_kept i k q f))

    locals_next :
        (q j : ℕ) → q < 9 → j < zones_in i (k + 1) q → Dec (q ≡ k) → Dec (j ≡ i) →
        at (set locals (k * n + i) row.cross) (q * n + j) ≡ zones_class_local n values weights classes q j
    locals_next q j p u (yes e) (yes f) =
        rw (e, f)
        (get_or-set_same locals (k * n + i) row.cross (pos 0) (omega (arith, N.mul-le-mul_right n low, z.count)) ∙ each 1)
    locals_next q j p u (yes e) (no f) =
        rw e
        (get_or-set_other locals (k * n + i) (k * n + j) row.cross (pos 0) (λ g. f (omega arith))
        ∙ z.numerators k j low (omega (arith, zone_out i k, zones_most i (k + 1) q)))
    locals_next q j p u (no e) f =
        get_or-set_other locals (k * n + i) (q * n + j) row.cross (pos 0)
        (elsewhere n q j k i e (omega (arith, zones_most i (k + 1) q)) h)
        ∙ z.numerators q j p (omega (arith, zones_kept i k q e))

    pub one_class : Zoned n values weights classes (zones_in i (k + 1)) out (set locals (k * n + i) row.cross)
    one_class = record {
      sums = row_more _ rows z.sums _ k row out r (λ q s p. rows_next q s (ℕ_discrete q k));
      count = length-set locals (k * n + i) row.cross ∙ z.count;
      numerators = λ q j p u. locals_next q j p u (ℕ_discrete q k) (ℕ_discrete j i);
    }

-- ---- how large the sums of a job get
module _ (n : ℕ) (values : List ℤ) (weights classes : List ℕ) (g : ClassJob values weights classes n) where
  counted_size : (s i j : ℕ) → i < n → j < n → nat_abs (counted n values s i j) ≤ 40000000000
  counted_size zero i j p q = omega arith
  counted_size (suc zero) i j p q =
      let v = g.job.valued in omega (arith, deviation_size (at values) n v.zones v.near.size j q)
  counted_size (suc (suc s)) i j p q = let v = g.job.valued in square_size (at values) n v.zones v.near.size i j p q

  class_light : (k i j : ℕ) → i < n → j < n → class_weight weights classes n k i j ≤ 9
  class_light k i j p q = class_le weights classes n k i j 9 (weight_le weights n g.job.weighted i j p q)

  pub pairs_size : (i j k s : ℕ) → i < n → j ≤ n → nat_abs (pairs_in n values weights classes i j k s) ≤ 23040000000000
  pairs_size i j k s p q =
      row_size (class_weight weights classes n k) (counted n values s) n 40000000000 g.job.valued.zones
      (class_light k) (counted_size s) i j p q

  pub pairs_sized :
      (i j : ℕ) (l : List ℤ) → i < n → j ≤ n → l ≡ table_rows (pairs_in n values weights classes i j) 9 3 → Sized 6039797760000000000 l 27
  pairs_sized i j l p q e =
      sums_sized _ l e 6039797760000000000 (λ k s t u. N.le_trans (pairs_size i j k s p q) (leb→le 23040000000000 6039797760000000000 tt))

  pub class_local_size : (k i : ℕ) → i < n → nat_abs (zones_class_local n values weights classes k i) ≤ 94371840000000000
  unfolding zones_class_local
  class_local_size k =
      let v = g.job.valued in
      local_size (class_weight weights classes n k) n v.zones (class_light k) (deviation_of (at values) n)
      (deviation_size (at values) n v.zones v.near.size)

  pub part_size : (i k s : ℕ) → i < n → nat_abs (zone_part n values weights classes i k s) ≤ 23040000000000
  unfolding zone_part row_of
  part_size i k s p = pairs_size i n k s p (N.le_refl n)

  zone_sum_size : (k s i : ℕ) → i < n → nat_abs (zone_sum n values weights classes k s i) ≤ 94371840000000000
  zone_sum_size k zero i p = omega (arith, part_size i k 0 p)
  zone_sum_size k (suc zero) i p = class_local_size k i p
  zone_sum_size k (suc (suc s)) i p = omega (arith, part_size i k 2 p)

  pub zones_sized :
      (done : ℕ → ℕ) (rows locals : List ℤ) → ((k : ℕ) → k < 9 → done k ≤ n) → Zoned n values weights classes done rows locals →
      Sized 6039797760000000000 rows 27
  zones_sized done rows locals most z =
      sums_sized _ rows z.sums 6039797760000000000
      (λ k s p q. omega (
        arith,
        sum_size (zone_sum n values weights classes k s) (done k) 94371840000000000 (λ i t. zone_sum_size k s i (omega (arith, most k p))),
        most k p,
        g.job.valued.zones,
      ))

  -- W and G of a class are no larger than a local numerator can be
  pub class_weight_size : (k : ℕ) → nat_abs (zones_class_row n values weights classes k).weight ≤ 94371840000000000
  unfolding zones_class_row class_row
  class_weight_size k =
      N.le_trans (weight_size (class_weight weights classes n k) n g.job.valued.zones (class_light k))
      (leb→le 36864 94371840000000000 tt)

  pub class_squares_size : (k : ℕ) → nat_abs (zones_class_row n values weights classes k).squares ≤ 94371840000000000
  unfolding zones_class_row class_row
  class_squares_size k =
      let v = g.job.valued in
      N.le_trans (squares_size (class_weight weights classes n k) n v.zones (class_light k) (at values) v.near.size)
      (leb→le 1474560000000000 94371840000000000 tt)
