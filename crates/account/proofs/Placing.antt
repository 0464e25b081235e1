-- The places of the zones in a list that rises, and the numbers of a shuffle that have a place, as loops write them.
-- Assumes nothing.
use mathlib.Core.Path.{◌≡◌, refl, sym, ap, ◌∙◌}
use mathlib.Core.Bool.{Bool, true, false}
use mathlib.Core.List.{List}
use Prim.Native.Nat.{ℕ, ◌+◌, ◌≤◌, ◌<◌}
use native.Mathlib.Decide.{ℕ_discrete}
use native.Mathlib.Omega.{arith}
use borrow.Author.Tests.{eq-eqb, eqb-true, lt-ltb, le-ltb}
use lib.Dec.{eqb, ltb}
use lib.ListN.{length, get_or, set, replicate, length-set, get_or-replicate}
use lib.Seq.{get_or-set_same, get_or-set_other}
use Rattle.whole.specs.Order.{lacks}
use Rattle.whole.specs.Search.{some, count}
use Rattle.whole.specs.Table.{table}
use Rattle.whole.proofs.Counting.{count_zero, count_yes, count_no, count_le, first_below, first_passes, none_first}
use Rattle.whole.proofs.Search.{some_none, some_witness}
use Rattle.whole.proofs.Table.{is_table, stored}
use Rattle.kept.specs.Kept.{passing}
use Rattle.kept.proofs.KeptShuffle.{as_many}
use Rattle.kept.proofs.Passing.{place_below, nth_place, nth_stands, passing_cong}
use Rattle.account.specs.Steps.{Zones, place_in, placed_number}

-- ---- the first k zones of the list have their places written, and all others the list's length
pub record Placed (zones : List ℕ) (n k : ℕ) (places : List ℕ) : Type 0 where
  pub long : length places ≡ n
  pub held : (q : ℕ) → q < k → get_or places (get_or zones q 0) 0 ≡ q
  pub others : (i : ℕ) → i < n → ((q : ℕ) → q < k → get_or zones q 0 ≡ i → ⊥) → get_or places i 0 ≡ length zones

module _ (zones : List ℕ) (n : ℕ) where
  -- no zone is passed yet
  pub placed_none : (places : List ℕ) → length places ≡ n → places ≡ replicate n (length zones) → Placed zones n 0 places
  placed_none places e f = record {
    long = e;
    held = λ q h. let z : ⊥ = omega arith in absurd z;
    others = λ i h none. rw f (get_or-replicate n i (length zones) 0 h);
  }

  module _ (rises : Zones zones n) where
    -- one zone more
    pub placed_next : (k : ℕ) (places : List ℕ) → Placed zones n k places → k < length zones → Placed zones n (k + 1) (set places (get_or zones k 0) k)
    placed_next k places so h = record {
      long = length-set places (get_or zones k 0) k ∙ so.long;
      held = λ q p. pick q p (ℕ_discrete q k);
      others = λ i p none. get_or-set_other places (get_or zones k 0) i k 0 (λ e. none k (omega arith) (sym e)) ∙ so.others i p (λ q l. none q (omega arith));
    }
      where
        pick : (q : ℕ) → q < k + 1 → Dec (q ≡ k) → get_or (set places (get_or zones k 0) k) (get_or zones q 0) 0 ≡ q
        pick q p (yes e) =
            rw e (get_or-set_same places (get_or zones k 0) k 0 (omega (arith, rises.below k h, so.long)))
        pick q p (no e) =
            get_or-set_other places (get_or zones k 0) (get_or zones q 0) k 0 (λ f. let z : ⊥ = omega (arith, rises.rising q k (omega arith) h) in z)
            ∙ so.held q (omega arith)

    -- whether zone i stands at a place of the list
    abbrev stands : ℕ → ℕ → Bool
    stands i q = eqb (get_or zones q 0) i

    -- all are
    pub placed_all : (k : ℕ) (places : List ℕ) → Placed zones n k places → k ≡ length zones → places ≡ table (place_in zones) n
    placed_all k places so e =
        is_table (place_in zones) n 0 places so.long (λ i h. go i h (some (stands i) (length zones)) refl)
      where
        ne_true : {b : Bool} → b ≡ false → b ≡ true → ⊥
        ne_true e f = cc

        go : (i : ℕ) → i < n → (b : Bool) → some (stands i) (length zones) ≡ b → get_or places i 0 ≡ place_in zones i
        go i h false none =
            so.others i h
            (λ q l f. ne_true (some_none (stands i) (length zones) q none (omega arith)) (eq-eqb (get_or zones q 0) i f))
            ∙ sym (none_first (stands i) (length zones) none)
        go i h true found =
            let w = some_witness (stands i) (length zones) found in
            let passes = first_passes (stands i) (length zones) w.0 w.1 w.2 in
            let below = first_below (stands i) (length zones) w.0 w.1 w.2 in
            ap (λ t. get_or places t 0) (sym (eqb-true (get_or zones (place_in zones i) 0) i passes))
            ∙ so.held (place_in zones i) (omega arith)

-- ---- the first p numbers of a row are passed, and the k of them that have a place below `many` are written by it
module _ (places : List ℕ) (many n : ℕ) (row : ℕ → ℕ) where
  abbrev has_place : ℕ → Bool
  has_place p = ltb (get_or places (row p) 0) many

  pub record Taken (p k : ℕ) (out : List ℕ) : Type 0 where
    pub passed : p ≤ n
    pub long : length out ≡ many
    pub so_many : k ≡ count has_place p
    pub holds : (q : ℕ) → q < k → get_or out q 0 ≡ placed_number places many n row q

  pub taken_none : (out : List ℕ) → length out ≡ many → Taken 0 0 out
  taken_none out e = record {
    passed = omega arith;
    long = e;
    so_many = sym (count_zero has_place);
    holds = λ q h. let z : ⊥ = omega arith in absurd z;
  }

  -- no more have a place than are passed
  pub taken_few : (p k : ℕ) (out : List ℕ) → Taken p k out → k ≤ p
  taken_few p k out so = omega (arith, so.so_many, count_le has_place p)

  module _ (all : lacks row n ≡ false) (fits : count (λ i. ltb (get_or places i 0) many) n ≡ many) where
    in_all : count has_place n ≡ many
    in_all = as_many (λ i. ltb (get_or places i 0) many) row n all ∙ fits

    -- all are passed
    pub taken_all : (p k : ℕ) (out : List ℕ) → Taken p k out → n ≤ p → out ≡ table (placed_number places many n row) many
    taken_all p k out so h =
        let e : p ≡ n = omega (arith, so.passed) in
        is_table (placed_number places many n row) many 0 out so.long
        (λ q l. so.holds q (omega (arith, so.so_many, ap (count has_place) e, in_all)))

    module _ (p k : ℕ) (out : List ℕ) (so : Taken p k out) (h : p < n) where
      -- there is room for one more
      pub taken_room : get_or places (row p) 0 < many → k < many
      taken_room l = omega (arith, so.so_many, in_all, place_below has_place n p h (lt-ltb (get_or places (row p) 0) many l))

      -- one number more, which has a place
      pub taken_yes :
          (j : ℕ) (new : List ℕ) → get_or places (row p) 0 < many → new ≡ set out k (get_or places (row p) 0) → j ≡ k + 1 →
          Taken (p + 1) j new
      taken_yes j new l e f =
          let passes = lt-ltb (get_or places (row p) 0) many l in
          let number : get_or places (row p) 0 ≡ placed_number places many n row k =
          ap (λ t. get_or places (row t) 0)
          (sym (ap (λ t. get_or (passing has_place n) t 0) so.so_many ∙ nth_place has_place n p h passes)) in
          rw (e, f) record {
            passed = omega arith;
            long = length-set out k (get_or places (row p) 0) ∙ so.long;
            so_many = count_yes has_place p k so.so_many passes;
            holds = stored (placed_number places many n row) 0 (get_or places (row p) 0) out k
                (omega (arith, so.long, taken_room l)) number so.holds;
          }

      -- and one that has none
      pub taken_no : (j : ℕ) (new : List ℕ) → many ≤ get_or places (row p) 0 → new ≡ out → j ≡ k → Taken (p + 1) j new
      taken_no j new l e f =
          rw (e, f) record {
            passed = omega arith;
            long = so.long;
            so_many = count_no has_place p k so.so_many (le-ltb (get_or places (row p) 0) many l);
            holds = so.holds;
          }

-- ---- a row that names the same has the same placed numbers
module _
    (places : List ℕ) (many n : ℕ) (f g : ℕ → ℕ) (same : (p : ℕ) → p < n → f p ≡ g p) (all : lacks g n ≡ false)
    (fits : count (λ i. ltb (get_or places i 0) many) n ≡ many) where
  pub placed_cong : (k : ℕ) → k < many → placed_number places many n f k ≡ placed_number places many n g k
  placed_cong k h =
      let passes = has_place places many n g in
      let stands = nth_stands passes n k (omega (arith, h, in_all places many n g all fits)) in
      ap (λ l. get_or places (f (get_or l k 0)) 0) (passing_cong _ passes n (λ p q. ap (λ z. ltb (get_or places z 0) many) (same p q)))
      ∙ ap (λ z. get_or places z 0) (same _ stands.below)
