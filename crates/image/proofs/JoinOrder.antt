-- The order of joins, by from and then to, is that of their places; joins that break no rule are the joins of a table. Assumes nothing.
use mathlib.Core.Path.{◌≡◌, refl, sym, ap, ◌∙◌, subst}
use mathlib.Core.Bool.{Bool, true, false, not, false≢true}
use mathlib.Core.List.{List, [], ◌∷◌}
use Prim.Native.Nat.{ℕ, zero, suc, ◌+◌, ◌*◌, ◌/◌, ◌%◌, ◌≤◌, ◌<◌}
use native.Mathlib.Nat as N
use native.Mathlib.Omega.{arith}
use borrow.Author.Tests.{lt-ltb, le-ltb, ne_eqb, ltb-true, ltb-false, eqb-true, eqb-false}
use lib.Dec.{eqb, ltb}
use lib.ListN.{length}
use Rattle.whole.specs.Rules.{first_broken, in_turn}
use Rattle.whole.specs.Table.{table}
use Rattle.whole.proofs.InTurn.{each_turn}
use Rattle.whole.proofs.Lists.{within}
use Rattle.whole.proofs.TableRows.{split}
use Rattle.image.specs.Joins.{Join, joins_from, joins_of, comes_after, not_rising, join_rules, weight_rules}
use Rattle.image.proofs.ItemKinds.{All, none, more}
use Rattle.image.proofs.JoinTable.{Rises, joins_rise}
use Rattle.image.proofs.JoinWeight.{place}
use Rattle.image.proofs.Weights.{Fair, fair_each, join_numbered, Keeps, keeps_next, first_off, keeps_all}

-- ---- two joins whose ends are zones

-- a join of an earlier row has an earlier place
row_before : (n : ℕ) (earlier later : Join) → earlier.to < n → earlier.from < later.from → place n earlier < place n later
row_before n earlier later h l = omega (arith, N.mul-le-mul_right n l)

-- by the places it is known which comes after
pub place_decides :
    (n : ℕ) (earlier later : Join) → earlier.to < n → later.to < n → comes_after earlier later ≡ ltb (place n earlier) (place n later)
place_decides n earlier later h k = go (ltb earlier.from later.from) (eqb earlier.from later.from) refl refl
  where
    go :
        (a b : Bool) → ltb earlier.from later.from ≡ a → eqb earlier.from later.from ≡ b →
        comes_after earlier later ≡ ltb (place n earlier) (place n later)
    go true b p q =
        rw p (sym (lt-ltb (place n earlier) (place n later) (row_before n earlier later h (ltb-true earlier.from later.from p))))
    go false true p q =
        let row = ap (λ t. t * n) (eqb-true earlier.from later.from q) in
        rw (p, q) (column (ltb earlier.to later.to) refl row)
      where
        column :
            (c : Bool) → ltb earlier.to later.to ≡ c → earlier.from * n ≡ later.from * n →
            ltb earlier.to later.to ≡ ltb (place n earlier) (place n later)
        column true r row = r ∙ sym (lt-ltb (place n earlier) (place n later) (omega (arith, ltb-true earlier.to later.to r)))
        column false r row = r ∙ sym (le-ltb (place n earlier) (place n later) (omega (arith, ltb-false earlier.to later.to r)))
    go false false p q =
        let not_before = ltb-false earlier.from later.from p in
        let other = eqb-false earlier.from later.from q in
        let below : later.from < earlier.from = strictly later.from earlier.from not_before (λ e. other (sym e)) in
        let back : place n later < place n earlier = row_before n later earlier k below in
        rw (p, q) (sym (le-ltb (place n earlier) (place n later) (omega arith)))
      where
        strictly : (a b : ℕ) → a ≤ b → (a ≡ b → ⊥) → a < b
        strictly a b l f = omega arith

-- ---- joins that break no rule rise
module _ (n : ℕ) where
  further : (join : ℕ → Join) (i : ℕ) → Fair n join (suc i) → Fair n (λ i. join (suc i)) i
  further join i f = record {
    from_in = f.from_in;
    to_in = f.to_in;
    apart = f.apart;
    risen = risen i f.risen;
    heavy = f.heavy;
    light = f.light;
  }
    where
      risen : (i : ℕ) → not_rising join (suc i) ≡ false → not_rising (λ i. join (suc i)) i ≡ false
      risen zero e = refl
      risen (suc i) e = e

  comes : (b : Bool) → not b ≡ false → b ≡ true
  comes true e = refl
  comes false e = absurd (false≢true (sym e))

  rises_table :
      (join : ℕ → Join) (k p : ℕ) → ((i : ℕ) → i < k → Fair n join i) → (0 < k → p ≤ place n (join 0)) → Rises n (n * n) p (table join k)
  unfolding table
  rises_table join zero p h l = Rises.none
  rises_table join (suc k) p h l =
      let first = h 0 (omega arith) in
      Rises.more
      (record {
        low = l (omega arith);
        high = within n (join 0).from (join 0).to first.from_in first.to_in;
        heavy = first.heavy;
        column = first.to_in;
      })
      (rises_table (λ i. join (suc i)) k (place n (join 0) + 1) (λ i q. further join i (h (suc i) (omega arith)))
      (λ some.
      let second = h 1 (omega arith) in
      let after = comes (comes_after (join 0) (join 1)) second.risen in
      let decided = sym (place_decides n (join 0) (join 1) first.to_in second.to_in) ∙ after in
      let before : place n (join 0) < place n (join 1) = ltb-true (place n (join 0)) (place n (join 1)) decided in
      omega arith))

  -- and so do the first i of them
  pub fair_rises :
      (join : ℕ → Join) (k i : ℕ) → i ≤ k → first_broken (in_turn (join_rules n join) k) ≡ 0 → Rises n (n * n) 0 (table join i)
  fair_rises join k i h sound = rises_table join i 0 (λ t l. fair_each n join k sound t (omega arith)) (λ some. omega arith)

-- ---- the joins of a table of weights break no rule

-- what a join of such a table is like
record Good (n : ℕ) (join : Join) : Type 0 where
  pub from_in : join.from < n
  pub to_in : join.to < n
  pub apart : join.from ≡ join.to → ⊥
  pub heavy : 1 ≤ join.weight
  pub light : join.weight ≤ 9

module _ (n : ℕ) (some : 0 < n) where
  first :
      (p w : ℕ) (weights : List ℕ) → p < n * n → Keeps n p (suc w ∷ weights) → Good n (record { from = p / n; to = p % n; weight = suc w })
  unfolding Keeps
  first p w weights h s =
      let place = split n n p h in record {
        from_in = place.row;
        to_in = place.column;
        apart = eqb-false (p / n) (p % n) (first_off n p w weights s);
        heavy = omega arith;
        light = (s 0 (omega arith)).1;
      }

  all_good : (p : ℕ) (weights : List ℕ) → p + length weights ≤ n * n → Keeps n p weights → All (Good n) (joins_from n p weights)
  unfolding joins_from
  all_good p [] l s = none
  all_good p (zero ∷ weights) l s = all_good (p + 1) weights (omega arith) (keeps_next n p zero weights s)
  all_good p (suc w ∷ weights) l s =
      more (first p w weights (omega arith) s) (all_good (p + 1) weights (omega arith) (keeps_next n p (suc w) weights s))

-- a law of every item of a list, and of the joins' order, at the places of a list that is a table
all_at : {A : Type 0} (P : A → Type 0) (f : ℕ → A) (k : ℕ) → All P (table f k) → (i : ℕ) → i < k → P (f i)
unfolding table
all_at P f zero a i h = let z : ⊥ = omega arith in absurd z
all_at P f (suc k) (more p ps) zero h = p
all_at P f (suc k) (more p ps) (suc i) h = all_at P (λ k. f (suc k)) k ps i (omega arith)

rises_at :
    (n end p : ℕ) (join : ℕ → Join) (k : ℕ) → Rises n end p (table join k) → (i : ℕ) → suc i < k → place n (join i) < place n (join (suc i))
unfolding table
rises_at n end p join zero r i h = let z : ⊥ = omega arith in absurd z
rises_at n end p join (suc zero) r i h = let z : ⊥ = omega arith in absurd z
rises_at n end p join (suc (suc k)) (Rises.more s (Rises.more t r)) zero h = let l = t.low in omega arith
rises_at n end p join (suc (suc k)) (Rises.more s r) (suc i) h = rises_at n end (place n (join 0) + 1) (λ k. join (suc k)) (suc k) r i (omega arith)

module _ (n : ℕ) (weights : List ℕ) (some : 0 < n) (there : length weights ≡ n * n)
    (sound : first_broken (in_turn (weight_rules n weights) (n * n)) ≡ 0)
    (join : ℕ → Join) (k : ℕ) (same : table join k ≡ joins_of n weights) where
  good : (i : ℕ) → i < k → Good n (join i)
  good i h =
      all_at (Good n) join k
      (subst (All (Good n)) (sym same) (all_good n some 0 weights (omega arith) (keeps_all n weights there sound))) i h

  in_order : (i : ℕ) → suc i < k → place n (join i) < place n (join (suc i))
  in_order i h = rises_at n (n * n) 0 join k (subst (Rises n (n * n) 0) (sym same) (joins_rise n weights some there)) i h

  risen : (i : ℕ) → i < k → not_rising join i ≡ false
  risen zero h = refl
  risen (suc i) h =
      let after = place_decides n (join i) (join (suc i)) (good i (omega arith)).to_in (good (suc i) h).to_in in
      ap not (after ∙ lt-ltb (place n (join i)) (place n (join (suc i))) (in_order i h))

  pub joins_sound : first_broken (in_turn (join_rules n join) k) ≡ 0
  unfolding join_rules
  joins_sound =
      each_turn (join_rules n join) (join_numbered n join) k
      (λ i h.
      let g = good i h in
      rw (
        lt-ltb (join i).from n g.from_in,
        lt-ltb (join i).to n g.to_in,
        ne_eqb (join i).from (join i).to g.apart,
        risen i h,
        le-ltb (join i).weight 1 g.heavy,
        le-ltb 9 (join i).weight g.light,
      ))
