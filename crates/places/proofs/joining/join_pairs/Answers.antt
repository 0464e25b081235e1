-- `join_pairs` meets its contract. The invariant of 'pair: each entry passed is the weight of its pair. That of 'third: no third zone
-- passed is in the pair's circle. Assumes nothing.
use mathlib.Core.Path.{◌≡◌, sym, ap, ◌∙◌}
use mathlib.Core.Bool.{false}
use mathlib.Core.Logic.{⊎_elim}
use Prim.Native.Nat.{ℕ, ◌+◌, ◌/◌, ◌%◌}
use native.Mathlib.Nat as N
use native.Mathlib.Omega.{arith}
use borrow.Author.Tests.{eq-eqb, ne_eqb}
use lib.IntN.{ℤ}
use lib.ListN.{length, set}
use Rattle.whole.specs.Search.{some}
use Rattle.whole.proofs.Search.{some_zero, some_more}
use Rattle.whole.proofs.TableRows.{Filled, filled_next, filled_all}
use Rattle.places.specs.Places.{squared_distance}
use Rattle.places.specs.Steps.{coordinates}
use Rattle.places.specs.Gabriel.{gabriel_weight, gabriel_network}
use Rattle.places.proofs.Circles.{third_in, first_passed, second_passed, outside_passed}
use Rattle.places.proofs.Circles.{weight_none, weight_found, weight_free}
use Rattle.places.proofs.joining.join_pairs.Goals as goal
use Rattle.places.proofs.joining.join_pairs.Goals.{In-pair, In-third}

-- ---- a turn of 'pair
module _ (c : In-pair) where
  abbrev n : ℕ
  n = length c.args.zones.now.zones.now

  abbrev d : ℕ → ℕ → ℤ
  d = squared_distance (coordinates c.args.zones.now.zones.now)

  -- the pair's two zones
  abbrev a : ℕ
  a = c.pair.p / n

  abbrev b : ℕ
  b = c.pair.p % n

  -- v is the pair's weight
  entry : (v : ℕ) → v ≡ gabriel_weight d n a b → Filled (gabriel_weight d n) n n 0 (set c.pair.weights c.pair.p v) (c.pair.p + 1)
  entry v e = filled_next (gabriel_weight d n) n n 0 c.pair.weights c.pair.p v c.pair.invariant (omega arith) e

pub pair-preserved-then-a-b : goal.pair-preserved-then-a-b
pair-preserved-then-a-b c =
    let t = (goal.at.pair-preserved-then-a-b c).In-pair in
    entry t 0 (sym (weight_none (d t) (a t) (b t) (n t) c.if-a-b.true))

pub third-init : goal.third-init
third-init c = some_zero _

-- ---- a turn of 'third
module _ (c : In-third) where
  -- the turn of 'pair that it is in
  abbrev pair_of : In-pair
  pair_of = ((goal.at.In-third c).In-pair)

  -- the zone looked at is passed
  passed :
      let test = third_in (d pair_of) (a pair_of) (b pair_of) in
      test c.third.c ≡ false → some test (c.third.c + 1) ≡ false
  passed e = some_more _ c.third.c c.third.invariant e

pub third-preserved-then-c-a : goal.third-preserved-then-c-a
third-preserved-then-c-a c =
    let t = (goal.at.third-preserved-then-c-a c).In-third in
    let o = pair_of t in
    passed t
    (⊎_elim (λ e. first_passed (d o) (a o) (b o) c.third.c e)
    (λ e. second_passed (d o) (a o) (b o) c.third.c (eq-eqb c.third.c (b o) e.1)) c.then-c-a.either)

pub third-preserved : goal.third-preserved
third-preserved c =
    let t = (goal.at.third-preserved c).In-third in
    let o = pair_of t in
    passed t (outside_passed (d o) (a o) (b o) c.third.c c.in_circle.result c.in_circle.ensures c.if-in_circle.false)

pub pair-preserved-then-in_circle : goal.pair-preserved-then-in_circle
pair-preserved-then-in_circle c =
    let o = (goal.at.pair-preserved-then-in_circle c).In-pair in
    entry o 0
    (sym
    (weight_found (d o) (a o) (b o) (n o) c.third.c c.in_circle.result c.third-test.true c.if-c-a.false
    (ne_eqb c.third.c (b o) c.if-c-b.false) c.in_circle.ensures c.if-in_circle.true))

pub pair-preserved : goal.pair-preserved
pair-preserved c =
    let t = (goal.at.pair-preserved c).In-pair in
    let free = ap (some (third_in (d t) (a t) (b t))) (N.le_antisymm c.third-test.false c.third.auto.c-end) ∙ c.third.invariant in
    entry t 1 (sym (weight_free (d t) (a t) (b t) (n t) c.if-a-b.false free))

pub returns : goal.returns
unfolding gabriel_network
returns c = filled_all _ _ _ 0 _ c.pair.p c.pair.invariant (omega arith)
