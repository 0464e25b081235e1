-- `judge_weights` meets its contract. The loop's invariant: no weight passed breaks 5 or 4. Assumes nothing.
use mathlib.Core.Path.{◌≡◌}
use mathlib.Core.Bool.{Bool, false, ◌&&◌}
use mathlib.Core.List.{List}
use Prim.Native.Nat.{ℕ, ◌*◌, ◌/◌, ◌%◌, ◌≤◌, ◌<◌}
use native.Mathlib.Omega.{arith}
use borrow.Author.Tests.{lt-ltb, le-ltb, eq-eqb, ne_eqb}
use lib.Dec.{ltb, eqb}
use lib.ListN.{get_or}
use Rattle.whole.specs.Rules.{first_broken}
use Rattle.whole.proofs.InTurn.{turn_none, turn_next, turn_found}
use Rattle.whole.proofs.Rules.{second_fails}
use Rattle.image.specs.Joins.{weight_rules}
use Rattle.image.proofs.Weights.{weight_numbered}
use Rattle.writer.proofs.joining.judge_weights.Goals as goal
use Rattle.writer.proofs.joining.judge_weights.Goals.{else-weight-gt0-via-then-weight-gt0+else-p-n, else-weight-gt0-via-else-weight-gt0}

-- the weight at place p
module _ (n : ℕ) (weights : List ℕ) (p : ℕ) where
  abbrev weight : ℕ
  weight = get_or weights p 0

  abbrev on_diagonal : Bool
  on_diagonal = ltb 0 weight && eqb (p / n) (p % n)

  diagonal : 0 < weight → p / n ≡ p % n → 5 ≡ first_broken (weight_rules n weights p)
  unfolding weight_rules
  diagonal h e = rw (lt-ltb 0 weight h, eq-eqb (p / n) (p % n) e)

  elsewhere : (p / n ≡ p % n → ⊥) → on_diagonal ≡ false
  elsewhere f = second_fails (ltb 0 weight) (eqb (p / n) (p % n)) (ne_eqb (p / n) (p % n) f)

  nothing : weight ≤ 0 → on_diagonal ≡ false
  nothing h = rw (le-ltb 0 weight h)

  module _ (clear : on_diagonal ≡ false) where
    heavy : 9 < weight → 4 ≡ first_broken (weight_rules n weights p)
    unfolding weight_rules
    heavy h = rw (clear, lt-ltb 9 weight h)

    light : weight ≤ 9 → first_broken (weight_rules n weights p) ≡ 0
    unfolding weight_rules
    light h = rw (clear, le-ltb 9 weight h)

pub loop-p-init : goal.loop-p-init
loop-p-init c = (omega arith, turn_none (weight_rules _ _) (weight_numbered _ _))

pub returns-then-p-n : goal.returns-then-p-n
returns-then-p-n c =
    let n = c.args.table.now.n in
    let weights = c.args.table.now.weights.now in
    turn_found (weight_rules n weights) (weight_numbered n weights) (n * n) c.loop-p.p 5 (omega arith) c.loop-p.invariant.1
    (diagonal n weights c.loop-p.p c.if-weight-gt0.true c.if-p-n.true) (λ z. omega arith)

pub returns-then-weight-gt9 : goal.returns-then-weight-gt9
returns-then-weight-gt9 c =
    let n = c.args.table.now.n in
    let weights = c.args.table.now.weights.now in
    let p = c.loop-p.p in
    let clear : on_diagonal n weights p ≡ false = elim c.else-weight-gt0.branch [
      | else-weight-gt0-via-then-weight-gt0+else-p-n w ↦ elsewhere n weights p w.if-p-n.false
      | else-weight-gt0-via-else-weight-gt0 w ↦ nothing n weights p w.if-weight-gt0.false
    ] in
    turn_found (weight_rules n weights) (weight_numbered n weights) (n * n) p 4 (omega arith) c.loop-p.invariant.1
    (heavy n weights p clear c.if-weight-gt9.true) (λ z. omega arith)

pub loop-p-preserved : goal.loop-p-preserved
loop-p-preserved c =
    let n = c.args.table.now.n in
    let weights = c.args.table.now.weights.now in
    let p = c.loop-p.p in
    let clear : on_diagonal n weights p ≡ false = elim c.else-weight-gt0.branch [
      | else-weight-gt0-via-then-weight-gt0+else-p-n w ↦ elsewhere n weights p w.if-p-n.false
      | else-weight-gt0-via-else-weight-gt0 w ↦ nothing n weights p w.if-weight-gt0.false
    ] in (
      omega arith,
      turn_next (weight_rules n weights) (weight_numbered n weights) p c.loop-p.invariant.1
          (light n weights p clear c.if-weight-gt9.false),
    )
