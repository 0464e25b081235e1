-- `put_joins` meets its contract: each join comes after those before it, so that its weight is stored where none was. Assumes nothing.
use mathlib.Core.Path.{◌≡◌, refl, ap, ◌∙◌}
use Prim.Native.Nat.{◌+◌, ◌*◌}
use native.Mathlib.Omega.{arith}
use lib.ListN.{length}
use Rattle.whole.specs.Table.{table}
use Rattle.image.proofs.JoinWeight.{place, weights_length}
use Rattle.image.proofs.Weights.{joins_inside}
use Rattle.reader.specs.Steps.{join_at}
use Rattle.reader.proofs.JoinsPut.{put_none, put_next}
use Rattle.reader.proofs.joining.put_joins.Goals as goal

pub loop-from-init : goal.loop-from-init
loop-from-init c = c.fill.ensures.after (λ y e. e) ∙ rw c.requires.weights_len (put_none c.args.n (join_at c.args.joins.now))

pub bounds-weights-from : goal.bounds-weights-from
bounds-weights-from c =
    let a = c.args in
    let join = join_at a.joins.now in
    let i = c.loop-from.from-index in
    let inside = joins_inside a.n join _ c.requires.joinable.sound i c.loop-from-test.true in
    let long = ap length c.loop-from.invariant ∙ weights_length a.n (table join i) in
    let at : c.from.result * a.n + c.from-in-loop-from.result ≡ place a.n (join i) = rw (c.from.ensures, c.from-in-loop-from.ensures) refl in
    omega arith

pub loop-from-preserved : goal.loop-from-preserved
loop-from-preserved c =
    let a = c.args in
    put_next a.n (join_at a.joins.now) _ c.loop-from.from-index c.loop-from.weights _ _ c.requires.joinable.sound
    c.loop-from-test.true c.loop-from.invariant (rw (c.from.ensures, c.from-in-loop-from.ensures) refl) refl
