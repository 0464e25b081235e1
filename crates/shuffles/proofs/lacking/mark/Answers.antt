-- `mark` meets its contract. The loop's invariant: marked are the numbers passed. Assumes nothing.
use mathlib.Core.Path.{ap, ◌∙◌, sym}
use mathlib.Core.Bool.{Bool}
use Prim.Native.Nat.{ℕ, ◌<◌}
use native.Mathlib.Omega.{arith}
use lib.Dec.{eqb}
use lib.ListN.{length, get_or, length-set}
use Rattle.whole.specs.Search.{some}
use Rattle.whole.proofs.Search.{some_zero}
use Rattle.whole.proofs.Table.{is_table, table_length, table_held}
use Rattle.shuffles.specs.Steps.{mark_of}
use Rattle.shuffles.proofs.ShuffleList.{marked}
use Rattle.shuffles.proofs.lacking.mark.Goals as goal

pub loop-zone-init : goal.loop-zone-init
loop-zone-init c = (
  ap length c.requires ∙ table_length (λ k. 0) 256,
  λ k p. table_held (λ k. 0) 256 0 c.args.named.now c.requires k p ∙ ap mark_of (sym (some_zero _)),
)

pub loop-zone-preserved : goal.loop-zone-preserved
loop-zone-preserved c =
    let row : ℕ → ℕ = λ i. get_or c.args.row.now i 0 in
    let inv = c.loop-zone.invariant in
    let byte : row c.loop-zone.zone-index < 256 = omega (arith, c.type_inv.row c.loop-zone.zone-index) in
    rw c.from.ensures (simp length-set inv.0, marked row c.loop-zone.zone-index c.loop-zone.named inv.1 (omega (arith, inv.0)))

pub returns : goal.returns
returns c =
    let named : ℕ → ℕ → Bool = λ k m. some (λ i. eqb (get_or c.args.row.now i 0) k) m in
    is_table _ 256 0 c.loop-zone.named c.loop-zone.invariant.0
    (λ k p. c.loop-zone.invariant.1 k p ∙ ap (λ m. mark_of (named k m)) (omega arith))
