-- `put_joins` meets its contract. The invariant: the bytes of the joins of the rows passed are put. Assumes nothing.
use mathlib.Core.Path.{ap, ◌∙◌}
use Prim.Native.Nat.{◌+◌, ◌*◌, ◌-◌}
use native.Mathlib.Omega.{arith}
use Rattle.whole.specs.Table.{each}
use Rattle.image.specs.Image.{join_bytes}
use Rattle.image.specs.Joins.{joins_of}
use Rattle.writer.proofs.Behind.{puts_none, puts_next, puts_room}
use Rattle.writer.proofs.Joins.{bytes_before, none_put, row_more, row_within}
use Rattle.writer.proofs.joining.put_joins.Goals as goal

pub loop-from-init : goal.loop-from-init
loop-from-init c =
    let a = c.args.table.now in
    puts_none _ (ap (bytes_before a.n 0 a.weights.now) {x = 0 * a.n} {y = 0} (omega arith) ∙ none_put a.n 0 a.weights.now)

pub put_row-requires-clause-room : goal.put_row-requires-clause-room
put_row-requires-clause-room c =
    let a = c.args.table.now in
    let from = c.loop-from.from in
    let m = from * a.n + a.n - from * a.n in
    let within = row_within a.n a.weights.now from m c.loop-from-test.true a.tabled.there (omega arith) in
    puts_room _ (each join_bytes (joins_of a.n a.weights.now)) c.loop-from.invariant within c.requires

pub loop-from-preserved : goal.loop-from-preserved
loop-from-preserved c =
    let a = c.args.table.now in
    let from = c.loop-from.from in
    let m = from * a.n + a.n - from * a.n in
    puts_next _ c.loop-from.invariant c.put_row.ensures (row_more a.n a.weights.now from m c.loop-from-test.true a.tabled.there (omega arith))
