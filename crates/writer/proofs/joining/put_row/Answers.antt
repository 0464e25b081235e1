-- `put_row` meets its contract. The invariant: the bytes of the joins passed are put. Assumes nothing.
use mathlib.Core.Path.{refl}
use Prim.Native.Nat.{◌*◌}
use native.Mathlib.Omega.{arith}
use lib.ListN.{length}
use Rattle.writer.specs.Steps.{row_bytes}
use Rattle.writer.proofs.Behind.{puts_none, puts_next, puts_room}
use Rattle.writer.proofs.Joins.{none_put, weight_more, weight_within}
use Rattle.writer.proofs.joining.put_row.Goals as goal

pub loop-to-init : goal.loop-to-init
loop-to-init c =
    let row = c.args.row.now in
    (omega arith, puts_none _ (none_put (length row) (c.args.from * length row) row))

pub put_join-requires-clause-room : goal.put_join-requires-clause-room
put_join-requires-clause-room c =
    let row = c.args.row.now in
    let from = c.args.from in
    let within = weight_within (length row) (from * length row) row c.loop-to.to from c.loop-to.to c.loop-to-test.true refl c.loop-to-test.true in
    puts_room _ (row_bytes from row) c.loop-to.invariant.1 within c.requires.room

pub loop-to-preserved : goal.loop-to-preserved
loop-to-preserved c =
    let row = c.args.row.now in
    let from = c.args.from in
    let more = weight_more (length row) (from * length row) row c.loop-to.to from c.loop-to.to c.loop-to-test.true refl c.loop-to-test.true in
    (omega arith, puts_next _ c.loop-to.invariant.1 c.put_join.ensures more)
