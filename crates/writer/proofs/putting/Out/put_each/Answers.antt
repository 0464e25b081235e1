-- `put_each` meets its contract. The loop's invariant: the bytes of the numbers passed are put. Assumes nothing.
use native.Mathlib.Omega.{arith}
use Rattle.whole.specs.Table.{each}
use Rattle.whole.proofs.Stores.{each_none}
use Rattle.writer.proofs.Behind.{puts_none, puts_next, puts_room, one_more, within}
use Rattle.writer.proofs.putting.Out.put_each.Goals as goal

pub loop-number-init : goal.loop-number-init
loop-number-init g c = (omega arith, puts_none _ (each_none g.N.Number.bytes))

pub put-requires : goal.put-requires
put-requires g c =
    let l = c.loop-number in
    let bytes = g.N.Number.bytes in
    let numbers = c.args.numbers.now in
    let x = c.number-item in
    puts_room (bytes x.result) (each bytes numbers) l.invariant.1
    (within bytes numbers l.number-index c.loop-number-test.true x.result x.is) c.requires

pub loop-number-preserved : goal.loop-number-preserved
loop-number-preserved g c =
    let l = c.loop-number in
    let bytes = g.N.Number.bytes in
    let x = c.number-item in
    let more = one_more bytes c.args.numbers.now l.number-index c.loop-number-test.true x.result x.is in
    (omega arith, puts_next (bytes x.result) l.invariant.1 c.put.ensures more)
