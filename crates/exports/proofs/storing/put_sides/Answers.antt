-- `put_sides` meets its contract: the number of each side is stored. Assumes nothing.
use Rattle.std.proofs.Common.{arith, get_or, length}
use Rattle.whole.proofs.Table.{is_table}
use Rattle.nearest.specs.Sides.{side_number}
use Rattle.nearest.specs.declared.Side.TheVariants.{Equal}
use Rattle.exports.specs.Floats.{side_numbers}
use Rattle.exports.proofs.storing.put_sides.Goals as goal

pub returns : goal.returns
unfolding side_numbers
returns c =
    let l = c.loop-i in
    let sides = c.args.sides.now in
    is_table (λ k. side_number (get_or sides k Equal)) (length sides) 0 l.numbers l.invariant.0
    (λ k p. l.invariant.1 k (omega (arith, l.invariant.0)))
