-- `put_having` meets its contract: what is told of the nine classes is stored. Assumes nothing.
use Rattle.std.proofs.Common.{arith}
use Rattle.whole.proofs.Table.{is_table}
use Rattle.exports.proofs.storing.put_having.Goals as goal

pub returns : goal.returns
returns c =
    let l = c.loop-k in
    is_table _ 9 0 l.has l.invariant.0 (λ i p. l.invariant.1 i (omega (arith, l.invariant.0, c.requires)))
