use Prim.Native.Nat.{suc, ◌*◌}
use lib.ListN.{take}
use Rattle.whole.specs.Table.{each}
use Rattle.report.specs.Steps.{Put, row_line}
use Rattle.report.specs.Text.{numbered}
use Rattle.report.proofs.lines.put_rows.Given as goal

abbrev pub invariant-loop-k : goal.invariant-loop-k
invariant-loop-k l =
    Put l.initial.page l.page l.at l.place (129 * l.k) (each (row_line l.rows l.pairs) (take l.k (numbered (suc l.last))))
