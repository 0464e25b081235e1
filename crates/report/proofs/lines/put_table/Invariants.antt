use Prim.Native.Nat.{◌*◌}
use lib.ListN.{take}
use Rattle.whole.specs.Table.{each}
use Rattle.report.specs.Steps.{Put, table_line}
use Rattle.report.specs.Text.{numbered}
use Rattle.report.proofs.lines.put_table.Given as goal

abbrev pub invariant-loop-r : goal.invariant-loop-r
invariant-loop-r l =
    Put l.initial.page l.page l.at l.place (768 * l.r) (each (λ row. each (table_line l.table row) (numbered 8)) (take l.r (numbered 8)))
