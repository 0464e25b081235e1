use Prim.Native.Nat.{◌*◌}
use lib.ListN.{take}
use Rattle.whole.specs.Table.{each}
use Rattle.report.specs.Steps.{Put, table_line}
use Rattle.report.specs.Text.{numbered}
use Rattle.report.proofs.lines.put_table_row.Given as goal

abbrev pub invariant-loop-s : goal.invariant-loop-s
invariant-loop-s l =
    Put l.initial.page l.page l.at l.place (96 * l.s) (each (table_line l.table l.r) (take l.s (numbered 8)))
