-- `put_table` meets its contract. The loop's invariant: the lines of the rows passed are put. Assumes nothing.
use native.Mathlib.Omega.{arith}
use Rattle.whole.specs.Table.{each}
use Rattle.report.specs.Steps.{table_line}
use Rattle.report.specs.Text.{numbered}
use Rattle.report.proofs.Puts.{put_each_none, put_numbered_next, put_numbered_all}
use Rattle.report.proofs.lines.put_table.Goals as goal

pub loop-r-init : goal.loop-r-init
loop-r-init c = put_each_none (λ row. each (table_line _ row) (numbered 8))

pub loop-r-preserved : goal.loop-r-preserved
loop-r-preserved c =
    put_numbered_next (λ row. each (table_line c.args.table.now row) (numbered 8)) {size = 768} 8 c.loop-r.r (omega arith)
    c.loop-r.invariant c.put_table_row-place.ensures

pub returns : goal.returns
returns c =
    put_numbered_all (λ row. each (table_line c.args.table.now row) (numbered 8)) 768 8 c.loop-r.r (omega arith) c.loop-r.invariant
