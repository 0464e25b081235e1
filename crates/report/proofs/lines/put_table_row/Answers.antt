-- `put_table_row` meets its contract. The loop's invariant: the lines of the entries passed are put. Assumes nothing.
use mathlib.Core.Path.{◌≡◌, ap, ◌∙◌}
use Prim.Native.Nat.{◌+◌, ◌*◌}
use native.Mathlib.Omega.{arith}
use borrow.Author.Rules.{rules}
use lib.ListN.{get_or}
use lib.IntN.{pos}
use mir.Syntax.{w64}
use mir.Val.{to_z, of_z}
use mir.ValLaws.{to_z-of_z}
use Rattle.whole.specs.Table.{at}
use Rattle.report.specs.Steps.{Put, table_line}
use Rattle.report.proofs.Puts.{put_none, put_as, put_each_none, put_numbered_next, put_numbered_all}
use Rattle.report.proofs.LineLaws.{read_back, table_text, no_table_text}
use Rattle.report.proofs.lines.put_table_row.Goals as goal
use Rattle.report.proofs.lines.put_table_row.Goals.{then-joins-gt0, else-joins-gt0, Joined-joins-gt0}

-- what a turn puts, with a line and without
turn :
    (c : Joined-joins-gt0) →
    Put c.loop-s.page c.if-joins-gt0.page c.loop-s.place c.if-joins-gt0.place 96 (table_line c.args.table.now c.args.r c.loop-s.s)
turn c =
    let table = c.args.table.now in
    let r = c.args.r in
    let s = c.loop-s.s in
    let joins : to_z w64 (of_z w64 (get_or table c.from.result (pos 0))) ≡ at table (r * 8 + s) =
    to_z-of_z w64 (get_or table c.from.result (pos 0)) (search rules) ∙ ap (at table) c.from.ensures in
    elim c.if-joins-gt0.branch [
      | then-joins-gt0 w ↦
          let row = read_back w.from-then-joins-gt0.type_inv w.from-then-joins-gt0.ensures in
          let column = read_back w.from-then-joins-gt0-2.type_inv w.from-then-joins-gt0-2.ensures in
          rw (w.page-is, w.place-is) (put_as w.put_line-place.ensures (table_text table r s row column joins w.if-joins-gt0.true))
      | else-joins-gt0 w ↦ rw (w.page-is, w.place-is) (put_as put_none (no_table_text table r s joins w.if-joins-gt0.false))
    ]

pub loop-s-init : goal.loop-s-init
loop-s-init c = put_each_none (table_line _ _)

pub loop-s-preserved : goal.loop-s-preserved
loop-s-preserved c = put_numbered_next (table_line _ _) {size = 96} 8 c.loop-s.s (omega arith) c.loop-s.invariant (turn c)

pub returns : goal.returns
returns c = put_numbered_all (table_line _ _) 96 8 c.loop-s.s (omega arith) c.loop-s.invariant
