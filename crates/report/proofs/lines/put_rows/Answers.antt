-- `put_rows` meets its contract. The loop's invariant: the lines of the classes passed are put. Assumes nothing.
use mathlib.Core.Path.{ap, ◌∙◌}
use Prim.Native.Nat.{suc, ◌+◌, ◌*◌, ◌<◌}
use native.Mathlib.Omega.{arith}
use borrow.Author.Rules.{rules}
use lib.IntN.{ℤ}
use lib.ListN.{length, take}
use mir.Syntax.{w64}
use mir.ValLaws.{to_z-of_z}
use Rattle.std.proofs.lemmas.List.{get_or_default}
use Rattle.whole.specs.Table.{each}
use Rattle.whole.proofs.Machine.{nat}
use Rattle.whole.proofs.Table.{table_held}
use Rattle.account.specs.Classes.{row_at}
use Rattle.account.specs.declared.ClassRow.{ClassRow}
use Rattle.coefficients.specs.FloatReport.{no_pair}
use Rattle.report.specs.Steps.{Put, row_line}
use Rattle.report.specs.Text.{numbered}
use Rattle.report.proofs.Puts.{put_as, put_each_none, put_numbered_next, put_numbered_all}
use Rattle.report.proofs.LineLaws.{row_text}
use Rattle.report.proofs.lines.put_rows.Goals as goal
use Rattle.report.proofs.lines.put_rows.Goals.{In-loop-k, After-put_field_line-place}

-- what a row holds
abbrev weight_in : ClassRow → ℤ
weight_in row = row.weight

abbrev cross_in : ClassRow → ℤ
cross_in row = row.cross

abbrev squares_in : ClassRow → ℤ
squares_in row = row.squares

-- the pair of a turn is there
known : (c : In-loop-k) → c.loop-k.k < length c.args.pairs
known c = search rules

-- the lines with that of the turn
turn :
    (c : After-put_field_line-place) →
    Put c.args.page.now c.put_field_line-place.new.page c.args.at c.put_field_line-place.result (129 * (c.loop-k.k + 1))
    (each (row_line c.args.rows.now c.args.pairs) (take (c.loop-k.k + 1) (numbered (suc c.args.last))))
turn c =
    let rows = c.args.rows.now in
    let k = c.loop-k.k in
    let class = (nat w64 k 8 (omega arith) tt).same in
    let row = table_held (row_at rows) 9 _ c.all-of_classes.result c.all-of_classes.ensures k (omega arith) in
    let pair = get_or_default c.args.pairs k _ _ (known ((goal.at.After-put_field_line-place c).In-loop-k)) in
    let put = put_as c.put_field_line-place.ensures (row_text rows c.args.pairs k class
    (to_z-of_z w64 _ (search rules) ∙ ap weight_in row) (to_z-of_z w64 _ (search rules) ∙ ap cross_in row)
    (to_z-of_z w64 _ (search rules) ∙ ap squares_in row) pair) in
    put_numbered_next (row_line _ _) {size = 129} (suc c.args.last) k (omega arith) c.loop-k.invariant put

pub loop-k-init : goal.loop-k-init
loop-k-init c = put_each_none (row_line _ _)

pub put_field_line-place-requires-clause-printable : goal.put_field_line-place-requires-clause-printable
put_field_line-place-requires-clause-printable c =
    let inside = known ((goal.at.put_field_line-place-requires-clause-printable c).In-loop-k) in
    rw (get_or_default c.args.pairs c.loop-k.k _ no_pair inside) (c.requires.readable_pairs c.loop-k.k inside)

pub loop-k-preserved : goal.loop-k-preserved
loop-k-preserved c = turn ((goal.at.loop-k-preserved c).After-put_field_line-place)

pub returns-2 : goal.returns-2
returns-2 c =
    put_numbered_all (row_line _ _) 129 (suc c.args.last) (c.loop-k.k + 1) (omega arith)
    (turn ((goal.at.returns-2 c).After-put_field_line-place))
