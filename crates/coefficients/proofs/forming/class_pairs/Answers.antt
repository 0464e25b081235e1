-- `class_pairs` meets its contract: the rows are those of the list. Assumes nothing.
use mir.Syntax.{w64}
use Rattle.std.proofs.lemmas.Int.{to_z-of_z}
use Rattle.coefficients.proofs.NineRows.{rows_formable, rows_paired}
use Rattle.coefficients.proofs.forming.class_pairs.Goals as goal

pub row_pairs-requires : goal.row_pairs-requires
row_pairs-requires c =
    rw (to_z-of_z w64 c.args.spread c.ranges.spread) (rows_formable c.args.n c.args.spread c.args.rows.now c.all.result c.all.ensures c.requires)

pub returns : goal.returns
returns c =
    rows_paired c.args.n c.args.spread c.args.rows.now c.all.result c.all.ensures c.row_pairs.result
    (rw (to_z-of_z w64 c.args.spread c.ranges.spread) at c.row_pairs.ensures)
