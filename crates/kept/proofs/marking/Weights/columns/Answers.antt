-- `columns` meets its contract. Assumes nothing.
use mathlib.Core.Path.{◌∙◌}
use Rattle.whole.specs.Search.{some}
use Rattle.whole.specs.Table.{table}
use Rattle.whole.proofs.Table.{table_front}
use Rattle.kept.proofs.Marks.{marked_next}
use Rattle.kept.proofs.marking.Weights.columns.Goals as goal

pub loop-i-init : goal.loop-i-init
unfolding some table
loop-i-init c = table_front (λ j. 0) c.args.self.now.n 64 c.args.self.now.few

pub loop-i-preserved : goal.loop-i-preserved
loop-i-preserved c =
    let a = c.args in
    c.mark_row.ensures ∙ marked_next a.self.now.n a.self.now.rows.now c.loop-i.i _ _ c.row.ensures c.loop-i.invariant
