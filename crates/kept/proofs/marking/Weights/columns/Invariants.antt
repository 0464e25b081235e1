use mathlib.Core.Path.{◌≡◌}
use Rattle.whole.specs.Table.{table}
use Rattle.kept.specs.Steps.{column_mark}
use Rattle.kept.proofs.marking.Weights.columns.Given as goal

-- marked are the columns that hold weight in the rows passed
abbrev pub invariant-loop-i : goal.invariant-loop-i
invariant-loop-i l = l.marks ≡ table (column_mark l.self.n l.self.rows.now l.i) l.self.n
