-- `put_marks` meets its contract. Assumes nothing.
use mathlib.Core.Path.{◌∙◌}
use native.Mathlib.Omega.{arith}
use Rattle.whole.proofs.Table.{is_table}
use Rattle.kept.proofs.keeping.put_marks.Goals as goal

pub returns : goal.returns
returns c = is_table _ _ 0 c.loop-i.marks (c.loop-i.auto.marks ∙ c.requires) (λ k p. c.loop-i.invariant k (omega arith))
