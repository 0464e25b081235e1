-- `mark_row` meets its contract. Assumes nothing.
use native.Mathlib.Omega.{arith}
use Rattle.whole.proofs.Table.{is_table}
use Rattle.kept.proofs.marking.mark_row.Goals as goal

pub returns : goal.returns
returns c = is_table _ _ 0 c.loop-j.marks c.loop-j.auto.marks (λ k p. c.loop-j.invariant.passed k (omega arith))
