use mathlib.Core.Path.{◌≡◌}
use Rattle.whole.specs.Table.{table}
use Rattle.image.specs.Joins.{weights_of}
use Rattle.reader.specs.Steps.{join_at}
use Rattle.reader.proofs.joining.put_joins.Given as goal

-- the weights are those of the joins passed
abbrev pub invariant-loop-from : goal.invariant-loop-from
invariant-loop-from l = l.weights ≡ weights_of l.n (table (join_at l.joins) l.from-index)
