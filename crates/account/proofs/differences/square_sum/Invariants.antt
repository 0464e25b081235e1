use mathlib.Core.Path.{◌≡◌}
use Rattle.whole.specs.Integer.{square}
use Rattle.whole.specs.Sum.{sum}
use Rattle.whole.specs.Table.{at}
use Rattle.account.proofs.differences.square_sum.Given as goal

abbrev pub invariant-loop-value : goal.invariant-loop-value
invariant-loop-value l = l.acc ≡ sum (λ i. square (at l.fn.list.values.now i)) l.value-index
