use mathlib.Core.Path.{◌≡◌}
use Rattle.whole.specs.Sum.{sum}
use Rattle.whole.specs.Table.{at}
use Rattle.account.proofs.deviations.total.Given as goal

abbrev pub invariant-loop-x : goal.invariant-loop-x
invariant-loop-x l = l.acc ≡ sum (at l.fn.list.values.now) l.x-index
