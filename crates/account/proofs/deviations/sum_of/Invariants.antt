use mathlib.Core.Path.{◌≡◌}
use Rattle.whole.specs.Sum.{sum}
use Rattle.whole.specs.Table.{at}
use Rattle.account.proofs.deviations.sum_of.Given as goal

abbrev pub invariant-loop-local : goal.invariant-loop-local
invariant-loop-local l = l.acc ≡ sum (at l.locals) l.local-index
