use mathlib.Core.Path.{◌≡◌}
use lib.IntN.{pos, ◌*ℤ◌}
use Rattle.whole.specs.Sum.{sum}
use Rattle.whole.specs.Table.{at, pair_at}
use Rattle.account.proofs.deviations.neighbour_sum.Given as goal

abbrev pub invariant-loop-j : goal.invariant-loop-j
invariant-loop-j l = l.acc ≡ sum (λ t. pos (pair_at l.fn.weighed.weights.now l.fn.weighed.n l.i t) *ℤ at l.fn.weighed.d.now t) l.j
