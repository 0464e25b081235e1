use mathlib.Core.Path.{◌≡◌}
use Rattle.whole.specs.Sum.{sum}
use Rattle.whole.specs.Table.{at, pair_at}
use Rattle.account.specs.Measures.{local_of}
use Rattle.account.proofs.ranking.cross_sum.Given as goal

abbrev pub invariant-loop-i : goal.invariant-loop-i
invariant-loop-i l = l.acc ≡ sum (local_of (pair_at l.fn.weighed.weights.now l.fn.weighed.n) (at l.fn.weighed.d.now) l.fn.weighed.n) l.i
