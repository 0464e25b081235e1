use mathlib.Core.Path.{◌≡◌}
use Prim.Native.Nat.{ℕ, ◌<◌}
use Rattle.whole.specs.Table.{at, pair_at}
use Rattle.account.specs.Measures.{local_of}
use Rattle.account.proofs.deviations.local_numerators.Given as goal

abbrev pub invariant-loop-i : goal.invariant-loop-i
invariant-loop-i l =
    (k : ℕ) → k < l.i → at l.locals k ≡ local_of (pair_at l.fn.weighed.weights.now l.fn.weighed.n) (at l.fn.weighed.d.now) l.fn.weighed.n k
