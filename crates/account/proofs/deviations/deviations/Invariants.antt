use mathlib.Core.Path.{◌≡◌}
use Prim.Native.Nat.{ℕ, ◌<◌}
use Rattle.whole.specs.Table.{at}
use Rattle.account.specs.Measures.{deviation_of}
use Rattle.account.proofs.deviations.deviations.Given as goal

abbrev pub invariant-loop-i : goal.invariant-loop-i
invariant-loop-i l = (k : ℕ) → k < l.i → at l.d k ≡ deviation_of (at l.fn.summed.list.values.now) l.fn.summed.list.n k
