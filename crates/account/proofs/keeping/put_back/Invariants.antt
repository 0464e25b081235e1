use mathlib.Core.Path.{◌≡◌}
use Prim.Native.Nat.{ℕ, ◌<◌}
use lib.ListN.{length}
use Rattle.whole.specs.Table.{at}
use Rattle.account.specs.Steps.{at_place}
use Rattle.account.proofs.keeping.put_back.Given as goal

abbrev pub invariant-loop-i : goal.invariant-loop-i
invariant-loop-i l =
    (k : ℕ) → k < l.i → at l.out k ≡ at_place l.places (length l.numbers) (at l.numbers) k
