use mathlib.Core.Path.{◌≡◌}
use Prim.Native.Nat.{ℕ, ◌<◌}
use lib.ListN.{get_or}
use Rattle.std.specs.List.{slice_get}
use Rattle.account.proofs.keeping.pick.Given as goal

abbrev pub invariant-loop-k : goal.invariant-loop-k
invariant-loop-k g l =
    (q : ℕ) → q < l.k → slice_get l.out q ≡ slice_get l.list (get_or l.fn.numbers q 0)
