use mathlib.Core.Path.{◌≡◌}
use mathlib.Core.Bool.{cond, ◌||◌}
use Prim.Native.Nat.{ℕ, ◌<◌}
use lib.ListN.{get_or}
use Rattle.whole.specs.Integer.{equal}
use Rattle.judges.specs.Values.{not_returned, missing}
use Rattle.kept.proofs.returned.reduce_row.Given as goal

-- the weights of the zones passed are written
abbrev pub invariant-loop-j : goal.invariant-loop-j
invariant-loop-j l =
    (k : ℕ) → k < l.j → get_or l.row k 0 ≡ cond (equal l.own not_returned || missing l.values k) 0 (get_or l.weights k 0)
