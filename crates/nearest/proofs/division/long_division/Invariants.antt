use mathlib.Core.Path.{◌≡◌}
use Prim.Native.Nat.{◌+◌, ◌*◌, ◌-◌, ◌^◌, ◌<◌}
use Rattle.nearest.proofs.division.long_division.Given as goal

abbrev pub invariant-loop-x : goal.invariant-loop-x
invariant-loop-x l =
    (l.x.whole * l.divisor + l.x.rest ≡ l.a * 2 ^ l.x.halvings)
    × (l.x.rest < l.divisor)
    × (l.x.whole < 2 ^ 53)
    × (l.x.halvings < 116)

abbrev pub decreases-loop-x : goal.decreases-loop-x
decreases-loop-x l = 116 - l.x.halvings
