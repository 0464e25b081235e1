use Rattle.std.proofs.Common.{◌≡◌, ◌<◌, length, get_or, ℕ}
use Rattle.nearest.specs.Sides.{side_number}
use Rattle.nearest.specs.declared.Side.TheVariants.{Equal}
use Rattle.exports.proofs.storing.put_sides.Given as goal

abbrev pub invariant-loop-i : goal.invariant-loop-i
invariant-loop-i l =
    (length l.numbers ≡ length l.sides) × ((k : ℕ) → k < l.i → get_or l.numbers k 0 ≡ side_number (get_or l.sides k Equal))
