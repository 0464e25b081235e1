use mathlib.Core.Path.{◌≡◌}
use Prim.Native.Nat.{ℕ, ◌<◌}
use lib.ListN.{length, get_or}
use Rattle.whole.specs.Table.{at}
use Rattle.nearest.specs.Answers.{nearest_bits, nearest_side}
use Rattle.nearest.specs.declared.Side.TheVariants.{Equal}
use Rattle.coefficients.proofs.forming.put_figures.Given as goal

abbrev pub invariant-loop-i : goal.invariant-loop-i
invariant-loop-i l =
    ((k : ℕ) → k < l.i → get_or l.figures k 0 ≡ nearest_bits (at l.numerators k) l.spread)
    × ((k : ℕ) → k < l.i → get_or l.sides k Equal ≡ nearest_side (at l.numerators k) l.spread)
    × (length l.sides ≡ length l.numerators)
