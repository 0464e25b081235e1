-- `put_figures` meets its contract. The loop's invariant: the figures of the numerators passed are stored, and their sides. Assumes nothing.
use mathlib.Core.Path.{ap, ◌∙◌}
use native.Mathlib.Omega.{arith}
use lib.ListN.{length}
use mir.Syntax.{w64}
use mir.ValLaws.{to_z-of_z}
use Rattle.whole.specs.Table.{at}
use Rattle.whole.proofs.Table.{is_table}
use Rattle.nearest.specs.Answers.{nearest_bits, nearest_side}
use Rattle.nearest.specs.declared.Side.TheVariants.{Equal}
use Rattle.nearest.proofs.Theorems.{not_nan}
use Rattle.coefficients.specs.Coefficients.{local_figures, local_sides}
use Rattle.coefficients.proofs.forming.put_figures.Goals as goal

-- the nearest float is no NaN, so that its bits are its own
pub float_to_bits-figure : goal.float_to_bits-figure
float_to_bits-figure c = rw c.ratio-local.ensures (not_nan _ _)

pub returns : goal.returns
unfolding local_figures local_sides
returns c =
    let spread = to_z-of_z w64 c.args.spread c.ranges.spread in
    let l = c.args.numerators.now in
    let done = c.loop-i.invariant in
    record {
      figures_after = is_table (λ k. nearest_bits (at l k) c.args.spread) (length l) 0 c.loop-i.figures (omega arith)
          (λ k p. done.0 k (omega arith) ∙ ap (nearest_bits (at l k)) spread);
      sides_after = is_table (λ k. nearest_side (at l k) c.args.spread) (length l) Equal c.loop-i.sides done.2
          (λ k p. done.1 k (omega arith) ∙ ap (nearest_side (at l k)) spread);
    }
