-- The coefficients of a job and of its classes, from the whole numbers of the account. Assumes nothing.
use Rattle.std.specs.Prelude.{cond, List, ℕ, ◌*◌, ◌-◌, ℤ, pos, ◌*ℤ◌, length}
use Rattle.whole.specs.Integer.{is_zero}
use Rattle.whole.specs.Table.{table, at}
use Rattle.nearest.specs.Answers.{nearest_float, nearest_bits, nearest_side}
use Rattle.nearest.specs.declared.Side.{Side}
use Rattle.account.specs.Refusals.{job_spread}
use Rattle.account.specs.Answers.{job_kept, job_row}
use Rattle.account.specs.Classes.{class_row_of}
use Rattle.account.specs.declared.ClassRow.{ClassRow}
use Rattle.coefficients.specs.declared.Coefficient.{Coefficient}
use Rattle.coefficients.specs.declared.Coefficient.TheVariants.{Figure, Weightless}
use Rattle.coefficients.specs.declared.Pair.{Pair}

-- the nearest float to p / q, and which way it was rounded, where the weight W is above 0; where it is 0 there is no coefficient
unfoldable pub coefficient : ℤ → ℤ → ℤ → Coefficient
coefficient weight p q = cond (is_zero weight) Weightless (Figure (nearest_float p q) (nearest_side p q))

-- Moran's I = P / (W × M) and Geary's c = ((n − 1) × n × G) / (2 × W × M), of the sums W, P and G in a class row
unfoldable pub pair_of : ℕ → ℤ → ClassRow → Pair
pair_of n spread row = record {
  moran = coefficient row.weight row.cross (row.weight *ℤ spread);
  geary = coefficient row.weight (pos ((n - 1) * n) *ℤ row.squares) ((pos 2 *ℤ row.weight) *ℤ spread);
}

-- of the whole job, and of class k, whose M is the whole job's; n is the number of zones kept
unfoldable pub job_pair : ℕ → List ℤ → List ℕ → Pair
job_pair n values weights = pair_of (job_kept n values weights) (job_spread n values weights) (job_row n values weights)

unfoldable pub class_pair : ℕ → List ℤ → List ℕ → List ℕ → ℕ → Pair
class_pair n values weights classes k =
    pair_of (job_kept n values weights) (job_spread n values weights) (class_row_of n values weights classes k)

-- the bits of the local Moran L / M of each local numerator of a list
unfoldable pub local_figures : ℤ → List ℤ → List ℕ
local_figures spread numerators = table (λ i. nearest_bits (at numerators i) spread) (length numerators)

-- the side of L / M that each of these floats lies on
unfoldable pub local_sides : ℤ → List ℤ → List Side
local_sides spread numerators = table (λ i. nearest_side (at numerators i) spread) (length numerators)
