-- Demand 3 at a glance: what holds of whatever the account, the class account and the float report, whole and plain, answer of one accepted
-- job under one assignment of classes, and of what they leave in the lists that they are lent. Assumes nothing.
use Rattle.std.specs.Prelude.{◌≡◌, List, ℕ, ◌+◌, ◌*◌, ◌-◌, ◌≤◌, ◌<◌, ℤ, pos, ◌*ℤ◌, get_or, ◌≤ℤ◌}
use Rattle.std.specs.Float.{binary64}
use Rattle.std.specs.Float.Ieee.{to_bits}
use Rattle.whole.specs.Sum.{sum}
use Rattle.whole.specs.Table.{at}
use Rattle.nearest.specs.Nearest.{IsNearest}
use Rattle.nearest.specs.Sides.{side_of}
use Rattle.nearest.specs.declared.Side.{Side}
use Rattle.nearest.specs.declared.Side.TheVariants.{Equal}
use Rattle.account.specs.Classes.{row_at}
use Rattle.account.specs.declared.ClassRow.{ClassRow}
use Rattle.account.specs.declared.Sums.{Sums}
use Rattle.coefficients.specs.FloatReport.{no_pair}
use Rattle.coefficients.specs.declared.Coefficient.{Coefficient}
use Rattle.coefficients.specs.declared.Coefficient.TheVariants.{Figure, Weightless}
use Rattle.coefficients.specs.declared.Pair.{Pair}
use Rattle.agreement.specs.EveryFigure.{Lent}
use Rattle.agreement.specs.declared.Every.{Every}

-- the coefficient is there, it is the 64-bit float nearest to p / q, and its side is the true side of p / q that this float lies on
abbrev pub Shows : ℤ → ℤ → Coefficient → Type 0
Shows p q (Figure x side) = IsNearest p q (to_bits binary64 x) × (side ≡ side_of p q (to_bits binary64 x))
Shows p q Weightless = ⊥

-- a job or a class with the sums W, P, G of the row has its pair exactly when its W is above 0: both coefficients or neither
pub record HasPair (n : ℕ) (spread : ℤ) (row : ClassRow) (pair : Pair) : Type 0 where
  pub moran : pos 1 ≤ℤ row.weight → Shows row.cross (row.weight *ℤ spread) pair.moran
  pub geary : pos 1 ≤ℤ row.weight → Shows (pos ((n - 1) * n) *ℤ row.squares) ((pos 2 *ℤ row.weight) *ℤ spread) pair.geary
  pub none : (pos 1 ≤ℤ row.weight → ⊥) → pair ≡ no_pair

-- the i-th of a list of floats, which holds their bits, is the nearest to L / M, and the i-th of a list of sides is the true side of L / M that
-- this float lies on
abbrev pub LocalFigure : ℤ → ℤ → List ℕ → List Side → ℕ → Type 0
LocalFigure numerator spread figures sides i =
    IsNearest numerator spread (get_or figures i 0) × (get_or sides i Equal ≡ side_of numerator spread (get_or figures i 0))

pub record Demand3 (n : ℕ) (out : Every) (after : Lent) : Type 0 where
  -- the account answers its sums, the class account the same, and the report the same with their pair; two zones at least are kept, of
  -- those whose value is returned, and their number is the n of the ratios
  pub sums : Sums
  pub pair : Pair
  pub accounted : out.account ≡ sums
  pub classed : out.classes ≡ sums
  pub reported : out.report.whole ≡ record { sums = sums; pair = pair }
  pub kept : (2 ≤ sums.kept) × (sums.kept + sums.missing ≤ n)
  -- the whole job has weight and its pair; each zone its local figure and its side
  pub weight : pos 1 ≤ℤ sums.weight
  pub whole : HasPair sums.kept sums.spread (record { weight = sums.weight; cross = sums.cross; squares = sums.squares }) pair
  pub local : (i : ℕ) → i < n → LocalFigure (at after.locals i) sums.spread after.figures after.sides i
  -- each class has its pair exactly when it has weight; each zone its local figure and its side in each class, always
  pub class : (k : ℕ) → k < 9 → HasPair sums.kept sums.spread (row_at after.rows k) (get_or out.report.classes k no_pair)
  pub class_local :
      (k i : ℕ) → k < 9 → i < n → LocalFigure (at after.class_locals (k * n + i)) sums.spread after.parts after.part_sides (k * n + i)
  -- the local numerators of the job, and of each class, add up to its numerator; those of a zone over the nine classes to the zone's own
  pub locals_add_up : sum (at after.locals) n ≡ sums.cross
  pub class_locals_add_up : (k : ℕ) → k < 9 → sum (λ i. at after.class_locals (k * n + i)) n ≡ (row_at after.rows k).cross
  pub zone_adds_up : (i : ℕ) → i < n → sum (λ k. at after.class_locals (k * n + i)) 9 ≡ at after.locals i
  -- the nine classes, unclassed pairs included, add up to the global weight, numerator and squared differences
  pub weights_add_up : sum (λ k. (row_at after.rows k).weight) 9 ≡ sums.weight
  pub numerators_add_up : sum (λ k. (row_at after.rows k).cross) 9 ≡ sums.cross
  pub squares_add_up : sum (λ k. (row_at after.rows k).squares) 9 ≡ sums.squares
  -- the job's own local numerators are the same from the class account
  pub own : after.own ≡ after.locals
  -- the plain report answers what the float report does, and leaves the same whole numbers, local figures and sides
  pub plain : out.plain ≡ out.report
  pub plain_rows : after.plain_rows ≡ after.rows
  pub plain_locals : after.plain_locals ≡ after.locals
  pub plain_figures : after.plain_figures ≡ after.figures
  pub plain_sides : after.plain_sides ≡ after.sides
