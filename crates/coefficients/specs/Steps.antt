-- What the private functions ask of each other; no part of the public promise. Assumes nothing.
use Rattle.std.specs.Prelude.{◌≡◌, not, List, [], ℕ, ◌*◌, ◌-◌, ◌≤◌, ◌<◌, T, ℤ, pos, nat_abs, ◌*ℤ◌, length, get_or, take, ◌≤ℤ◌, Result}
use Rattle.std.specs.Float.Ieee.{is_nan}
use Rattle.whole.specs.Rules.{first_broken, unless_refused, ratio_limit}
use Rattle.whole.specs.Table.{at}
use Rattle.refusals.specs.declared.Refusal.{Refusal}
use Rattle.nearest.specs.declared.Side.{Side}
use Rattle.refusals.specs.Refusals.{number_of}
use Rattle.account.specs.Refusals.{job_spread}
use Rattle.account.specs.Answers.{job_locals}
use Rattle.account.specs.Classes.{row_at, class_sums, class_locals_of, class_rules}
use Rattle.account.specs.declared.ClassRow.{ClassRow}
use Rattle.account.specs.declared.Sums.{Sums}
use Rattle.coefficients.specs.Coefficients.{local_figures, local_sides}
use Rattle.coefficients.specs.FloatReport.{sums_in, pair_in, pairs_in, no_pair}
use Rattle.coefficients.specs.FloatReport.{sums_unless, whole_unless, pairs_unless, figures_unless, sides_unless}
use Rattle.coefficients.specs.declared.Coefficient.{Coefficient}
use Rattle.coefficients.specs.declared.Coefficient.TheVariants.{Figure, Weightless}
use Rattle.coefficients.specs.declared.Pair.{Pair}
use Rattle.coefficients.specs.declared.Report.{Report}

-- p over q, which part 2 does not refuse
pub record Ratio (p q : ℤ) : Type 0 where
  pub one : pos 1 ≤ℤ q
  pub divisor : nat_abs q ≤ ratio_limit
  pub numerator : nat_abs p ≤ ratio_limit

-- the spread of up to 64 zones, and sums from which coefficients can be formed
pub record Formable (n : ℕ) (spread : ℤ) (row : ClassRow) : Type 0 where
  pub two : 2 ≤ n
  pub zones : n ≤ 64
  pub varied : pos 1 ≤ℤ spread
  pub spread_limit : nat_abs spread ≤ ratio_limit
  pub weight_above : row.weight ≡ pos (nat_abs row.weight)
  pub moran_numerator : nat_abs row.cross ≤ ratio_limit
  pub moran_divisor : nat_abs (row.weight *ℤ spread) ≤ ratio_limit
  pub geary_numerator : nat_abs (pos ((n - 1) * n) *ℤ row.squares) ≤ ratio_limit
  pub geary_divisor : nat_abs ((pos 2 *ℤ row.weight) *ℤ spread) ≤ ratio_limit

-- the nine class rows
abbrev pub FormableRows : ℕ → ℤ → List ℤ → Type 0
FormableRows n spread rows = (k : ℕ) → k < 9 → Formable n spread (row_at rows k)

-- the k-th of some class rows
abbrev pub nth_row : List ClassRow → ℕ → ClassRow
nth_row rows k = get_or rows k (row_at [] 0)

-- local numerators, and the spread that divides them
pub record Numerators (spread : ℤ) (numerators : List ℤ) : Type 0 where
  pub few : length numerators ≤ 576
  pub each : (k : ℕ) → k < length numerators → Ratio (at numerators k) spread

-- W, P and G of the whole job, in its sums
abbrev pub whole_row : Sums → ClassRow
whole_row sums = record { weight = sums.weight; cross = sums.cross; squares = sums.squares }

-- what the class account of an accepted job answered and left: the sums, the nine rows, and the local numerators of each class and of the
-- job
pub record Reportable (sums : Sums) (rows class_locals_of locals : List ℤ) : Type 0 where
  pub whole : Formable sums.kept sums.spread (whole_row sums)
  pub numerators : Numerators sums.spread locals
  pub class_rows : FormableRows sums.kept sums.spread rows
  pub class_numerators : Numerators sums.spread class_locals_of

-- ---- what a call answers

-- lists that the report's work can be lent
pub record Lists (n : ℕ) (class_locals_of locals : List ℤ) (figures : List ℕ) (sides : List Side) (parts : List ℕ)
    (part_sides : List Side) : Type 0 where
  pub zones : n ≤ 64
  pub class_locals_fit : length class_locals_of ≡ 9 * n
  pub locals_fit : length locals ≡ n
  pub figures_fit : length figures ≡ n
  pub sides_fit : length sides ≡ n
  pub parts_few : length parts ≤ 9 * n
  pub part_sides_fit : length part_sides ≡ length parts

-- the refusal of a job and its classes, where the lists that the call is lent fit
abbrev pub rest_refusal : ℕ → List ℤ → List ℕ → List ℕ → ℕ
rest_refusal n values weights classes = first_broken (class_rules n values weights classes [])

-- what a call whose refusal has this number promises of its answer r, and of the lists that it leaves of those that it was lent: `parts` for
-- the local figures of the classes, as many as it has places, and `part_sides` for their sides
pub record Reports (refusal n : ℕ) (values : List ℤ) (weights classes : List ℕ) (rows locals : List ℤ) (figures : List ℕ) (sides : List Side)
    (parts : List ℕ) (part_sides : List Side) (r : Result Report Refusal) (rows_left locals_left : List ℤ) (figures_left : List ℕ)
    (sides_left : List Side) (parts_left : List ℕ) (part_sides_left : List Side) : Type 0 where
  pub number : number_of r ≡ refusal
  pub sums : sums_in r ≡ sums_unless refusal n values weights
  pub whole : pair_in r ≡ whole_unless refusal n values weights
  pub pairs : pairs_in r ≡ pairs_unless refusal n values weights classes
  pub in_rows : rows_left ≡ unless_refused refusal (class_sums n values weights classes) rows
  pub in_locals : locals_left ≡ unless_refused refusal (job_locals n values weights) locals
  pub in_figures : figures_left ≡ figures_unless refusal n values weights figures
  pub in_sides : sides_left ≡ sides_unless refusal n values weights sides
  pub in_parts :
      parts_left
      ≡ unless_refused refusal
      (local_figures (job_spread n values weights) (take (length parts) (class_locals_of n values weights classes)))
      parts
  pub in_part_sides :
      part_sides_left
      ≡ unless_refused refusal
      (local_sides (job_spread n values weights) (take (length parts) (class_locals_of n values weights classes)))
      part_sides

-- ---- a coefficient whose bits can be read

abbrev pub Readable : Coefficient → Type 0
Readable (Figure x side) = T (not (is_nan x))
Readable Weightless = Unit

pub record ReadablePair (pair : Pair) : Type 0 where
  pub of_moran : Readable pair.moran
  pub of_geary : Readable pair.geary

abbrev pub ReadablePairs : List Pair → Type 0
ReadablePairs pairs = (k : ℕ) → k < length pairs → ReadablePair (get_or pairs k no_pair)
