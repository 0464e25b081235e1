-- What the float report answers, with the local figures of the classes or without them, and what it leaves in its lent lists. Lists of
-- floats hold their bits; beside each stands a list of their sides. Assumes nothing.
use Rattle.std.specs.Prelude.{List, [], ◌∷◌, ℕ, ◌*◌, ℤ, length, Result, Ok, Err}
use Rattle.whole.specs.Rules.{first_broken, unless_refused}
use Rattle.whole.specs.Table.{table}
use Rattle.refusals.specs.declared.Refusal.{Refusal}
use Rattle.nearest.specs.declared.Side.{Side}
use Rattle.account.specs.Refusals.{job_spread}
use Rattle.account.specs.Answers.{listed, job_figures, job_locals}
use Rattle.account.specs.Classes.{class_sums, class_locals_of, class_rules}
use Rattle.coefficients.specs.Coefficients.{job_pair, class_pair, local_figures, local_sides}
use Rattle.coefficients.specs.declared.Coefficient.TheVariants.{Weightless}
use Rattle.coefficients.specs.declared.Pair.{Pair}
use Rattle.coefficients.specs.declared.Report.{Report}

-- ---- what an answer says, by its cases

-- the seven figures of the whole job, none where the call is refused
unfoldable pub sums_in : Result Report Refusal → List ℤ
sums_in (Ok report) = listed report.whole.sums
sums_in (Err refusal) = []

-- the pair of the whole job, none where the call is refused
unfoldable pub pair_in : Result Report Refusal → List Pair
pair_in (Ok report) = report.whole.pair ∷ []
pair_in (Err refusal) = []

-- a class that has no coefficient
abbrev pub no_pair : Pair
no_pair = record { moran = Weightless; geary = Weightless }

-- the pairs of the nine classes, of which none has a coefficient where the call is refused
unfoldable pub pairs_in : Result Report Refusal → List Pair
pairs_in (Ok report) = report.classes
pairs_in (Err refusal) = table (λ k. no_pair) 9

-- ---- what they must be, by the number of the refusal

-- the seven figures
abbrev pub sums_unless : ℕ → ℕ → List ℤ → List ℕ → List ℤ
sums_unless refusal n values weights = unless_refused refusal (job_figures n values weights) []

-- the global Moran and Geary
abbrev pub whole_unless : ℕ → ℕ → List ℤ → List ℕ → List Pair
whole_unless refusal n values weights = unless_refused refusal (job_pair n values weights ∷ []) []

-- the pair of each class
abbrev pub pairs_unless : ℕ → ℕ → List ℤ → List ℕ → List ℕ → List Pair
pairs_unless refusal n values weights classes =
    unless_refused refusal (table (class_pair n values weights classes) 9) (table (λ k. no_pair) 9)

-- the local Moran of each zone
abbrev pub figures_unless : ℕ → ℕ → List ℤ → List ℕ → List ℕ → List ℕ
figures_unless refusal n values weights figures =
    unless_refused refusal (local_figures (job_spread n values weights) (job_locals n values weights)) figures

-- the side of each
abbrev pub sides_unless : ℕ → ℕ → List ℤ → List ℕ → List Side → List Side
sides_unless refusal n values weights sides =
    unless_refused refusal (local_sides (job_spread n values weights) (job_locals n values weights)) sides

-- ---- with the local figures of the classes

-- the refusal, 0 where no rule is broken: 1 to 7, then 9, with the lengths of the four lent lists
unfoldable pub report_refusal : ℕ → List ℤ → List ℕ → List ℕ → List ℕ → List Side → List ℕ → List Side → ℕ
report_refusal n values weights classes figures sides parts part_sides =
    first_broken
    (class_rules n values weights classes
    ((length figures, n) ∷ (length sides, n) ∷ (length parts, 9 * n) ∷ (length part_sides, 9 * n) ∷ []))

module _ (n : ℕ) (values : List ℤ) (weights classes figures : List ℕ) (sides : List Side) (parts : List ℕ) (part_sides : List Side) where
  unfoldable pub report_sums : List ℤ
  report_sums = sums_unless (report_refusal n values weights classes figures sides parts part_sides) n values weights

  unfoldable pub report_whole : List Pair
  report_whole = whole_unless (report_refusal n values weights classes figures sides parts part_sides) n values weights

  unfoldable pub report_classes : List Pair
  report_classes = pairs_unless (report_refusal n values weights classes figures sides parts part_sides) n values weights classes

  unfoldable pub report_figures : List ℕ
  report_figures = figures_unless (report_refusal n values weights classes figures sides parts part_sides) n values weights figures

  unfoldable pub report_sides : List Side
  report_sides = sides_unless (report_refusal n values weights classes figures sides parts part_sides) n values weights sides

  -- the local Moran of each zone in each class, class by class
  unfoldable pub report_parts : List ℕ
  report_parts =
      unless_refused (report_refusal n values weights classes figures sides parts part_sides)
      (local_figures (job_spread n values weights) (class_locals_of n values weights classes))
      parts

  unfoldable pub report_part_sides : List Side
  report_part_sides =
      unless_refused (report_refusal n values weights classes figures sides parts part_sides)
      (local_sides (job_spread n values weights) (class_locals_of n values weights classes))
      part_sides

-- ---- without them, and with the whole numbers

-- the refusal: the same rules, with the lengths of the four lent lists
unfoldable pub plain_refusal : ℕ → List ℤ → List ℕ → List ℕ → List ℤ → List ℤ → List ℕ → List Side → ℕ
plain_refusal n values weights classes rows locals figures sides =
    first_broken
    (class_rules n values weights classes ((length rows, 27) ∷ (length locals, n) ∷ (length figures, n) ∷ (length sides, n) ∷ []))

module _ (n : ℕ) (values : List ℤ) (weights classes : List ℕ) (rows locals : List ℤ) (figures : List ℕ) (sides : List Side) where
  unfoldable pub plain_sums : List ℤ
  plain_sums = sums_unless (plain_refusal n values weights classes rows locals figures sides) n values weights

  unfoldable pub plain_whole : List Pair
  plain_whole = whole_unless (plain_refusal n values weights classes rows locals figures sides) n values weights

  unfoldable pub plain_classes : List Pair
  plain_classes = pairs_unless (plain_refusal n values weights classes rows locals figures sides) n values weights classes

  -- W, P and G of each class
  unfoldable pub plain_rows : List ℤ
  plain_rows = unless_refused (plain_refusal n values weights classes rows locals figures sides) (class_sums n values weights classes) rows

  -- the local numerators
  unfoldable pub plain_locals : List ℤ
  plain_locals = unless_refused (plain_refusal n values weights classes rows locals figures sides) (job_locals n values weights) locals

  unfoldable pub plain_figures : List ℕ
  plain_figures = figures_unless (plain_refusal n values weights classes rows locals figures sides) n values weights figures

  unfoldable pub plain_sides : List Side
  plain_sides = sides_unless (plain_refusal n values weights classes rows locals figures sides) n values weights sides
