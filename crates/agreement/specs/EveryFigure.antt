-- What the four calls on one job answer together, and what they leave in the twelve lists that they are lent. Assumes nothing.
use Rattle.std.specs.Prelude.{List, [], ◌∷◌, ℕ, ◌*◌, ℤ, length, Result, Ok, Err}
use Rattle.whole.specs.Rules.{first_broken, unless_refused}
use Rattle.whole.specs.Table.{table, at}
use Rattle.refusals.specs.declared.Refusal.{Refusal}
use Rattle.nearest.specs.declared.Side.{Side}
use Rattle.account.specs.Refusals.{job_spread}
use Rattle.kept.specs.Returned.{missing_count}
use Rattle.account.specs.Answers.{job_kept, job_figures, job_locals}
use Rattle.account.specs.Classes.{class_sums, class_locals_of, class_rules}
use Rattle.account.specs.declared.Sums.{Sums}
use Rattle.coefficients.specs.Coefficients.{job_pair, class_pair, local_figures, local_sides}
use Rattle.coefficients.specs.declared.Report.{Report}
use Rattle.agreement.specs.declared.Every.{Every}

-- ---- what is lent

-- the twelve lent lists
pub record Lent : Type 0 where
  -- to the account: for the local numerators
  pub locals : List ℤ
  -- to the class account: for the nine class rows, the local numerators of each class, and the job's own
  pub rows : List ℤ
  pub class_locals : List ℤ
  pub own : List ℤ
  -- to the float report: for the bits of the local Moran of each zone and its side, and for both of each zone in each class
  pub figures : List ℕ
  pub sides : List Side
  pub parts : List ℕ
  pub part_sides : List Side
  -- to the plain report: for the nine class rows, the local numerators, and the bits of the local Moran of each zone and its side
  pub plain_rows : List ℤ
  pub plain_locals : List ℤ
  pub plain_figures : List ℕ
  pub plain_sides : List Side

-- twelve lists by their names
abbrev pub lists :
    List ℤ → List ℤ → List ℤ → List ℤ → List ℕ → List Side → List ℕ → List Side → List ℤ → List ℤ → List ℕ → List Side → Lent
lists locals rows class_locals own figures sides parts part_sides plain_rows plain_locals plain_figures plain_sides = record {
  locals = locals;
  rows = rows;
  class_locals = class_locals;
  own = own;
  figures = figures;
  sides = sides;
  parts = parts;
  part_sides = part_sides;
  plain_rows = plain_rows;
  plain_locals = plain_locals;
  plain_figures = plain_figures;
  plain_sides = plain_sides;
}

-- their lengths, with those that they must have
abbrev pub lent_lengths : ℕ → Lent → List (ℕ × ℕ)
lent_lengths n lent =
    (length lent.locals, n)
    ∷ (length lent.rows, 27)
    ∷ (length lent.class_locals, 9 * n)
    ∷ (length lent.own, n)
    ∷ (length lent.figures, n)
    ∷ (length lent.sides, n)
    ∷ (length lent.parts, 9 * n)
    ∷ (length lent.part_sides, 9 * n)
    ∷ (length lent.plain_rows, 27)
    ∷ (length lent.plain_locals, n)
    ∷ (length lent.plain_figures, n)
    ∷ (length lent.plain_sides, n)
    ∷ []

-- ---- what is worked

-- the seven figures of a job, as a struct
unfoldable pub job_sums : ℕ → List ℤ → List ℕ → Sums
job_sums n values weights =
    let figures = job_figures n values weights in
    record {
      total = at figures 0;
      spread = at figures 1;
      weight = at figures 2;
      cross = at figures 3;
      squares = at figures 4;
      kept = job_kept n values weights;
      missing = missing_count values;
    }

-- the float report of a job
unfoldable pub job_report : ℕ → List ℤ → List ℕ → List ℕ → Report
job_report n values weights classes = record {
  whole = record { sums = job_sums n values weights; pair = job_pair n values weights };
  classes = table (class_pair n values weights classes) 9;
}

-- the four answers of a job
unfoldable pub job_answers : ℕ → List ℤ → List ℕ → List ℕ → Every
job_answers n values weights classes = record {
  account = job_sums n values weights;
  classes = job_sums n values weights;
  report = job_report n values weights classes;
  plain = job_report n values weights classes;
}

-- what the lists hold of a job
unfoldable pub job_lists : ℕ → List ℤ → List ℕ → List ℕ → Lent
job_lists n values weights classes = record {
  locals = job_locals n values weights;
  rows = class_sums n values weights classes;
  class_locals = class_locals_of n values weights classes;
  own = job_locals n values weights;
  figures = local_figures (job_spread n values weights) (job_locals n values weights);
  sides = local_sides (job_spread n values weights) (job_locals n values weights);
  parts = local_figures (job_spread n values weights) (class_locals_of n values weights classes);
  part_sides = local_sides (job_spread n values weights) (class_locals_of n values weights classes);
  plain_rows = class_sums n values weights classes;
  plain_locals = job_locals n values weights;
  plain_figures = local_figures (job_spread n values weights) (job_locals n values weights);
  plain_sides = local_sides (job_spread n values weights) (job_locals n values weights);
}

-- ---- the call

-- the four answers, none where the calls are refused
unfoldable pub answer_in : Result Every Refusal → List Every
answer_in (Ok every) = every ∷ []
answer_in (Err refusal) = []

module _ (n : ℕ) (values : List ℤ) (weights classes : List ℕ) (lent : Lent) where
  -- its refusal, 0 where no rule is broken: 1 to 7, then 9, with the lengths of the twelve lent lists
  unfoldable pub every_refusal : ℕ
  every_refusal = first_broken (class_rules n values weights classes (lent_lengths n lent))

  -- what it answers
  unfoldable pub every_answer : List Every
  every_answer = unless_refused every_refusal (job_answers n values weights classes ∷ []) []

  -- what the lent lists hold after it
  unfoldable pub every_left : Lent
  every_left = unless_refused every_refusal (job_lists n values weights classes) lent
