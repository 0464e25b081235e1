-- `plain_report` meets its contract: its own lists are judged, then the rest is judged and worked. Assumes nothing.
use mathlib.Core.Path.{◌≡◌, refl, sym}
use mathlib.Core.List.{List, [], ◌∷◌}
use Prim.Native.Nat.{ℕ}
use lib.ListN.{length}
use Rattle.std.proofs.lemmas.Result.{err_from_is_err_and}
use Rattle.std.proofs.Common.{rules}
use Rattle.whole.proofs.Rules.{sizes_hold}
use Rattle.refusals.proofs.Refusals.{not_refused}
use Rattle.coefficients.specs.FloatReport.{plain_refusal, plain_sums, plain_whole, plain_classes}
use Rattle.coefficients.specs.FloatReport.{plain_rows, plain_locals, plain_figures, plain_sides}
use Rattle.coefficients.specs.Steps.{rest_refusal}
use Rattle.coefficients.proofs.Answered.{refused, reports_same, lent_misfits, sizes_number, rest_number}
use Rattle.coefficients.proofs.plain_report.Goals as goal
use Rattle.coefficients.proofs.plain_report.Goals.{After-unwrap, In_ok-judge_lent, Start}

-- the four lists
abbrev lent : Start → List (ℕ × ℕ)
lent s =
    let a = s.args in
    (length a.rows.now, 27) ∷ (length a.locals.now, a.n) ∷ (length a.figures.now, a.n) ∷ (length a.sides.now, a.n) ∷ []

pub returns-in_err-judge_lent : goal.returns-in_err-judge_lent
unfolding plain_refusal plain_sums plain_whole plain_classes plain_rows plain_locals plain_figures plain_sides
returns-in_err-judge_lent c =
    let p = err_from_is_err_and c.from_residual.result c.from_residual.ensures.1 in
    let a = c.args in
    let l = lent ((goal.at.returns-in_err-judge_lent c).Start) in
    let few = lent_misfits a.n a.values.now a.weights.now a.classes.now l in
    let number = sizes_number a.n a.values.now a.weights.now a.classes.now l l _ few c.in_err-judge_lent.ensures (not_refused _) in
    let r = refused _ a.n a.values.now a.weights.now a.classes.now a.rows.now a.locals.now a.figures.now a.sides.now [] [] _ _ _ number refl refl in
    rw (p.1, p.2)
    (record {
      number = r.number;
      sums = r.sums;
      whole = r.whole;
      pairs = r.pairs;
      rows = r.in_rows;
      locals = r.in_locals;
      figures = r.in_figures;
      sides = r.in_sides;
    })

-- where the lists fit, the number is that of the rest
rest_is :
    (c : In_ok-judge_lent) →
    let a = c.args in
    rest_refusal a.n a.values.now a.weights.now a.classes.now
    ≡ plain_refusal a.n a.values.now a.weights.now a.classes.now a.rows.now a.locals.now a.figures.now a.sides.now
unfolding plain_refusal
rest_is c =
    let a = c.args in
    let l = lent ((goal.at.In_ok-judge_lent c).Start) in
    rest_number a.n a.values.now a.weights.now a.classes.now l (sizes_hold a.n l (sym c.in_ok-judge_lent.ensures)).fitting

-- the array of the 27 rows has what the list has
array_is : (c : After-unwrap) → c.unwrap.result.now ≡ c.args.rows.now
array_is c = search rules

pub returns : goal.returns
unfolding plain_sums plain_whole plain_classes plain_rows plain_locals plain_figures plain_sides
returns c =
    let r = reports_same (rest_is ((goal.at.returns c).In_ok-judge_lent)) c.report_sized.ensures in
    record {
      number = r.number;
      sums = r.sums;
      whole = r.whole;
      pairs = r.pairs;
      rows = let e = array_is ((goal.at.returns c).After-unwrap) in let left = r.in_rows in cc;
      locals = r.in_locals;
      figures = r.in_figures;
      sides = r.in_sides;
    }
