-- `report_sized` meets its contract: the class account judges and works, then the figures are formed. Assumes nothing.
use mathlib.Core.Path.{◌≡◌, sym, ap, ◌∙◌}
use mathlib.Core.List.{List, []}
use Prim.Native.Nat.{ℕ}
use native.Mathlib.Omega.{arith}
use lib.IntN.{ℤ}
use lib.ListN.{length}
use Rattle.std.proofs.lemmas.Result.{err_from_is_err_and}
use Rattle.refusals.proofs.Refusals.{left_by, worked_by}
use Rattle.refusals.specs.declared.Refusal.{Refusal}
use Rattle.refusals.specs.Refusals.{number_by}
use Rattle.account.specs.Answers.{listed, job_figures, job_locals}
use Rattle.account.specs.Classes.{class_sums, class_locals_of, class_refusal}
use Rattle.account.specs.Classes.{class_account_rows, class_account_locals, class_account_own}
use Rattle.account.specs.declared.Sums.{Sums}
use Rattle.account.proofs.Theorems.{job_locals_length}
use Rattle.account.proofs.ClassAnswered.{class_accounted}
use Rattle.account.proofs.ClassTheorems.{class_locals_length}
use Rattle.coefficients.specs.Steps.{Reportable, rest_refusal}
use Rattle.coefficients.proofs.Answered.{refused, reported, account_number}
use Rattle.coefficients.proofs.Job.{reportable}
use Rattle.coefficients.proofs.working.report_sized.Goals as goal
use Rattle.coefficients.proofs.working.report_sized.Goals.{After-class_account, In_ok-sums}

-- the same by other names
reportable_same :
    {sums : Sums} {rows rows' of_classes of_classes' locals locals' : List ℤ} →
    rows' ≡ rows → of_classes' ≡ of_classes → locals' ≡ locals →
    Reportable sums rows of_classes locals → Reportable sums rows' of_classes' locals'
reportable_same e f g r = rw (e, f, g) r

-- the call's lists, and its number, which is that of what is left to judge
module _ (c : After-class_account) where
  abbrev n : ℕ
  n = c.args.n

  abbrev values : List ℤ
  values = c.args.values.now

  abbrev weights : List ℕ
  weights = c.args.weights.now

  abbrev classes : List ℕ
  classes = c.args.classes.now

  abbrev refusal : ℕ
  refusal = class_refusal n values weights classes c.args.rows.now c.args.class_locals.now c.args.locals.now

  rest_is : refusal ≡ rest_refusal n values weights classes
  rest_is =
      account_number n values weights classes c.args.rows.now c.args.class_locals.now c.args.locals.now c.told-rows
      c.requires.class_locals_fit c.requires.locals_fit

  -- where there is one, the lists are as they were
  module _ (k : Refusal) (e : number_by k ≡ refusal) where
    rows_kept : c.class_account.new.rows ≡ c.args.rows.now
    unfolding class_account_rows
    rows_kept = c.class_account.ensures.rows ∙ left_by _ _ _ k e

    locals_kept : c.class_account.new.locals ≡ c.args.locals.now
    unfolding class_account_own
    locals_kept = c.class_account.ensures.own ∙ left_by _ _ _ k e

-- where there is none, they hold the job's
module _ (c : In_ok-sums) where
  abbrev b : After-class_account
  b = (goal.at.In_ok-sums c).After-class_account

  none : 0 ≡ refusal b
  none = c.in_ok-sums.ensures.number

  taken : rest_refusal (n b) (values b) (weights b) (classes b) ≡ 0
  taken = sym (none ∙ rest_is b)

  sums_known : listed c.in_ok-sums.sums ≡ job_figures (n b) (values b) (weights b)
  sums_known = (class_accounted _ _ _ _ _ _ _ _ c.class_account.ensures.number c.class_account.ensures.figures _ c.in_ok-sums.was).1

  rows_left : c.class_account.new.rows ≡ class_sums (n b) (values b) (weights b) (classes b)
  unfolding class_account_rows
  rows_left = c.class_account.ensures.rows ∙ worked_by _ _ _ none

  numerators_left : c.class_account.new.class_locals ≡ class_locals_of (n b) (values b) (weights b) (classes b)
  unfolding class_account_locals
  numerators_left = c.class_account.ensures.numerators ∙ worked_by _ _ _ none

  locals_left : c.class_account.new.locals ≡ job_locals (n b) (values b) (weights b)
  unfolding class_account_own
  locals_left = c.class_account.ensures.own ∙ worked_by _ _ _ none

pub returns-in_err-sums : goal.returns-in_err-sums
returns-in_err-sums c =
    let p = err_from_is_err_and c.from_residual.result c.from_residual.ensures.1 in
    let t = (goal.at.returns-in_err-sums c).After-class_account in
    let e = c.in_err-sums.ensures.number in
    rw (p.1, p.2) (refused _ _ _ _ _ _ _ _ _ _ _ _ _ _ (e ∙ rest_is t) (rows_kept t _ e) (locals_kept t _ e))

pub report_job-requires : goal.report_job-requires
report_job-requires c =
    let t = (goal.at.report_job-requires c).In_ok-sums in
    let a = c.args in
    let many = ap length (locals_left t) ∙ job_locals_length a.n a.values.now a.weights.now in
    let job = reportable a.n a.values.now a.weights.now a.classes.now [] (taken t) _ (sums_known t) in
    record {
      reportable = reportable_same (rows_left t) (numerators_left t) (locals_left t) job;
      figures_len = c.requires.figures_fit ∙ sym many;
      sides_len = c.requires.sides_fit ∙ sym many;
      parts_in_bounds = omega (
        arith,
        ap length (numerators_left t),
        class_locals_length a.n a.values.now a.weights.now a.classes.now,
        c.requires.parts_few,
      );
      part_sides_len = c.requires.part_sides_fit;
    }

pub returns : goal.returns
returns c =
    let t = (goal.at.returns c).In_ok-sums in
    let said = c.report_job.ensures in
    reported _ _ _ _ _ _ _ _ _ _ _ _ _ _ _ _ _ _ _ _ (taken t) (sums_known t) (rows_left t) (numerators_left t) (locals_left t) said.value
    said.figures_after said.sides_after said.parts_after said.part_sides_after
