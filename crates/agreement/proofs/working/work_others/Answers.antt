-- `work_others` meets its contract: where the class account refuses nothing and the lists fit, none of the three calls refuses anything.
-- Assumes nothing.
use mathlib.Core.Path.{◌≡◌, refl, sym, ◌∙◌, subst}
use mathlib.Core.List.{[]}
use Prim.Native.Nat.{ℕ}
use Rattle.std.proofs.Common.{Result, Ok}
use Rattle.std.specs.Result.{IsOk}
use Rattle.whole.proofs.Rules.{worked_when_taken}
use Rattle.refusals.specs.declared.Refusal.{Refusal}
use Rattle.account.specs.Answers.{account_figures, account_locals}
use Rattle.account.specs.Refusals.{account_refusal}
use Rattle.coefficients.specs.FloatReport.{report_refusal, report_sums, report_whole, report_classes}
use Rattle.coefficients.specs.FloatReport.{report_figures, report_sides, report_parts, report_part_sides}
use Rattle.coefficients.specs.FloatReport.{plain_refusal, plain_sums, plain_whole, plain_classes}
use Rattle.coefficients.specs.FloatReport.{plain_rows, plain_locals, plain_figures, plain_sides}
use Rattle.agreement.specs.EveryFigure.{job_sums, job_report, job_lists}
use Rattle.agreement.proofs.Answered.{accounted, reported, answers_are}
use Rattle.agreement.proofs.Fitting.{account_none, report_none, plain_none}
use Rattle.agreement.proofs.working.work_others.Goals as goal
use Rattle.agreement.proofs.working.work_others.Goals.{After-account, After-float_report, After-plain_report, Start}

-- an answer that is known, and what is taken out of it
there : {A : Type 0} {r : Result A Refusal} {x : A} → r ≡ Ok x → IsOk r
there e = subst IsOk (sym e) refl

out : {A : Type 0} {r : Result A Refusal} {x y : A} → r ≡ Ok x → r ≡ Ok y → y ≡ x
out e f = cc

-- ---- none of the calls refuses anything
module _ (s : Start) where
  abbrev n : ℕ
  n = s.args.n

  account_taken : account_refusal n s.args.values.now s.args.weights.now s.args.locals.now ≡ 0
  account_taken =
      account_none n s.args.values.now s.args.weights.now s.args.classes.now [] tt s.requires.callable.accepted s.args.locals.now
      s.requires.callable.locals_fit

  report_taken :
      report_refusal n s.args.values.now s.args.weights.now s.args.classes.now s.args.figures.now s.args.sides.now s.args.parts.now
      s.args.part_sides.now
      ≡ 0
  report_taken =
      let job = s.requires.callable in
      report_none n s.args.values.now s.args.weights.now s.args.classes.now [] tt job.accepted s.args.figures.now s.args.sides.now
      s.args.parts.now s.args.part_sides.now job.figures_fit job.sides_fit job.parts_fit job.part_sides_fit

  plain_taken :
      plain_refusal n s.args.values.now s.args.weights.now s.args.classes.now s.args.plain_rows.now s.args.plain_locals.now
      s.args.plain_figures.now s.args.plain_sides.now
      ≡ 0
  plain_taken =
      let job = s.requires.callable in
      plain_none n s.args.values.now s.args.weights.now s.args.classes.now [] tt job.accepted s.args.plain_rows.now
      s.args.plain_locals.now s.args.plain_figures.now s.args.plain_sides.now job.plain_rows_fit job.plain_locals_fit
      job.plain_figures_fit job.plain_sides_fit

-- ---- what they answer
account_is : (c : After-account) → c.account.result ≡ Ok (job_sums c.args.n c.args.values.now c.args.weights.now)
unfolding account_figures
account_is c =
    let z = account_taken ((goal.at.After-account c).Start) in
    accounted _ _ _ c.args.classes.now _ (c.account.ensures.number ∙ z) (c.account.ensures.figures ∙ worked_when_taken _ _ _ z)

report_is :
    (c : After-float_report) →
    c.float_report.result ≡ Ok (job_report c.args.n c.args.values.now c.args.weights.now c.args.classes.now)
unfolding report_sums report_whole report_classes
report_is c =
    let z = report_taken ((goal.at.After-float_report c).Start) in
    let said = c.float_report.ensures in
    reported _ _ _ _ _ (said.number ∙ z) (said.sums ∙ worked_when_taken _ _ _ z) (said.whole ∙ worked_when_taken _ _ _ z)
    (said.pairs ∙ worked_when_taken _ _ _ z)

plain_is :
    (c : After-plain_report) →
    c.plain_report.result ≡ Ok (job_report c.args.n c.args.values.now c.args.weights.now c.args.classes.now)
unfolding plain_sums plain_whole plain_classes
plain_is c =
    let z = plain_taken ((goal.at.After-plain_report c).Start) in
    let said = c.plain_report.ensures in
    reported _ _ _ _ _ (said.number ∙ z) (said.sums ∙ worked_when_taken _ _ _ z) (said.whole ∙ worked_when_taken _ _ _ z)
    (said.pairs ∙ worked_when_taken _ _ _ z)

pub unwrap-accounted-requires : goal.unwrap-accounted-requires
unwrap-accounted-requires c = there (account_is ((goal.at.unwrap-accounted-requires c).After-account))

pub unwrap-report-requires : goal.unwrap-report-requires
unwrap-report-requires c = there (report_is ((goal.at.unwrap-report-requires c).After-float_report))

pub unwrap-plain-requires : goal.unwrap-plain-requires
unwrap-plain-requires c = there (plain_is ((goal.at.unwrap-plain-requires c).After-plain_report))

pub returns : goal.returns
unfolding job_lists account_locals report_figures report_sides report_parts report_part_sides plain_rows plain_locals plain_figures plain_sides
returns c =
    let t = goal.at.returns c in
    let s = t.Start in
    record {
      value =
          answers_are _ _ _ _ (out (account_is t.After-account) c.unwrap-accounted.ensures) c.requires.sums_value
          (out (report_is t.After-float_report) c.unwrap-report.ensures)
          (out (plain_is t.After-plain_report) c.unwrap-plain.ensures);
      others_left = record {
        in_locals = c.account.ensures.lent ∙ worked_when_taken _ _ _ (account_taken s);
        in_figures = c.float_report.ensures.figures ∙ worked_when_taken _ _ _ (report_taken s);
        in_sides = c.float_report.ensures.sides ∙ worked_when_taken _ _ _ (report_taken s);
        in_parts = c.float_report.ensures.parts ∙ worked_when_taken _ _ _ (report_taken s);
        in_part_sides = c.float_report.ensures.part_sides ∙ worked_when_taken _ _ _ (report_taken s);
        in_plain_rows = c.plain_report.ensures.rows ∙ worked_when_taken _ _ _ (plain_taken s);
        in_plain_locals = c.plain_report.ensures.locals ∙ worked_when_taken _ _ _ (plain_taken s);
        in_plain_figures = c.plain_report.ensures.figures ∙ worked_when_taken _ _ _ (plain_taken s);
        in_plain_sides = c.plain_report.ensures.sides ∙ worked_when_taken _ _ _ (plain_taken s);
      };
    }
