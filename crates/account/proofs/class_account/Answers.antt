-- `class_account` meets its contract: judged first, and worked only where no rule is broken. Assumes nothing.
use Rattle.std.proofs.Common.{rules, ◌≡◌, sym, ◌∙◌, length}
use Rattle.std.proofs.lemmas.Result.{err_from_is_err_and}
use Rattle.refusals.proofs.Refusals.{left_by, worked_by}
use Rattle.account.specs.Answers.{figures_of, job_figures, job_locals}
use Rattle.account.specs.Classes.{class_sums, class_locals_of, class_refusal, class_account_figures, class_account_rows, class_account_locals, class_account_own}
use Rattle.account.proofs.Accepted.{ClassAccepted, class_job, class_accepted}
use Rattle.account.proofs.Found.{as_judged}
use Rattle.account.proofs.class_account.Goals as goal
use Rattle.account.proofs.class_account.Goals.{In_ok-kept}

module _ (c : In_ok-kept) where
  -- nothing is refused
  none :
      let a = c.args in
      0 ≡ class_refusal a.n a.values.now a.weights.now a.classes.now a.rows.now a.class_locals.now a.locals.now
  unfolding class_refusal
  none = c.in_ok-kept.ensures.number

  good :
      let a = c.args in
      ClassAccepted a.n a.values.now a.weights.now a.classes.now (length a.rows.now) (length a.class_locals.now) (length a.locals.now)
  unfolding class_refusal
  good = class_accepted _ _ _ _ _ _ _ (sym none)

pub returns-in_err-kept : goal.returns-in_err-kept
unfolding class_refusal figures_of class_account_figures class_account_rows class_account_locals class_account_own
returns-in_err-kept c =
    let p = err_from_is_err_and c.from_residual.result c.from_residual.ensures.1 in
    let e = c.in_err-kept.ensures.number in
    rw (p.1, p.2) (record {
      number = e;
      figures = sym (left_by _ _ _ _ e);
      rows = sym (left_by _ _ _ _ e);
      numerators = sym (left_by _ _ _ _ e);
      own = sym (left_by _ _ _ _ e);
    })

pub unwrap-requires : goal.unwrap-requires
unwrap-requires c = let long = (good ((goal.at.unwrap-requires c).In_ok-kept)).rows_fit in search rules

pub work_classes-requires : goal.work_classes-requires
work_classes-requires c =
    let g = good ((goal.at.work_classes-requires c).In_ok-kept) in
    let job = c.in_ok-kept.ensures.job in
    rw job.zones (record {
      classed = class_job g.whole;
      class_locals_len = g.of_classes_fit;
      locals_len = g.own_fit;
    })

pub returns : goal.returns
unfolding figures_of class_account_figures class_account_rows class_account_locals class_account_own
returns c =
    let classes = c.args.classes.now in
    let job = c.in_ok-kept.ensures.job in
    let worked = c.work_classes.ensures in
    let z = none ((goal.at.returns c).In_ok-kept) in record {
      number = z;
      figures = as_judged job job_figures worked.result_value ∙ sym (worked_by _ _ _ z);
      rows = as_judged job (λ n x w. class_sums n x w classes) worked.rows_after ∙ sym (worked_by _ _ _ z);
      numerators = as_judged job (λ n x w. class_locals_of n x w classes) worked.class_locals_after ∙ sym (worked_by _ _ _ z);
      own = as_judged job job_locals worked.locals_after ∙ sym (worked_by _ _ _ z);
    }
