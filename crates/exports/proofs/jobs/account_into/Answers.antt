-- `account_into` meets its contract: the sizes are judged with the list of sums, then the account judges and works. Assumes nothing.
use mathlib.Core.Path.{◌≡◌, refl, sym, ◌∙◌}
use native.Mathlib.Omega.{arith}
use lib.ListN.{length}
use Rattle.std.proofs.lemmas.Result.{err_from_is_err_and}
use Rattle.refusals.proofs.Refusals.{not_refused, left_by, worked_by}
use Rattle.account.specs.Answers.{figures_of, account_figures, account_locals}
use Rattle.account.specs.Refusals.{account_refusal}
use Rattle.account.proofs.Theorems.{accounted_kept, accounted_missing}
use Rattle.exports.specs.Jobs.{account_number, locals_after, sums_after}
use Rattle.exports.proofs.Numbers.{own, own_fits, own_zones, account_sizes, account_below}
use Rattle.exports.proofs.jobs.account_into.Goals as goal
use Rattle.exports.proofs.jobs.account_into.Goals.{In_ok-judge_lent}

module _ (c : In_ok-judge_lent) where
  -- the sizes are good, those of the list of sums among them
  fit : own c.args.n c.args.values.now c.args.weights.now (length c.args.sums.now) 7 ≡ 0
  fit = sym c.in_ok-judge_lent.ensures

  -- so that the account's number is the call's
  below :
      account_refusal c.args.n c.args.values.now c.args.weights.now c.args.locals.now
      ≡ account_number c.args.n c.args.values.now c.args.weights.now c.args.locals.now c.args.sums.now
  below = sym (account_below _ _ _ _ _ fit)

pub returns-in_err-judge_lent : goal.returns-in_err-judge_lent
unfolding locals_after sums_after
returns-in_err-judge_lent c =
    let p = err_from_is_err_and c.from_residual.result c.from_residual.ensures.1 in
    let a = c.args in
    let e = account_sizes a.n a.values.now a.weights.now a.locals.now a.sums.now _ c.in_err-judge_lent.ensures (not_refused _) in
    rw (p.1, p.2) (record { number = e; locals = sym (left_by _ _ _ _ e); sums = sym (left_by _ _ _ _ e) })

pub returns-in_err-figures : goal.returns-in_err-figures
unfolding account_locals locals_after sums_after
returns-in_err-figures c =
    let p = err_from_is_err_and c.from_residual-in_err-figures.result c.from_residual-in_err-figures.ensures.1 in
    let told = c.in_err-figures.ensures in
    let e = told.number ∙ below ((goal.at.returns-in_err-figures c).In_ok-judge_lent) in
    rw (p.1, p.2) (record {
      number = e;
      locals = told.lent ∙ left_by _ _ _ _ told.number ∙ sym (left_by _ _ _ _ e);
      sums = sym (left_by _ _ _ _ e);
    })

pub put_sums-requires : goal.put_sums-requires
put_sums-requires c =
    let a = c.args in
    let good = fit ((goal.at.put_sums-requires c).In_ok-judge_lent) in
    let told = c.in_ok-figures.ensures in
    let zones = own_zones a.n a.values.now a.weights.now _ 7 good in
    let figures = c.in_ok-figures.figures in
    let kept = accounted_kept a.n a.values.now a.weights.now a.locals.now (sym told.number) _ figures told.figures refl in
    let missing = accounted_missing a.n a.values.now a.weights.now a.locals.now (sym told.number) _ figures told.figures refl in
    record {
      kept_bound = omega (arith, kept, zones);
      missing_bound = omega (arith, missing, zones);
      sums_len = own_fits a.n a.values.now a.weights.now _ 7 good;
    }

pub returns : goal.returns
unfolding figures_of account_figures account_locals locals_after sums_after
returns c =
    let told = c.in_ok-figures.ensures in
    let z = told.number ∙ below ((goal.at.returns c).In_ok-judge_lent) in record {
      number = z;
      locals = told.lent ∙ worked_by _ _ _ told.number ∙ sym (worked_by _ _ _ z);
      sums = c.put_sums.ensures ∙ told.figures ∙ worked_by _ _ _ told.number ∙ sym (worked_by _ _ _ z);
    }
