-- `local_numerators` meets its contract: judged first, and worked only where no rule is broken. Assumes nothing.
use Rattle.std.proofs.Common.{◌≡◌, sym, ◌∙◌}
use Rattle.std.proofs.lemmas.Result.{err_from_is_err_and}
use Rattle.refusals.proofs.Refusals.{left_by, worked_by}
use Rattle.account.specs.Refusals.{account_rules, account_refusal}
use Rattle.account.specs.Answers.{job_locals, account_locals}
use Rattle.account.proofs.Accepted.{Accepted, accepted}
use Rattle.account.proofs.Found.{as_judged}
use Rattle.account.proofs.local_numerators.Goals as goal
use Rattle.account.proofs.local_numerators.Goals.{In_ok-kept}

module _ (c : In_ok-kept) where
  -- nothing is refused
  none : 0 ≡ account_refusal c.args.n c.args.values.now c.args.weights.now c.args.locals.now
  unfolding account_refusal account_rules
  none = c.in_ok-kept.ensures.number

  good : Accepted c.args.n c.args.values.now c.args.weights.now c.args.locals.now
  good = accepted _ _ _ _ (sym none)

pub returns-in_err-kept : goal.returns-in_err-kept
unfolding account_refusal account_rules account_locals
returns-in_err-kept c =
    let p = err_from_is_err_and c.from_residual.result c.from_residual.ensures.1 in
    let e = c.in_err-kept.ensures.number in
    rw (p.1, p.2) (record { number = e; lent = sym (left_by _ _ _ _ e) })

pub put_locals-requires : goal.put_locals-requires
put_locals-requires c = (good ((goal.at.put_locals-requires c).In_ok-kept)).room ∙ sym c.in_ok-kept.ensures.job.zones

pub returns : goal.returns
unfolding account_locals
returns c =
    let z = none ((goal.at.returns c).In_ok-kept) in
    let job = c.in_ok-kept.ensures.job in record {
      number = z;
      lent = as_judged job job_locals c.put_locals.ensures ∙ sym (worked_by _ _ _ z);
    }
