-- `class_account_into` meets its contract: the sizes are judged with the rows, then the class account judges and works; the job's own
-- local numerators go to a list that is not handed out. Assumes nothing.
use mathlib.Core.Path.{sym, ◌∙◌}
use Prim.Native.Nat.{◌≤◌}
use lib.Seq.{length-take-le}
use Rattle.std.proofs.lemmas.Result.{err_from_is_err_and}
use Rattle.refusals.proofs.Refusals.{not_refused, left_by, worked_by}
use Rattle.account.specs.Classes.{class_account_rows, class_account_locals}
use Rattle.exports.specs.Jobs.{rows_after, class_locals_after}
use Rattle.exports.proofs.Numbers.{own_zones, class_sizes, class_below}
use Rattle.exports.proofs.jobs.class_account_into.Goals as goal
use Rattle.exports.proofs.jobs.class_account_into.Goals.{In_ok-judge_lent}

-- at most 64 zones
zones : (c : In_ok-judge_lent) → c.args.n ≤ 64
zones c = let a = c.args in own_zones a.n a.values.now a.weights.now _ 27 (sym c.in_ok-judge_lent.ensures)

pub returns-in_err-judge_lent : goal.returns-in_err-judge_lent
unfolding rows_after class_locals_after
returns-in_err-judge_lent c =
    let p = err_from_is_err_and c.from_residual.result c.from_residual.ensures.1 in
    let a = c.args in
    let e =
    class_sizes a.n a.values.now a.weights.now a.classes.now a.rows.now a.class_locals.now _ c.in_err-judge_lent.ensures (not_refused _) in
    rw (p.1, p.2) (record { number = e; rows = sym (left_by _ _ _ _ e); numerators = sym (left_by _ _ _ _ e) })

pub returns-in_err-class_account : goal.returns-in_err-class_account
unfolding class_account_rows class_account_locals rows_after class_locals_after
returns-in_err-class_account c =
    let f = zones ((goal.at.returns-in_err-class_account c).In_ok-judge_lent) in
    let p = err_from_is_err_and c.from_residual-in_err-class_account.result c.from_residual-in_err-class_account.ensures.1 in
    let told = c.in_err-class_account.ensures in
    let e = told.number ∙ sym (class_below _ _ _ _ _ _ _ (length-take-le _ _ f)) in
    rw (p.1, p.2) (record {
      number = e;
      rows = told.rows ∙ left_by _ _ _ _ told.number ∙ sym (left_by _ _ _ _ e);
      numerators = told.numerators ∙ left_by _ _ _ _ told.number ∙ sym (left_by _ _ _ _ e);
    })

pub returns : goal.returns
unfolding class_account_rows class_account_locals rows_after class_locals_after
returns c =
    let f = zones ((goal.at.returns c).In_ok-judge_lent) in
    let told = c.in_ok-class_account.ensures in
    let z = told.number ∙ sym (class_below _ _ _ _ _ _ _ (length-take-le _ _ f)) in record {
      number = z;
      rows = told.rows ∙ worked_by _ _ _ told.number ∙ sym (worked_by _ _ _ z);
      numerators = told.numerators ∙ worked_by _ _ _ told.number ∙ sym (worked_by _ _ _ z);
    }
