-- `class_rows` meets its contract: the sizes are judged first, then the class account judges and works, and nine rows are stored.
-- Assumes nothing.
use mathlib.Core.Path.{◌≡◌, refl, sym, ap, ◌∙◌}
use mathlib.Core.List.{List}
use Prim.Native.Nat.{ℕ, ◌≤◌}
use lib.IntN.{ℤ}
use lib.ListN.{length}
use lib.Seq.{length-take-le}
use Rattle.std.proofs.lemmas.Result.{err_from_is_err_and}
use Rattle.whole.specs.Table.{table, table_rows}
use Rattle.refusals.proofs.Refusals.{not_refused, left_by, worked_by}
use Rattle.account.specs.Classes.{class_row_of, class_sums, class_account_rows, class_account_locals, row_at}
use Rattle.class_rows.proofs.Numbers.{by_sizes, sizes_fit, by_account}
use Rattle.class_rows.proofs.class_rows.Goals as goal
use Rattle.class_rows.proofs.class_rows.Goals.{In_ok-judge_lent}

-- the nine rows that lie in the class sums
rows_in :
    (n : ℕ) (values : List ℤ) (weights classes : List ℕ) →
    table (row_at (class_sums n values weights classes)) 9 ≡ table (class_row_of n values weights classes) 9
unfolding table table_rows class_sums
rows_in n values weights classes = refl

-- the sizes are good, so that there are at most 64 zones, and nine rows are lent
fit : (c : In_ok-judge_lent) → let a = c.args in (a.n ≤ 64) × (length a.rows.now ≡ 9)
fit c = let a = c.args in sizes_fit a.n a.values.now a.weights.now (length a.rows.now) (sym c.in_ok-judge_lent.ensures)

pub returns-in_err-judge_lent : goal.returns-in_err-judge_lent
returns-in_err-judge_lent c =
    let a = c.args in
    let p = err_from_is_err_and c.from_residual.result c.from_residual.ensures.1 in
    let e =
    by_sizes a.n a.values.now a.weights.now a.classes.now (length a.rows.now) (length a.locals.now) _ c.in_err-judge_lent.ensures
    (not_refused _) in
    rw (p.1, p.2) (record { number = e; rows = sym (left_by _ _ _ _ e); numerators = sym (left_by _ _ _ _ e) })

pub returns-in_err-class_account : goal.returns-in_err-class_account
unfolding class_account_locals
returns-in_err-class_account c =
    let f = fit ((goal.at.returns-in_err-class_account c).In_ok-judge_lent) in
    let p = err_from_is_err_and c.from_residual-in_err-class_account.result c.from_residual-in_err-class_account.ensures.1 in
    let own = c.in_err-class_account.ensures in
    let e = own.number ∙ by_account _ _ _ _ _ _ _ _ refl (length-take-le _ _ f.0) f.1 in
    rw (p.1, p.2) (record {
      number = e;
      rows = sym (left_by _ _ _ _ e);
      numerators = own.numerators ∙ left_by _ _ _ _ own.number ∙ sym (left_by _ _ _ _ e);
    })

pub returns : goal.returns
unfolding class_account_rows class_account_locals
returns c =
    let f = fit ((goal.at.returns c).In_ok-judge_lent) in
    let own = c.in_ok-class_account.ensures in
    let z = own.number ∙ by_account _ _ _ _ _ _ _ _ refl (length-take-le _ _ f.0) f.1 in
    let sums = own.rows ∙ worked_by _ _ _ own.number in record {
      number = z;
      rows = c.copy_from_slice.ensures.after ∙ c.all.ensures ∙ ap (λ (l : List ℤ). table (row_at l) 9) sums ∙ rows_in _ _ _ _ ∙ sym (worked_by _ _ _ z);
      numerators = own.numerators ∙ worked_by _ _ _ own.number ∙ sym (worked_by _ _ _ z);
    }
