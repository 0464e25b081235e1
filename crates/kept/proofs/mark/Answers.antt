-- `mark` meets its contract: the number of the sizes, or a mark for each zone. Where every value is returned the weights that count are those
-- lent. Assumes nothing.
use Rattle.std.proofs.Common.{rules, ◌≡◌, sym, ap, ◌∙◌, cond, ◌*◌, length}
use Rattle.std.proofs.lemmas.Result.{err_from_is_err_and}
use Rattle.whole.specs.Table.{table}
use Rattle.refusals.proofs.Refusals.{left_by, worked_by}
use Rattle.kept.specs.Kept.{keeps}
use Rattle.kept.specs.Returned.{reduced}
use Rattle.kept.specs.Answers.{lists_refusal, marks_left}
use Rattle.kept.proofs.Reduced.{none_found}
use Rattle.kept.proofs.mark.Goals as goal
use Rattle.kept.proofs.mark.Goals.{Else-any_missing}

pub returns-in_err-judge_lent : goal.returns-in_err-judge_lent
unfolding lists_refusal marks_left
returns-in_err-judge_lent c =
    let p = err_from_is_err_and c.from_residual.result c.from_residual.ensures.1 in
    let e = c.in_err-judge_lent.ensures in
    rw (p.1, p.2) (record { number = e; lent = sym (left_by _ _ _ _ e) })

pub returns-then-any_missing : goal.returns-then-any_missing
unfolding lists_refusal marks_left
returns-then-any_missing c = let z = c.in_ok-judge_lent.ensures in record {
  number = z;
  lent = c.put_marks_counting.ensures ∙ sym (worked_by _ _ _ z);
}

-- every value is returned
same : (c : Else-any_missing) → reduced c.args.n c.args.values.now c.args.weights.now ≡ c.args.weights.now
same c =
    let v : length c.args.values.now ≡ c.args.n = search rules in
    let w : length c.args.weights.now ≡ c.args.n * c.args.n = search rules in
    none_found _ _ _ (sym c.any_missing.ensures ∙ c.if-any_missing.false) v w

pub returns : goal.returns
unfolding lists_refusal marks_left
returns c =
    let z = c.in_ok-judge_lent.ensures in
    let e = sym (same ((goal.at.returns c).Else-any_missing)) in record {
      number = z;
      lent = c.put_marks.ensures ∙ ap (λ w. table (λ i. cond (keeps c.args.n w i) 1 0) c.args.n) e ∙ sym (worked_by _ _ _ z);
    }
