-- `keep` meets its contract: the number of the sizes, or the zones kept at the front of the list. Where every value is returned the weights
-- that count are those lent. Assumes nothing.
use Rattle.std.proofs.Common.{rules, ◌≡◌, sym, ap, ◌∙◌, ◌∷◌, [], ◌*◌, length}
use Rattle.std.proofs.lemmas.Result.{err_from_is_err_and}
use Rattle.whole.specs.Table.{over}
use Rattle.refusals.proofs.Refusals.{left_by, worked_by}
use Rattle.kept.specs.Kept.{kept_zones, kept_count}
use Rattle.kept.specs.Returned.{reduced}
use Rattle.kept.specs.Answers.{many_in, lists_refusal, keep_many, keep_left}
use Rattle.kept.proofs.Reduced.{none_found}
use Rattle.kept.proofs.keep.Goals as goal
use Rattle.kept.proofs.keep.Goals.{Else-any_missing}

pub returns-in_err-judge_lent : goal.returns-in_err-judge_lent
unfolding many_in lists_refusal keep_many keep_left
returns-in_err-judge_lent c =
    let p = err_from_is_err_and c.from_residual.result c.from_residual.ensures.1 in
    let e = c.in_err-judge_lent.ensures in
    rw (p.1, p.2) (record { number = e; many = sym (left_by _ _ _ _ e); lent = sym (left_by _ _ _ _ e) })

pub returns-then-any_missing : goal.returns-then-any_missing
unfolding many_in lists_refusal keep_many keep_left
returns-then-any_missing c = let z = c.in_ok-judge_lent.ensures in record {
  number = z;
  many = ap (λ k. k ∷ []) c.put_kept_counting.ensures.value ∙ sym (worked_by _ _ _ z);
  lent = c.put_kept_counting.ensures.zones_after ∙ sym (worked_by _ _ _ z);
}

-- every value is returned
same : (c : Else-any_missing) → reduced c.args.n c.args.values.now c.args.weights.now ≡ c.args.weights.now
same c =
    let v : length c.args.values.now ≡ c.args.n = search rules in
    let w : length c.args.weights.now ≡ c.args.n * c.args.n = search rules in
    none_found _ _ _ (sym c.any_missing.ensures ∙ c.if-any_missing.false) v w

pub returns : goal.returns
unfolding many_in lists_refusal keep_many keep_left
returns c =
    let z = c.in_ok-judge_lent.ensures in
    let e = sym (same ((goal.at.returns c).Else-any_missing)) in record {
      number = z;
      many = ap (λ k. k ∷ []) (c.put_kept.ensures.value ∙ ap (kept_count c.args.n) e) ∙ sym (worked_by _ _ _ z);
      lent = c.put_kept.ensures.zones_after ∙ ap (λ w. over (kept_zones c.args.n w) c.args.zones.now) e ∙ sym (worked_by _ _ _ z);
    }
