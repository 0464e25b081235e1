-- `hot_list` meets its contract: the sizes are judged first, then the account judges and works, and `order` refuses nothing.
-- Assumes nothing.
use mathlib.Core.Path.{◌≡◌, sym, ◌∙◌}
use Prim.Native.Nat.{◌≤◌}
use lib.Seq.{length-take-le}
use Rattle.std.proofs.lemmas.Result.{err_from_is_err_and}
use Rattle.refusals.proofs.Refusals.{not_refused, left_by}
use Rattle.account.proofs.Theorems.{sizes_refusal, refusal_by_sizes, sizes_fit}
use Rattle.hot_list.specs.HotList.{hot_zones}
use Rattle.hot_list.proofs.Answered.{same, number_put, zones_put}
use Rattle.hot_list.proofs.hot_list.Goals as goal
use Rattle.hot_list.proofs.hot_list.Goals.{In_ok-judge_lent}

-- the sizes are good, so that there are at most 64 zones
module _ (c : In_ok-judge_lent) where
  good : sizes_refusal c.args.n c.args.values.now c.args.weights.now c.args.zones.now ≡ 0
  good = sym c.in_ok-judge_lent.ensures

  fit : c.args.n ≤ 64
  fit = (sizes_fit c.args.n c.args.values.now c.args.weights.now c.args.zones.now good).0

pub returns-in_err-judge_lent : goal.returns-in_err-judge_lent
unfolding hot_zones
returns-in_err-judge_lent c =
    let a = c.args in
    let p = err_from_is_err_and c.from_residual.result c.from_residual.ensures.1 in
    let e = refusal_by_sizes a.n a.values.now a.weights.now a.zones.now _ c.in_err-judge_lent.ensures (not_refused _) in
    rw (p.1, p.2) (record { number = e; lent = sym (left_by _ _ _ _ e) })

pub returns-in_err-local_numerators : goal.returns-in_err-local_numerators
unfolding hot_zones
returns-in_err-local_numerators c =
    let g = (goal.at.returns-in_err-local_numerators c).In_ok-judge_lent in
    let p = err_from_is_err_and c.from_residual-in_err-local_numerators.result c.from_residual-in_err-local_numerators.ensures.1 in
    let e = c.in_err-local_numerators.ensures.number ∙ same _ _ _ _ (good g) _ (length-take-le _ _ (fit g)) in
    rw (p.1, p.2) (record { number = e; lent = sym (left_by _ _ _ _ e) })

pub returns : goal.returns
returns c =
    let g = (goal.at.returns c).In_ok-judge_lent in
    let own = c.in_ok-local_numerators.ensures in
    let put = c.order.ensures in record {
      number = put.number ∙ number_put _ _ _ _ (good g) _ (length-take-le _ _ (fit g)) _ own.number own.lent;
      lent = put.lent ∙ zones_put _ _ _ _ (good g) _ (length-take-le _ _ (fit g)) _ own.number own.lent;
    }
