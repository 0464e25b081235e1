-- `rank_into` meets its contract: the sizes are judged with the list of counts, then the rank judges and works. Assumes nothing.
use mathlib.Core.Path.{◌≡◌, sym, ◌∙◌}
use lib.ListN.{length}
use Rattle.std.proofs.lemmas.Result.{err_from_is_err_and}
use Rattle.refusals.proofs.Refusals.{not_refused, left_by, worked_by}
use Rattle.account.specs.Rank.{counts_of, rank_counts, rank_refusal}
use Rattle.exports.specs.Jobs.{rank_number, rank_after}
use Rattle.exports.proofs.Numbers.{own, own_fits, rank_sizes, rank_below}
use Rattle.exports.proofs.jobs.rank_into.Goals as goal
use Rattle.exports.proofs.jobs.rank_into.Goals.{In_ok-judge_lent}

module _ (c : In_ok-judge_lent) where
  -- the sizes are good, those of the list of counts among them
  fit : own c.args.n c.args.values.now c.args.weights.now (length c.args.counts.now) 12 ≡ 0
  fit = sym c.in_ok-judge_lent.ensures

  -- so that the rank's number is the call's
  below :
      rank_refusal c.args.n c.args.values.now c.args.weights.now c.args.shuffles.now c.args.desks.now
      ≡ rank_number c.args.n c.args.values.now c.args.weights.now c.args.shuffles.now c.args.desks.now c.args.counts.now
  below = sym (rank_below _ _ _ _ _ _ fit)

pub returns-in_err-judge_lent : goal.returns-in_err-judge_lent
unfolding rank_after
returns-in_err-judge_lent c =
    let p = err_from_is_err_and c.from_residual.result c.from_residual.ensures.1 in
    let a = c.args in
    let e = rank_sizes a.n a.values.now a.weights.now a.shuffles.now a.desks.now a.counts.now _ c.in_err-judge_lent.ensures (not_refused _) in
    rw (p.1, p.2) (record { number = e; lent = sym (left_by _ _ _ _ e) })

pub returns-in_err-ranks : goal.returns-in_err-ranks
unfolding rank_after
returns-in_err-ranks c =
    let p = err_from_is_err_and c.from_residual-in_err-ranks.result c.from_residual-in_err-ranks.ensures.1 in
    let e = c.in_err-ranks.ensures.number ∙ below ((goal.at.returns-in_err-ranks c).In_ok-judge_lent) in
    rw (p.1, p.2) (record { number = e; lent = sym (left_by _ _ _ _ e) })

pub put_ranks-requires : goal.put_ranks-requires
put_ranks-requires c =
    let a = c.args in own_fits a.n a.values.now a.weights.now _ 12 (fit ((goal.at.put_ranks-requires c).In_ok-judge_lent))

pub returns : goal.returns
unfolding counts_of rank_counts rank_after
returns c =
    let told = c.in_ok-ranks.ensures in
    let z = told.number ∙ below ((goal.at.returns c).In_ok-judge_lent) in record {
      number = z;
      lent = c.put_ranks.ensures ∙ told.counts ∙ worked_by _ _ _ told.number ∙ sym (worked_by _ _ _ z);
    }
