-- `rank` meets its contract: judged first, and worked only where no rule is broken. Assumes nothing.
use Rattle.std.proofs.Common.{◌≡◌, sym, ap, ◌∙◌, subst, List, ℕ, ℤ, length}
use Rattle.std.proofs.lemmas.Result.{err_from_is_err_and}
use Rattle.refusals.proofs.Refusals.{left_by, worked_by}
use Rattle.shuffles.specs.Shuffles.{shuffle_count}
use Rattle.shuffles.specs.Steps.{Shuffles}
use Rattle.account.specs.Rank.{desk_rank, desk_ranks, rank_counts, counts_of}
use Rattle.account.specs.Steps.{Desked, ranked}
use Rattle.account.proofs.Accepted.{RankAccepted, rank_accepted}
use Rattle.account.proofs.rank.Goals as goal
use Rattle.account.proofs.rank.Goals.{In_ok-kept}

-- nothing is refused: the shuffles are as many as the desk numbers
good : (c : In_ok-kept) → RankAccepted c.args.n c.args.values.now c.args.weights.now c.args.shuffles.now c.args.desks.now
good c = rank_accepted _ _ _ _ _ (sym c.in_ok-kept.ensures.number)

pub returns-in_err-kept : goal.returns-in_err-kept
unfolding counts_of rank_counts
returns-in_err-kept c =
    let p = err_from_is_err_and c.from_residual.result c.from_residual.ensures.1 in
    let e = c.in_err-kept.ensures.number in
    rw (p.1, p.2) (record { number = e; counts = sym (left_by _ _ _ _ e) })

pub invariant_of-lent : goal.invariant_of-lent
invariant_of-lent c =
    let g = good ((goal.at.invariant_of-lent c).In_ok-kept) in
    let many = sym g.desked.count in record {
      good = subst (Shuffles c.args.shuffles.now c.args.n) many g.rows;
      desked = subst (Desked c.args.desks.now) many g.desked;
    }

pub work_rank-requires : goal.work_rank-requires
work_rank-requires c = sym c.in_ok-kept.ensures.job.zones

-- the counts of so many rows are those of the job, where they are its shuffles
as_job :
    (n : ℕ) (values : List ℤ) (weights shuffles desks : List ℕ) {counts : List ℕ} {rows : ℕ} → rows ≡ shuffle_count n (length shuffles) →
    counts ≡ ranked n values weights rows shuffles desks → counts ≡ desk_ranks n values weights shuffles desks
unfolding desk_ranks desk_rank
as_job n values weights shuffles desks e f = f ∙ ap (λ rows. ranked n values weights rows shuffles desks) e

pub returns : goal.returns
unfolding counts_of rank_counts
returns c =
    let o = good ((goal.at.returns c).In_ok-kept) in
    let z = c.in_ok-kept.ensures.number in
    let job = c.in_ok-kept.ensures.job in
    let g = c.args in
    let told = rw (job.zones, job.of_values, job.of_weights) at c.work_rank.ensures in
    let ranked = as_job g.n g.values.now g.weights.now g.shuffles.now g.desks.now o.desked.count told in
    record { number = z; counts = ranked ∙ sym (worked_by _ _ _ z) }
