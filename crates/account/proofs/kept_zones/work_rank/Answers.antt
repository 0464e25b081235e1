-- `work_rank` meets its contract: where all zones are kept, the lists of those kept are the job's own. Assumes nothing.
use mathlib.Core.Path.{sym, ◌∙◌}
use Rattle.kept.specs.Returned.{reduced}
use Rattle.account.proofs.KeptWork.{of_zones, zones_count, rank_of_all}
use Rattle.account.proofs.kept_zones.work_rank.Goals as goal

pub returns-then-zones-job : goal.returns-then-zones-job
returns-then-zones-job c =
    let k = c.args.kept.now in
    let job = k.job in
    let s = c.args.shuffles.now in
    let all = sym (zones_count job.n (reduced job.n job.values.now job.weights.now) k.zones.now k.kept) ∙ c.if-zones-job.true in
    let w = c.whole.ensures in
    rank_of_all job.n job.values.now job.weights.now all job.good s.rows s.shuffles.now (of_zones c.requires s.good) s.desks.now _
    (rw (sym w.n, sym w.values, sym w.weights) c.zone_rank.ensures)
