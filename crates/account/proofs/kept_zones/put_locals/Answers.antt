-- `put_locals` meets its contract: where all zones are kept, what is worked of them is the job's. Assumes nothing.
use mathlib.Core.Path.{sym, ◌∙◌}
use Rattle.kept.specs.Returned.{reduced}
use Rattle.account.proofs.KeptWork.{zones_count, whole_locals}
use Rattle.account.proofs.kept_zones.put_locals.Goals as goal

pub returns-then-zones-job : goal.returns-then-zones-job
returns-then-zones-job c =
    let k = c.args.kept.now in
    let job = k.job in
    let all = sym (zones_count job.n (reduced job.n job.values.now job.weights.now) k.zones.now k.kept) ∙ c.if-zones-job.true in
    let w = c.whole-whole.ensures in
    let s = c.summed.ensures in
    whole_locals job.n job.values.now job.weights.now job.good all
    (rw (sym w.n, sym w.values, sym w.weights, sym s.n_value, sym s.values_value) c.zone_locals.ensures)
