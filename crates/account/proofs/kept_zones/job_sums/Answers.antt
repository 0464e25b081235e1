-- `job_sums` meets its contract: where all zones are kept, what is worked of them is the job's. Assumes nothing.
use mathlib.Core.Path.{sym, ◌∙◌}
use Rattle.kept.specs.Returned.{reduced}
use Rattle.account.proofs.KeptWork.{zones_count, whole_figures, whole_locals}
use Rattle.account.proofs.kept_zones.job_sums.Goals as goal

pub returns-then-zones-job : goal.returns-then-zones-job
returns-then-zones-job c =
    let k = c.args.kept.now in
    let job = k.job in
    let all = sym (zones_count job.n (reduced job.n job.values.now job.weights.now) k.zones.now k.kept) ∙ c.if-zones-job.true in
    let w = c.whole.ensures in
    let told = c.zone_sums.ensures in record {
      result_value = whole_figures job.n job.values.now job.weights.now job.good all
          (rw (sym w.n, sym w.values, sym w.weights) told.result_value);
      locals_after = whole_locals job.n job.values.now job.weights.now job.good all (rw (sym w.n, sym w.values, sym w.weights) told.locals_after);
    }
