-- `work_classes` meets its contract: where every zone is kept, what is worked of those kept is worked of all. Assumes nothing.
use mathlib.Core.Path.{sym, ◌∙◌}
use Rattle.kept.specs.Returned.{reduced}
use Rattle.account.proofs.AllKept.{all_class_sums, all_class_locals}
use Rattle.account.proofs.KeptWork.{zones_count, whole_figures, whole_locals}
use Rattle.account.proofs.kept_zones.work_classes.Goals as goal

pub returns-then-zones-job : goal.returns-then-zones-job
returns-then-zones-job c =
    let k = c.args.kept.now in
    let job = k.job in
    let all = sym (zones_count job.n (reduced job.n job.values.now job.weights.now) k.zones.now k.kept) ∙ c.if-zones-job.true in
    let valued = job.good.count in
    let weighted = job.good.weighted.count in
    let count = c.requires.classed.count in
    let w = c.whole.ensures in
    let told = c.zone_classes.ensures in record {
      result_value = whole_figures job.n job.values.now job.weights.now job.good all
          (rw (sym w.n, sym w.values, sym w.weights) told.result_value);
      rows_after = rw (sym w.n, sym w.values, sym w.weights) told.rows_after
          ∙ sym (all_class_sums job.n job.values.now job.weights.now all valued weighted c.args.classes.now count);
      class_locals_after = rw (sym w.n, sym w.values, sym w.weights) told.class_locals_after
          ∙ sym (all_class_locals job.n job.values.now job.weights.now all valued weighted c.args.classes.now count);
      locals_after = whole_locals job.n job.values.now job.weights.now job.good all (rw (sym w.n, sym w.values, sym w.weights) told.locals_after);
    }

-- the job of all zones with its classes is one that the work takes
pub invariant_of-lists : goal.invariant_of-lists
invariant_of-lists c =
    let job = c.args.kept.now.job in
    let w = c.whole.ensures in
    record { good = record { job = c.whole.result.good; classed = rw w.n c.requires.classed } }
