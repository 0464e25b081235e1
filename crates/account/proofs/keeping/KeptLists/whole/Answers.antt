-- `whole` meets its contract: where every zone is kept each value is returned, and so within the limit. Assumes nothing.
use mathlib.Core.Path.{sym, ◌∙◌}
use Rattle.account.proofs.KeptJob.{whole_job}
use Rattle.account.proofs.KeptWork.{zones_count}
use Rattle.kept.specs.Returned.{reduced}
use Rattle.account.proofs.keeping.KeptLists.whole.Goals as goal

pub invariant_of-result : goal.invariant_of-result
invariant_of-result c =
    let k = c.args.self.now in
    let job = k.job in
    let counting = reduced job.n job.values.now job.weights.now in
    record { good = whole_job job.n job.values.now job.weights.now job.good (sym (zones_count job.n counting k.zones.now k.kept) ∙ c.requires) }
