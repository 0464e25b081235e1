-- `summed` meets its contract: what is handed on with the values is their S. Assumes nothing.
use Rattle.account.proofs.Locals.{total_held}
use Rattle.account.proofs.lists.JobLists.summed.Goals as goal

pub invariant_of-result : goal.invariant_of-result
invariant_of-result c = record { summed = total_held _ _ c.args.self.now.good.valued c.total-total.ensures }
