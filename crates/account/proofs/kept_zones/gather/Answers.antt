-- `gather` meets its contract: the zones kept are few enough for the room that is lent, and what is gathered is a job. Assumes nothing.
use mathlib.Core.Path.{◌≡◌, ◌∙◌}
use native.Mathlib.Omega.{arith}
use lib.IntN.{pos}
use lib.Seq.{length-take-le}
use Rattle.account.specs.Steps.{gathered}
use Rattle.account.proofs.KeptLists.{gathered_by}
use Rattle.account.proofs.KeptWork.{gathered_job}
use Rattle.account.proofs.kept_zones.gather.Goals as goal
use Rattle.account.proofs.kept_zones.gather.Goals.{After-gather}

-- the values that are gathered
values_are : (c : After-gather) → c.gather.new.out ≡ gathered c.args.kept.now.job.values.now c.args.kept.now.zones.now
values_are c =
    let k = c.args.kept.now in
    let long = c.gather.auto.out ∙ length-take-le _ c.args.room.now.values (omega (arith, k.rising.few, k.job.good.weighted.zones, c.told-room)) in
    gathered_by (pos 0) k.job.values.now c.gather.new.out k.zones.now long c.gather.ensures

pub invariant_of-result : goal.invariant_of-result
invariant_of-result c =
    let k = c.args.kept.now in record {
      good = gathered_job k.job.n k.job.values.now k.job.weights.now k.zones.now k.kept _ _
          (values_are ((goal.at.invariant_of-result c).After-gather)) c.gather_pairs.ensures k.job.good;
    }

pub returns-clause-values : goal.returns-clause-values
returns-clause-values c = values_are ((goal.at.returns-clause-values c).After-gather)
