use Rattle.account.specs.Steps.{cross_held, cross_moved}
use Rattle.account.proofs.Tallied.{AllTallied}
use Rattle.account.proofs.ranking.tally.Given as goal

abbrev pub invariant-loop-r : goal.invariant-loop-r
invariant-loop-r l =
    AllTallied l.fn.shuffles.desks.now
    (cross_moved l.fn.weighed.weights.now l.fn.weighed.n l.fn.weighed.d.now l.fn.shuffles.shuffles.now)
    (cross_held l.fn.weighed.weights.now l.fn.weighed.n l.fn.weighed.d.now) l.counts l.r
