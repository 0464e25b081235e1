use Rattle.account.specs.Steps.{Zoned, Owned}
use Rattle.account.proofs.classes.add_zones.Given as goal

abbrev pub invariant-loop-i : goal.invariant-loop-i
invariant-loop-i l =
    Zoned l.fn.work.lists.job.n l.fn.work.lists.job.values.now l.fn.work.lists.job.weights.now l.fn.work.lists.classes.now (λ k. l.i) l.rows l.class_locals × Owned l.fn.work.lists.job.n l.fn.work.lists.job.values.now l.fn.work.lists.job.weights.now l.i l.locals
