use mathlib.Core.Path.{◌≡◌}
use Rattle.whole.specs.Sum.{sum}
use Rattle.account.specs.Classes.{zones_class_local}
use Rattle.account.specs.Steps.{Zoned}
use Rattle.account.proofs.ZoneByZone.{zones_in}
use Rattle.account.proofs.classes.add_zone.Given as goal

abbrev pub invariant-loop-k : goal.invariant-loop-k
invariant-loop-k l =
    Zoned l.fn.work.lists.job.n l.fn.work.lists.job.values.now l.fn.work.lists.job.weights.now l.fn.work.lists.classes.now (zones_in l.i l.k) l.rows l.class_locals
    × (l.own ≡ sum (λ q. zones_class_local l.fn.work.lists.job.n l.fn.work.lists.job.values.now l.fn.work.lists.job.weights.now l.fn.work.lists.classes.now q l.i) l.k)
