use mathlib.Core.Path.{◌≡◌}
use Rattle.whole.specs.Table.{table_rows}
use Rattle.account.proofs.ZoneByZone.{pairs_in}
use Rattle.account.proofs.classes.add_pairs.Given as goal

abbrev pub invariant-loop-j : goal.invariant-loop-j
invariant-loop-j l =
    l.parts ≡ table_rows (pairs_in l.fn.work.lists.job.n l.fn.work.lists.job.values.now l.fn.work.lists.job.weights.now l.fn.work.lists.classes.now l.i l.j) 9 3
