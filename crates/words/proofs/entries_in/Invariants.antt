use mathlib.Core.Path.{◌≡◌}
use lib.ListN.{take}
use Rattle.whole.specs.Table.{table}
use Rattle.words.proofs.entries_in.Given as goal

abbrev pub invariant-loop-k : goal.invariant-loop-k
invariant-loop-k g l = take l.k l.numbers ≡ table (g.T.Entry.nth l.bytes) l.k
