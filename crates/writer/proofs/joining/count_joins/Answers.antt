-- `count_joins` meets its contract: a join is a weight above 0, and these are counted. Assumes nothing.
use mathlib.Core.Path.{sym, ◌∙◌}
use native.Mathlib.Nat as N
use native.Mathlib.Omega.{arith}
use Rattle.writer.proofs.Joins.{joins_counted}
use Rattle.writer.proofs.joining.count_joins.Goals as goal

pub weighty-requires : goal.weighty-requires
weighty-requires c = let t = c.args.table.now.tabled in omega (arith, t.there, N.mul-le-mul t.zones t.zones)

pub returns : goal.returns
returns c =
    let table = c.args.table.now in c.weighty.ensures ∙ sym (joins_counted table.n table.weights.now)
