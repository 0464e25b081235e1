use Prim.Native.Nat.{◌+◌, ◌*◌}
use Rattle.joins.specs.Steps.{Counted}
use Rattle.joins.proofs.counting.Zones.count_row.Given as goal

-- the weights passed are counted
abbrev pub invariant-loop-j : goal.invariant-loop-j
invariant-loop-j l = Counted l.self.n l.self.categories.now l.self.weights.now l.entries (l.i * l.self.n + l.j)
