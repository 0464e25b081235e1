use Prim.Native.Nat.{◌*◌}
use Rattle.joins.specs.Steps.{Counted}
use Rattle.joins.proofs.counting.Zones.count_joins.Given as goal

-- the weights of the rows passed are counted
abbrev pub invariant-loop-i : goal.invariant-loop-i
invariant-loop-i l = Counted l.self.n l.self.categories.now l.self.weights.now l.entries (l.i * l.self.n)
