use Prim.Native.Nat.{◌*◌}
use Rattle.writer.specs.Steps.{Puts}
use Rattle.writer.proofs.Joins.{bytes_before}
use Rattle.writer.proofs.joining.put_joins.Given as goal

abbrev pub invariant-loop-from : goal.invariant-loop-from
invariant-loop-from l = Puts l.fn.out (bytes_before l.n 0 l.weights (l.from * l.n)) l.out
