use Prim.Native.Nat.{◌*◌, ◌≤◌}
use lib.ListN.{length}
use Rattle.writer.specs.Steps.{Puts}
use Rattle.writer.proofs.Joins.{bytes_before}
use Rattle.writer.proofs.joining.put_row.Given as goal

abbrev pub invariant-loop-to : goal.invariant-loop-to
invariant-loop-to l =
    (l.to ≤ length l.row) × Puts l.fn.out (bytes_before (length l.row) (l.from * length l.row) l.row l.to) l.out
