use Prim.Native.Nat.{◌+◌, ◌*◌}
use Rattle.grid.proofs.Marking.{Marked}
use Rattle.grid.proofs.walking.Shape.mark_moves.Given as goal

-- the zones that the steps so far lead to are marked
abbrev pub invariant-loop-step : goal.invariant-loop-step
invariant-loop-step l =
    Marked l.self.columns (l.row * l.self.columns + l.column) (l.self.rows * l.self.columns) l.step-items l.marks l.step-index
