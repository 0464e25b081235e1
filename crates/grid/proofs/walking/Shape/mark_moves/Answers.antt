-- `mark_moves` meets its contract. The loop's invariant: what the steps so far lead to is marked. Assumes nothing.
use native.Mathlib.Omega.{arith}
use Rattle.grid.proofs.Marking.{marked_none, marked_there, marked_out, marked_done}
use Rattle.grid.proofs.walking.Shape.mark_moves.Goals as goal
use Rattle.grid.proofs.walking.Shape.mark_moves.Goals.{in-Some, in_default}

pub loop-step-init : goal.loop-step-init
loop-step-init c = marked_none _ _ _ _ _ _ c.requires.marks_len (c.fill.ensures.after (λ y e. e))

pub loop-step-preserved : goal.loop-step-preserved
loop-step-preserved c =
    let only = c.reached.ensures.only in
    elim c.match-reached.branch [
      | in-Some w ↦ rw w.marks-is (marked_there _ _ _ _ _ _ _ c.loop-step.invariant only w.in-Some.zone w.in-Some.is w.in-Some.ensures.within)
      | in_default w ↦ rw w.marks-is (marked_out _ _ _ _ _ _ _ c.loop-step.invariant only w.in_default.is)
    ]

pub returns : goal.returns
returns c = marked_done c.args.kind c.steps-step-items.ensures (omega arith) c.loop-step.invariant
