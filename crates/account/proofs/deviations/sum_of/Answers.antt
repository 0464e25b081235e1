-- `sum_of` meets its contract. The loop's invariant: the accumulator is the sum of the numbers passed. Assumes nothing.
use Prim.Native.Nat.{◌+◌}
use native.Mathlib.Omega.{arith}
use lib.IntN.{◌+ℤ◌}
use mir.Syntax.{w64}
use mir.Val.{to_z}
use Rattle.whole.specs.Sum.{sum}
use Rattle.whole.proofs.Accumulate.{running_none, running_more, running_done}
use Rattle.whole.proofs.Machine.{Is, val, rd, fit, r64}
use Rattle.whole.specs.Table.{at}
use Rattle.account.proofs.Running.{locals_run}
use Rattle.account.proofs.deviations.sum_of.Goals as goal
use Rattle.account.proofs.deviations.sum_of.Goals.{In-loop-local}

-- a turn adds one number more
turn :
    (c : In-loop-local) →
    let l = at c.args.locals.now in
    Is (to_z w64 c.loop-local.acc-bits +ℤ r64 (l c.loop-local.local-index)) (sum l (c.loop-local.local-index + 1)) 6039797760000000000
turn c =
    running_more (locals_run _ _ c.requires.few c.requires.sized) c.loop-local.local-index (to_z w64 c.loop-local.acc-bits) (omega arith)
    c.loop-local.invariant
    (rd w64 (val (at c.args.locals.now c.loop-local.local-index) 94371840000000000 (c.requires.sized.size c.loop-local.local-index (omega arith))) tt)

pub loop-local-init : goal.loop-local-init
loop-local-init c = running_none _

pub overflow_add-acc : goal.overflow_add-acc
overflow_add-acc c = fit w64 (turn ((goal.at.overflow_add-acc c).In-loop-local)) tt

pub loop-local-preserved : goal.loop-local-preserved
loop-local-preserved c = (rd w64 (turn ((goal.at.loop-local-preserved c).In-loop-local)) tt).same

pub returns : goal.returns
returns c = running_done _ _ c.loop-local.local-index (to_z w64 c.loop-local.acc-bits) (omega arith) c.loop-local.invariant
