-- `total` meets its contract. The loop's invariant: the accumulator is the sum of the values passed. Assumes nothing.
use Prim.Native.Nat.{◌+◌}
use native.Mathlib.Omega.{arith}
use lib.IntN.{◌+ℤ◌}
use mir.Syntax.{w64}
use mir.Val.{to_z}
use Rattle.whole.specs.Sum.{sum}
use Rattle.whole.proofs.Accumulate.{running_none, running_more, running_done}
use Rattle.whole.proofs.Machine.{Is, rd, fit, r64}
use Rattle.whole.specs.Table.{at}
use Rattle.account.specs.Measures.{total_of}
use Rattle.account.proofs.Reading.{value_told}
use Rattle.account.proofs.Running.{total_runs}
use Rattle.account.proofs.deviations.total.Goals as goal
use Rattle.account.proofs.deviations.total.Goals.{After-from-acc}

-- a turn adds one value more
turn :
    (c : After-from-acc) →
    Is (to_z w64 c.loop-x.acc-bits +ℤ r64 c.from-acc.result) (sum (at c.args.list.now.values.now) (c.loop-x.x-index + 1)) 6400000
turn c =
    running_more (total_runs _ _ c.args.list.now.valued) c.loop-x.x-index (to_z w64 c.loop-x.acc-bits) (omega arith) c.loop-x.invariant
    (rd w64 (value_told _ _ c.args.list.now.valued c.loop-x.x-index (omega arith) c.from-acc.ensures) tt)

pub loop-x-init : goal.loop-x-init
loop-x-init c = running_none _

pub overflow_add-acc : goal.overflow_add-acc
overflow_add-acc c = fit w64 (turn c) tt

pub loop-x-preserved : goal.loop-x-preserved
loop-x-preserved c = (rd w64 (turn c) tt).same

pub returns : goal.returns
unfolding total_of
returns c = running_done _ _ c.loop-x.x-index (to_z w64 c.loop-x.acc-bits) (omega arith) c.loop-x.invariant
