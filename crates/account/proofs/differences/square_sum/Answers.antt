-- `square_sum` meets its contract. The loop's invariant: the accumulator is the sum of the squares passed.
-- Assumes nothing.
use Prim.Native.Nat.{ℕ, ◌+◌}
use native.Mathlib.Omega.{arith}
use lib.IntN.{◌+ℤ◌, ◌*ℤ◌}
use mir.Syntax.{w64}
use mir.Val.{to_z}
use Rattle.whole.specs.Integer.{square}
use Rattle.whole.specs.Sum.{sum}
use Rattle.whole.proofs.Accumulate.{running_none, running_more, running_done}
use Rattle.whole.proofs.Machine.{Is, rd, is_*, fit, r64}
use Rattle.whole.specs.Table.{at}
use Rattle.account.proofs.Reading.{value_told}
use Rattle.account.proofs.Running.{square_runs}
use Rattle.account.proofs.differences.square_sum.Goals as goal
use Rattle.account.proofs.differences.square_sum.Goals.{After-from-x}

-- a value times itself, and a turn, which adds that
module _ (c : After-from-x) where
  abbrev i : ℕ
  i = c.loop-value.value-index

  product : Is (r64 c.from-x.result *ℤ r64 c.from-x.result) (square (at c.args.list.now.values.now i)) 10000000000
  product =
      let value = rd w64 (value_told _ _ c.args.list.now.valued i (omega arith) c.from-x.ensures) tt in
      is_* value value

  turn :
      Is (to_z w64 c.loop-value.acc-bits +ℤ r64 (r64 c.from-x.result *ℤ r64 c.from-x.result))
      (sum (λ i. square (at c.args.list.now.values.now i)) (i + 1)) 640000000000
  turn = running_more (square_runs _ _ c.args.list.now.valued) i (to_z w64 c.loop-value.acc-bits) (omega arith) c.loop-value.invariant (rd w64 product tt)

pub loop-value-init : goal.loop-value-init
loop-value-init c = running_none _

pub overflow_mul-acc : goal.overflow_mul-acc
overflow_mul-acc c = fit w64 (product c) tt

pub overflow_add-acc : goal.overflow_add-acc
overflow_add-acc c = fit w64 (turn c) tt

pub loop-value-preserved : goal.loop-value-preserved
loop-value-preserved c = (rd w64 (turn c) tt).same

pub returns : goal.returns
returns c = running_done _ _ c.loop-value.value-index (to_z w64 c.loop-value.acc-bits) (omega arith) c.loop-value.invariant
