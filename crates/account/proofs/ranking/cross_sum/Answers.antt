-- `cross_sum` meets its contract. The loop's invariant: the accumulator is the sum of the local numerators passed.
-- Assumes nothing.
use mathlib.Core.Path.{◌∙◌}
use Prim.Native.Nat.{◌+◌}
use native.Mathlib.Omega.{arith}
use lib.IntN.{◌+ℤ◌, ◌*ℤ◌}
use mir.Syntax.{w64}
use mir.Val.{to_z}
use Rattle.whole.specs.Sum.{sum}
use Rattle.whole.specs.Table.{at, pair_at}
use Rattle.whole.proofs.Accumulate.{running_none, running_more, running_done}
use Rattle.whole.proofs.Machine.{Is, rd, fit, r64}
use Rattle.account.specs.Measures.{local_of}
use Rattle.account.proofs.Adding.{locals_sum}
use Rattle.account.proofs.Running.{local_is, cross_runs}
use Rattle.account.proofs.ranking.cross_sum.Goals as goal
use Rattle.account.proofs.ranking.cross_sum.Goals.{After-neighbour_sum-neighbours}

-- d(i) times the weighted neighbours, and a turn, which adds that
module _ (c : After-neighbour_sum-neighbours) where
  local :
      Is (r64 (at c.args.weighed.now.d.now c.loop-i.i) *ℤ r64 c.neighbour_sum-neighbours.result)
      (local_of (pair_at c.args.weighed.now.weights.now c.args.weighed.now.n) (at c.args.weighed.now.d.now) c.args.weighed.now.n c.loop-i.i) 94371840000000000
  local = local_is _ _ c.args.weighed.now.weighted _ c.loop-i.i c.args.weighed.now.sized (omega arith) c.neighbour_sum-neighbours.ensures

  turn :
      Is (to_z w64 c.loop-i.acc-bits +ℤ r64 (r64 (at c.args.weighed.now.d.now c.loop-i.i) *ℤ r64 c.neighbour_sum-neighbours.result))
      (sum (local_of (pair_at c.args.weighed.now.weights.now c.args.weighed.now.n) (at c.args.weighed.now.d.now) c.args.weighed.now.n) (c.loop-i.i + 1))
      6039797760000000000
  turn =
      running_more (cross_runs _ _ c.args.weighed.now.weighted _ c.args.weighed.now.sized) c.loop-i.i (to_z w64 c.loop-i.acc-bits) (omega arith)
      c.loop-i.invariant (rd w64 local tt)

pub loop-i-init : goal.loop-i-init
loop-i-init c = running_none _

pub overflow_mul-acc : goal.overflow_mul-acc
overflow_mul-acc c = fit w64 (local ((goal.at.overflow_mul-acc c).After-neighbour_sum-neighbours)) tt

pub overflow_add-acc : goal.overflow_add-acc
overflow_add-acc c = fit w64 (turn ((goal.at.overflow_add-acc c).After-neighbour_sum-neighbours)) tt

pub loop-i-preserved : goal.loop-i-preserved
loop-i-preserved c = (rd w64 (turn ((goal.at.loop-i-preserved c).After-neighbour_sum-neighbours)) tt).same

pub returns : goal.returns
returns c = running_done _ _ c.loop-i.i (to_z w64 c.loop-i.acc-bits) (omega arith) c.loop-i.invariant ∙ locals_sum _ _ _
