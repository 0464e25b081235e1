-- `deviations` meets its contract. The loop's invariant: each element passed is its deviation. Assumes nothing.
use native.Mathlib.Nat as N
use native.Mathlib.Omega.{arith}
use lib.IntN.{pos, ◌-ℤ◌, ◌*ℤ◌}
use mir.Syntax.{w64}
use mir.Val.{to_z}
use Rattle.whole.proofs.Machine.{Is, nat, told, rd, is__, is_*, fit, r64}
use Rattle.whole.proofs.Table.{is_table, stored}
use Rattle.whole.specs.Table.{at}
use Rattle.account.specs.Measures.{total_of, deviation_of}
use Rattle.account.proofs.Reading.{value_told}
use Rattle.account.proofs.Running.{total_runs}
use Rattle.account.proofs.deviations.deviations.Goals as goal
use Rattle.account.proofs.deviations.deviations.Goals.{After-from}

-- n x(i), and n x(i) − S
module _ (c : After-from) where
  product : Is (to_z w64 c.args.summed.now.list.n *ℤ r64 c.from.result) (pos c.args.summed.now.list.n *ℤ at c.args.summed.now.list.values.now c.loop-i.i) 6400000
  product =
      is_* (nat w64 c.args.summed.now.list.n 64 c.args.summed.now.list.valued.zones tt)
      (rd w64 (value_told _ _ c.args.summed.now.list.valued c.loop-i.i (omega arith) c.from.ensures) tt)

  deviation :
      Is (r64 (to_z w64 c.args.summed.now.list.n *ℤ r64 c.from.result) -ℤ r64 c.args.summed.now.total)
      (deviation_of (at c.args.summed.now.list.values.now) c.args.summed.now.list.n c.loop-i.i) 12800000
  unfolding deviation_of total_of
  deviation =
      let bound = (total_runs _ _ c.args.summed.now.list.valued).bound c.args.summed.now.list.n (N.le_refl c.args.summed.now.list.n) in
      is__ (rd w64 product tt) (rd w64 (told _ 6400000 c.args.summed.now.summed bound) tt)

pub overflow_mul-deviation : goal.overflow_mul-deviation
overflow_mul-deviation c = fit w64 (product c) tt

pub overflow_sub-deviation : goal.overflow_sub-deviation
overflow_sub-deviation c = fit w64 (deviation c) tt

pub loop-i-preserved : goal.loop-i-preserved
loop-i-preserved c =
    stored (deviation_of (at c.args.summed.now.list.values.now) c.args.summed.now.list.n) (pos 0) _ c.loop-i.d c.loop-i.i (omega arith) (rd w64 (deviation c) tt).same
    c.loop-i.invariant

pub returns : goal.returns
returns c =
    is_table (deviation_of (at c.args.summed.now.list.values.now) c.args.summed.now.list.n) c.args.summed.now.list.n (pos 0) c.loop-i.d (omega arith)
    (λ k p. c.loop-i.invariant k (omega arith))
