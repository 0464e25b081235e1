-- `neighbour_sum` meets its contract. The loop's invariant: the accumulator is the sum over the zones passed.
-- Assumes nothing.
use mathlib.Core.Path.{◌≡◌, ap, ◌∙◌}
use Prim.Native.Nat.{ℕ, ◌+◌, ◌*◌, ◌≤◌, ◌<◌}
use native.Mathlib.Omega.{arith}
use lib.IntN.{ℤ, pos, ◌+ℤ◌, ◌*ℤ◌}
use lib.ListN.{length}
use mir.Syntax.{w64}
use mir.Val.{to_z}
use Rattle.whole.specs.Sum.{sum}
use Rattle.whole.specs.Table.{at, pair_at}
use Rattle.whole.proofs.Accumulate.{running_none, running_more, running_done}
use Rattle.whole.proofs.Machine.{Is, val, told, rd, is_*, fit, r64}
use Rattle.account.specs.Measures.{row_of}
use Rattle.account.proofs.Reading.{weight_le}
use Rattle.account.proofs.Rows.{row_in, part_length, part_at}
use Rattle.account.proofs.Running.{neighbours_run}
use Rattle.account.proofs.deviations.neighbour_sum.Goals as goal
use Rattle.account.proofs.deviations.neighbour_sum.Goals.{After-from}

-- w(i,j) d(j), and a turn that adds it
module _ (c : After-from) where
  abbrev j : ℕ
  j = c.loop-j.j

  abbrev weight : ℕ → ℕ
  weight = pair_at c.args.weighed.now.weights.now c.args.weighed.now.n c.args.i

  abbrev deviation : ℕ → ℤ
  deviation = at c.args.weighed.now.d.now

  there : c.args.i * c.args.weighed.now.n + c.args.weighed.now.n ≤ length c.args.weighed.now.weights.now
  there = row_in _ _ _ c.args.weighed.now.weighted.count c.requires

  before : j < c.args.weighed.now.n
  before = omega (arith, part_length c.args.weighed.now.weights.now c.args.weighed.now.n c.args.i there _ c.row-row.ensures)

  -- what the code has read of the weight
  read : c.from.result ≡ pos (weight j)
  unfolding pair_at
  read = c.from.ensures ∙ ap pos (part_at c.args.weighed.now.weights.now c.args.weighed.now.n c.args.i there _ c.row-row.ensures j 0 before)

  term : Is (r64 c.from.result *ℤ r64 (deviation j)) (pos (weight j) *ℤ deviation j) 115200000
  term =
      is_* (rd w64 (told _ 9 read (weight_le _ _ c.args.weighed.now.weighted c.args.i j c.requires before)) tt)
      (rd w64 (val (deviation j) 12800000 (c.args.weighed.now.sized.size j before)) tt)

  turn :
      Is (to_z w64 c.loop-j.acc-bits +ℤ r64 (r64 c.from.result *ℤ r64 (deviation j)))
      (sum (λ j. pos (weight j) *ℤ deviation j) (j + 1)) 7372800000
  turn =
      running_more (neighbours_run _ _ c.args.weighed.now.weighted _ c.args.i c.args.weighed.now.sized c.requires) j
      (to_z w64 c.loop-j.acc-bits) (omega (arith, before)) c.loop-j.invariant (rd w64 term tt)

pub loop-j-init : goal.loop-j-init
loop-j-init c = running_none _

pub overflow_mul-acc : goal.overflow_mul-acc
overflow_mul-acc c = fit w64 (term ((goal.at.overflow_mul-acc c).After-from)) tt

pub overflow_add-acc : goal.overflow_add-acc
overflow_add-acc c = fit w64 (turn ((goal.at.overflow_add-acc c).After-from)) tt

pub loop-j-preserved : goal.loop-j-preserved
loop-j-preserved c = (rd w64 (turn ((goal.at.loop-j-preserved c).After-from)) tt).same

pub returns : goal.returns
unfolding row_of
returns c =
    let there = row_in _ _ _ c.args.weighed.now.weighted.count c.requires in
    let long = part_length c.args.weighed.now.weights.now c.args.weighed.now.n c.args.i there _ c.row-row.ensures in
    running_done _ c.args.weighed.now.n c.loop-j.j (to_z w64 c.loop-j.acc-bits) (omega (arith, long)) c.loop-j.invariant
