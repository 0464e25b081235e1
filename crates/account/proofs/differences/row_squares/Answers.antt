-- `row_squares` meets its contract. The loop's invariant: the accumulator is the sum over the zones passed.
-- Assumes nothing.
use mathlib.Core.Path.{◌≡◌, ap, ◌∙◌}
use Prim.Native.Nat.{ℕ, ◌+◌, ◌*◌, ◌≤◌, ◌<◌}
use native.Mathlib.Omega.{arith}
use lib.IntN.{ℤ, pos, ◌+ℤ◌, ◌-ℤ◌, ◌*ℤ◌}
use lib.ListN.{length}
use mir.Syntax.{w64}
use mir.Val.{to_z}
use Rattle.whole.specs.Integer.{square}
use Rattle.whole.specs.Sum.{sum}
use Rattle.whole.proofs.Accumulate.{running_none, running_more, running_done}
use Rattle.whole.proofs.Machine.{Is, told, rd, is_*, fit, r64}
use Rattle.whole.specs.Table.{at, pair_at}
use Rattle.account.specs.Measures.{row_of}
use Rattle.account.proofs.Reading.{weight_le, difference_told}
use Rattle.account.proofs.Rows.{row_in, part_length, part_at}
use Rattle.account.proofs.Running.{row_squares_run}
use Rattle.account.proofs.differences.row_squares.Goals as goal
use Rattle.account.proofs.differences.row_squares.Goals.{After-squared_difference}

-- w(i,j) (x(i) − x(j))², and a turn that adds it
module _ (c : After-squared_difference) where
  abbrev j : ℕ
  j = c.loop-j.j

  abbrev weight : ℕ → ℕ
  weight = pair_at c.args.job.now.weights.now c.args.job.now.n c.args.i

  -- (x(i) − x(j))²
  abbrev apart : ℕ → ℤ
  apart j = square (at c.args.job.now.values.now c.args.i -ℤ at c.args.job.now.values.now j)

  there : c.args.i * c.args.job.now.n + c.args.job.now.n ≤ length c.args.job.now.weights.now
  there = row_in _ _ _ c.args.job.now.good.weighted.count c.requires

  before : j < c.args.job.now.n
  before = omega (arith, part_length c.args.job.now.weights.now c.args.job.now.n c.args.i there _ c.row-row.ensures)

  -- what the code has read of the weight
  read : c.from.result ≡ pos (weight j)
  unfolding pair_at
  read = c.from.ensures ∙ ap pos (part_at c.args.job.now.weights.now c.args.job.now.n c.args.i there _ c.row-row.ensures j 0 before)

  term : Is (r64 c.from.result *ℤ r64 c.squared_difference.result) (pos (weight j) *ℤ apart j) 360000000000
  term =
      is_* (rd w64 (told _ 9 read (weight_le _ _ c.args.job.now.good.weighted c.args.i j c.requires before)) tt)
      (rd w64 (difference_told _ _ c.args.job.now.good.valued c.args.i j c.requires before c.squared_difference.ensures) tt)

  turn :
      Is (to_z w64 c.loop-j.acc-bits +ℤ r64 (r64 c.from.result *ℤ r64 c.squared_difference.result))
      (sum (λ j. pos (weight j) *ℤ apart j) (j + 1)) 23040000000000
  turn =
      running_more (row_squares_run _ _ _ c.args.job.now.good c.args.i c.requires) j (to_z w64 c.loop-j.acc-bits)
      (omega (arith, before)) c.loop-j.invariant (rd w64 term tt)

pub loop-j-init : goal.loop-j-init
loop-j-init c = running_none _

pub overflow_mul-acc : goal.overflow_mul-acc
overflow_mul-acc c = fit w64 (term c) tt

pub overflow_add-acc : goal.overflow_add-acc
overflow_add-acc c = fit w64 (turn c) tt

pub loop-j-preserved : goal.loop-j-preserved
loop-j-preserved c = (rd w64 (turn c) tt).same

pub returns : goal.returns
unfolding row_of
returns c =
    let there = row_in _ _ _ c.args.job.now.good.weighted.count c.requires in
    let long = part_length c.args.job.now.weights.now c.args.job.now.n c.args.i there _ c.row-row.ensures in
    running_done _ c.args.job.now.n c.loop-j.j (to_z w64 c.loop-j.acc-bits) (omega (arith, long)) c.loop-j.invariant
