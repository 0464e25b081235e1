-- `squares` meets its contract. The loop's invariant: the accumulator is the sum over the rows passed. Assumes nothing.
use Prim.Native.Nat.{◌+◌}
use native.Mathlib.Omega.{arith}
use native.Mathlib.Nat as N
use lib.IntN.{◌+ℤ◌, ◌-ℤ◌}
use mir.Syntax.{w64}
use mir.Val.{to_z}
use Rattle.whole.specs.Integer.{square}
use Rattle.whole.specs.Sum.{sum}
use Rattle.whole.proofs.Accumulate.{running_none, running_more, running_done}
use Rattle.whole.proofs.Machine.{Is, told, rd, fit, r64}
use Rattle.whole.specs.Table.{at, pair_at}
use Rattle.account.specs.Measures.{row_of, pairs_of, squares_of}
use Rattle.account.proofs.Running.{row_squares_run, squares_run}
use Rattle.account.proofs.differences.squares.Goals as goal
use Rattle.account.proofs.differences.squares.Goals.{After-row_squares-acc}

-- a turn adds one row more
turn :
    (c : After-row_squares-acc) →
    let a = c.args in
    let x = at a.job.now.values.now in
    Is (to_z w64 c.loop-i.acc-bits +ℤ r64 c.row_squares-acc.result)
    (sum (λ i. row_of (pair_at a.job.now.weights.now a.job.now.n) (λ i j. square (x i -ℤ x j)) i a.job.now.n) (c.loop-i.i + 1)) 1474560000000000
unfolding row_of
turn c =
    let run = row_squares_run _ _ _ c.args.job.now.good c.loop-i.i (omega arith) in
    running_more (squares_run _ _ _ c.args.job.now.good) c.loop-i.i (to_z w64 c.loop-i.acc-bits) (omega arith) c.loop-i.invariant
    (rd w64 (told _ 23040000000000 c.row_squares-acc.ensures (run.bound c.args.job.now.n (N.le_refl c.args.job.now.n))) tt)

pub loop-i-init : goal.loop-i-init
loop-i-init c = running_none _

pub overflow_add-acc : goal.overflow_add-acc
overflow_add-acc c = fit w64 (turn c) tt

pub loop-i-preserved : goal.loop-i-preserved
loop-i-preserved c = (rd w64 (turn c) tt).same

pub returns : goal.returns
unfolding squares_of pairs_of
returns c = running_done _ _ c.loop-i.i (to_z w64 c.loop-i.acc-bits) (omega arith) c.loop-i.invariant
