-- `local_numerators` meets its contract. The loop's invariant: each element passed is its local numerator. Assumes nothing.
use native.Mathlib.Omega.{arith}
use lib.IntN.{pos, ◌*ℤ◌}
use mir.Syntax.{w64}
use Rattle.whole.proofs.Machine.{Is, rd, fit, r64}
use Rattle.whole.proofs.Table.{is_table, stored}
use Rattle.whole.specs.Table.{at, pair_at}
use Rattle.account.specs.Measures.{local_of}
use Rattle.account.proofs.Running.{local_is}
use Rattle.account.proofs.deviations.local_numerators.Goals as goal
use Rattle.account.proofs.deviations.local_numerators.Goals.{After-neighbour_sum-neighbours}

-- d(i) times the weighted neighbours
local :
    (c : After-neighbour_sum-neighbours) →
    let a = c.args.weighed.now in
    Is (r64 (at a.d.now c.loop-i.i) *ℤ r64 c.neighbour_sum-neighbours.result)
    (local_of (pair_at a.weights.now a.n) (at a.d.now) a.n c.loop-i.i) 94371840000000000
local c =
    let p = c.args.weighed.now in
    local_is _ _ p.weighted _ c.loop-i.i p.sized (omega arith) c.neighbour_sum-neighbours.ensures

pub overflow_mul-local : goal.overflow_mul-local
overflow_mul-local c = fit w64 (local ((goal.at.overflow_mul-local c).After-neighbour_sum-neighbours)) tt

pub loop-i-preserved : goal.loop-i-preserved
loop-i-preserved c = let a = c.args.weighed.now in
    stored (local_of (pair_at a.weights.now a.n) (at a.d.now) a.n) (pos 0) _ c.loop-i.locals c.loop-i.i (omega arith)
    (rd w64 (local ((goal.at.loop-i-preserved c).After-neighbour_sum-neighbours)) tt).same c.loop-i.invariant

pub returns : goal.returns
returns c =
    let a = c.args.weighed.now in
    is_table (local_of (pair_at a.weights.now a.n) (at a.d.now) a.n) a.n (pos 0) c.loop-i.locals (omega arith)
    (λ k p. c.loop-i.invariant k (omega arith))
