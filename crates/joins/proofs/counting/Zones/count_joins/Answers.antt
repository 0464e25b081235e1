-- `count_joins` meets its contract: row by row. Assumes nothing.
use mathlib.Core.Path.{ap, subst}
use Prim.Native.Nat.{◌*◌}
use native.Mathlib.Nat as N
use native.Mathlib.Omega.{arith}
use Rattle.whole.proofs.Search.{none_above}
use Rattle.joins.specs.Steps.{Counted}
use Rattle.joins.proofs.Counted.{none_counted, all_counted}
use Rattle.joins.proofs.counting.Zones.count_joins.Goals as goal

pub loop-i-init : goal.loop-i-init
loop-i-init c = rw N.zero-mul (none_counted _ _ _ _ c.requires)

pub returns : goal.returns
returns c =
    let s = c.args.self.now in
    all_counted s.n s.categories.now s.weights.now
    (λ k h. let z = none_above 7 s.categories.now s.low k (omega (arith, s.categories_fit)) in omega arith) _
    (subst (Counted s.n s.categories.now s.weights.now c.loop-i.entries) (ap (λ i. i * s.n) (omega arith)) c.loop-i.invariant)
