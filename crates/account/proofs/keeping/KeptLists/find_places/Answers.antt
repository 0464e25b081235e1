-- `find_places` meets its contract. The loop's invariant: the zones passed have their places. Assumes nothing.
use mathlib.Core.Path.{sym, ◌∙◌}
use native.Mathlib.Omega.{arith}
use Rattle.account.proofs.Placing.{placed_none, placed_next, placed_all}
use Rattle.account.proofs.keeping.KeptLists.find_places.Goals as goal

pub loop-k-init : goal.loop-k-init
loop-k-init c =
    let k = c.args.self.now in
    placed_none k.zones.now k.job.n c.fill.new.self (c.fill.ensures.len ∙ c.requires)
    (rw (sym c.requires) (c.fill.ensures.after (λ y e. e)))

pub loop-k-preserved : goal.loop-k-preserved
loop-k-preserved c =
    let k = c.args.self.now in
    rw c.from.ensures (placed_next k.zones.now k.job.n k.rising c.loop-k.k c.loop-k.places c.loop-k.invariant c.loop-k-test.true)

pub returns : goal.returns
returns c = placed_all _ _ c.args.self.now.rising c.loop-k.k c.loop-k.places c.loop-k.invariant (omega arith)
