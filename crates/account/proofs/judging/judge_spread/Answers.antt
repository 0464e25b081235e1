-- `judge_spread` meets its contract. Assumes nothing.
use mathlib.Core.Path.{refl}
use mir.Syntax.{w64}
use Rattle.whole.proofs.Machine.{zero_yes, zero_no}
use Rattle.account.proofs.Locals.{total_held, spread_told}
use Rattle.account.proofs.judging.judge_spread.Goals as goal

pub invariant_of-spread : goal.invariant_of-spread
invariant_of-spread c = record { summed = total_held _ _ c.args.list.now.valued c.total-total.ensures }

pub returns-then-spread-eq0 : goal.returns-then-spread-eq0
returns-then-spread-eq0 c =
    rw (zero_yes w64 (spread_told _ _ c.args.list.now.valued c.spread.ensures) tt c.if-spread-eq0.true) refl

pub returns : goal.returns
returns c = rw (zero_no w64 c.spread.ensures c.if-spread-eq0.false) refl
