-- `half_to_even` meets its contract: the number that `rounds_up` chooses is the kit's. Assumes nothing.
use mathlib.Core.Path.{◌≡◌}
use mathlib.Core.Bool.{Bool, true, false}
use Prim.Native.Nat.{ℕ, ◌+◌, ◌*◌, compare}
use lib.Ieee.{nearest}
use Rattle.halves.specs.Halves.{rounds_up}
use Rattle.halves.proofs.Rounding.{rounded}
use Rattle.nearest.proofs.half_to_even.Goals as goal

-- ---- what the kit takes, by what the call answered
module _ (whole rest divisor : ℕ) (up : Bool) (told : up ≡ rounds_up whole rest divisor) where
  next : up ≡ true → whole + 1 ≡ nearest whole (compare (rest * 2) divisor)
  next e = rw (rounded, ← told, e)

  same : up ≡ false → whole ≡ nearest whole (compare (rest * 2) divisor)
  same e = rw (rounded, ← told, e)

pub returns-then-rounds_up : goal.returns-then-rounds_up
returns-then-rounds_up c =
    let a = c.args in
    let r = c.rounds_up in
    next a.whole a.rest a.divisor r.result r.ensures c.if-rounds_up.true

pub returns-else-rounds_up : goal.returns-else-rounds_up
returns-else-rounds_up c =
    let a = c.args in
    let r = c.rounds_up in
    same a.whole a.rest a.divisor r.result r.ensures c.if-rounds_up.false
