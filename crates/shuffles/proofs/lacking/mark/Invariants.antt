use mathlib.Core.Path.{◌≡◌}
use Prim.Native.Nat.{ℕ, ◌<◌}
use lib.Dec.{eqb}
use lib.ListN.{length, get_or}
use Rattle.whole.specs.Search.{some}
use Rattle.shuffles.specs.Steps.{mark_of}
use Rattle.shuffles.proofs.lacking.mark.Given as goal

abbrev pub invariant-loop-zone : goal.invariant-loop-zone
invariant-loop-zone l =
    (length l.named ≡ 256) × ((k : ℕ) → k < 256 → get_or l.named k 0 ≡ mark_of (some (λ i. eqb (get_or l.row i 0) k) l.zone-index))
