use mathlib.Core.List.{List}
use Prim.Native.Nat.{ℕ, ◌<◌}
use lib.IntN.{ℤ, pos}
use lib.ListN.{get_or, take}
use mir.Syntax.{w64}
use mir.Val.{SFits}
use Rattle.whole.specs.Table.{each}
use Rattle.digits.specs.Digits.{decimal}
use Rattle.pages.specs.Lines.{field}
use Rattle.pages.specs.Pages.{Puts}
use Rattle.pages.proofs.put_numbers.Given as goal

abbrev pub printed : ℤ → List ℕ
printed z = field (decimal z)

abbrev pub invariant-loop-number : goal.invariant-loop-number
invariant-loop-number l =
    Puts l.initial.page l.page l.at l.place (each printed (take l.number-index l.list))
    × ((k : ℕ) → k < l.number-index → SFits w64 (get_or l.list k (pos 0)))
