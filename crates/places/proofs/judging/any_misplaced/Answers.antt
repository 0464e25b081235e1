-- `any_misplaced` meets its contract: a band is 0, or two neighbours do not rise. Assumes nothing.
use mathlib.Core.Path.{◌≡◌, sym, ap, ◌∙◌}
use mathlib.Core.Bool.{Bool, true, false, not, ◌||◌}
use mathlib.Core.List.{List}
use Prim.Native.Nat.{ℕ}
use native.Mathlib.Omega.{arith}
use borrow.Author.Tests.{tests}
use lib.Dec.{ltb, eqb}
use Rattle.std.specs.List.{IsAllAdjacentAnswer}
use Rattle.std.proofs.Common.{rules}
use Rattle.std.proofs.lemmas.List.Sorted.{answers_always}
use Rattle.whole.proofs.Search.{none_some, some_found}
use Rattle.places.specs.Bands.{any_empty_band, any_not_rising, any_misplaced}
use Rattle.whole.proofs.Chains.{any_some}
use Rattle.places.proofs.judging.any_misplaced.Goals as goal
use Rattle.places.proofs.judging.any_misplaced.Goals.{After-contains}

-- the bands rise strictly, or not
not_rising : (bands : List ℕ) (r : Bool) → IsAllAdjacentAnswer (λ x y b. b ≡ ltb x y) bands r → not r ≡ any_not_rising bands
unfolding any_not_rising
not_rising bands true h = sym (none_some _ _ (λ k p. ap not (sym (h k 0 (omega arith)))))
not_rising bands false h = some_found _ _ h.0 (omega (arith, h.1)) (ap not (sym (h.2 0)))

-- a 0 is found, or not
found : (c : After-contains) → (c.contains.result || any_not_rising c.args.bands.now) ≡ any_misplaced c.args.bands.now
unfolding any_misplaced any_empty_band
found c =
    let bands = c.args.bands.now in
    ap (λ t. t || any_not_rising bands) (c.contains.ensures.value ∙ any_some (λ y. eqb y 0) bands 0)

pub returns-then-contains : goal.returns-then-contains
returns-then-contains c = c.if-contains.true ∙ (rw c.if-contains.true at (found ((goal.at.returns-then-contains c).After-contains)))

pub returns-else-contains : goal.returns-else-contains
returns-else-contains c =
    let k = c.is_sorted_by.ensures.cases (λ x y. ltb x y) (answers_always _ _ _ (λ f a r f' k. search (rules, tests))) in
    not_rising c.args.bands.now c.is_sorted_by.result k
    ∙ (rw c.if-contains.false at (found ((goal.at.returns-else-contains c).After-contains)))
