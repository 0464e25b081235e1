-- `any_at_one_place` meets its contract: some zone is among the zones before it. Assumes nothing.
use mathlib.Core.Path.{◌≡◌, ap, ◌∙◌}
use mathlib.Core.Bool.{Bool}
use mathlib.Core.List.{List, []}
use Prim.Native.Nat.{ℕ, ◌<◌}
use lib.IntN.{ℤ}
use lib.ListN.{length, get_or, take}
use lib.Pointwise.{pointwise}
use Rattle.std.specs.List.{list_any, enumerate_from}
use Rattle.std.specs.Ordering.{int_eq}
use Rattle.std.proofs.Common.{rules, tests, zero-add}
use Rattle.std.proofs.lemmas.List.FromFn.{get_or-enumerate_from, length-enumerate_from}
use Rattle.std.proofs.lemmas.Iterator.{YieldsList-from_slice}
use Rattle.std.proofs.lemmas.Iterator.Consumers.{YieldsList-from_enumerate}
use Rattle.std.proofs.lemmas.Iterator.Search.{any_from_yields_List}
use Rattle.whole.specs.Search.{some}
use Rattle.whole.proofs.Search.{some_cong}
use Rattle.places.specs.Places.{any_at_one_place}
use Rattle.places.specs.Steps.{coordinates}
use Rattle.whole.proofs.Chains.{any_some}
use Rattle.places.proofs.Coordinates.{zone_at, zones_given, earlier_is}
use Rattle.places.proofs.judging.any_at_one_place.Goals as goal
use Rattle.places.proofs.judging.any_at_one_place.Goals.{After-any}

-- a zone, by its number, is among those before it
abbrev earlier : List (List ℤ) → ℕ × List ℤ → Bool
earlier zones p = list_any (λ y. pointwise int_eq y p.1) (take p.0 zones)

found : (c : After-any) → c.any.result ≡ list_any (earlier c.args.zones.now) (enumerate_from 0 c.args.zones.now)
found c =
    any_from_yields_List (earlier c.args.zones.now) _ _ _ c.any.ensures.ran
    (YieldsList-from_enumerate (YieldsList-from_slice c.args.zones.now cc) cc)
    (λ x b q k. search (rules, tests))

-- and that is the search by number
searched :
    (zones : List (List ℤ)) → ((a : ℕ) → a < length zones → length (zone_at zones a) ≡ 2) →
    list_any (earlier zones) (enumerate_from 0 zones) ≡ any_at_one_place (length zones) (coordinates zones)
unfolding any_at_one_place
searched zones two =
    let listed = enumerate_from 0 zones in
    any_some (earlier zones) listed (0, [])
    ∙ ap (some (λ k. earlier zones (get_or listed k (0, [])))) (length-enumerate_from 0 zones)
    ∙ some_cong _ _ (length zones)
    (λ a h.
    ap (earlier zones) (get_or-enumerate_from 0 zones a (0, []) h)
    ∙ rw (zero-add a) (earlier_is zones (coordinates zones) (zones_given zones two) a h))

pub returns : goal.returns
returns c = found ((goal.at.returns c).After-any) ∙ searched c.args.zones.now c.told-zones
