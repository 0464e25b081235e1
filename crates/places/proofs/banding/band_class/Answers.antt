-- `band_class` meets its contract: the place of the first band that the distance does not exceed, and the class by it. Assumes nothing.
use mathlib.Core.Path.{◌≡◌, ap, ◌∙◌}
use mir.Syntax.{w64}
use mir.ValLaws.{to_z-of_z}
use Rattle.std.proofs.Common.{rules, tests}
use Rattle.std.specs.List.{position}
use Rattle.std.proofs.lemmas.Iterator.{YieldsList-from_slice}
use Rattle.std.proofs.lemmas.Iterator.Search.{position_from_yields_List}
use Rattle.whole.proofs.Machine.{r64}
use Rattle.places.proofs.Classes.{within, class_by_place}
use Rattle.places.proofs.banding.band_class.Goals as goal
use Rattle.places.proofs.banding.band_class.Goals.{After-position}

found : (c : After-position) → c.position.result ≡ position (within c.args.distance) c.args.bands.now
found c =
    position_from_yields_List (within (r64 c.args.distance)) _ _ _ c.position.ensures.ran (YieldsList-from_slice c.args.bands.now cc)
    (λ x b q k. search (rules, tests))
    ∙ ap (λ d. position (within d) c.args.bands.now) (to_z-of_z w64 c.args.distance c.ranges.distance)

pub returns : goal.returns
returns c = class_by_place _ _ c.position.result _ (found ((goal.at.returns c).After-position)) (search rules)
