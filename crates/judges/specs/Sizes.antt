-- How many places a lent list must have, by what stands in it. Assumes nothing.
use Rattle.std.specs.Prelude.{List, [], ◌∷◌, ℕ, ◌*◌}
use Rattle.judges.specs.declared.sizes.Places.{Places}
use Rattle.judges.specs.declared.sizes.Places.TheVariants.{Zones, Pairs, ClassZones, Fixed}

-- the places that a list must have where there are n zones
abbrev pub places_for : ℕ → Places → ℕ
places_for n Zones = n
places_for n Pairs = n * n
places_for n ClassZones = 9 * n
places_for n (Fixed places) = places

-- each list's length, and the length that it must have
abbrev pub lengths_for : ℕ → List (ℕ × Places) → List (ℕ × ℕ)
lengths_for n [] = []
lengths_for n (one ∷ others) = (one.0, places_for n one.1) ∷ lengths_for n others
