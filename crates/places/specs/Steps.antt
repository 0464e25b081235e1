-- What the private functions ask of each other; no part of the public promise. Assumes nothing.
use Rattle.std.specs.Prelude.{List, [], ◌∷◌, ℤ}
use Rattle.whole.specs.Table.{at}

-- zones that are given each by its two coordinates, and the list of the coordinates
unfoldable pub coordinates : List (List ℤ) → List ℤ
coordinates [] = []
coordinates (zone ∷ zones) = at zone 0 ∷ at zone 1 ∷ coordinates zones
