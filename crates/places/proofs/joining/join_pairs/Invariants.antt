use mathlib.Core.Path.{◌≡◌}
use mathlib.Core.Bool.{false}
use lib.ListN.{length}
use Rattle.whole.specs.Search.{some}
use Rattle.whole.proofs.TableRows.{Filled}
use Rattle.places.specs.Places.{squared_distance}
use Rattle.places.specs.Steps.{coordinates}
use Rattle.places.specs.Gabriel.{gabriel_weight}
use Rattle.places.proofs.Circles.{third_in}
use Rattle.places.proofs.joining.join_pairs.Given as goal

abbrev pub invariant-pair : goal.invariant-pair
invariant-pair l =
    let n = length l.zones.zones.now in
    Filled (gabriel_weight (squared_distance (coordinates l.zones.zones.now)) n) n n 0 l.weights l.p

abbrev pub invariant-third : goal.invariant-third
invariant-third l = some (third_in (squared_distance (coordinates l.zones.zones.now)) l.a l.b) l.c ≡ false
