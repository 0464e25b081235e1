use lib.ListN.{length}
use Rattle.whole.proofs.TableRows.{Filled}
use Rattle.places.specs.Places.{squared_distance}
use Rattle.places.specs.Steps.{coordinates}
use Rattle.places.specs.Bands.{pair_class}
use Rattle.places.proofs.banding.class_pairs.Given as goal

abbrev pub invariant-loop-p : goal.invariant-loop-p
invariant-loop-p l =
    let zones = l.zones.zones.now in
    Filled (pair_class l.bands (squared_distance (coordinates zones))) (length zones) (length zones) 0 l.classes l.p
