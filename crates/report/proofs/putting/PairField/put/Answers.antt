-- `put` of a pair meets its contract: Geary's c is put behind Moran's I. Assumes nothing.
use Rattle.report.proofs.Puts.{put_then}
use Rattle.report.proofs.putting.PairField.put.Goals as goal

pub returns : goal.returns
returns c = put_then c.put_coefficient-place.ensures c.put_coefficient.ensures
