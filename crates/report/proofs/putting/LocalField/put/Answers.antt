-- `put` of a zone's local Moran meets its contract: there is room for it. Assumes nothing.
use native.Mathlib.Omega.{arith}
use Rattle.report.proofs.Puts.{put_most}
use Rattle.report.proofs.putting.LocalField.put.Goals as goal

pub returns : goal.returns
returns c = put_most c.put_rounded.ensures (omega arith)
