-- `put_coefficient` meets its contract: a figure's bits and sign, or that there is none. Assumes nothing.
use mathlib.Core.Path.{sym, ap}
use native.Mathlib.Omega.{arith}
use Rattle.report.specs.Lines.{coefficient}
use Rattle.report.proofs.Puts.{put_as, put_of}
use Rattle.report.proofs.putting.put_coefficient.Goals as goal

pub returns-in-Figure : goal.returns-in-Figure
unfolding coefficient
returns-in-Figure c =
    put_as c.put_rounded.ensures (ap coefficient (sym c.in-Figure.is))

pub returns-in-Weightless : goal.returns-in-Weightless
unfolding coefficient
returns-in-Weightless c =
    let room = c.requires.room in
    put_as (put_of 18 c.put.ensures (omega arith) room) (ap coefficient (sym c.in-Weightless.is))
