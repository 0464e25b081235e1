use Prim.Native.Nat.{◌*◌}
use lib.ListN.{take}
use Rattle.whole.specs.Table.{each}
use Rattle.report.specs.Steps.{Put, zone_line}
use Rattle.report.proofs.lines.put_zones.Given as goal

abbrev pub invariant-loop-zone : goal.invariant-loop-zone
invariant-loop-zone l =
    Put l.initial.page l.page l.at l.place (129 * l.zone-index)
    (each (zone_line l.fn.zones.locals.now l.fn.zones.figures.now l.fn.zones.sides.now l.spread) (take l.zone-index l.order))
