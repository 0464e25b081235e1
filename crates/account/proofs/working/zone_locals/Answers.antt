-- `zone_locals` meets its contract: the deviations are worked into a local array, whose first n places are lent. Assumes nothing.
use mathlib.Core.Path.{◌≡◌}
use mathlib.Core.List.{List, ◌++◌}
use lib.IntN.{ℤ}
use lib.ListN.{take}
use Rattle.whole.specs.Table.{table, at}
use Rattle.whole.proofs.Lists.{front}
use Rattle.whole.proofs.Table.{table_length}
use Rattle.account.specs.Measures.{deviation_of}
use Rattle.account.specs.declared.lists.ZoneValues.{ZoneValues}
use Rattle.account.proofs.Locals.{deviations_sized, locals_are}
use Rattle.account.proofs.working.zone_locals.Goals as goal
use Rattle.account.proofs.working.zone_locals.Goals.{After-deviations}

-- the deviations of the zones, as the array's front holds them
module _ (c : After-deviations) where
  abbrev zones : ZoneValues
  zones = c.args.summed.now.list

  held : (rest : List ℤ) → take zones.n (c.deviations.new.d ++ rest) ≡ table (deviation_of (at zones.values.now) zones.n) zones.n
  held rest = front _ rest _ zones.n c.deviations.ensures (table_length (deviation_of (at zones.values.now) zones.n) zones.n)

pub invariant_of-weighed : goal.invariant_of-weighed
invariant_of-weighed c = record {
  weighted = c.requires.weighted;
  sized = deviations_sized _ _ _ c.args.summed.now.list.valued (held ((goal.at.invariant_of-weighed c).After-deviations) _);
}

pub returns : goal.returns
returns c =
    let zones = c.args.summed.now.list in
    locals_are zones.values.now _ zones.n (record { valued = zones.valued; weighted = c.requires.weighted }) _ _
    (held ((goal.at.returns c).After-deviations) _) c.local_numerators.ensures
