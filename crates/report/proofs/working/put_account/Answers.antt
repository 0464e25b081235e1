-- `put_account` meets its contract: the sums, the ratios and the zones are put in turn. Assumes nothing.
use mathlib.Core.Path.{◌≡◌, ap}
use lib.ListN.{length, take}
use mir.Syntax.{w64}
use mir.ValLaws.{to_z-of_z}
use Rattle.whole.specs.Table.{each}
use Rattle.whole.proofs.Machine.{r64}
use Rattle.hot_list.specs.HotList.{in_order}
use Rattle.report.specs.Steps.{zone_line}
use Rattle.report.proofs.Puts.{put_as, put_then}
use borrow.Author.Rules.{rules}
use Rattle.report.proofs.working.put_account.Goals as goal

-- the spread that is read is the one that was lent
pub returns : goal.returns
returns c =
    let a = c.args in
    let z = a.zones.now in
    let spread_read : r64 a.whole.sums.spread ≡ a.whole.sums.spread = to_z-of_z w64 a.whole.sums.spread (search rules) in
    let zones =
    put_as c.put_hot_list.ensures
    (ap (λ m. each (zone_line z.locals.now z.figures.now z.sides.now m)
    (take a.whole.sums.kept (in_order (length z.locals.now) z.values.now z.weights.now z.locals.now)))
    spread_read) in
    put_then (put_then c.put_sums-place.ensures c.put_ratios-end.ensures) zones
