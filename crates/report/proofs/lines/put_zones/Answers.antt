-- `put_zones` meets its contract. The loop's invariant: the lines of the zones passed are put. Assumes nothing.
use mathlib.Core.Path.{refl, sym, ap, ◌∙◌}
use borrow.Author.Rules.{rules}
use lib.ListN.{get_or}
use lib.IntN.{pos}
use mir.Syntax.{w64}
use mir.ValLaws.{to_z-of_z}
use Rattle.report.specs.Steps.{zone_line}
use Rattle.report.proofs.Puts.{put_as, put_each_none, put_each_next}
use Rattle.report.proofs.LineLaws.{read_back, zone_text}
use Rattle.report.proofs.lines.put_zones.Goals as goal

pub loop-zone-init : goal.loop-zone-init
loop-zone-init c = put_each_none (zone_line _ _ _ _)

pub loop-zone-preserved : goal.loop-zone-preserved
loop-zone-preserved c =
    let l = c.loop-zone in
    let a = c.args in
    let zone = c.from-of_zone.result in
    let is_zone = c.from-of_zone.ensures in
    let number = read_back c.from.type_inv (c.from.ensures ∙ ap pos (sym is_zone)) in
    let zones = a.zones.now in
    let numerator = to_z-of_z w64 (get_or zones.locals.now zone (pos 0)) (search rules) in
    let text = zone_text zones.locals.now zones.figures.now zones.sides.now _ zone number numerator refl refl ∙ ap (zone_line _ _ _ _) is_zone in
    put_each_next (zone_line _ _ _ _) {size = 129} a.order.now l.zone-index 0 c.loop-zone-test.true l.invariant
    (put_as c.put_field_line-place.ensures text)
