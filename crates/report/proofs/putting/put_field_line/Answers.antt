-- `put_field_line` meets its contract: what stands behind the numbers and the line feed are put behind the start. Assumes nothing.
use mathlib.Core.List.{[], ◌∷◌}
use native.Mathlib.Omega.{arith}
use Rattle.pages.specs.Lines.{numbers}
use Rattle.report.proofs.Puts.{put_most, put_as, put_then, line_parts}
use Rattle.report.proofs.putting.put_field_line.Goals as goal

pub returns : goal.returns
returns g c =
    let a = c.args in
    let put = put_then (put_then c.put_start-place.ensures c.put-end.ensures) c.put_end.ensures in
    put_as (put_most put (omega arith)) (line_parts a.line.now.word.now (numbers a.line.now.numbers.now) (g.F.Field.text a.field) (10 ∷ []))
