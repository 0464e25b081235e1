-- `put_number` meets its contract: the front of its local text is the number in decimal. Assumes nothing.
use mathlib.Core.Path.{◌≡◌, sym, ap, ◌∙◌}
use mathlib.Core.List.{◌∷◌}
use lib.ListN.{take}
use lib.Seq.{take_at}
use mir.Syntax.{w64}
use mir.Val.{of_z, to_z}
use mir.ValLaws.{to_z-of_z}
use Rattle.digits.specs.Digits.{decimal}
use Rattle.pages.proofs.Puts.{puts_as, puts_then}
use Rattle.pages.proofs.put_number.Goals as goal

pub returns : goal.returns
returns c =
    let number = c.args.number in
    let k = c.decimal-k.result in
    let digits = decimal (to_z w64 (of_z w64 number)) in
    let front : take k c.decimal-k.new.text ≡ digits =
    ap (take k) c.decimal-k.ensures.text ∙ take_at digits _ k (sym c.decimal-k.ensures.length) in
    puts_as (puts_then c.put_byte-place.ensures c.put.ensures)
    (ap (λ l. 32 ∷ l) (front ∙ ap decimal (to_z-of_z w64 number c.ranges.number)))
