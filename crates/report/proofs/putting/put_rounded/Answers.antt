-- `put_rounded` meets its contract: the sign is put right behind the bits. Assumes nothing.
use mathlib.Core.Path.{◌≡◌, ap}
use mathlib.Core.List.{◌++◌}
use native.Mathlib.Nat as N
use native.Mathlib.Omega.{arith}
use borrow.Author.Rules.{rules}
use lib.ListN.{length}
use Rattle.pages.specs.Lines.{bits}
use Rattle.pages.proofs.Widths.{bits_width}
use Rattle.report.proofs.Puts.{put_as, put_of, put_then}
use Rattle.report.proofs.putting.put_rounded.Goals as goal

pub returns : goal.returns
returns c =
    let room = c.requires in
    let digits = put_of 17 c.put_bits-place.ensures (N.le_of_eq (bits_width _)) (omega arith) in
    let same : length c.put_bits-place.new.page ≡ length c.args.page.now = search rules in
    let sign = put_of 1 c.put_byte.ensures (omega arith) (omega (arith, digits.few)) in
    put_as (put_then digits sign) (ap (λ s. bits c.args.bits ++ s) c.sign.ensures)
