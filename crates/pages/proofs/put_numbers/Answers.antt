-- `put_numbers` meets its contract. The loop's invariant: the fields of the numbers passed are put from `at` on. Assumes nothing.
use mathlib.Core.Path.{ap}
use native.Mathlib.Omega.{arith}
use borrow.Author.Count.{below_more}
use borrow.Author.Rules.{rules}
use lib.IntN.{pos}
use lib.ListN.{get_or}
use mir.Syntax.{w64}
use mir.Val.{SFits}
use mir.ValLaws.{to_z-of_z}
use Rattle.pages.specs.Lines.{numbers}
use Rattle.pages.proofs.Puts.{puts_as, puts_each_none, puts_each_next, puts_each_all}
use Rattle.pages.proofs.Widths.{each_fits, numbers_width}
use Rattle.pages.proofs.put_numbers.Invariants.{printed}
use Rattle.pages.proofs.put_numbers.Goals as goal

pub loop-number-init : goal.loop-number-init
loop-number-init c = (puts_each_none printed c.min-place.ensures, λ k p. absurd (omega arith))

pub loop-number-preserved : goal.loop-number-preserved
loop-number-preserved c =
    let l = c.loop-number in
    let list = c.args.list.now in
    let number = get_or list l.number-index (pos 0) in
    let fits : SFits w64 number = search rules in
    let puts = puts_as c.put_number-place.ensures (ap printed (to_z-of_z w64 number fits)) in
    (puts_each_next printed list l.number-index (pos 0) (omega arith) l.invariant.0 puts, below_more _ _ l.invariant.1 fits)

pub returns-clause-text : goal.returns-clause-text
unfolding numbers
returns-clause-text c = puts_each_all printed c.args.list.now c.loop-number.number-index (omega arith) c.loop-number.invariant.0

pub returns-clause-width : goal.returns-clause-width
returns-clause-width c =
    let list = c.args.list.now in
    numbers_width list (each_fits list (λ k p. c.loop-number.invariant.1 k (omega arith)))
