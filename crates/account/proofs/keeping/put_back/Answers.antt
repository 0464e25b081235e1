-- `put_back` meets its contract. The loop's invariant: the zones passed have their numbers. Assumes nothing.
use native.Mathlib.Omega.{arith}
use lib.IntN.{pos}
use lib.ListN.{length}
use Rattle.whole.specs.Table.{at}
use Rattle.whole.proofs.Table.{is_table}
use Rattle.account.specs.Steps.{at_place}
use Rattle.account.proofs.keeping.put_back.Goals as goal

pub returns : goal.returns
returns c =
    let numbers = c.args.numbers.now in
    let places = c.args.places.now in
    is_table (at_place places (length numbers) (at numbers)) (length places) (pos 0) c.loop-i.out (omega (arith, c.requires))
    (λ k p. c.loop-i.invariant k (omega (arith, c.requires)))
