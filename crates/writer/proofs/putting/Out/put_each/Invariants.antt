use Prim.Native.Nat.{◌≤◌}
use lib.ListN.{length}
use Rattle.writer.specs.Steps.{Puts}
use Rattle.writer.proofs.Behind.{up_to}
use Rattle.writer.proofs.putting.Out.put_each.Given as goal

abbrev pub invariant-loop-number : goal.invariant-loop-number
invariant-loop-number g l =
    (l.number-index ≤ length l.numbers) × Puts l.initial.self (up_to g.N.Number.bytes l.numbers l.number-index) l.self
