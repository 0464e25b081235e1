use mathlib.Core.Path.{◌≡◌}
use Prim.Native.Nat.{◌+◌, ◌*◌}
use lib.ListN.{length, take}
use Rattle.whole.specs.Table.{table_rows, at}
use Rattle.account.specs.Steps.{at_place}
use Rattle.account.proofs.keeping.put_back_rows.Given as goal

abbrev pub invariant-loop-k : goal.invariant-loop-k
invariant-loop-k l =
    take (l.k * length l.places) l.out
    ≡ table_rows (λ k'. at_place l.places l.many (λ a. at l.numbers (k' * l.many + a))) l.k (length l.places)
