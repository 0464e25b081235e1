use mathlib.Core.Path.{◌≡◌}
use Prim.Native.Nat.{◌*◌}
use lib.ListN.{take}
use Rattle.whole.specs.Table.{table_rows, pair_at}
use Rattle.account.specs.Steps.{placed_number}
use Rattle.account.proofs.keeping.keep_rows.Given as goal

abbrev pub invariant-loop-r : goal.invariant-loop-r
invariant-loop-r l =
    take (l.r * l.many) l.out ≡ table_rows (λ r'. placed_number l.places l.many l.fn.shuffles.n (pair_at l.fn.shuffles.shuffles.now l.fn.shuffles.n r')) l.r l.many
