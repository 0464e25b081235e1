use mathlib.Core.Path.{◌≡◌}
use mathlib.Core.Bool.{cond, ◌||◌}
use mathlib.Core.List.{List}
use Prim.Native.Nat.{ℕ, ◌*◌}
use lib.IntN.{ℤ}
use lib.ListN.{take}
use Rattle.whole.specs.Table.{table_rows, pair_at}
use Rattle.judges.specs.Values.{missing}
use Rattle.kept.proofs.returned.reduce_rows.Given as goal

abbrev pub counts : ℕ → List ℤ → List ℕ → ℕ → ℕ → ℕ
counts n values weights i j = cond (missing values i || missing values j) 0 (pair_at weights n i j)

-- the rows of the zones passed are written
abbrev pub invariant-loop-i : goal.invariant-loop-i
invariant-loop-i l = take (l.i * l.weights.n) l.counting ≡ table_rows (counts l.weights.n l.values l.weights.rows.now) l.i l.weights.n
