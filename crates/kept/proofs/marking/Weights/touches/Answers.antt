-- `touches` meets its contract. Assumes nothing.
use mathlib.Core.Path.{◌≡◌, sym, ◌∙◌}
use mathlib.Core.List.{List}
use Prim.Native.Nat.{ℕ, ◌<◌}
use native.Mathlib.Omega.{arith}
use borrow.Author.Tests.{lt-ltb}
use lib.ListN.{get_or, take}
use lib.Seq.{get_or-take}
use Rattle.whole.specs.Table.{table}
use Rattle.whole.proofs.Table.{table_held}
use Rattle.kept.specs.Steps.{column_mark}
use Rattle.kept.proofs.Marks.{row_end, by_column, by_row}
use Rattle.kept.proofs.marking.Weights.touches.Goals as goal

-- the mark of zone i is that of its column
held :
    (n : ℕ) (weights columns : List ℕ) (i : ℕ) → i < n → take n columns ≡ table (column_mark n weights n) n →
    get_or columns i 0 ≡ column_mark n weights n i
held n weights columns i h m = sym (get_or-take n columns i 0 h) ∙ table_held _ n 0 _ m i h

pub returns-then-columns-i-gt0 : goal.returns-then-columns-i-gt0
returns-then-columns-i-gt0 c =
    lt-ltb _ _ c.if-columns-i-gt0.true
    ∙ by_column _ _ _ (omega (arith, c.if-columns-i-gt0.true, held _ _ _ _ c.requires.i_lt_n c.requires.marked))

pub returns-else-columns-i-gt0 : goal.returns-else-columns-i-gt0
returns-else-columns-i-gt0 c =
    c.any_above.ensures
    ∙ by_row _ _ _ _ c.row.ensures (omega (arith, row_end _ _ c.requires.i_lt_n, c.args.self.now.square))
    (omega (arith, c.if-columns-i-gt0.false, held _ _ _ _ c.requires.i_lt_n c.requires.marked))
