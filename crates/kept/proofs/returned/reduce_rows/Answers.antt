-- `reduce_rows` meets its contract. Assumes nothing.
use mathlib.Core.Path.{◌≡◌, ap, ◌∙◌}
use mathlib.Core.Bool.{cond, ◌||◌}
use mathlib.Core.List.{List}
use Prim.Native.Nat.{ℕ, ◌*◌}
use native.Mathlib.Omega.{arith}
use Rattle.std.proofs.Common.{rules}
use lib.IntN.{ℤ}
use lib.ListN.{length, get_or, take, drop}
use Rattle.whole.specs.Integer.{equal}
use Rattle.whole.specs.Table.{table, at}
use Rattle.whole.proofs.Table.{table_cong}
use Rattle.whole.proofs.TableRows.{rows_none, row_written, rows_done}
use Rattle.judges.specs.Values.{not_returned, missing}
use Rattle.kept.specs.Returned.{reduced}
use Rattle.kept.proofs.Marks.{row_end, row_at}
use Rattle.kept.proofs.Missing.{value_is}
use Rattle.kept.proofs.returned.reduce_rows.Invariants.{counts}
use Rattle.kept.proofs.returned.reduce_rows.Goals as goal

pub loop-i-init : goal.loop-i-init
loop-i-init c = rows_none _ _ c.args.counting.now

-- the row of zone i, from its value and its row of weights
row_counts :
    (n : ℕ) (values : List ℤ) (weights : List ℕ) (i : ℕ) (own : ℤ) (part : List ℕ) → length values ≡ n → own ≡ at values i →
    part ≡ take n (drop (i * n) weights) →
    table (λ j. cond (equal own not_returned || missing values j) 0 (get_or part j 0)) (length values) ≡ table (counts n values weights i) n
unfolding missing
row_counts n values weights i own part l v p =
    ap (table _) l
    ∙ table_cong _ _ n 0
    (λ j h.
    ap (λ x. cond (equal x not_returned || missing values j) 0 (get_or part j 0)) v
    ∙ ap (cond (missing values i || missing values j) 0) (ap (λ l. get_or l j 0) p ∙ row_at n weights i j h))

pub loop-i-preserved : goal.loop-i-preserved
loop-i-preserved c =
    let a = c.args in
    let i = c.loop-i.i in
    let own = (value_is (at a.values.now i) (search rules)).same in
    row_written (counts a.weights.now.n a.values.now a.weights.now.rows.now) a.weights.now.n i c.loop-i.counting _ (omega (arith, row_end a.weights.now.n i (omega arith)))
    c.loop-i.invariant
    (c.reduce_row.ensures ∙ row_counts a.weights.now.n a.values.now a.weights.now.rows.now i _ _ c.requires.values_len own c.row.ensures)

pub returns : goal.returns
unfolding reduced
returns c = rows_done _ _ _ c.loop-i.i c.loop-i.counting (omega arith) (omega arith) c.loop-i.invariant
