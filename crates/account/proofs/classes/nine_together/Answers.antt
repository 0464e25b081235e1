-- `nine_together` meets its contract. The loop's invariant: what is added up is the sum of the classes passed. Assumes nothing.
use mathlib.Core.Path.{◌≡◌, ap}
use mathlib.Core.List.{List}
use Prim.Native.Nat.{ℕ, ◌+◌, ◌≤◌, ◌<◌}
use native.Mathlib.Omega.{arith}
use lib.IntN.{ℤ, pos, nat_abs, ◌+ℤ◌}
use lib.ListN.{get_or}
use mir.Syntax.{w64}
use mir.Val.{to_z}
use Rattle.whole.specs.Sum.{sum}
use Rattle.whole.specs.Table.{table}
use Rattle.whole.proofs.Accumulate.{Bounded, running_none, running_more}
use Rattle.whole.proofs.Machine.{Is, told, rd, fit, r64}
use Rattle.whole.proofs.SumSize.{sum_size}
use Rattle.whole.proofs.Table.{table_held}
use Rattle.account.specs.Classes.{row_at}
use Rattle.account.specs.declared.ClassRow.{ClassRow}
use Rattle.account.proofs.classes.nine_together.Goals as goal
use Rattle.account.proofs.classes.nine_together.Goals.{In-loop-row}

-- what a list of rows has beyond its end
abbrev no_row : ClassRow
no_row = record { weight = pos 0; cross = pos 0; squares = pos 0 }

-- one of the three sums, of each class
module _ (of : ClassRow → ℤ) (rows : List ℤ) (small : (k : ℕ) → k < 9 → nat_abs (of (row_at rows k)) ≤ 94371840000000000) where
  -- no sum on the way is larger than nine local numerators can be
  runs : Bounded w64 (λ k. of (row_at rows k)) 9 849346560000000000
  runs = record {
    bound = λ m le. omega (arith, sum_size (λ k. of (row_at rows k)) m 94371840000000000 (λ k p. small k (omega arith)));
    small = tt;
  }

  -- a turn adds one number more
  turn :
      (items : List ClassRow) → items ≡ table (row_at rows) 9 → (k : ℕ) → k < 9 →
      (acc : ℤ) → acc ≡ sum (λ k. of (row_at rows k)) k →
      Is (acc +ℤ r64 (of (get_or items k no_row))) (sum (λ k. of (row_at rows k)) (k + 1)) 849346560000000000
  turn items e k h acc p =
      running_more runs k acc (omega arith) p
      (rd w64 (told (of (row_at rows k)) 94371840000000000 (ap of (table_held (row_at rows) 9 no_row items e k h)) (small k h)) tt)

module _ (c : In-loop-row) where
  weight_turn :
      Is (to_z w64 c.loop-row.weight-bits +ℤ r64 (get_or c.all.result c.loop-row.row-index no_row).weight)
      (sum (λ k. (row_at c.args.rows.now k).weight) (c.loop-row.row-index + 1)) 849346560000000000
  weight_turn =
      turn (λ r. r.weight) c.args.rows.now c.requires.weights c.all.result c.all.ensures c.loop-row.row-index c.loop-row-test.true
      (to_z w64 c.loop-row.weight-bits) c.loop-row.invariant.0

  squares_turn :
      Is (to_z w64 c.loop-row.squares-bits +ℤ r64 (get_or c.all.result c.loop-row.row-index no_row).squares)
      (sum (λ k. (row_at c.args.rows.now k).squares) (c.loop-row.row-index + 1)) 849346560000000000
  squares_turn =
      turn (λ r. r.squares) c.args.rows.now c.requires.squares c.all.result c.all.ensures c.loop-row.row-index c.loop-row-test.true
      (to_z w64 c.loop-row.squares-bits) c.loop-row.invariant.1

pub loop-row-init : goal.loop-row-init
loop-row-init c = (running_none _, running_none _)

pub overflow_add-weight : goal.overflow_add-weight
overflow_add-weight c = fit w64 (weight_turn ((goal.at.overflow_add-weight c).In-loop-row)) tt

pub overflow_add-squares : goal.overflow_add-squares
overflow_add-squares c = fit w64 (squares_turn ((goal.at.overflow_add-squares c).In-loop-row)) tt

pub loop-row-preserved : goal.loop-row-preserved
loop-row-preserved c =
    let t = (goal.at.loop-row-preserved c).In-loop-row in ((rd w64 (weight_turn t) tt).same, (rd w64 (squares_turn t) tt).same)
