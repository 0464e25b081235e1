-- `walk_cells` meets its contract. The loops' invariant: the rows of the zones so far are written. Assumes nothing.
use mathlib.Core.Path.{◌≡◌, ap, ◌∙◌}
use mathlib.Core.List.{List}
use Prim.Native.Nat.{ℕ, ◌+◌, ◌*◌, ◌-◌, ◌≤◌, ◌<◌}
use native.Mathlib.Nat as N
use native.Mathlib.Omega.{arith}
use borrow.Rule.Slice.PartMut.{put_mid}
use Rattle.whole.specs.Table.{table}
use Rattle.whole.proofs.TableRows.{rows_none, row_length, row_written, rows_done}
use Rattle.grid.specs.Grid.{grid_weight, grid_network}
use Rattle.grid.specs.declared.Move.{Move}
use Rattle.grid.proofs.Zones.{zone_within}
use Rattle.grid.proofs.walking.Shape.walk_cells.Invariants.{Walked}
use Rattle.grid.proofs.walking.Shape.walk_cells.Goals as goal

-- ---- the zone at hand has its row in the list
part_within : (n i l : ℕ) → i < n → l ≡ n * n → i * n + n ≤ l
part_within n i l p e = omega (arith, N.mul-le-mul_right n p)

module _ (kind : Move) (columns n k : ℕ) (l : List ℕ) (so : Walked kind columns n k l) where
  walked_next :
      (m : ℕ) → m ≡ k + 1 → k < n → (part : List ℕ) → part ≡ table (grid_weight kind columns k) n →
      Walked kind columns n m (put_mid (k * n) (k * n + n - k * n) l part)
  walked_next m e h part row =
      let room = part_within n k _ h so.count in
      let f = grid_weight kind columns in
      record {
        count = row_length f n k l part room so.so_far row ∙ so.count;
        so_far = rw e (row_written f n k l part room so.so_far row);
      }

pub loop-row-init : goal.loop-row-init
loop-row-init c = record {
  count = c.requires.weights_len;
  so_far = rw N.zero-mul (rows_none _ _ c.args.weights.now);
}

pub slice_bounds-mark_moves-end : goal.slice_bounds-mark_moves-end
slice_bounds-mark_moves-end c =
    let s = c.args.self in
    part_within _ _ _ (zone_within s.columns c.loop-row.row c.loop-column.column c.loop-column-test.true s.rows c.loop-row-test.true) c.loop-column.invariant.count

pub loop-column-preserved : goal.loop-column-preserved
loop-column-preserved c =
    let s = c.args.self in
    walked_next _ _ _ _ _ c.loop-column.invariant _ (omega arith)
    (zone_within s.columns c.loop-row.row c.loop-column.column c.loop-column-test.true s.rows c.loop-row-test.true) _ c.mark_moves.ensures

pub returns : goal.returns
unfolding grid_network
returns c =
    let l = c.loop-row in
    let s = c.args.self in
    rows_done _ _ _ (l.row * s.columns) l.weights (ap (λ r. r * s.columns) (omega arith)) l.invariant.count l.invariant.so_far
