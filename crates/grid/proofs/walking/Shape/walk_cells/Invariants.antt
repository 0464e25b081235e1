use mathlib.Core.Path.{◌≡◌}
use Prim.Native.Nat.{ℕ, ◌+◌, ◌*◌}
use mathlib.Core.List.{List}
use lib.ListN.{length, take}
use Rattle.whole.specs.Table.{table_rows}
use Rattle.grid.specs.Grid.{grid_weight}
use Rattle.grid.specs.declared.Move.{Move}
use Rattle.grid.proofs.walking.Shape.walk_cells.Given as goal

-- the rows of the first k zones are written
pub record Walked (kind : Move) (columns n k : ℕ) (weights : List ℕ) : Type 0 where
  pub count : length weights ≡ n * n
  pub so_far : take (k * n) weights ≡ table_rows (grid_weight kind columns) k n

abbrev pub invariant-loop-row : goal.invariant-loop-row
invariant-loop-row l = Walked l.kind l.self.columns l.zones (l.row * l.self.columns) l.weights

abbrev pub invariant-loop-column : goal.invariant-loop-column
invariant-loop-column l = Walked l.kind l.self.columns l.zones (l.row * l.self.columns + l.column) l.weights
