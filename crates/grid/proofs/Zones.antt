-- The zones of a grid by row and column, and the one zone that a step leads to. Assumes nothing.
use mathlib.Core.Path.{◌≡◌, refl, sym, ap, ◌∙◌}
use mathlib.Core.Bool.{Bool, true, false, cond, ◌&&◌}
use Prim.Native.Nat.{ℕ, ◌+◌, ◌*◌, ◌<◌}
use native.Mathlib.Nat as N
use native.Mathlib.Omega.{arith}
use borrow.Author.Tests.{lt-ltb, ltb-true}
use lib.Arith.{digits_div, digits_mod}
use lib.Dec.{ltb}
use lib.IntN.{ℤ, pos, negsuc, ◌+ℤ◌}
use Rattle.std.proofs.Common.{Option, Some, None, ◌↔◌}
use Rattle.whole.specs.Integer.{equal}
use Rattle.whole.proofs.Compare.{equal_same, equal_true}
use Rattle.whole.proofs.Rules.{both_passed}
use Rattle.whole.proofs.TableRows.{split}
use Rattle.grid.specs.Moves.{Step, grid_row, grid_column, leads}
use Rattle.grid.specs.Steps.{landing}

-- ---- the row and the column of a zone
-- they lie in the grid
module _ (rows columns i : ℕ) (h : i < rows * columns) where
  row_within : grid_row columns i < rows
  unfolding grid_row
  row_within = (split rows columns i h).row

  column_within : grid_column columns i < columns
  unfolding grid_column
  column_within = (split rows columns i h).column

  -- and give the zone
  zone_is : i ≡ grid_row columns i * columns + grid_column columns i
  unfolding grid_row grid_column
  zone_is = sym (split rows columns i h).whole

-- ---- the zone at row r and column c
module _ (columns r c : ℕ) (h : c < columns) where
  -- that is its row
  row_is : grid_row columns (r * columns + c) ≡ r
  unfolding grid_row
  row_is = digits_div r {m = columns} {r = c} h

  -- and that its column
  column_is : grid_column columns (r * columns + c) ≡ c
  unfolding grid_column
  column_is = digits_mod r {m = columns} {r = c} h

  -- it is one of the grid's
  pub zone_within : (rows : ℕ) → r < rows → r * columns + c < rows * columns
  zone_within rows k = omega (arith, N.mul-le-mul_right columns k)

-- ---- where a sum z lands in a line of cells
-- a landing in the line is z
landed : (cells t : ℕ) (z : ℤ) → landing cells z ≡ Some t → (z ≡ pos t) × (t < cells)
landed cells t (pos s) e = go (ltb s cells) refl e
  where
    go : (b : Bool) → ltb s cells ≡ b → cond b (Some s) None ≡ Some t → (pos s ≡ pos t) × (t < cells)
    go true p q = let r : s ≡ t = cc in (ap pos r, rw (← r) (ltb-true s cells p))
    go false p q = cc
landed cells t (negsuc s) e = cc

-- a z that is in the line lands there
lands_at : (cells t : ℕ) (z : ℤ) → z ≡ pos t → t < cells → landing cells z ≡ Some t
lands_at cells t z e h = rw (e, lt-ltb t cells h) refl

-- ---- a test of two
both_pass : (a b : Bool) → a ≡ true → b ≡ true → (a && b) ≡ true
both_pass a b e f = rw (e, f) refl

-- the test whether z is b
equal_at : (z : ℤ) (a b : ℕ) → z ≡ pos a → b ≡ a → equal z (pos b) ≡ true
equal_at z a b e f = rw (e, f) (equal_same (pos a))

-- ---- a step from the cell of a row and a column
module _ (rows columns row column : ℕ) (step : Step) (h : column < columns) where
  abbrev row_sum : ℤ
  row_sum = pos row +ℤ step.0

  abbrev column_sum : ℤ
  column_sum = pos column +ℤ step.1

  -- it leads to the zone of the row and the column that it lands at
  leads_there :
      (r c : ℕ) → landing rows row_sum ≡ Some r → landing columns column_sum ≡ Some c →
      leads columns (row * columns + column) (r * columns + c) step ≡ true
  unfolding leads
  leads_there r c e f =
      let k = landed columns c column_sum f in
      rw (row_is columns row column h, column_is columns row column h)
      (both_pass _ _ (equal_at row_sum r _ (landed rows r row_sum e).0 (row_is columns r c k.1))
      (equal_at column_sum c _ k.0 (column_is columns r c k.1)))

  -- and to no other
  lands_there :
      (j : ℕ) → j < rows * columns → leads columns (row * columns + column) j step ≡ true →
      (landing rows row_sum ≡ Some (grid_row columns j)) × (landing columns column_sum ≡ Some (grid_column columns j))
  unfolding leads
  lands_there j p e =
      let f = both_passed _ _ (rw (row_is columns row column h, column_is columns row column h) at e) in (
        lands_at rows (grid_row columns j) row_sum (equal_true row_sum _ f.0) (row_within rows columns j p),
        lands_at columns (grid_column columns j) column_sum (equal_true column_sum _ f.1) (column_within rows columns j p),
      )

  -- it leads where `to` says
  abbrev Only : Option ℕ → Type 0
  Only to = (j : ℕ) → j < rows * columns → (leads columns (row * columns + column) j step ≡ true) ↔ (to ≡ Some j)

  -- ---- out of the grid
  nowhere : (to : Option ℕ) → to ≡ None → ((j : ℕ) → j < rows * columns → leads columns (row * columns + column) j step ≡ true → ⊥) → Only to
  nowhere to e f j p = (λ q. absurd (f j p q), λ q. let z : None ≡ Some j = sym e ∙ q in cc)

  pub out_of_rows : (to : Option ℕ) → landing rows row_sum ≡ None → to ≡ None → Only to
  out_of_rows to e f = nowhere to f (λ j p q. let z = sym e ∙ (lands_there j p q).0 in cc)

  pub out_of_columns : (to : Option ℕ) → landing columns column_sum ≡ None → to ≡ None → Only to
  out_of_columns to e f = nowhere to f (λ j p q. let z = sym e ∙ (lands_there j p q).1 in cc)

  -- ---- in it
  module _ (r c : ℕ) (e : landing rows row_sum ≡ Some r) (f : landing columns column_sum ≡ Some c) where
    pub target_within : r * columns + c < rows * columns
    target_within = zone_within columns r c (landed columns c column_sum f).1 rows (landed rows r row_sum e).1

    pub target_only : Only (Some (r * columns + c))
    target_only j p = (
      λ q.
          let l = lands_there j p q in
          let g : r ≡ grid_row columns j = let z = sym e ∙ l.0 in cc in
          let k : c ≡ grid_column columns j = let z = sym f ∙ l.1 in cc in
          ap Some (rw (g, k) (sym (zone_is rows columns j p))),
      λ q. let z : r * columns + c ≡ j = cc in rw (← z) (leads_there r c e f),
    )
