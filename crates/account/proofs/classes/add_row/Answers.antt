-- `add_row` meets its contract: to each of three sums is added what belongs to it. Assumes nothing.
use mathlib.Core.Path.{◌≡◌, refl, ◌∙◌}
use mathlib.Core.List.{List}
use Prim.Native.Nat.{ℕ, ◌+◌, ◌*◌, ◌≤◌, ◌<◌}
use native.Mathlib.Omega.{arith}
use lib.IntN.{ℤ, pos, nat_abs, ◌+ℤ◌}
use lib.ListN.{set}
use lib.Seq.{get_or-set_other}
use mir.Syntax.{w64}
use Rattle.whole.specs.Table.{at}
use Rattle.whole.proofs.Machine.{Is, val, told, rd, is_+, fit, r64}
use Rattle.account.specs.declared.ClassRow.{ClassRow}
use Rattle.account.proofs.ByClass.{row_stored}
use Rattle.account.proofs.classes.add_row.Goals as goal
use Rattle.account.proofs.classes.add_row.Goals.{Start}

module _ (c : Start) where
  abbrev rows : List ℤ
  rows = c.args.rows.now

  abbrev place : ℕ
  place = c.args.k * 3

  -- what stands at a place of a list that holds there what the rows did, and what is added to it
  added :
      (l : List ℤ) (p : ℕ) (z : ℤ) → at l p ≡ at rows p → p < 27 → nat_abs z ≤ 94371840000000000 →
      Is (r64 (at l p) +ℤ r64 z) (at rows p +ℤ z) 6134169600000000000
  added l p z e h small =
      is_+ (rd w64 (told (at rows p) 6039797760000000000 e (c.requires.sized.size p h)) tt) (rd w64 (val z 94371840000000000 small) tt)

  -- the rows after one store and after two
  abbrev first : List ℤ
  first = set rows place (r64 (r64 (at rows place) +ℤ r64 c.args.weight))

  abbrev second : List ℤ
  second = set first (place + 1) (r64 (r64 (at first (place + 1)) +ℤ r64 c.args.cross))

  one : Is (r64 (at rows place) +ℤ r64 c.args.weight) (at rows place +ℤ c.args.weight) 6134169600000000000
  one = added rows place c.args.weight refl (omega arith) c.requires.weight_bound

  two : Is (r64 (at first (place + 1)) +ℤ r64 c.args.cross) (at rows (place + 1) +ℤ c.args.cross) 6134169600000000000
  two =
      added first (place + 1) c.args.cross (get_or-set_other rows place (place + 1) _ (pos 0) (λ e. omega arith)) (omega arith)
      c.requires.cross_bound

  three : Is (r64 (at second (place + 2)) +ℤ r64 c.args.squares) (at rows (place + 2) +ℤ c.args.squares) 6134169600000000000
  three =
      added second (place + 2) c.args.squares
      (get_or-set_other first (place + 1) (place + 2) _ (pos 0) (λ e. omega arith)
      ∙ get_or-set_other rows place (place + 2) _ (pos 0) (λ e. omega arith))
      (omega arith) c.requires.squares_bound

pub overflow_add-rows : goal.overflow_add-rows
overflow_add-rows c = fit w64 (one ((goal.at.overflow_add-rows c).Start)) tt

pub overflow_add-rows-3 : goal.overflow_add-rows-3
overflow_add-rows-3 c = fit w64 (two ((goal.at.overflow_add-rows-3 c).Start)) tt

pub overflow_add-rows-5 : goal.overflow_add-rows-5
overflow_add-rows-5 c = fit w64 (three ((goal.at.overflow_add-rows-5 c).Start)) tt

pub returns : goal.returns
returns c =
    let s = (goal.at.returns c).Start in
    let row : ClassRow = record { weight = c.args.weight; cross = c.args.cross; squares = c.args.squares } in
    row_stored c.args.rows.now c.args.k row _ _ _ c.requires.sized.count c.requires.k_bound
    (rd w64 (one s) tt).same (rd w64 (two s) tt).same (rd w64 (three s) tt).same
