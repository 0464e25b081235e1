-- Laws of the moves: the way back, no move to the zone itself, and that no rook move is a bishop move. Assumes nothing.
use mathlib.Core.Path.{◌≡◌, refl, sym, ap, ◌∙◌}
use mathlib.Core.Bool.{Bool, true, false, true≢false, not, ◌||◌, ◌&&◌, or_assoc, or_comm}
use mathlib.Core.List.{[], ◌∷◌}
use Prim.Native.Nat.{ℕ}
use native.Mathlib.Omega.{arith}
use borrow.Author.Tests.{not-false}
use lib.Dec.{eqb}
use lib.IntN.{ℤ, pos, negsuc, neg_ℤ, nat_abs, ◌+ℤ◌, ◌-ℤ◌}
use lib.ListN.{get_or}
use Rattle.whole.specs.Integer.{is_zero, equal}
use Rattle.whole.specs.Search.{some}
use Rattle.whole.proofs.Compare.{equal_true}
use Rattle.whole.proofs.Integer.{diff_of, diff_+, diff_neg, diff_eq}
use Rattle.whole.proofs.Rules.{both_passed}
use Rattle.whole.proofs.Search.{some_none, some_witness}
use Rattle.whole.proofs.Size.{size_neg}
use Rattle.grid.specs.Moves.{Step, rook_steps, bishop_steps, steps_of, grid_row, grid_column, leads, any_leads}
use Rattle.grid.specs.declared.Move.{Move}
use Rattle.grid.specs.declared.Move.TheVariants.{Rook, Bishop, Queen}

-- ---- sums and differences
-- the negative of a + s - b is b - s - a
turned : (a s b : ℤ) → neg_ℤ ((a +ℤ s) -ℤ b) ≡ (b +ℤ neg_ℤ s) -ℤ a
turned a s b = rw (diff_of a, diff_of s, diff_of b) (simp (diff_+, diff_neg) (diff_eq _ _ _ _ (omega arith)))

-- what is added to a is the difference
added : (a s : ℤ) → (a +ℤ s) -ℤ a ≡ s
added a s = rw (diff_of a, diff_of s) (simp (diff_+, diff_neg) (diff_eq _ _ _ _ (omega arith)))

-- ---- the way back
-- the opposite step
abbrev back : Step → Step
back step = (neg_ℤ step.0, neg_ℤ step.1)

-- a + s is b where b - s is a
equal_back : (a s b : ℤ) → equal (a +ℤ s) b ≡ equal (b +ℤ neg_ℤ s) a
equal_back a s b = ap (λ m. eqb m 0) (sym (size_neg ((a +ℤ s) -ℤ b)) ∙ ap nat_abs (turned a s b))

-- a step leads from i to j where the opposite step leads from j to i
leads_back : (columns i j : ℕ) (step : Step) → leads columns i j step ≡ leads columns j i (back step)
unfolding leads
leads_back columns i j step =
    let row = equal_back (pos (grid_row columns i)) step.0 (pos (grid_row columns j)) in
    let column = equal_back (pos (grid_column columns i)) step.1 (pos (grid_column columns j)) in
    ap (λ b. b && equal (pos (grid_column columns i) +ℤ step.1) (pos (grid_column columns j))) row
    ∙ ap (λ b. equal (pos (grid_row columns j) +ℤ neg_ℤ step.0) (pos (grid_row columns i)) && b) column

-- a test of four, in pairs the other way round
crossed : (a b c d : Bool) → (((a || b) || c) || d) ≡ (((b || a) || d) || c)
crossed true true c d = refl
crossed true false c d = refl
crossed false true c d = refl
crossed false false c d = or_comm c d

-- two steps and their opposites lead both ways
pairs_back :
    (columns i j : ℕ) (s t : Step) →
    any_leads columns i j (s ∷ back s ∷ t ∷ back t ∷ []) ≡ any_leads columns j i (s ∷ back s ∷ t ∷ back t ∷ [])
unfolding any_leads some
pairs_back columns i j s t =
    rw (leads_back columns i j s, sym (leads_back columns j i s), leads_back columns i j t, sym (leads_back columns j i t))
    (crossed (leads columns j i (back s)) (leads columns j i s) (leads columns j i (back t)) (leads columns j i t))

-- ---- queen's steps are rook's and bishop's
pub queen_leads :
    (columns i j : ℕ) → any_leads columns i j (steps_of Queen) ≡ (any_leads columns i j rook_steps || any_leads columns i j bishop_steps)
unfolding any_leads some
queen_leads columns i j = simp or_assoc

-- ---- what a move leads to, it leads back from
rook_back : (columns i j : ℕ) → any_leads columns i j rook_steps ≡ any_leads columns j i rook_steps
rook_back columns i j = pairs_back columns i j (negsuc 0, pos 0) (pos 0, negsuc 0)

bishop_back : (columns i j : ℕ) → any_leads columns i j bishop_steps ≡ any_leads columns j i bishop_steps
bishop_back columns i j = pairs_back columns i j (negsuc 0, negsuc 0) (negsuc 0, pos 1)

pub move_back : (kind : Move) (columns i j : ℕ) → any_leads columns i j (steps_of kind) ≡ any_leads columns j i (steps_of kind)
move_back Rook columns i j = rook_back columns i j
move_back Bishop columns i j = bishop_back columns i j
move_back Queen columns i j = queen_leads columns i j ∙ rw (rook_back columns i j, bishop_back columns i j) (sym (queen_leads columns j i))

-- ---- no move leads from a zone to itself
-- a step does where it is (0, 0)
stays : (columns i : ℕ) (step : Step) → leads columns i i step ≡ (is_zero step.0 && is_zero step.1)
unfolding leads
stays columns i step = rw (added (pos (grid_row columns i)) step.0, added (pos (grid_column columns i)) step.1) refl

pub move_away : (kind : Move) (columns i : ℕ) → any_leads columns i i (steps_of kind) ≡ false
unfolding any_leads some
move_away Rook columns i = simp stays
move_away Bishop columns i = simp stays
move_away Queen columns i = simp stays

-- ---- no rook move is a bishop move
-- a step that keeps the row or the column
abbrev straight : Step → Bool
straight step = is_zero step.0 || is_zero step.1

-- a rook's are
abbrev rook : ℕ → Step
rook k = get_or rook_steps k (pos 0, pos 0)

rook_straight : some (λ k. not (straight (rook k))) 4 ≡ false
unfolding some
rook_straight = refl

-- and a bishop's are not
abbrev bishop : ℕ → Step
bishop k = get_or bishop_steps k (pos 0, pos 0)

bishop_slanted : some (λ k. straight (bishop k)) 4 ≡ false
unfolding some
bishop_slanted = refl

-- what gives b when it is added to a
between_is : (a s b : ℤ) → equal (a +ℤ s) b ≡ true → s ≡ b -ℤ a
between_is a s b e = sym (added a s) ∙ ap (λ z. z -ℤ a) (equal_true (a +ℤ s) b e)

module _ (columns i j : ℕ) where
  -- the step between two zones
  abbrev between : Step
  between = (pos (grid_row columns j) -ℤ pos (grid_row columns i), pos (grid_column columns j) -ℤ pos (grid_column columns i))

  -- it is straight where a step that leads from the one to the other is
  leads_between : (step : Step) → leads columns i j step ≡ true → straight step ≡ straight between
  unfolding leads
  leads_between step e =
      let f = both_passed _ _ e in
      rw (
        between_is (pos (grid_row columns i)) step.0 (pos (grid_row columns j)) f.0,
        between_is (pos (grid_column columns i)) step.1 (pos (grid_column columns j)) f.1,
      ) refl

  -- so not both a rook and a bishop lead there
  pub never_both : any_leads columns i j rook_steps ≡ true → any_leads columns i j bishop_steps ≡ true → ⊥
  unfolding any_leads
  never_both e f =
      let w = some_witness (λ k. leads columns i j (rook k)) 4 e in
      let v = some_witness (λ k. leads columns i j (bishop k)) 4 f in
      let p = not-false (straight (rook w.0)) (some_none (λ k. not (straight (rook k))) 4 w.0 rook_straight w.1) in
      let q = some_none (λ k. straight (bishop k)) 4 v.0 bishop_slanted v.1 in
      true≢false (sym p ∙ leads_between (rook w.0) w.2 ∙ sym (leads_between (bishop v.0) v.2) ∙ q)
