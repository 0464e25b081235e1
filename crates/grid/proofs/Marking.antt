-- The marks of the zones that a list of steps leads to, step by step. Assumes nothing.
use mathlib.Core.Path.{◌≡◌, refl, sym, ap, ◌∙◌}
use mathlib.Core.Bool.{Bool, true, false, cond, ◌||◌, or-false}
use mathlib.Core.List.{List}
use Prim.Native.Nat.{ℕ, ◌+◌, ◌<◌}
use native.Mathlib.Decide.{ℕ_discrete}
use native.Mathlib.Omega.{arith}
use lib.IntN.{pos}
use lib.ListN.{length, get_or, set, length-set, replicate, length-replicate}
use lib.Seq.{get_or-set_same, get_or-set_other}
use Rattle.std.proofs.Common.{Option, Some, None, ◌↔◌}
use Rattle.std.proofs.lemmas.List.{get_or-replicate}
use Rattle.whole.specs.Search.{some}
use Rattle.whole.specs.Table.{table}
use Rattle.whole.proofs.Rules.{beside}
use Rattle.whole.proofs.Search.{some_zero, some_next}
use Rattle.whole.proofs.Table.{is_table}
use Rattle.grid.specs.Grid.{grid_weight}
use Rattle.grid.specs.Moves.{Step, steps_of, leads, any_leads}
use Rattle.grid.specs.declared.Move.{Move}

-- a zone's mark: whether a step leads there
abbrev pub mark : Bool → ℕ
mark b = cond b 1 0

module _ (columns i n : ℕ) (steps : List Step) where
  abbrev step_at : ℕ → Step
  step_at k = get_or steps k (pos 0, pos 0)

  -- one of the first k steps leads from zone i to zone j
  abbrev led : ℕ → ℕ → Bool
  led k j = some (λ t. leads columns i j (step_at t)) k

  -- the zones that the first k steps lead to are marked
  pub record Marked (marks : List ℕ) (k : ℕ) : Type 0 where
    pub fitting : length marks ≡ n
    pub so_far : (j : ℕ) → j < n → get_or marks j 0 ≡ mark (led k j)

  -- ---- before the first step
  pub marked_none : (m : ℕ) (marks : List ℕ) → m ≡ n → marks ≡ replicate m 0 → Marked marks 0
  marked_none m marks e f = record {
    fitting = ap length f ∙ length-replicate m 0 ∙ e;
    so_far = λ j h.
        ap (λ l. get_or l j 0) f ∙ get_or-replicate m j 0 0 (omega arith) ∙ sym (ap mark (some_zero (λ t. leads columns i j (step_at t))));
  }

  -- ---- one step more, which leads to a zone or out of the grid
  module _
      (k : ℕ) (marks : List ℕ) (to : Option ℕ) (so : Marked marks k)
      (only : (j : ℕ) → j < n → (leads columns i j (step_at k) ≡ true) ↔ (to ≡ Some j)) where
    led_next : (j : ℕ) → led (k + 1) j ≡ (led k j || leads columns i j (step_at k))
    led_next j = some_next (λ t. leads columns i j (step_at t)) k

    -- a zone that it does not lead to keeps its mark
    elsewhere : (j : ℕ) → j < n → (to ≡ Some j → ⊥) → get_or marks j 0 ≡ mark (led (k + 1) j)
    elsewhere j h f = so.so_far j h ∙ sym (ap mark (led_next j ∙ go (leads columns i j (step_at k)) refl))
      where
        go : (b : Bool) → leads columns i j (step_at k) ≡ b → (led k j || b) ≡ led k j
        go true e = absurd (f ((only j h).0 e))
        go false e = or-false (led k j)

    -- and the zone that it leads to is marked
    pub marked_there : (j : ℕ) → to ≡ Some j → j < n → Marked (set marks j 1) (k + 1)
    marked_there j e h = record { fitting = length-set marks j 1 ∙ so.fitting; so_far = λ t p. pick t p (ℕ_discrete t j) }
      where
        pick : (t : ℕ) → t < n → Dec (t ≡ j) → get_or (set marks j 1) t 0 ≡ mark (led (k + 1) t)
        pick t p (yes q) =
            rw q
            (get_or-set_same marks j 1 0 (omega (arith, so.fitting))
            ∙ sym (ap mark (led_next j ∙ beside (led k j) _ ((only j h).1 e))))
        pick t p (no q) = get_or-set_other marks j t 1 0 q ∙ elsewhere t p (λ f. let g : j ≡ t = cc in q (sym g))

    pub marked_out : to ≡ None → Marked marks (k + 1)
    marked_out e = record { fitting = so.fitting; so_far = λ j p. elsewhere j p (λ f. cc) }

-- ---- after the last step of a kind
pub marked_done :
    (kind : Move) {columns i n : ℕ} {steps : List Step} {marks : List ℕ} {k : ℕ} → steps ≡ steps_of kind → k ≡ length steps →
    Marked columns i n steps marks k → marks ≡ table (grid_weight kind columns i) n
unfolding grid_weight any_leads
marked_done kind {columns} {i} {n} {steps} {marks} {k} e f so =
    is_table (grid_weight kind columns i) n 0 marks so.fitting (λ j h. so.so_far j h ∙ rw (f, e) refl)
