-- Laws of rules whose numbers are above 0, one list after another, and of the rules of items in turn, as a judging loop uses them.
-- Assumes nothing.
use mathlib.Core.Path.{◌≡◌, refl, sym, ap, ◌∙◌}
use mathlib.Core.Bool.{true, false}
use mathlib.Core.List.{List, [], ◌∷◌, ◌++◌}
use Prim.Native.Nat.{ℕ, zero, suc, ◌+◌, ◌<◌}
use native.Mathlib.Decide.{ℕ_discrete}
use native.Mathlib.Numerals.{add-one}
use native.Mathlib.Omega.{arith}
use lib.Dec.{T, ltb, ltb→lt}
use Rattle.whole.specs.Rules.{Rule, first_broken, in_turn}

-- ---- every number is above 0, so that 0 is the number of no broken rule
abbrev pub Numbered : List Rule → Type 0
Numbered [] = Unit
Numbered (rule ∷ rules) = T (ltb 0 rule.1) × Numbered rules

module _ (rest : List Rule) where
  -- where none of the first is broken, the second decides
  pub second_decides : (rules : List Rule) → Numbered rules → first_broken rules ≡ 0 → first_broken (rules ++ rest) ≡ first_broken rest
  second_decides [] g e = refl
  second_decides ((true, m) ∷ rules) g e = let h = ltb→lt 0 m g.0 in let z : ⊥ = omega arith in absurd z
  second_decides ((false, m) ∷ rules) g e = second_decides rules g.1 e

  -- a number of the first is the number of both
  pub first_decides : (rules : List Rule) → (first_broken rules ≡ 0 → ⊥) → first_broken (rules ++ rest) ≡ first_broken rules
  first_decides [] f = absurd (f refl)
  first_decides ((true, m) ∷ rules) f = refl
  first_decides ((false, m) ∷ rules) f = first_decides rules f

  -- where none of both is broken, none of either is
  pub none_of_both :
      (rules : List Rule) → Numbered rules → first_broken (rules ++ rest) ≡ 0 → (first_broken rules ≡ 0) × (first_broken rest ≡ 0)
  none_of_both [] g e = (refl, e)
  none_of_both ((true, m) ∷ rules) g e = let h = ltb→lt 0 m g.0 in let z : ⊥ = omega arith in absurd z
  none_of_both ((false, m) ∷ rules) g e = none_of_both rules g.1 e

pub numbered_both : (rules rest : List Rule) → Numbered rules → Numbered rest → Numbered (rules ++ rest)
numbered_both [] rest g h = h
numbered_both (rule ∷ rules) rest g h = (g.0, numbered_both rules rest g.1 h)

-- ---- the rules of items in turn
module _ (rules : ℕ → List Rule) (numbered : (k : ℕ) → Numbered (rules k)) where
  pub in_turn_numbered : (k : ℕ) → Numbered (in_turn rules k)
  unfolding in_turn
  in_turn_numbered zero = tt
  in_turn_numbered (suc k) = numbered_both (in_turn rules k) (rules k) (in_turn_numbered k) (numbered k)

  -- before the first item
  pub turn_none : first_broken (in_turn rules 0) ≡ 0
  unfolding in_turn
  turn_none = refl

  -- one more item that breaks none
  pub turn_next : (k : ℕ) → first_broken (in_turn rules k) ≡ 0 → first_broken (rules k) ≡ 0 → first_broken (in_turn rules (k + 1)) ≡ 0
  unfolding in_turn
  turn_next k e f = rw (add-one k) (second_decides (rules k) (in_turn rules k) (in_turn_numbered k) e ∙ f)

  -- what one more item adds
  turn_more : (k : ℕ) → (first_broken (in_turn rules k) ≡ 0 → ⊥) → first_broken (in_turn rules (suc k)) ≡ first_broken (in_turn rules k)
  unfolding in_turn
  turn_more k f = first_decides (rules k) (in_turn rules k) f

  turn_last : (k : ℕ) → first_broken (in_turn rules k) ≡ 0 → first_broken (in_turn rules (suc k)) ≡ first_broken (rules k)
  unfolding in_turn
  turn_last k e = second_decides (rules k) (in_turn rules k) (in_turn_numbered k) e

  -- a loop that has found an item that breaks one
  pub turn_found :
      (n k r : ℕ) → k < n → first_broken (in_turn rules k) ≡ 0 → r ≡ first_broken (rules k) → (r ≡ 0 → ⊥) →
      r ≡ first_broken (in_turn rules n)
  turn_found zero k r h e f g = let z : ⊥ = omega arith in absurd z
  turn_found (suc n) k r h e f g = pick (ℕ_discrete k n) (λ (q : k < n). turn_found n k r q e f g)
    where
      pick : Dec (k ≡ n) → (k < n → r ≡ first_broken (in_turn rules n)) → r ≡ first_broken (in_turn rules (suc n))
      pick (yes p) more = f ∙ sym (ap (λ m. first_broken (in_turn rules (suc m))) (sym p) ∙ turn_last k e)
      pick (no p) more = let i = more (omega arith) in i ∙ sym (turn_more n (λ z. g (i ∙ z)))

  -- a loop that has passed all
  pub turn_done : (k n : ℕ) → k ≡ n → first_broken (in_turn rules k) ≡ 0 → 0 ≡ first_broken (in_turn rules n)
  turn_done k n p e = sym (ap (λ m. first_broken (in_turn rules m)) (sym p) ∙ e)

  -- where none is broken, no item breaks one
  pub turn_each : (n k : ℕ) → k < n → first_broken (in_turn rules n) ≡ 0 → first_broken (rules k) ≡ 0
  unfolding in_turn
  turn_each zero k h e = let z : ⊥ = omega arith in absurd z
  turn_each (suc n) k h e =
      let both = none_of_both (rules n) (in_turn rules n) (in_turn_numbered n) e in
      pick (ℕ_discrete k n) (λ (q : k < n). turn_each n k q both.0) both.1
    where
      pick : Dec (k ≡ n) → (k < n → first_broken (rules k) ≡ 0) → first_broken (rules n) ≡ 0 → first_broken (rules k) ≡ 0
      pick (yes p) more last = ap (λ m. first_broken (rules m)) p ∙ last
      pick (no p) more last = more (omega arith)

  -- and where no item breaks one, none is broken
  pub each_turn : (n : ℕ) → ((k : ℕ) → k < n → first_broken (rules k) ≡ 0) → first_broken (in_turn rules n) ≡ 0
  unfolding in_turn
  each_turn zero h = refl
  each_turn (suc n) h =
      second_decides (rules n) (in_turn rules n) (in_turn_numbered n) (each_turn n (λ k p. h k (omega arith))) ∙ h n (omega arith)
