-- Laws of `first_broken`: what a judge that tests rule by rule has shown, and that its answer is the least number that applies.
-- Assumes nothing.
use mathlib.Core.Path.{◌≡◌, refl, sym, ap, ◌∙◌, subst}
use mathlib.Core.Bool.{Bool, true, false, not, cond, ◌||◌, ◌&&◌}
use mathlib.Core.List.{List, [], ◌∷◌, ◌++◌}
use mathlib.Core.Logic.{inl, inr, ⊎_elim}
use Prim.Native.Nat.{ℕ, suc, ◌≤◌, ◌<◌}
use native.Mathlib.Omega.{arith}
use borrow.Author.Tests.{le-ltb, eq-eqb, ne_eqb, ltb-false, eqb-true, not-false}
use lib.Dec.{T, ltb, ltb→lt, eqb}
use Rattle.whole.specs.Rules.{Rule, first_broken, Applies, unless_refused, outside, misfits, size_rules}

-- ---- one rule and the rest: the number is 0 only where the rule holds and none of the rest is broken
pub holds : (b : Bool) (k r : ℕ) → cond b (suc k) r ≡ 0 → (b ≡ false) × (r ≡ 0)
holds true k r e = let h : ⊥ = omega arith in absurd h
holds false k r e = (refl, e)

-- ---- the numbers rise, from above k
abbrev pub Rising : ℕ → List Rule → Type 0
Rising k [] = Unit
Rising k (rule ∷ rules) = T (ltb k rule.1) × Rising rule.1 rules

-- ---- two lists of rules, one after the other
module _ (rest : List Rule) where
  -- a number of the first list is the number of both
  pub first_here : (rules : List Rule) (r : ℕ) → r ≡ first_broken rules → (r ≡ 0 → ⊥) → r ≡ first_broken (rules ++ rest)
  first_here [] r e f = absurd (f e)
  first_here ((true, m) ∷ rules) r e f = e
  first_here ((false, m) ∷ rules) r e f = first_here rules r e f

  -- where none of the first is broken, the second decides
  pub first_next : (k : ℕ) (rules : List Rule) → Rising k rules → first_broken rules ≡ 0 → first_broken rest ≡ first_broken (rules ++ rest)
  first_next k [] g e = refl
  first_next k ((true, m) ∷ rules) g e = let h = ltb→lt k m g.0 in let z : ⊥ = omega arith in absurd z
  first_next k ((false, m) ∷ rules) g e = first_next m rules g.1 e

  -- where none of both is broken, none of either is
  pub first_none :
      (k : ℕ) (rules : List Rule) → Rising k rules → first_broken (rules ++ rest) ≡ 0 → (first_broken rules ≡ 0) × (first_broken rest ≡ 0)
  first_none k [] g e = (refl, e)
  first_none k ((true, m) ∷ rules) g e = let h = ltb→lt k m g.0 in let z : ⊥ = omega arith in absurd z
  first_none k ((false, m) ∷ rules) g e = first_none m rules g.1 e

  -- and where none of either is, none of both
  pub both_hold :
      (k : ℕ) (rules : List Rule) → Rising k rules → first_broken rules ≡ 0 → first_broken rest ≡ 0 → first_broken (rules ++ rest) ≡ 0
  both_hold k rules g e f = sym (first_next k rules g e) ∙ f

-- ---- the least number that applies
above : (k m : ℕ) (rules : List Rule) → Rising k rules → Applies m rules → k < m
above k m [] g a = elim a [ ]
above k m (rule ∷ rules) g a =
    let h = ltb→lt k rule.1 g.0 in
    ⊎_elim (λ e. omega (arith, e.1)) (λ e. omega (arith, above rule.1 m rules g.1 e)) a

pub first_least : (k m : ℕ) (rules : List Rule) → Rising k rules → Applies m rules → first_broken rules ≤ m
first_least k m [] g a = elim a [ ]
first_least k m ((true, l) ∷ rules) g a = ⊎_elim (λ e. omega (arith, e.1)) (λ e. omega (arith, above l m rules g.1 e)) a
first_least k m ((false, l) ∷ rules) g a = ⊎_elim (λ e. absurd (subst T (sym e.0) tt)) (λ e. first_least l m rules g.1 e) a

pub first_applies : (rules : List Rule) → (first_broken rules ≡ 0 → ⊥) → Applies (first_broken rules) rules
first_applies [] f = absurd (f refl)
first_applies ((true, l) ∷ rules) f = inl (refl, refl)
first_applies ((false, l) ∷ rules) f = inr (first_applies rules f)

-- ---- what a refusal leaves, and what is worked where there is none
module _ {A : Type 0} (refusal : ℕ) (worked kept : A) where
  pub kept_when_refused : (refusal ≡ 0 → ⊥) → unless_refused refusal worked kept ≡ kept
  kept_when_refused f = rw (ne_eqb refusal 0 f) refl

  pub worked_when_taken : refusal ≡ 0 → unless_refused refusal worked kept ≡ worked
  worked_when_taken e = rw (eq-eqb refusal 0 e) refl

-- ---- a rule of two tests holds where neither passes
pub neither : (a b : Bool) → (a || b) ≡ false → (a ≡ false) × (b ≡ false)
neither false b e = (refl, e)
neither true b e = absurd (subst T e tt)

-- and it is broken where the second passes
pub beside : (a b : Bool) → b ≡ true → (a || b) ≡ true
beside true b e = refl
beside false b e = e

-- two tests do not both pass where the second fails
pub second_fails : (a b : Bool) → b ≡ false → (a && b) ≡ false
second_fails true b e = e
second_fails false b e = refl

-- where they both pass each does, and where they do not and one passes, the other fails
pub both_passed : (a b : Bool) → (a && b) ≡ true → (a ≡ true) × (b ≡ true)
both_passed true b e = (refl, e)
both_passed false b e = absurd (subst T (sym e) tt)

pub other_fails : (a b : Bool) → (a && b) ≡ false → a ≡ true → b ≡ false
other_fails true b e f = e
other_fails false b e f = absurd (subst T (sym f) tt)

pub first_fails : (a b : Bool) → (a && b) ≡ false → b ≡ true → a ≡ false
first_fails false b e f = refl
first_fails true b e f = absurd (subst T (sym (sym e ∙ f)) tt)

-- ---- what the first two rules tell where they hold
pub in_range : (lowest highest n : ℕ) → outside lowest highest n ≡ false → (lowest ≤ n) × (n ≤ highest)
in_range lowest highest n e = let f = neither (ltb n lowest) (ltb highest n) e in (ltb-false n lowest f.0, ltb-false highest n f.1)

-- the first of some lengths is as it must be, and so are the others
pub fits :
    (found wanted : ℕ) (others : List (ℕ × ℕ)) → misfits ((found, wanted) ∷ others) ≡ false → (found ≡ wanted) × (misfits others ≡ false)
fits found wanted others e =
    let f = neither (not (eqb found wanted)) (misfits others) e in
    (eqb-true found wanted (not-false (eqb found wanted) f.0), f.1)

-- n is in its range and every length is as it must be
pub record Sizes (n : ℕ) (lengths : List (ℕ × ℕ)) : Type 0 where
  pub two : 2 ≤ n
  pub zones : n ≤ 64
  pub fitting : misfits lengths ≡ false

pub sizes_hold : (n : ℕ) (lengths : List (ℕ × ℕ)) → first_broken (size_rules n lengths) ≡ 0 → Sizes n lengths
sizes_hold n lengths e =
    let e1 = holds (outside 2 64 n) 0 _ e in
    let e2 = holds (misfits lengths) 1 0 e1.1 in
    let r = in_range 2 64 n e1.0 in
    record { two = r.0; zones = r.1; fitting = e2.0 }

pub sizes_let_in : (n : ℕ) (lengths : List (ℕ × ℕ)) → Sizes n lengths → first_broken (size_rules n lengths) ≡ 0
sizes_let_in n lengths s = rw (le-ltb n 2 s.two, le-ltb 64 n s.zones, s.fitting) refl

-- a number that n or some lists give is given by more lists too, where these do not fit whenever those do not
pub sizes_first :
    (n : ℕ) (lengths more : List (ℕ × ℕ)) (rest : List Rule) (r : ℕ) → (misfits lengths ≡ true → misfits more ≡ true) →
    r ≡ first_broken (size_rules n lengths) → (r ≡ 0 → ⊥) → r ≡ first_broken (size_rules n more ++ rest)
sizes_first n lengths more rest r too e f = go (outside 2 64 n) (misfits lengths) (misfits more) too e
  where
    go :
        (range some all : Bool) → (some ≡ true → all ≡ true) → r ≡ cond range 1 (cond some 2 0) →
        r ≡ cond range 1 (cond all 2 (first_broken rest))
    go true some all h g = g
    go false true all h g = g ∙ sym (ap (λ (t : Bool). cond {A = ℕ} t 2 (first_broken rest)) (h refl))
    go false false all h g = absurd (f g)
