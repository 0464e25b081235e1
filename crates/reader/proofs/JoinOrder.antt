-- A join's order is judged by its place: it comes after the joins before it where its place does. Assumes nothing.
use mathlib.Core.Path.{◌≡◌, refl, sym, ap, ◌∙◌}
use mathlib.Core.Bool.{Bool, true, false, not, ◌&&◌}
use mathlib.Core.List.{List, [], ◌∷◌}
use Prim.Native.Nat.{ℕ, zero, suc, ◌+◌, ◌<◌}
use native.Mathlib.Numerals.{add-one}
use native.Mathlib.Omega.{arith}
use borrow.Author.Tests.{lt-ltb, le-ltb, ltb-true, ltb-false}
use lib.Dec.{eqb, ltb}
use Rattle.whole.specs.Rules.{Rule, first_broken, in_turn, outside}
use Rattle.whole.proofs.Rules.{both_passed}
use Rattle.image.specs.Joins.{Join, not_rising, join_rules}
use Rattle.image.proofs.JoinOrder.{place_decides}
use Rattle.image.proofs.JoinWeight.{place}
use Rattle.image.proofs.Weights.{fair_each}
use Rattle.reader.specs.Steps.{rules_by_place}

-- two lists of rules that differ in what is asked only of joins whose ends are zones
alike :
    (inside same one other : Bool) (rest : List Rule) → (inside ≡ true → one ≡ other) →
    first_broken ((not inside, 16) ∷ (same, 5) ∷ (one, 16) ∷ rest) ≡ first_broken ((not inside, 16) ∷ (same, 5) ∷ (other, 16) ∷ rest)
alike false same one other rest h = refl
alike true same one other rest h = ap (λ test. first_broken ((same, 5) ∷ (test, 16) ∷ rest)) (h refl)

-- a place is not after another where it is before the next
before_next : (a b : ℕ) → ltb b (a + 1) ≡ not (ltb a b)
before_next a b = go (ltb a b) refl
  where
    go : (test : Bool) → ltb a b ≡ test → ltb b (a + 1) ≡ not test
    go true e = let h = ltb-true a b e in le-ltb b (a + 1) (omega arith)
    go false e = let h = ltb-false a b e in lt-ltb b (a + 1) (omega arith)

module _ (n : ℕ) (join : ℕ → Join) where
  -- the first place after those of the first k joins, where these rise
  unfoldable pub next_place : ℕ → ℕ
  next_place zero = 0
  next_place (suc k) = place n (join k) + 1

  pub none_passed : 0 ≡ next_place 0
  unfolding next_place
  none_passed = refl

  pub one_passed : (k at : ℕ) → at ≡ place n (join k) → at + 1 ≡ next_place (k + 1)
  unfolding next_place
  one_passed k at e = rw (e, add-one k)

  in_order :
      (k : ℕ) → first_broken (in_turn (join_rules n join) k) ≡ 0 → (join k).to < n →
      ltb (place n (join k)) (next_place k) ≡ not_rising join k
  unfolding next_place
  in_order zero sound h = le-ltb (place n (join 0)) 0 (omega arith)
  in_order (suc k) sound h =
      let before = fair_each n join (suc k) sound k (omega arith) in
      before_next (place n (join k)) (place n (join (suc k))) ∙ ap not (sym (place_decides n (join k) (join (suc k)) before.to_in h))

  -- the rules by place are the join's rules, where no join before it breaks one
  pub judged :
      (k next from to weight r : ℕ) → first_broken (in_turn (join_rules n join) k) ≡ 0 → next ≡ next_place k →
      from ≡ (join k).from → to ≡ (join k).to → weight ≡ (join k).weight →
      r ≡ first_broken (rules_by_place n next from to weight) → r ≡ first_broken (join_rules n join k)
  unfolding join_rules
  judged k next from to weight r sound p f t w e =
      (rw (p, f, t, w) at e)
      ∙ alike (ltb (join k).from n && ltb (join k).to n) (eqb (join k).from (join k).to) (ltb (place n (join k)) (next_place k))
      (not_rising join k) ((outside 1 9 (join k).weight, 4) ∷ [])
      (λ both. in_order k sound (ltb-true (join k).to n (both_passed (ltb (join k).from n) (ltb (join k).to n) both).1))
