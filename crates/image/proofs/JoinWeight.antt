-- The table of some joins: what it holds for a pair of zones, and at each place. Assumes nothing.
use mathlib.Core.Path.{◌≡◌, refl, sym, ap, ◌∙◌}
use mathlib.Core.Bool.{Bool, true, false, cond, ◌&&◌}
use mathlib.Core.List.{List, ◌∷◌}
use Prim.Native.Nat.{ℕ, zero, suc, ◌+◌, ◌*◌, ◌/◌, ◌%◌, ◌<◌}
use native.Mathlib.Nat as N
use native.Mathlib.Omega.{arith}
use borrow.Author.Tests.{eq-eqb, eqb-true}
use lib.Arith.{digits_div, digits_mod}
use lib.Dec.{eqb}
use lib.ListN.{length, get_or}
use Rattle.whole.specs.Table.{table}
use Rattle.whole.proofs.Rules.{both_passed}
use Rattle.whole.proofs.TableRows.{rows_length, rows_place}
use Rattle.image.specs.Joins.{Join, join_weight, weights_of}

-- ---- by pair

-- the first of some joins goes from zone i to zone j, or the others decide
first_or_others :
    (P : ℕ → Type 0) (join : Join) (joins : List Join) (i j : ℕ) → (join.from ≡ i → join.to ≡ j → P join.weight) →
    P (join_weight joins i j) → P (join_weight (join ∷ joins) i j)
unfolding join_weight
first_or_others P join joins i j first others = go (eqb join.from i && eqb join.to j) refl
  where
    go : (b : Bool) → (eqb join.from i && eqb join.to j) ≡ b → P (cond b join.weight (join_weight joins i j))
    go false e = others
    go true e =
        let both = both_passed (eqb join.from i) (eqb join.to j) e in
        first (eqb-true join.from i both.0) (eqb-true join.to j both.1)

-- what holds of 0, and of the weight of every join from zone i to zone j, holds of the weight of the pair
pub weight_holds :
    (P : ℕ → Type 0) (join : ℕ → Join) (k i j : ℕ) → P 0 → ((t : ℕ) → t < k → (join t).from ≡ i → (join t).to ≡ j → P (join t).weight) →
    P (join_weight (table join k) i j)
unfolding join_weight table
weight_holds P join zero i j none h = none
weight_holds P join (suc k) i j none h =
    first_or_others P (join 0) (table (λ t. join (suc t)) k) i j (h 0 (omega arith))
    (weight_holds P (λ t. join (suc t)) k i j none (λ t l. h (suc t) (omega arith)))

-- ---- by place

-- the place of a join's weight in the table
abbrev pub place : ℕ → Join → ℕ
place n join = join.from * n + join.to

-- what the table holds at place p
abbrev pub weight_at : ℕ → List Join → ℕ → ℕ
weight_at n joins p = join_weight joins (p / n) (p % n)

pub weights_length : (n : ℕ) (joins : List Join) → length (weights_of n joins) ≡ n * n
weights_length n joins = rows_length (join_weight joins) n n

pub weights_at : (n : ℕ) (joins : List Join) (p : ℕ) → p < n * n → get_or (weights_of n joins) p 0 ≡ weight_at n joins p
weights_at n joins p h = rows_place (join_weight joins) n n p 0 h

-- a number is tested against itself
itself : (a : ℕ) → eqb a a ≡ true
itself a = eq-eqb a a refl

-- the first join has that place, or another
module _ (n p : ℕ) (join : Join) (joins : List Join) where
  pub weight_here : join.to < n → place n join ≡ p → weight_at n (join ∷ joins) p ≡ join.weight
  unfolding join_weight
  weight_here h e =
      let row : join.from ≡ p / n = sym (digits_div join.from h) ∙ ap (λ t. t / n) e in
      let column : join.to ≡ p % n = sym (digits_mod join.from h) ∙ ap (λ t. t % n) e in
      rw (← row, ← column) (simp itself)

  pub weight_past : (place n join ≡ p → ⊥) → weight_at n (join ∷ joins) p ≡ weight_at n joins p
  weight_past f =
      first_or_others (λ w. w ≡ weight_at n joins p) join joins (p / n) (p % n)
      (λ row column. absurd (f (rw (row, column) (N.div-add-mod' p n)))) refl
