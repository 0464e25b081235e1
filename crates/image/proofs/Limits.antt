-- What the rules on values and places tell of every number of a list. Assumes nothing.
use mathlib.Core.Path.{◌≡◌, refl, sym, ap, ◌∙◌, subst}
use mathlib.Core.Bool.{Bool, true, false}
use mathlib.Core.List.{List, [], ◌∷◌}
use Prim.Native.Nat.{ℕ, zero, suc, ◌+◌, ◌*◌, ◌/◌, ◌%◌, ◌≤◌, ◌<◌}
use native.Mathlib.Omega.{arith}
use lib.IntN.{ℤ, pos, negsuc, nat_abs}
use lib.ListN.{length, get_or}
use mir.Syntax.{w32}
use mir.Val.{SFits}
use Rattle.whole.specs.Integer.{beyond}
use Rattle.whole.specs.Rules.{first_broken}
use Rattle.whole.specs.Search.{some, any_beyond}
use Rattle.whole.specs.Table.{at}
use Rattle.whole.proofs.Compare.{equal_true}
use Rattle.whole.proofs.InTurn.{Numbered, turn_each}
use Rattle.whole.proofs.Rules.{holds, neither}
use Rattle.whole.proofs.Search.{none_some, none_beyond}
use Rattle.judges.specs.Values.{not_returned, missing, any_value_beyond}
use Rattle.kept.proofs.Reduced.{returned_near}
use Rattle.places.specs.Places.{across, up, at_one_place, any_at_one_place, place_rules_of, places_in_turn}
use Rattle.image.proofs.ItemKinds.{All, none, more}

-- ---- a law of every place of a list is one of all its items
pub all_from : {A : Type 0} (P : A → Type 0) (d : A) (xs : List A) → ((k : ℕ) → k < length xs → P (get_or xs k d)) → All P xs
all_from P d [] h = none
all_from P d (x ∷ xs) h = more (h 0 (omega arith)) (all_from P d xs (λ k l. h (suc k) (omega arith)))

-- a number that is not beyond such a limit has 32 bits
small : (z : ℤ) → nat_abs z ≤ 100000 → SFits w32 z
small (pos n) h = record { sfits = omega arith }
small (negsuc n) h = record { sfits = omega arith }

pub near_fits : (limit : ℕ) (numbers : List ℤ) → limit ≤ 100000 → any_beyond limit numbers ≡ false → All (λ z. SFits w32 z) numbers
near_fits limit numbers l e =
    all_from (λ z. SFits w32 z) (pos 0) numbers (λ k h. small (at numbers k) (omega (arith, none_beyond limit numbers e k h)))

-- so has the value that marks one not returned, and with it every value where 3 holds
marked : SFits w32 not_returned
marked = record { sfits = omega arith }

pub values_fit : (values : List ℤ) → any_value_beyond values ≡ false → All (λ z. SFits w32 z) values
unfolding missing
values_fit values e = all_from (λ z. SFits w32 z) (pos 0) values (λ k h. go k h (missing values k) refl)
  where
    go : (k : ℕ) → k < length values → (b : Bool) → missing values k ≡ b → SFits w32 (at values k)
    go k h true m = subst (λ z. SFits w32 z) (sym (equal_true (at values k) not_returned m)) marked
    go k h false m = small (at values k) (returned_near values e k h m)

-- ---- places that break no rule in turn break none together
module _ (places : List ℤ) (sound : first_broken (places_in_turn places) ≡ 0) where
  numbered : (a : ℕ) → Numbered (place_rules_of places a)
  unfolding place_rules_of
  numbered a = (tt, (tt, tt))

  zone : (a : ℕ) → a < length places / 2 → first_broken (place_rules_of places a) ≡ 0
  unfolding places_in_turn
  zone a h = turn_each (place_rules_of places) numbered (length places / 2) a h sound

  near_zone : (a : ℕ) → a < length places / 2 → (beyond 30000 (at places (2 * a)) ≡ false) × (beyond 30000 (at places (2 * a + 1)) ≡ false)
  unfolding place_rules_of any_beyond some across up
  near_zone a h =
      let near = (holds (any_beyond 30000 (across places a ∷ up places a ∷ [])) 9 _ (zone a h)).0 in
      let both = neither (beyond 30000 (at places (2 * a))) (beyond 30000 (at places (2 * a + 1))) near in
      (both.0, both.1)

  alone_zone : (a : ℕ) → a < length places / 2 → some (at_one_place places a) a ≡ false
  unfolding place_rules_of
  alone_zone a h =
      let near = holds (any_beyond 30000 (across places a ∷ up places a ∷ [])) 9 _ (zone a h) in
      (holds (some (at_one_place places a) a) 10 0 near.1).0

  module _ (n : ℕ) (there : length places ≡ 2 * n) where
    -- a coordinate is the first or the second of its zone
    coordinate : (p : ℕ) → p < length places → beyond 30000 (at places p) ≡ false
    coordinate p h = go (p % 2) refl (omega arith)
      where
        go : (r : ℕ) → p % 2 ≡ r → r < 2 → beyond 30000 (at places p) ≡ false
        go zero e l =
            let first : 2 * (p / 2) ≡ p = omega arith in
            ap (λ q. beyond 30000 (at places q)) (sym first) ∙ (near_zone (p / 2) (omega arith)).0
        go (suc zero) e l =
            let second : 2 * (p / 2) + 1 ≡ p = omega arith in
            ap (λ q. beyond 30000 (at places q)) (sym second) ∙ (near_zone (p / 2) (omega arith)).1
        go (suc (suc r)) e l = let z : ⊥ = omega arith in absurd z

    pub places_near : any_beyond 30000 places ≡ false
    unfolding any_beyond
    places_near = none_some (λ p. beyond 30000 (at places p)) (length places) coordinate

    pub places_apart : any_at_one_place n places ≡ false
    unfolding any_at_one_place
    places_apart = none_some (λ a. some (at_one_place places a) a) n (λ a h. alone_zone a (omega arith))
