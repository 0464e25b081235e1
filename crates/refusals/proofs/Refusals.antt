-- Laws of the number of a refusal: it is never 0, and what a refused call was lent stays. Assumes nothing.
use Rattle.std.proofs.Common.{◌≡◌, refl, sym, ap, ◌∙◌, ℕ, List, [], ◌∷◌, get_or, arith}
use Rattle.whole.specs.Rules.{unless_refused}
use Rattle.whole.proofs.Rules.{kept_when_refused, worked_when_taken}
use Rattle.refusals.specs.declared.Refusal.{Refusal}
use Rattle.refusals.specs.declared.Refusal.TheVariants.{Zones, Length, Value, Weight, Diagonal, Weightless, Spreadless, Category, Class, Coordinate, Place, Bands, Shuffle, Cut, Count, Joins, Trailing, Ratio, Output, Desk}
use Rattle.refusals.specs.Refusals.{number_by}

-- ---- a cause is known by its number
causes : List Refusal
causes =
    Zones ∷ Zones ∷ Length ∷ Value ∷ Weight ∷ Diagonal ∷ Weightless ∷ Spreadless ∷ Category ∷ Class ∷ Coordinate ∷ Place ∷ Bands ∷ Shuffle
    ∷ Cut ∷ Count ∷ Joins ∷ Trailing ∷ Ratio ∷ Output ∷ Zones ∷ Zones ∷ Zones ∷ Zones ∷ Desk ∷ []

by_place : ℕ → Refusal
by_place k = get_or causes k Zones

found_by_place : (e : Refusal) → by_place (number_by e) ≡ e
unfolding by_place causes
found_by_place Zones = refl
found_by_place Length = refl
found_by_place Value = refl
found_by_place Weight = refl
found_by_place Diagonal = refl
found_by_place Weightless = refl
found_by_place Spreadless = refl
found_by_place Category = refl
found_by_place Class = refl
found_by_place Coordinate = refl
found_by_place Place = refl
found_by_place Bands = refl
found_by_place Shuffle = refl
found_by_place Cut = refl
found_by_place Count = refl
found_by_place Joins = refl
found_by_place Trailing = refl
found_by_place Ratio = refl
found_by_place Output = refl
found_by_place Desk = refl

pub cause_unique : (a b : Refusal) → number_by a ≡ number_by b → a ≡ b
cause_unique a b e = sym (found_by_place a) ∙ ap by_place e ∙ found_by_place b

-- no cause has the number 0: the one at that place has another
pub not_refused : (e : Refusal) → number_by e ≡ 0 → ⊥
unfolding by_place causes
not_refused e h =
    let zones : number_by e ≡ 1 = ap number_by (sym (found_by_place e) ∙ ap by_place h) in
    omega (arith, h, zones)

-- ---- what a refused call was lent
module _ {B : Type 0} (number : ℕ) (worked kept : B) where
  -- what is lent stays where the number is a cause's
  pub left_by : (e : Refusal) → number_by e ≡ number → unless_refused number worked kept ≡ kept
  left_by e h = kept_when_refused number worked kept (λ z. not_refused e (h ∙ z))

  -- and is worked where an answer that is no refusal has the number
  pub worked_by : 0 ≡ number → unless_refused number worked kept ≡ worked
  worked_by h = worked_when_taken number worked kept (sym h)
