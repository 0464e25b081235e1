-- What an image is like that breaks no rule, section by section. Assumes nothing.
use mathlib.Core.Path.{◌≡◌, refl, sym, ◌∙◌}
use mathlib.Core.Bool.{Bool, true, false, not, ◌&&◌, ◌||◌, false≢true}
use mathlib.Core.List.{List, ◌++◌}
use mathlib.Core.Logic.{◌⊎◌, inl, inr, ⊎_elim}
use Prim.Native.Nat.{ℕ, ◌≤◌}
use native.Mathlib.Omega.{arith}
use borrow.Author.Tests.{le-ltb, ltb-false, eqb-true}
use lib.Dec.{eqb, ltb}
use lib.IntN.{ℤ}
use lib.ListN.{length}
use Rattle.whole.specs.Rules.{Rule, first_broken, in_turn, outside}
use Rattle.whole.proofs.InTurn.{Numbered, none_of_both, second_decides, in_turn_numbered}
use Rattle.whole.proofs.Rules.{holds, in_range, neither}
use Rattle.account.specs.Refusals.{sum_rules}
use Rattle.places.specs.Places.{place_rules_of, places_in_turn}
use Rattle.image.specs.Joins.{join_rules}
use Rattle.image.specs.Image.{
  count,
  items,
  values_in,
  from_categories,
  categories_in,
  from_joins,
  join_in,
  from_places,
  places_in,
  from_bands,
  bands_in,
  from_shuffles,
  shuffles_in,
  rest,
  job_of,
  value_rules,
  category_rules,
  band_rules,
  shuffle_rules,
  in_values,
  in_categories,
  in_joins,
  in_places,
  in_bands,
  in_shuffles,
  at_the_end,
  image_rules,
  image_refusal,
}
use Rattle.image.proofs.Sections.{Sound, sound, sound_section}
use Rattle.image.proofs.Weights.{join_numbered}

-- ---- every number of a section is above 0

pub places_numbered : (places : List ℤ) → Numbered (places_in_turn places)
unfolding places_in_turn place_rules_of
places_numbered places = in_turn_numbered (place_rules_of places) (λ a. (tt, (tt, tt))) _

pub values_numbered : (b : List ℕ) → Numbered (in_values b)
unfolding in_values
values_numbered b = (tt, (tt, (tt, (tt, tt))))

pub categories_numbered : (n : ℕ) (b : List ℕ) → Numbered (in_categories n b)
unfolding in_categories
categories_numbered n b = (tt, (tt, (tt, (tt, tt))))

pub joins_numbered : (n : ℕ) (b : List ℕ) → Numbered (in_joins n b)
unfolding in_joins
joins_numbered n b = (tt, (tt, (tt, in_turn_numbered (join_rules n (join_in (items b))) (join_numbered n (join_in (items b))) (count b))))

pub in_places_numbered : (n : ℕ) (b : List ℕ) → Numbered (in_places n b)
unfolding in_places
in_places_numbered n b = (tt, (tt, (tt, places_numbered (places_in b))))

pub bands_numbered : (places : ℕ) (b : List ℕ) → Numbered (in_bands places b)
unfolding in_bands
bands_numbered places b = (tt, (tt, (tt, (tt, tt))))

pub shuffles_numbered : (n : ℕ) (b : List ℕ) → Numbered (in_shuffles n b)
unfolding in_shuffles
shuffles_numbered n b = (tt, (tt, (tt, (tt, tt))))

-- ---- what the rule on a count tells where it holds

-- 0 or n
abbrev pub part_only : ℕ → ℕ → Bool
part_only n k = not (eqb k 0 || eqb k n)

none_or_all : (n k : ℕ) → part_only n k ≡ false → (k ≡ 0) ⊎ (k ≡ n)
none_or_all n k e = go (eqb k 0) (eqb k n) refl refl e
  where
    go : (a b : Bool) → eqb k 0 ≡ a → eqb k n ≡ b → not (a || b) ≡ false → (k ≡ 0) ⊎ (k ≡ n)
    go true b p q z = inl (eqb-true k 0 p)
    go false true p q z = inr (eqb-true k n q)
    go false false p q z = absurd (false≢true (sym z))

pub at_most_all : (n k : ℕ) → part_only n k ≡ false → k ≤ n
at_most_all n k e = ⊎_elim (λ z. omega arith) (λ z. omega arith) (none_or_all n k e)

-- where there are some, there are n
pub all_of_them : (n k : ℕ) → part_only n k ≡ false → (k ≡ 0 → ⊥) → k ≡ n
all_of_them n k e f = ⊎_elim (λ z. absurd (f z)) (λ z. z) (none_or_all n k e)

-- ---- the six sections, and the end
pub record Accepted (image : List ℕ) : Type 0 where
  pub values : Sound 4 (outside 2 64 (count image)) (value_rules (values_in image)) image
  pub categories :
      let b = from_categories image in Sound 1 (part_only (count image) (count b)) (category_rules (categories_in b)) b
  pub joins :
      let b = from_joins image in Sound 3 (ltb 4032 (count b)) (in_turn (join_rules (count image) (join_in (items b))) (count b)) b
  pub places : let b = from_places image in Sound 8 (part_only (count image) (count b)) (places_in_turn (places_in b)) b
  pub bands :
      let b = from_bands image in
      let places = count (from_places image) in
      Sound 4 (ltb 8 (count b) || (ltb 0 (count b) && eqb places 0)) (band_rules (bands_in b)) b
  pub shuffles :
      let b = from_shuffles image in
      Sound (count image) (ltb 499 (count b)) (shuffle_rules (count image) (shuffles_in (count image) b)) b
  pub ended : length (rest image) ≡ 0
  pub sums : first_broken (sum_rules (count image) (job_of image).values (job_of image).weights) ≡ 0

-- the rules after each section
module _ (image : List ℕ) where
  abbrev pub after_bands : List Rule
  after_bands = in_shuffles (count image) (from_shuffles image) ++ at_the_end image

  abbrev pub after_places : List Rule
  after_places = in_bands (count (from_places image)) (from_bands image) ++ after_bands

  abbrev pub after_joins : List Rule
  after_joins = in_places (count image) (from_places image) ++ after_places

  abbrev pub after_categories : List Rule
  after_categories = in_joins (count image) (from_joins image) ++ after_joins

  abbrev pub after_values : List Rule
  after_values = in_categories (count image) (from_categories image) ++ after_categories

pub accepted : (image : List ℕ) → image_refusal image ≡ 0 → Accepted image
unfolding image_refusal image_rules in_values in_categories in_joins in_places in_bands in_shuffles
accepted image e =
    let n = count image in
    let v = none_of_both (after_values image) (in_values image) (values_numbered image) e in
    let c =
    none_of_both (after_categories image) (in_categories n (from_categories image)) (categories_numbered n (from_categories image)) v.1
    in
    let j = none_of_both (after_joins image) (in_joins n (from_joins image)) (joins_numbered n (from_joins image)) c.1 in
    let p = none_of_both (after_places image) (in_places n (from_places image)) (in_places_numbered n (from_places image)) j.1 in
    let places = count (from_places image) in
    let b = none_of_both (after_bands image) (in_bands places (from_bands image)) (bands_numbered places (from_bands image)) p.1 in
    let s = none_of_both (at_the_end image) (in_shuffles n (from_shuffles image)) (shuffles_numbered n (from_shuffles image)) b.1 in
    let t = holds (ltb 0 (length (rest image))) 16 _ s.1 in
    let l = ltb-false 0 (length (rest image)) t.0 in record {
      values = sound 4 _ 0 _ image v.0;
      categories = sound 1 _ 14 _ (from_categories image) c.0;
      joins = sound 3 _ 14 _ (from_joins image) j.0;
      places = sound 8 _ 14 _ (from_places image) p.0;
      bands = sound 4 _ 11 _ (from_bands image) b.0;
      shuffles = sound n _ 14 _ (from_shuffles image) s.0;
      ended = omega arith;
      sums = t.1;
    }

-- and an image like that breaks none
pub let_in : (image : List ℕ) → Accepted image → image_refusal image ≡ 0
unfolding image_refusal image_rules in_values in_categories in_joins in_places in_bands in_shuffles
let_in image a =
    let n = count image in
    let places = count (from_places image) in
    second_decides (after_values image) (in_values image) (values_numbered image) (sound_section 4 _ 1 _ image a.values)
    ∙ second_decides (after_categories image) (in_categories n (from_categories image)) (categories_numbered n (from_categories image))
    (sound_section 1 _ 15 _ (from_categories image) a.categories)
    ∙ second_decides (after_joins image) (in_joins n (from_joins image)) (joins_numbered n (from_joins image))
    (sound_section 3 _ 15 _ (from_joins image) a.joins)
    ∙ second_decides (after_places image) (in_places n (from_places image)) (in_places_numbered n (from_places image))
    (sound_section 8 _ 15 _ (from_places image) a.places)
    ∙ second_decides (after_bands image) (in_bands places (from_bands image)) (bands_numbered places (from_bands image))
    (sound_section 4 _ 12 _ (from_bands image) a.bands)
    ∙ second_decides (at_the_end image) (in_shuffles n (from_shuffles image)) (shuffles_numbered n (from_shuffles image))
    (sound_section n _ 15 _ (from_shuffles image) a.shuffles)
    ∙ rw (le-ltb 0 (length (rest image)) (let z = a.ended in omega arith)) a.sums

-- ---- the counts of an accepted image
pub record Counted (image : List ℕ) : Type 0 where
  pub two : 2 ≤ count image
  pub zones : count image ≤ 64
  pub categories : count (from_categories image) ≤ count image
  pub joins : count (from_joins image) ≤ 4032
  pub places : count (from_places image) ≤ count image
  pub bands : count (from_bands image) ≤ 8
  pub shuffles : count (from_shuffles image) ≤ 499

pub counted : (image : List ℕ) → Accepted image → Counted image
counted image a =
    let n = count image in
    let z = in_range 2 64 n a.values.counted in record {
      two = z.0;
      zones = z.1;
      categories = at_most_all n (count (from_categories image)) a.categories.counted;
      joins = ltb-false 4032 (count (from_joins image)) a.joins.counted;
      places = at_most_all n (count (from_places image)) a.places.counted;
      bands = ltb-false 8 (count (from_bands image)) (neither (ltb 8 (count (from_bands image))) _ a.bands.counted).0;
      shuffles = ltb-false 499 (count (from_shuffles image)) a.shuffles.counted;
    }
