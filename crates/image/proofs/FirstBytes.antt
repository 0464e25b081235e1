-- The first bytes of an image decide it: an accepted image is short, and what stands behind the first 44,909 bytes changes no refusal.
-- Assumes nothing.
use mathlib.Core.Path.{◌≡◌, refl, sym, ap, ◌∙◌}
use mathlib.Core.Bool.{Bool, true, false, ◌&&◌, ◌||◌}
use mathlib.Core.List.{List, [], ◌∷◌, ◌++◌}
use Prim.Native.Nat.{ℕ, zero, suc, ◌+◌, ◌*◌, ◌≤◌, ◌<◌}
use native.Mathlib.Decide.{dec_le}
use native.Mathlib.Nat as N
use native.Mathlib.Omega.{arith}
use borrow.Author.Tests.{le-ltb, lt-ltb, ltb-false}
use lib.Dec.{eqb, ltb}
use lib.IntN.{pos}
use lib.ListN.{length, take, drop, length-append, length-drop, take-append-drop, get_or-append}
use lib.Seq.{take_all, drop-append-le, length-take-le}
use mir.Syntax.{w32}
use mir.Val.{to_z}
use Rattle.whole.specs.Rules.{Rule, first_broken, in_turn, outside}
use Rattle.whole.proofs.Rules.{in_range, neither}
use Rattle.whole.proofs.Table.{table_cong}
use Rattle.words.specs.Words.{byte_at, two_at, word_at}
use Rattle.places.specs.Places.{places_in_turn}
use Rattle.image.specs.Joins.{Join, join_rules}
use Rattle.image.specs.Image.{count, items, after, signed_words, words, bytes, join_in, from_categories, from_joins, from_places}
use Rattle.image.specs.Image.{from_bands, from_shuffles, value_rules, category_rules, band_rules, shuffle_rules, section_rules}
use Rattle.image.specs.Image.{in_values, in_categories, in_joins, in_places, in_bands, in_shuffles, image_rules, image_refusal}
use Rattle.image.proofs.Accepted.{part_only, at_most_all, accepted, counted}

-- ---- an accepted image has at most 44,908 bytes
pub accepted_short : (image : List ℕ) → image_refusal image ≡ 0 → length image ≤ 44908
accepted_short image e =
    let a = accepted image e in
    let c = counted image a in
    let l1 = length-drop (2 + 4 * count image) image in
    let l2 = length-drop (2 + 1 * count (from_categories image)) (from_categories image) in
    let l3 = length-drop (2 + 3 * count (from_joins image)) (from_joins image) in
    let l4 = length-drop (2 + 8 * count (from_places image)) (from_places image) in
    let l5 = length-drop (2 + 4 * count (from_bands image)) (from_bands image) in
    let l6 = length-drop (2 + count image * count (from_shuffles image)) (from_shuffles image) in
    let rows = N.mul-le-mul {n₂ = 64} {m₂ = 499} c.zones c.shuffles in
    let end = a.ended in
    omega arith

-- ---- numbers that lie within some bytes are the same where more bytes follow
module _ (b more : List ℕ) where
  byte_within : (p : ℕ) → p < length b → byte_at (b ++ more) p ≡ byte_at b p
  byte_within p h = get_or-append b more 0 p h

  count_within : 2 ≤ length b → count (b ++ more) ≡ count b
  unfolding two_at
  count_within h = rw (byte_within 0 (omega arith), byte_within 1 (omega arith))

  word_within : (p : ℕ) → p + 4 ≤ length b → word_at (b ++ more) p ≡ word_at b p
  unfolding word_at
  word_within p h =
      rw
      (byte_within p (omega arith), byte_within (p + 1) (omega arith), byte_within (p + 2) (omega arith), byte_within (p + 3) (omega arith))

  words_within : (k : ℕ) → 4 * k ≤ length b → words k (b ++ more) ≡ words k b
  words_within k h = table_cong _ _ k 0 (λ i l. word_within (4 * i) (omega arith))

  signed_within : (k : ℕ) → 4 * k ≤ length b → signed_words k (b ++ more) ≡ signed_words k b
  signed_within k h = table_cong _ _ k (pos 0) (λ i l. ap (to_z w32) (word_within (4 * i) (omega arith)))

  bytes_within : (k : ℕ) → k ≤ length b → bytes k (b ++ more) ≡ bytes k b
  bytes_within k h = table_cong _ _ k 0 (λ i l. byte_within i (omega arith))

  join_within : (k : ℕ) → 3 * k + 3 ≤ length b → join_in (b ++ more) k ≡ join_in b k
  join_within k h =
      rw (byte_within (3 * k) (omega arith), byte_within (3 * k + 1) (omega arith), byte_within (3 * k + 2) (omega arith))

-- ---- the rules of the same joins are the same
join_alike :
    (n : ℕ) (joins others : ℕ → Join) (k : ℕ) → ((i : ℕ) → i ≤ k → joins i ≡ others i) → join_rules n joins k ≡ join_rules n others k
unfolding join_rules
join_alike n joins others zero h = rw (h 0 (omega arith))
join_alike n joins others (suc k) h = rw (h k (omega arith), h (suc k) (omega arith))

turns_alike : (rules others : ℕ → List Rule) (n : ℕ) → ((k : ℕ) → k < n → rules k ≡ others k) → in_turn rules n ≡ in_turn others n
unfolding in_turn
turns_alike rules others zero h = refl
turns_alike rules others (suc n) h = rw (turns_alike rules others n (λ k l. h k (omega arith)), h n (omega arith))

joins_within :
    (n k : ℕ) (b more : List ℕ) → 3 * k ≤ length b → in_turn (join_rules n (join_in (b ++ more))) k ≡ in_turn (join_rules n (join_in b)) k
joins_within n k b more h =
    turns_alike (join_rules n (join_in (b ++ more))) (join_rules n (join_in b)) k
    (λ i l. join_alike n (join_in (b ++ more)) (join_in b) i (λ j m. join_within b more j (omega arith)))

-- rules after the same ones
same_first :
    (rules rest other : List Rule) → first_broken rest ≡ first_broken other → first_broken (rules ++ rest) ≡ first_broken (rules ++ other)
same_first [] rest other e = e
same_first ((true, number) ∷ rules) rest other e = refl
same_first ((false, number) ∷ rules) rest other e = same_first rules rest other e

-- ---- so many first bytes from a section on decide the rules from there on, in which those of the sums come last

-- the rules from a section on, by the bytes from there on and the rules of the sums
abbrev Onward : Type 0
Onward = List ℕ → List Rule → List Rule

abbrev Decided : ℕ → Onward → Type 0
Decided many rules =
    (b more : List ℕ) (sums others : List Rule) → many ≤ length b → first_broken (rules (b ++ more) sums) ≡ first_broken (rules b others)

-- after the last section: where a byte is left the sums are not asked for
abbrev end_on : Onward
end_on b sums = (ltb 0 (length b), 17) ∷ sums

end_decided : Decided 1 end_on
end_decided b more sums others h =
    let l = length-append b more in
    rw (lt-ltb 0 (length (b ++ more)) (omega arith), lt-ltb 0 (length b) (omega arith))

-- a section, whose items take at most so many bytes where its count is allowed, and the rules after it
module _ (size : ℕ) (broken : ℕ → Bool) (number : ℕ) (of_items : ℕ → List ℕ → List Rule) (later : ℕ → Onward) where
  abbrev section_on : Onward
  section_on b sums =
      section_rules size (broken (count b), number) (of_items (count b) (items b)) b ++ later (count b) (after size b) sums

  by_count : (b : List ℕ) (sums : List Rule) → 2 ≤ length b → broken (count b) ≡ true → first_broken (section_on b sums) ≡ number
  by_count b sums l e = rw (le-ltb (length b) 2 l, e)

  by_items :
      (b : List ℕ) (sums : List Rule) → 2 + size * count b ≤ length b → broken (count b) ≡ false →
      first_broken (section_on b sums) ≡ first_broken (of_items (count b) (items b) ++ later (count b) (after size b) sums)
  by_items b sums l e = rw (le-ltb (length b) 2 (omega arith), e, le-ltb (length b) (2 + size * count b) l)

  section_decided :
      (most many : ℕ) → ((k : ℕ) → broken k ≡ false → size * k ≤ most) →
      ((k : ℕ) (b more : List ℕ) → size * k ≤ length b → of_items k (b ++ more) ≡ of_items k b) →
      ((k : ℕ) → broken k ≡ false → Decided many (later k)) → Decided (2 + most + many) section_on
  section_decided most many few within decided b more sums others h = go (broken (count b)) refl
    where
      long : length (b ++ more) ≡ length b + length more
      long = length-append b more

      same : count (b ++ more) ≡ count b
      same = count_within b more (omega arith)

      go : (f : Bool) → broken (count b) ≡ f → first_broken (section_on (b ++ more) sums) ≡ first_broken (section_on b others)
      go true e =
          by_count (b ++ more) sums (omega (arith, long)) (ap broken same ∙ e) ∙ sym (by_count b others (omega arith) e)
      go false e =
          let k = count b in
          let l = few k e in
          let there : 2 + size * count (b ++ more) ≤ length (b ++ more) = rw same (omega (arith, long)) in
          let body : items (b ++ more) ≡ items b ++ more = drop-append-le 2 b more (omega arith) in
          let behind : drop (2 + size * k) (b ++ more) ≡ after size b ++ more = drop-append-le (2 + size * k) b more (omega arith) in
          by_items (b ++ more) sums there (ap broken same ∙ e)
          ∙ ap (λ m. first_broken (of_items m (items (b ++ more)) ++ later m (drop (2 + size * m) (b ++ more)) sums)) same
          ∙ ap (λ t. first_broken (of_items k t ++ later k (drop (2 + size * k) (b ++ more)) sums)) body
          ∙ ap (λ rules. first_broken (rules ++ later k (drop (2 + size * k) (b ++ more)) sums))
          (within k (items b) more (omega (arith, length-drop 2 b)))
          ∙ ap (λ t. first_broken (of_items k (items b) ++ later k t sums)) behind
          ∙ same_first (of_items k (items b)) (later k (after size b ++ more) sums) (later k (after size b) others)
          (decided k e (after size b) more sums others (omega (arith, length-drop (2 + size * k) b)))
          ∙ sym (by_items b others (omega arith) e)

-- ---- the rules from each section on, the last first: two bytes of count and the items at most for each, and one byte behind them all
module _ (n : ℕ) where
  abbrev shuffles_on : Onward
  shuffles_on b sums = in_shuffles n b ++ end_on (after n b) sums

  abbrev bands_on : ℕ → Onward
  bands_on places b sums = in_bands places b ++ shuffles_on (after 4 b) sums

  abbrev places_on : Onward
  places_on b sums = in_places n b ++ bands_on (count b) (after 8 b) sums

  abbrev joins_on : Onward
  joins_on b sums = in_joins n b ++ places_on (after 3 b) sums

  abbrev categories_on : Onward
  categories_on b sums = in_categories n b ++ joins_on (after 1 b) sums

  module _ (zones : n ≤ 64) where
    shuffles_decided : Decided 31939 shuffles_on
    unfolding in_shuffles
    shuffles_decided =
        section_decided n (ltb 499) 15 (λ k b. shuffle_rules n (bytes (k * n) b)) (λ k. end_on) 31936 1
        (λ k e. N.mul-le-mul {n₂ = 64} {m₂ = 499} zones (ltb-false 499 k e))
        (λ k b more h. ap (shuffle_rules n) (bytes_within b more (k * n) (omega (arith, N.mul_comm k n))))
        (λ k e. end_decided)

    bands_decided : (places : ℕ) → Decided 31973 (bands_on places)
    unfolding in_bands
    bands_decided places =
        section_decided 4 (λ k. ltb 8 k || (ltb 0 k && eqb places 0)) 12 (λ k b. band_rules (words k b)) (λ k. shuffles_on) 32 31939
        (λ k e. omega (arith, ltb-false 8 k (neither (ltb 8 k) _ e).0))
        (λ k b more h. ap band_rules (words_within b more k h))
        (λ k e. shuffles_decided)

    places_decided : Decided 32487 places_on
    unfolding in_places
    places_decided =
        section_decided 8 (part_only n) 15 (λ k b. places_in_turn (signed_words (2 * k) b)) bands_on 512 31973
        (λ k e. omega (arith, at_most_all n k e))
        (λ k b more h. ap places_in_turn (signed_within b more (2 * k) (omega arith)))
        (λ k e. bands_decided k)

    joins_decided : Decided 44585 joins_on
    unfolding in_joins
    joins_decided =
        section_decided 3 (ltb 4032) 15 (λ k b. in_turn (join_rules n (join_in b)) k) (λ k. places_on) 12096 32487
        (λ k e. omega (arith, ltb-false 4032 k e))
        (joins_within n)
        (λ k e. places_decided)

    categories_decided : Decided 44651 categories_on
    unfolding in_categories
    categories_decided =
        section_decided 1 (part_only n) 15 (λ k b. category_rules (bytes k b)) (λ k. joins_on) 64 44585
        (λ k e. omega (arith, at_most_all n k e))
        (λ k b more h. ap category_rules (bytes_within b more k (omega arith)))
        (λ k e. joins_decided)

abbrev values_on : Onward
values_on b sums = in_values b ++ categories_on (count b) (after 4 b) sums

values_decided : Decided 44909 values_on
unfolding in_values
values_decided =
    section_decided 4 (outside 2 64) 1 (λ k b. value_rules (signed_words k b)) categories_on 256 44651
    (λ k e. omega (arith, (in_range 2 64 k e).1))
    (λ k b more h. ap value_rules (signed_within b more k h))
    (λ k e. categories_decided k (in_range 2 64 k e).1)

-- ---- the first 44,909 bytes decide an image, and so does any greater number of them
more_refused : (image more : List ℕ) → 44909 ≤ length image → image_refusal (image ++ more) ≡ image_refusal image
unfolding image_refusal image_rules
more_refused image more h = values_decided image more _ _ h

enough_refused : (many : ℕ) (image : List ℕ) → 44909 ≤ many → image_refusal (take many image) ≡ image_refusal image
enough_refused many image h = pick (dec_le (length image) many)
  where
    pick : Dec (length image ≤ many) → image_refusal (take many image) ≡ image_refusal image
    pick (yes l) = ap image_refusal (take_all many image l)
    pick (no f) =
        let long = length-take-le many image (omega arith) in
        sym (more_refused (take many image) (drop many image) (omega arith)) ∙ ap image_refusal (take-append-drop many image)

pub first_bytes_refused : (image : List ℕ) → image_refusal (take 44909 image) ≡ image_refusal image
first_bytes_refused image = enough_refused 44909 image (omega arith)

-- and an accepted image is its first 44,909 bytes
pub first_bytes_read : (image : List ℕ) → image_refusal image ≡ 0 → take 44909 image ≡ image
first_bytes_read image e = take_all 44909 image (omega (arith, accepted_short image e))
