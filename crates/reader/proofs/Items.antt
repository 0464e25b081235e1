-- The items of a section are judged alike as they were cut off and as all that follows its count has them. Assumes nothing.
use mathlib.Core.Path.{◌≡◌, refl, sym, ap, ◌∙◌}
use mathlib.Core.List.{List}
use Prim.Native.Nat.{ℕ, ◌+◌, ◌*◌, ◌≤◌}
use native.Mathlib.Omega.{arith}
use lib.IntN.{pos}
use lib.ListN.{length, take}
use lib.Seq.{get_or-take}
use mir.Syntax.{w32}
use mir.Val.{to_z}
use Rattle.whole.specs.Rules.{first_broken}
use Rattle.whole.specs.Search.{any_above}
use Rattle.whole.proofs.Table.{table_cong, table_length}
use Rattle.words.specs.Words.{word_at}
use Rattle.judges.specs.Values.{any_value_beyond}
use Rattle.shuffles.specs.Shuffles.{shuffle_refusal}
use Rattle.places.specs.Places.{places_in_turn}
use Rattle.places.specs.Bands.{any_misplaced}
use Rattle.image.specs.Image.{count, items, signed_words, words, values_in, categories_in, places_in, bands_in, shuffles_in, shuffle_rules}
use Rattle.image.proofs.Items.{bytes_front}
use Rattle.image.proofs.Weights.{shuffles_decide}

-- ---- the first of some bytes

word_front : (m : ℕ) (l : List ℕ) (p : ℕ) → p + 4 ≤ m → word_at (take m l) p ≡ word_at l p
unfolding word_at
word_front m l p h =
    rw (
      get_or-take m l p 0 (omega arith),
      get_or-take m l (p + 1) 0 (omega arith),
      get_or-take m l (p + 2) 0 (omega arith),
      get_or-take m l (p + 3) 0 (omega arith),
    ) refl

pub words_front : (k m : ℕ) (l : List ℕ) → 4 * k ≤ m → words k (take m l) ≡ words k l
words_front k m l h = table_cong _ _ k 0 (λ i p. word_front m l (4 * i) (omega arith))

pub signed_words_front : (k m : ℕ) (l : List ℕ) → 4 * k ≤ m → signed_words k (take m l) ≡ signed_words k l
signed_words_front k m l h = table_cong _ _ k (pos 0) (λ i p. ap (to_z w32) (word_front m l (4 * i) (omega arith)))

-- ---- what a section's judge asks of its items
module _ (b : List ℕ) where
  pub values_held : any_value_beyond (signed_words (count b) (take (4 * count b) (items b))) ≡ any_value_beyond (values_in b)
  values_held = ap any_value_beyond (signed_words_front (count b) (4 * count b) (items b) (omega arith))

  pub categories_held : 1 * count b ≤ length (items b) → any_above 7 (take (1 * count b) (items b)) ≡ any_above 7 (categories_in b)
  categories_held h =
      let k : 1 * count b ≡ count b = omega arith in
      ap (any_above 7) (ap (λ m. take m (items b)) k ∙ sym (bytes_front (count b) (items b) (omega arith)))

  pub places_held :
      first_broken (places_in_turn (signed_words (2 * count b) (take (8 * count b) (items b)))) ≡ first_broken (places_in_turn (places_in b))
  places_held =
      ap (λ l. first_broken (places_in_turn l)) (signed_words_front (2 * count b) (8 * count b) (items b) (omega arith))

  pub bands_held : any_misplaced (words (count b) (take (4 * count b) (items b))) ≡ any_misplaced (bands_in b)
  bands_held = ap any_misplaced (words_front (count b) (4 * count b) (items b) (omega arith))

  pub shuffles_held :
      (n : ℕ) → 2 ≤ n → n ≤ 64 → count b ≤ 499 → n * count b ≤ length (items b) →
      shuffle_refusal n (take (n * count b) (items b)) ≡ first_broken (shuffle_rules n (shuffles_in n b))
  shuffles_held n two zones few whole =
      let turned : n * count b ≡ count b * n = omega arith in
      ap (shuffle_refusal n) (ap (λ m. take m (items b)) turned ∙ sym (bytes_front (count b * n) (items b) (omega arith)))
      ∙ shuffles_decide n (count b) (shuffles_in n b) two zones few (table_length _ (count b * n))
