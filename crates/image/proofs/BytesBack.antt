-- An accepted image is the bytes of the job that it is, and that job can be written. Assumes nothing.
use mathlib.Core.Path.{◌≡◌, refl, sym, ap, ◌∙◌}
use mathlib.Core.Bool.{Bool, true, false, ◌&&◌}
use mathlib.Core.List.{List, [], ◌∷◌, ◌++◌, append-nil}
use Prim.Native.Nat.{ℕ, ◌+◌, ◌*◌, ◌/◌, ◌%◌, ◌≤◌, ◌<◌}
use native.Mathlib.Nat as N
use native.Mathlib.Omega.{arith}
use borrow.Author.Tests.{le-ltb, eqb-true}
use lib.Dec.{eqb, ltb}
use lib.ListN.{length, get_or, take, length-drop}
use mir.Syntax.{w32}
use mir.Val.{SFits}
use Rattle.whole.specs.Rules.{first_broken, in_turn}
use Rattle.whole.specs.Search.{any_above, any_on_diagonal}
use Rattle.whole.specs.Table.{pair_at, each}
use Rattle.whole.proofs.InTurn.{each_turn}
use Rattle.whole.proofs.Rules.{second_fails}
use Rattle.whole.proofs.Search.{some_none, none_above}
use Rattle.whole.proofs.Table.{table_length}
use Rattle.whole.proofs.TableRows.{split}
use Rattle.words.specs.Words.{word_at, word_bytes}
use Rattle.image.specs.Joins.{Join, weights_of, joins_of, weight_rules}
use Rattle.image.specs.Image.{Job, count, items, join_in, values_in, from_categories, categories_in, from_joins, joins_in}
use Rattle.image.specs.Image.{from_places, places_in, from_bands, bands_in, from_shuffles, shuffles_in, rest, job_of, signed_bytes}
use Rattle.image.specs.Image.{join_bytes, section_bytes, job_bytes}
use Rattle.image.specs.RoundTrip.{given_in}
use Rattle.image.proofs.Accepted.{Accepted}
use Rattle.image.proofs.Called.{Within}
use Rattle.image.proofs.ItemKinds.{Bytes, drop_bytes, listed_same}
use Rattle.image.proofs.Items.{word_kind, signed_at, signed_kind, join_at, join_kind, bytes_front, section_same}
use Rattle.image.proofs.JoinOrder.{fair_rises}
use Rattle.image.proofs.JoinTable.{joins_back}
use Rattle.image.proofs.JoinWeight.{weights_length}
use Rattle.image.proofs.Parts.{Parted}
use Rattle.image.proofs.Weights.{joins_light, joins_clear, weight_numbered}

-- ---- a table without a weight above 9 and without one on the diagonal breaks no rule, weight by weight
pub weights_sound :
    (n : ℕ) (weights : List ℕ) → length weights ≡ n * n → any_above 9 weights ≡ false → any_on_diagonal n weights ≡ false →
    first_broken (in_turn (weight_rules n weights) (n * n)) ≡ 0
unfolding weight_rules any_on_diagonal pair_at
weights_sound n weights there light clear =
    each_turn (weight_rules n weights) (weight_numbered n weights) (n * n)
    (λ p h. rw (off p h, le-ltb 9 (get_or weights p 0) (none_above 9 weights light p (omega arith))))
  where
    none_at : (i : ℕ) → i < n → ltb 0 (get_or weights (i * n + i) 0) ≡ false
    none_at i l = some_none (λ i. ltb 0 (get_or weights (i * n + i) 0)) n i clear l

    off : (p : ℕ) → p < n * n → (ltb 0 (get_or weights p 0) && eqb (p / n) (p % n)) ≡ false
    off p h = go (eqb (p / n) (p % n)) refl
      where
        go : (b : Bool) → eqb (p / n) (p % n) ≡ b → (ltb 0 (get_or weights p 0) && b) ≡ false
        go false e = second_fails (ltb 0 (get_or weights p 0)) false refl
        go true e =
            let s = split n n p h in
            let here : p / n * n + p / n ≡ p = ap (λ q. p / n * n + q) (eqb-true (p / n) (p % n) e) ∙ s.whole in
            ap (λ b. b && true) (ap (λ q. ltb 0 (get_or weights q 0)) (sym here) ∙ none_at (p / n) s.row)

word_small : (b : List ℕ) → Bytes b → (p : ℕ) → word_at b p < 4294967296
unfolding word_at
word_small b h p = omega (arith, h p, h (p + 1), h (p + 2), h (p + 3))

module _ (image : List ℕ) (a : Accepted image) where
  abbrev n : ℕ
  n = count image

  abbrev job : Job
  job = job_of image

  -- the joins of the job's weights are those that the image lists
  joins_same : joins_of n (weights_of n (joins_in (from_joins image))) ≡ joins_in (from_joins image)
  joins_same =
      let b = from_joins image in
      joins_back n (joins_in b) (fair_rises n (join_in (items b)) (count b) (count b) (omega arith) a.joins.listed)

  joins_length : length (joins_in (from_joins image)) ≡ count (from_joins image)
  joins_length = table_length (join_in (items (from_joins image))) (count (from_joins image))

  pub within_counts : Within (given_in image) job
  unfolding given_in job_of
  within_counts = record {
    values = table_length _ (count image);
    categories = table_length _ (count (from_categories image));
    weights = weights_length n (joins_in (from_joins image));
    places = table_length _ (2 * count (from_places image));
    bands = table_length _ (count (from_bands image));
    shuffles = table_length _ (count (from_shuffles image) * count image);
  }

  pub image_parts : Parted (given_in image) job
  unfolding given_in job_of
  image_parts =
      let b = from_joins image in
      let joins = join_in (items b) in record {
        values = a.values.listed;
        categories_count = a.categories.counted;
        categories = a.categories.listed;
        weights =
            weights_sound n (weights_of n (joins_in b)) (weights_length n (joins_in b))
            (joins_light n joins (count b) a.joins.listed)
            (joins_clear n joins (count b) a.joins.listed);
        places_count = a.places.counted;
        places = a.places.listed;
        bands_count = a.bands.counted;
        bands = a.bands.listed;
        shuffles_count = a.shuffles.counted;
        shuffles = a.shuffles.listed;
      }

  -- ---- the same bytes
  module _ (h : Bytes image) where
    from_2 : Bytes (from_categories image)
    from_2 = drop_bytes (2 + 4 * count image) image h

    from_3 : Bytes (from_joins image)
    from_3 = drop_bytes (2 + 1 * count (from_categories image)) (from_categories image) from_2

    from_4 : Bytes (from_places image)
    from_4 = drop_bytes (2 + 3 * count (from_joins image)) (from_joins image) from_3

    from_5 : Bytes (from_bands image)
    from_5 = drop_bytes (2 + 8 * count (from_places image)) (from_places image) from_4

    from_6 : Bytes (from_shuffles image)
    from_6 = drop_bytes (2 + 4 * count (from_bands image)) (from_bands image) from_5

    -- so many bytes of items are there
    enough : (size : ℕ) (b : List ℕ) → 2 + size * count b ≤ length b → size * count b ≤ length (items b)
    enough size b l = omega (arith, length-drop 2 b)

    abbrev of_values : List ℕ
    of_values = section_bytes (count image) (each signed_bytes (values_in image))

    values_back : of_values ++ from_categories image ≡ image
    values_back =
        section_same 4 image (each signed_bytes (values_in image)) h a.values.whole
        (listed_same signed_at 4 signed_bytes (λ x. SFits w32 x) signed_kind (count image) (items image) (drop_bytes 2 image h)
        (enough 4 image a.values.whole))

    abbrev of_categories : List ℕ
    of_categories = section_bytes (count (from_categories image)) (categories_in (from_categories image))

    categories_back : of_categories ++ from_joins image ≡ from_categories image
    categories_back =
        let b = from_categories image in
        let l = enough 1 b a.categories.whole in
        let one : 1 * count b ≡ count b = omega arith in
        section_same 1 b (categories_in b) from_2 a.categories.whole
        (bytes_front (count b) (items b) (omega arith) ∙ ap (λ m. take m (items b)) (sym one))

    abbrev of_joins : List ℕ
    of_joins = section_bytes (count (from_joins image)) (each join_bytes (joins_in (from_joins image)))

    joins_bytes_back : of_joins ++ from_places image ≡ from_joins image
    joins_bytes_back =
        let b = from_joins image in
        section_same 3 b (each join_bytes (joins_in b)) from_3 a.joins.whole
        (listed_same join_at 3 join_bytes (λ join. Unit {0}) join_kind (count b) (items b) (drop_bytes 2 b from_3)
        (enough 3 b a.joins.whole))

    abbrev of_places : List ℕ
    of_places = section_bytes (count (from_places image)) (each signed_bytes (places_in (from_places image)))

    places_back : of_places ++ from_bands image ≡ from_places image
    places_back =
        let b = from_places image in
        let l = enough 8 b a.places.whole in
        let twice : 4 * (2 * count b) ≡ 8 * count b = omega arith in
        section_same 8 b (each signed_bytes (places_in b)) from_4 a.places.whole
        (listed_same signed_at 4 signed_bytes (λ x. SFits w32 x) signed_kind (2 * count b) (items b) (drop_bytes 2 b from_4) (omega arith)
        ∙ ap (λ m. take m (items b)) twice)

    abbrev of_bands : List ℕ
    of_bands = section_bytes (count (from_bands image)) (each word_bytes (bands_in (from_bands image)))

    bands_back : of_bands ++ from_shuffles image ≡ from_bands image
    bands_back =
        let b = from_bands image in
        section_same 4 b (each word_bytes (bands_in b)) from_5 a.bands.whole
        (listed_same word_at 4 word_bytes (λ u. u < 4294967296) word_kind (count b) (items b) (drop_bytes 2 b from_5)
        (enough 4 b a.bands.whole))

    abbrev of_shuffles : List ℕ
    of_shuffles = section_bytes (count (from_shuffles image)) (shuffles_in n (from_shuffles image))

    none_left : (b : List ℕ) → length b ≡ 0 → b ≡ []
    none_left [] e = refl
    none_left (x ∷ b) e = let z : ⊥ = omega arith in absurd z

    shuffles_back : of_shuffles ≡ from_shuffles image
    shuffles_back =
        let b = from_shuffles image in
        let l = enough n b a.shuffles.whole in
        let turned : count b * n ≡ n * count b = N.mul_comm (count b) n in
        sym (append-nil of_shuffles)
        ∙ ap (λ t. of_shuffles ++ t) (sym (none_left (rest image) a.ended))
        ∙ section_same n b (shuffles_in n b) from_6 a.shuffles.whole
        (bytes_front (count b * n) (items b) (omega arith) ∙ ap (λ m. take m (items b)) turned)

    pub bytes_same : job_bytes (given_in image) job ≡ image
    unfolding job_bytes given_in job_of
    bytes_same =
        let of_these : List Join → List ℕ = λ joins. section_bytes (length joins) (each join_bytes joins) in
        let joins : of_these (joins_of n (weights_of n (joins_in (from_joins image)))) ≡ of_joins =
        ap of_these joins_same ∙ ap (λ m. section_bytes m (each join_bytes (joins_in (from_joins image)))) joins_length in
        ap (λ t. of_values ++ (of_categories ++ (t ++ (of_places ++ (of_bands ++ of_shuffles))))) joins
        ∙ ap (λ t. of_values ++ (of_categories ++ (of_joins ++ (of_places ++ (of_bands ++ t))))) shuffles_back
        ∙ ap (λ t. of_values ++ (of_categories ++ (of_joins ++ (of_places ++ t)))) bands_back
        ∙ ap (λ t. of_values ++ (of_categories ++ (of_joins ++ t))) places_back
        ∙ ap (λ t. of_values ++ (of_categories ++ t)) joins_bytes_back
        ∙ ap (λ t. of_values ++ t) categories_back
        ∙ values_back
