-- The six sections of an image one after the other, and the length of all. Assumes nothing.
use mathlib.Core.Path.{◌≡◌, refl, sym, ap, ◌∙◌}
use mathlib.Core.List.{List, [], ◌∷◌, ◌++◌}
use Prim.Native.Nat.{ℕ, ◌+◌, ◌*◌}
use native.Mathlib.Omega.{arith}
use lib.ListN.{length, take, length-append}
use Rattle.whole.specs.Table.{each}
use Rattle.words.specs.Words.{word_bytes}
use Rattle.image.specs.Joins.{Join, joins_of}
use Rattle.image.specs.Image.{signed_bytes, join_bytes, section_bytes, job_bytes}
use Rattle.image.specs.Reader.{Buffers}
use Rattle.image.specs.Writer.{lent_job}
use Rattle.image.specs.declared.Given.{Given}
use Rattle.writer.specs.Steps.{Storable, one_byte, length_with}
use Rattle.whole.proofs.Stores.{each_length}
use Rattle.writer.proofs.Parts.{regroup}

-- bytes are the bytes of each
each_byte : (bytes : List ℕ) → each one_byte bytes ≡ bytes
unfolding each
each_byte [] = refl
each_byte (x ∷ bytes) = ap (λ l. x ∷ l) (each_byte bytes)

module _ (given : Given) (lent : Buffers) (k : ℕ) where
  abbrev n : ℕ
  n = given.values

  abbrev joins : List Join
  joins = joins_of n (take (n * n) lent.weights)

  -- the sections, of which that of the joins counts k
  abbrev pub values_section : List ℕ
  values_section = section_bytes n (each signed_bytes (take n lent.values))

  abbrev pub categories_section : List ℕ
  categories_section = section_bytes given.categories (each one_byte (take given.categories lent.categories))

  abbrev pub joins_section : List ℕ
  joins_section = section_bytes k (each join_bytes joins)

  abbrev pub places_section : List ℕ
  places_section = section_bytes given.places (each signed_bytes (take (2 * given.places) lent.places))

  abbrev pub bands_section : List ℕ
  bands_section = section_bytes given.bands (each word_bytes (take given.bands lent.bands))

  abbrev pub shuffles_section : List ℕ
  shuffles_section = section_bytes given.shuffles (each one_byte (take (given.shuffles * n) lent.shuffles))

  -- those before each
  abbrev pub to_joins : List ℕ
  to_joins = values_section ++ categories_section

  abbrev pub to_places : List ℕ
  to_places = to_joins ++ joins_section

  abbrev pub to_bands : List ℕ
  to_bands = to_places ++ places_section

  abbrev pub to_shuffles : List ℕ
  to_shuffles = to_bands ++ bands_section

  abbrev pub sections : List ℕ
  sections = to_shuffles ++ shuffles_section

  -- they grow by their lengths
  pub record Grown : Type 0 where
    pub joins : length to_joins ≡ length values_section + length categories_section
    pub places : length to_places ≡ length to_joins + length joins_section
    pub bands : length to_bands ≡ length to_places + length places_section
    pub shuffles : length to_shuffles ≡ length to_bands + length bands_section
    pub all : length sections ≡ length to_shuffles + length shuffles_section

  pub grown : Grown
  grown = record {
    joins = length-append values_section categories_section;
    places = length-append to_joins joins_section;
    bands = length-append to_places places_section;
    shuffles = length-append to_bands bands_section;
    all = length-append to_shuffles shuffles_section;
  }

  -- with a count of joins, categories and shuffles in place of its own
  abbrev framed : ℕ → List ℕ → List ℕ → List ℕ
  framed m categories shuffles =
      values_section
      ++ (section_bytes given.categories categories
      ++ (section_bytes m (each join_bytes joins) ++ (places_section ++ (bands_section ++ section_bytes given.shuffles shuffles))))

  -- they are the bytes of the job
  pub all_sections : k ≡ length joins → job_bytes given (lent_job given lent) ≡ sections
  unfolding job_bytes lent_job
  all_sections counted =
      let categories = take given.categories lent.categories in
      let shuffles = take (given.shuffles * n) lent.shuffles in
      ap (λ m. framed m categories shuffles) (sym counted)
      ∙ ap (λ c. framed k c shuffles) (sym (each_byte categories))
      ∙ ap (framed k (each one_byte categories)) (sym (each_byte shuffles))
      ∙ regroup values_section categories_section joins_section places_section bands_section shuffles_section

  pub all_length : Storable given lent k → length (job_bytes given (lent_job given lent)) ≡ length_with given k
  all_length w =
      let v = each_length signed_bytes 4 (λ x. refl) (take n lent.values) ∙ ap (λ m. 4 * m) w.values in
      let c = each_length one_byte 1 (λ x. refl) (take given.categories lent.categories) in
      let j = each_length join_bytes 3 (λ x. refl) joins ∙ ap (λ m. 3 * m) (sym w.joins) in
      let p = each_length signed_bytes 4 (λ x. refl) (take (2 * given.places) lent.places) ∙ ap (λ m. 4 * m) w.places in
      let b = each_length word_bytes 4 (λ x. refl) (take given.bands lent.bands) ∙ ap (λ m. 4 * m) w.bands in
      let s = each_length one_byte 1 (λ x. refl) (take (given.shuffles * n) lent.shuffles) in
      let g = grown in
      omega (arith, ap length (all_sections w.joins), w.categories, w.shuffles)
