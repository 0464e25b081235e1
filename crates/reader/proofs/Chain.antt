-- From section to section: what is left of an image's rules, and what six sections that break none hold. Assumes nothing.
use mathlib.Core.Path.{◌≡◌, refl, sym, ap, ◌∙◌}
use mathlib.Core.Bool.{true, false}
use mathlib.Core.List.{List, ◌++◌}
use Prim.Native.Nat.{ℕ, ◌*◌, ◌≤◌, ◌<◌}
use native.Mathlib.Omega.{arith}
use borrow.Author.Tests.{lt-ltb, le-ltb}
use lib.Dec.{ltb}
use lib.ListN.{length, take, length-drop}
use lib.Seq.{length-take-le}
use Rattle.whole.specs.Rules.{Rule, first_broken, in_turn, outside}
use Rattle.whole.specs.Table.{table}
use Rattle.whole.proofs.InTurn.{Numbered, second_decides, first_decides}
use Rattle.whole.proofs.Rules.{holds, in_range}
use Rattle.judges.specs.Values.{any_value_beyond}
use Rattle.account.specs.Refusals.{sum_rules}
use Rattle.image.specs.Joins.{weights_of, join_rules}
use Rattle.image.specs.Image.{
  count,
  items,
  signed_words,
  words,
  bytes,
  values_in,
  from_categories,
  categories_in,
  from_joins,
  join_in,
  joins_in,
  from_places,
  places_in,
  from_bands,
  bands_in,
  from_shuffles,
  shuffles_in,
  job_of,
  image_rules,
  image_refusal,
  rest,
  value_rules,
  in_values,
  in_joins,
  at_the_end,
}
use Rattle.refusals.specs.declared.Refusal.{Refusal}
use Rattle.refusals.specs.Refusals.{number_by}
use Rattle.refusals.proofs.Refusals.{not_refused}
use Rattle.image.specs.Reader.{counts_in}
use Rattle.image.proofs.Accepted.{accepted, counted}
use Rattle.image.proofs.Items.{bytes_front}
use Rattle.image.proofs.Sections as sections
use Rattle.image.proofs.Sections.{Sound}
use Rattle.reader.specs.Steps.{Held, Joins, Summable, LaidOut, join_at, job_in, sizes}
use Rattle.reader.specs.declared.judging.Sections.{Sections}
use Rattle.reader.specs.declared.sections.Section.{Section}
use Rattle.reader.proofs.Items.{words_front, signed_words_front}
use Rattle.reader.proofs.Triples.{joins_judged, joins_listed}

module _ (image : List ℕ) where
  -- the image is judged by what is left of its rules
  pub record Left (rules : List Rule) : Type 0 where
    pub same : first_broken (image_rules image) ≡ first_broken rules

  -- by a section as the code has it, then by more
  module _
      (section : ℕ → List ℕ → List Rule) (m : ℕ) (at : List ℕ) (more : List Rule) (left : Left (section m at ++ more))
      {n : ℕ} {b : List ℕ} (same : n ≡ m) (begins : b ≡ at) where
    pub stopped : (e : Refusal) → number_by e ≡ first_broken (section n b) → number_by e ≡ first_broken (image_rules image)
    stopped e f =
        let g : number_by e ≡ first_broken (section m at) = f ∙ rw (same, begins) refl in
        g ∙ sym (first_decides more (section m at) (λ z. not_refused e (g ∙ z))) ∙ sym left.same

    pub passed : Numbered (section m at) → 0 ≡ first_broken (section n b) → Left more
    passed numbered e = record { same = left.same ∙ second_decides more (section m at) numbered (rw (sym same, sym begins) (sym e)) }

-- ---- the items of a section, so many bytes
module _ {size : ℕ} {b : List ℕ} {s : Section} (h : Held size b s) where
  room : size * count b ≤ length (items b)
  room = omega (arith, h.whole, length-drop 2 b)

  held_length : length s.items.now ≡ size * s.count
  held_length = ap length h.held ∙ length-take-le (size * count b) (items b) room ∙ ap (λ k. size * k) (sym h.counted)

  held_bytes : (k : ℕ) → k ≡ size * count b → s.items.now ≡ bytes k (items b)
  held_bytes k e = h.held ∙ ap (λ m. take m (items b)) (sym e) ∙ sym (bytes_front k (items b) (omega (arith, room)))

  held_words : (k : ℕ) → 4 * k ≤ size * count b → words k s.items.now ≡ words k (items b)
  held_words k p = ap (words k) h.held ∙ words_front k (size * count b) (items b) p

  held_signed : (k : ℕ) → 4 * k ≤ size * count b → signed_words k s.items.now ≡ signed_words k (items b)
  held_signed k p = ap (signed_words k) h.held ∙ signed_words_front k (size * count b) (items b) p

-- ---- six sections of an image that is not refused
module _
    (image : List ℕ) (s : Sections) (values : Held 4 image s.values) (categories : Held 1 (from_categories image) s.categories)
    (joins : Joins (from_joins image) s.joins.now) (places : Held 8 (from_places image) s.places)
    (bands : Held 4 (from_bands image) s.bands) (shuffles : Held (count image) (from_shuffles image) s.shuffles) where
  counts_same : sizes s ≡ counts_in image
  unfolding counts_in
  counts_same = rw (values.counted, categories.counted, joins.counted, places.counted, bands.counted, shuffles.counted) refl

  job_same : job_in s ≡ job_of image
  unfolding job_of
  job_same =
      let n = values.counted in
      let v : signed_words s.values.count s.values.items.now ≡ values_in image =
      rw n (held_signed values (count image) (omega arith)) in
      let k : s.categories.items.now ≡ categories_in (from_categories image) = held_bytes categories (count (from_categories image)) (omega arith) in
      let w :
      weights_of s.values.count (table (join_at s.joins.now) (length s.joins.now)) ≡ weights_of (count image) (joins_in (from_joins image)) =
      rw (n, joins_listed (from_joins image) s.joins.now joins) refl in
      let p : signed_words (2 * s.places.count) s.places.items.now ≡ places_in (from_places image) =
      rw places.counted (held_signed places (2 * count (from_places image)) (omega arith)) in
      let b : words s.bands.count s.bands.items.now ≡ bands_in (from_bands image) =
      rw bands.counted (held_words bands (count (from_bands image)) (omega arith)) in
      let f : s.shuffles.items.now ≡ shuffles_in (count image) (from_shuffles image) =
      held_bytes shuffles (count (from_shuffles image) * count image) (omega arith) in
      rw (v, k, w, p, b, f) refl

  pub laid : 0 ≡ first_broken (image_rules image) → LaidOut image s
  unfolding image_refusal
  laid z =
      let a = accepted image (sym z) in
      let few = counted image a in record {
        counts = counts_same;
        job = job_same;
        fitting =
            record {
              categories = held_length categories ∙ omega arith;
              few_categories = omega (arith, categories.counted, few.categories, few.zones);
              joins =
                  record {
                    zones = omega (arith, values.counted, few.zones);
                    sound = ap first_broken (joins_judged (from_joins image) s.joins.now joins s.values.count) ∙ rw values.counted a.joins.listed;
                  };
              places = omega (arith, places.counted, few.places, few.zones);
              bands = omega (arith, bands.counted, few.bands);
              shuffles = held_length shuffles ∙ ap (λ n. n * s.shuffles.count) (sym values.counted);
              few_shuffles = omega (arith, shuffles.counted, few.shuffles);
            };
      }

-- ---- the values and the joins that were taken, and the end
module _ (image : List ℕ) (v : Section) (joins : List (List ℕ)) (values : Held 4 image v) where
  module _ (sound : 0 ≡ first_broken (in_values image)) where
    valued : Sound 4 (outside 2 64 (count image)) (value_rules (values_in image)) image
    unfolding in_values
    valued = sections.sound 4 _ 0 _ image (sym sound)

    pub zones : (2 ≤ v.count) × (v.count ≤ 64)
    zones = let range = in_range 2 64 (count image) valued.counted in (omega (arith, values.counted), omega (arith, values.counted))

    module _ (seen : Joins (from_joins image) joins) where
      -- they are the job's
      of_values : signed_words v.count v.items.now ≡ values_in image
      of_values = rw values.counted (held_signed values (count image) (omega arith))

      of_joins : weights_of v.count (table (join_at joins) (length joins)) ≡ weights_of (count image) (joins_in (from_joins image))
      of_joins = rw (values.counted, joins_listed (from_joins image) joins seen) refl

      -- they can be summed
      pub summable : 0 ≡ first_broken (in_joins v.count (from_joins image)) → Summable v.count v.items.now joins
      unfolding in_joins
      summable e =
          let listed :
          Sound 3 (ltb 4032 (count (from_joins image)))
          (in_turn (join_rules v.count (join_in (items (from_joins image)))) (count (from_joins image)))
          (from_joins image) =
          sections.sound 3 _ 14 _ (from_joins image) (sym e) in
          record {
            two = zones.0;
            near = ap any_value_beyond of_values ∙ (holds (any_value_beyond (values_in image)) 2 0 valued.listed).0;
            joins =
                record {
                  zones = zones.1;
                  sound = ap first_broken (joins_judged (from_joins image) joins seen v.count) ∙ listed.listed;
                };
          }

      module _ (left : Left image (at_the_end image)) (more : List ℕ) (begins : more ≡ rest image) where
        pub trailing : 0 < length more → 17 ≡ first_broken (image_rules image)
        trailing h =
            let long : ltb 0 (length (rest image)) ≡ true = lt-ltb 0 (length (rest image)) (omega (arith, ap length begins)) in
            sym (left.same ∙ rw long refl)

        -- the sums decide
        pub by_sums :
            length more ≡ 0 →
            first_broken (sum_rules v.count (signed_words v.count v.items.now) (weights_of v.count (table (join_at joins) (length joins))))
            ≡ first_broken (image_rules image)
        unfolding job_of
        by_sums e =
            let ended : ltb 0 (length (rest image)) ≡ false = le-ltb 0 (length (rest image)) (omega (arith, ap length begins)) in
            rw (of_values, of_joins, values.counted) (sym (left.same ∙ rw ended refl))
