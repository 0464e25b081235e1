-- The bytes of a job, section by section: reading them gives the job back, and they break no rule. Assumes nothing.
use mathlib.Core.Path.{◌≡◌, refl, sym, ap, ◌∙◌}
use mathlib.Core.Bool.{false, ◌&&◌, ◌||◌}
use mathlib.Core.List.{List, [], ◌∷◌, ◌++◌, append-nil}
use Prim.Native.Nat.{ℕ, ◌+◌, ◌*◌, ◌≤◌, ◌<◌}
use native.Mathlib.Nat as N
use native.Mathlib.Omega.{arith}
use borrow.Author.Tests.{le-ltb}
use lib.Dec.{eqb, ltb}
use lib.ListN.{length, length-append}
use mir.Syntax.{w32}
use mir.Val.{SFits}
use Rattle.whole.specs.Rules.{first_broken, in_turn, outside}
use Rattle.whole.proofs.Rules.{holds}
use Rattle.whole.specs.Table.{each}
use Rattle.words.specs.Words.{word_at, word_bytes}
use Rattle.judges.specs.Values.{any_value_beyond}
use Rattle.account.specs.Refusals.{sum_rules}
use Rattle.places.specs.Places.{places_in_turn}
use Rattle.image.specs.Joins.{Join, weights_of, joins_of, join_rules}
use Rattle.image.specs.Image.{Job, count, items, after, bytes, join_in, values_in, from_categories, categories_in, from_joins}
use Rattle.image.specs.Image.{joins_in, from_places, places_in, from_bands, bands_in, from_shuffles, shuffles_in, rest, job_of}
use Rattle.image.specs.Image.{value_rules, category_rules, band_rules, shuffle_rules, image_refusal, signed_bytes, join_bytes}
use Rattle.image.specs.Image.{section_bytes, job_bytes}
use Rattle.image.specs.declared.Given.{Given}
use Rattle.image.proofs.Accepted.{part_only, Accepted, let_in}
use Rattle.image.proofs.ItemKinds.{All, none, more, Kind, listed, listed_back}
use Rattle.whole.proofs.Stores.{each_length}
use Rattle.image.proofs.Items.{word_kind, signed_at, signed_kind, join_at, join_kind, bytes_back, count_back, after_back}
use Rattle.image.proofs.JoinOrder.{joins_sound}
use Rattle.image.proofs.JoinTable.{table_back}
use Rattle.image.proofs.Limits.{near_fits, values_fit, places_near}
use Rattle.image.proofs.Parts.{Parted}

-- ---- a section at the front of some bytes
module _ (size k : ℕ) (body following b : List ℕ) (laid : b ≡ section_bytes k body ++ following) (sized : size * k ≡ length body) where
  pub count_is : count b ≡ k
  count_is = ap count laid ∙ count_back k (body ++ following)

  pub items_is : items b ≡ body ++ following
  items_is = ap items laid

  pub after_is : after size b ≡ following
  after_is = ap (after size) laid ∙ after_back size k body following sized

  pub whole_is : 2 + size * count b ≤ length b
  whole_is =
      let c = ap (λ m. size * m) count_is in
      let l : length b ≡ length (section_bytes k body ++ following) = ap length laid in
      omega (arith, length-append body following)

-- the items of a section are those whose bytes it has
module _ {A : Type 0} (item : List ℕ → ℕ → A) (size : ℕ) (of_item : A → List ℕ) (Fit : A → Type 0) (kind : Kind item size of_item Fit) where
  pub listed_is :
      (k : ℕ) (b : List ℕ) (xs : List A) (following : List ℕ) → k ≡ length xs → b ≡ each of_item xs ++ following → All Fit xs →
      listed item size k b ≡ xs
  listed_is k b xs following e f fit =
      ap (λ m. listed item size m b) e ∙ ap (listed item size (length xs)) f ∙ listed_back item size of_item Fit kind xs following fit

bytes_is : (k : ℕ) (b xs following : List ℕ) → k ≡ length xs → b ≡ xs ++ following → bytes k b ≡ xs
bytes_is k b xs following e f = ap (λ m. bytes m b) e ∙ ap (bytes (length xs)) f ∙ bytes_back xs following

any_join : (joins : List Join) → All (λ join. Unit {0}) joins
any_join [] = none
any_join (join ∷ joins) = more tt (any_join joins)

-- ---- a job that the writer takes: its lists have the lengths that the counts say, and no rule is broken
pub record Writable (given : Given) (job : Job) : Type 0 where
  pub zones : outside 2 64 given.values ≡ false
  pub some : 0 < given.values
  pub values_fit : length job.values ≡ given.values
  pub categories_fit : length job.categories ≡ given.categories
  pub weights_fit : length job.weights ≡ given.values * given.values
  pub joins_fit : length (joins_of given.values job.weights) ≤ 4032
  pub places_fit : length job.places ≡ 2 * given.places
  pub bands_fit : length job.bands ≡ given.bands
  pub shuffles_fit : length job.shuffles ≡ given.shuffles * given.values
  pub words_fit : All (λ u. u < 4294967296) job.bands
  pub parts : Parted given job
  pub sums : first_broken (sum_rules given.values job.values job.weights) ≡ 0

module _ (given : Given) (job : Job) (w : Writable given job) where
  abbrev n : ℕ
  n = given.values

  abbrev joins : List Join
  joins = joins_of n job.weights

  abbrev image : List ℕ
  image = job_bytes given job

  -- the bytes of each section's items, and what follows each section
  abbrev of_values : List ℕ
  of_values = each signed_bytes job.values

  abbrev of_joins : List ℕ
  of_joins = each join_bytes joins

  abbrev of_places : List ℕ
  of_places = each signed_bytes job.places

  abbrev of_bands : List ℕ
  of_bands = each word_bytes job.bands

  abbrev after_bands : List ℕ
  after_bands = section_bytes given.shuffles job.shuffles

  abbrev after_places : List ℕ
  after_places = section_bytes given.bands of_bands ++ after_bands

  abbrev after_joins : List ℕ
  after_joins = section_bytes given.places of_places ++ after_places

  abbrev after_categories : List ℕ
  after_categories = section_bytes (length joins) of_joins ++ after_joins

  abbrev after_values : List ℕ
  after_values = section_bytes given.categories job.categories ++ after_categories

  -- every number has its bytes
  values_have : All (λ x. SFits w32 x) job.values
  values_have = values_fit job.values (holds (any_value_beyond job.values) 2 0 w.parts.values).0

  places_have : All (λ x. SFits w32 x) job.places
  places_have = near_fits 30000 job.places (omega arith) (places_near job.places w.parts.places given.places w.places_fit)

  -- the sections have their sizes
  values_size : 4 * n ≡ length of_values
  values_size = sym (each_length signed_bytes 4 (λ x. refl) job.values ∙ ap (λ m. 4 * m) w.values_fit)

  categories_size : 1 * given.categories ≡ length job.categories
  categories_size = let e = w.categories_fit in omega arith

  joins_size : 3 * length joins ≡ length of_joins
  joins_size = sym (each_length join_bytes 3 (λ join. refl) joins)

  places_size : 8 * given.places ≡ length of_places
  places_size =
      let e = each_length signed_bytes 4 (λ x. refl) job.places in
      let f = w.places_fit in
      omega arith

  bands_size : 4 * given.bands ≡ length of_bands
  bands_size = sym (each_length word_bytes 4 (λ u. refl) job.bands ∙ ap (λ m. 4 * m) w.bands_fit)

  shuffles_size : n * given.shuffles ≡ length job.shuffles
  shuffles_size = N.mul_comm n given.shuffles ∙ sym w.shuffles_fit

  -- each section begins where the one before it ends
  values_laid : image ≡ section_bytes n of_values ++ after_values
  unfolding job_bytes
  values_laid = refl

  categories_laid : from_categories image ≡ section_bytes given.categories job.categories ++ after_categories
  categories_laid = after_is 4 n of_values after_values image values_laid values_size

  joins_laid : from_joins image ≡ section_bytes (length joins) of_joins ++ after_joins
  joins_laid = after_is 1 given.categories job.categories after_categories (from_categories image) categories_laid categories_size

  places_laid : from_places image ≡ section_bytes given.places of_places ++ after_places
  places_laid = after_is 3 (length joins) of_joins after_joins (from_joins image) joins_laid joins_size

  bands_laid : from_bands image ≡ section_bytes given.bands of_bands ++ after_bands
  bands_laid = after_is 8 given.places of_places after_places (from_places image) places_laid places_size

  shuffles_laid : from_shuffles image ≡ section_bytes given.shuffles job.shuffles ++ []
  shuffles_laid =
      after_is 4 given.bands of_bands after_bands (from_bands image) bands_laid bands_size ∙ sym (append-nil after_bands)

  -- the counts
  pub values_count : count image ≡ n
  values_count = count_is 4 n of_values after_values image values_laid values_size

  pub categories_count : count (from_categories image) ≡ given.categories
  categories_count =
      count_is 1 given.categories job.categories after_categories (from_categories image) categories_laid categories_size

  pub joins_count : count (from_joins image) ≡ length joins
  joins_count = count_is 3 (length joins) of_joins after_joins (from_joins image) joins_laid joins_size

  pub places_count : count (from_places image) ≡ given.places
  places_count = count_is 8 given.places of_places after_places (from_places image) places_laid places_size

  pub bands_count : count (from_bands image) ≡ given.bands
  bands_count = count_is 4 given.bands of_bands after_bands (from_bands image) bands_laid bands_size

  shuffles_sized : count image * given.shuffles ≡ length job.shuffles
  shuffles_sized = ap (λ m. m * given.shuffles) values_count ∙ shuffles_size

  pub shuffles_count : count (from_shuffles image) ≡ given.shuffles
  shuffles_count = count_is (count image) given.shuffles job.shuffles [] (from_shuffles image) shuffles_laid shuffles_sized

  ended : rest image ≡ []
  ended = after_is (count image) given.shuffles job.shuffles [] (from_shuffles image) shuffles_laid shuffles_sized

  -- the lists
  values_are : values_in image ≡ job.values
  values_are =
      listed_is signed_at 4 signed_bytes (λ x. SFits w32 x) signed_kind (count image) (items image) job.values after_values
      (values_count ∙ sym w.values_fit)
      (items_is 4 n of_values after_values image values_laid values_size)
      values_have

  categories_are : categories_in (from_categories image) ≡ job.categories
  categories_are =
      bytes_is (count (from_categories image)) (items (from_categories image)) job.categories after_categories
      (categories_count ∙ sym w.categories_fit)
      (items_is 1 given.categories job.categories after_categories (from_categories image) categories_laid categories_size)

  joins_are : joins_in (from_joins image) ≡ joins
  joins_are =
      listed_is join_at 3 join_bytes (λ join. Unit {0}) join_kind (count (from_joins image)) (items (from_joins image)) joins after_joins
      joins_count
      (items_is 3 (length joins) of_joins after_joins (from_joins image) joins_laid joins_size)
      (any_join joins)

  weights_are : weights_of (count image) (joins_in (from_joins image)) ≡ job.weights
  weights_are =
      ap (λ m. weights_of m (joins_in (from_joins image))) values_count
      ∙ ap (weights_of n) joins_are
      ∙ table_back n job.weights w.some w.weights_fit

  places_are : places_in (from_places image) ≡ job.places
  places_are =
      listed_is signed_at 4 signed_bytes (λ x. SFits w32 x) signed_kind (2 * count (from_places image)) (items (from_places image))
      job.places
      after_places
      (ap (λ m. 2 * m) places_count ∙ sym w.places_fit)
      (items_is 8 given.places of_places after_places (from_places image) places_laid places_size)
      places_have

  bands_are : bands_in (from_bands image) ≡ job.bands
  bands_are =
      listed_is word_at 4 word_bytes (λ u. u < 4294967296) word_kind (count (from_bands image)) (items (from_bands image)) job.bands
      after_bands
      (bands_count ∙ sym w.bands_fit)
      (items_is 4 given.bands of_bands after_bands (from_bands image) bands_laid bands_size)
      w.words_fit

  shuffles_are : shuffles_in (count image) (from_shuffles image) ≡ job.shuffles
  shuffles_are =
      bytes_is (count (from_shuffles image) * count image) (items (from_shuffles image)) job.shuffles []
      (ap (λ m. m * count image) shuffles_count ∙ ap (λ m. given.shuffles * m) values_count ∙ sym w.shuffles_fit)
      (items_is (count image) given.shuffles job.shuffles [] (from_shuffles image) shuffles_laid shuffles_sized)

  pub job_is : job_of image ≡ job
  unfolding job_of
  job_is = rw (values_are, categories_are, weights_are, places_are, bands_are, shuffles_are)

  -- no rule is broken
  joins_right : first_broken (in_turn (join_rules (count image) (join_in (items (from_joins image)))) (count (from_joins image))) ≡ 0
  joins_right =
      ap (λ m. first_broken (in_turn (join_rules m (join_in (items (from_joins image)))) (count (from_joins image)))) values_count
      ∙ joins_sound n job.weights w.some w.weights_fit w.parts.weights
      (join_in (items (from_joins image)))
      (count (from_joins image))
      joins_are

  pub bytes_accepted : Accepted image
  unfolding job_of
  bytes_accepted = record {
    values = record {
      whole = whole_is 4 n of_values after_values image values_laid values_size;
      counted = ap (outside 2 64) values_count ∙ w.zones;
      listed = ap (λ l. first_broken (value_rules l)) values_are ∙ w.parts.values;
    };
    categories = record {
      whole = whole_is 1 given.categories job.categories after_categories (from_categories image) categories_laid categories_size;
      counted = ap (λ m. part_only m (count (from_categories image))) values_count ∙ ap (part_only n) categories_count ∙
          w.parts.categories_count;
      listed = ap (λ l. first_broken (category_rules l)) categories_are ∙ w.parts.categories;
    };
    joins = record {
      whole = whole_is 3 (length joins) of_joins after_joins (from_joins image) joins_laid joins_size;
      counted = ap (ltb 4032) joins_count ∙ le-ltb 4032 (length joins) w.joins_fit;
      listed = joins_right;
    };
    places = record {
      whole = whole_is 8 given.places of_places after_places (from_places image) places_laid places_size;
      counted = ap (λ m. part_only m (count (from_places image))) values_count ∙ ap (part_only n) places_count ∙ w.parts.places_count;
      listed = ap (λ l. first_broken (places_in_turn l)) places_are ∙ w.parts.places;
    };
    bands = record {
      whole = whole_is 4 given.bands of_bands after_bands (from_bands image) bands_laid bands_size;
      counted =
          ap (λ m. ltb 8 m || (ltb 0 m && eqb (count (from_places image)) 0)) bands_count
          ∙ ap (λ m. ltb 8 given.bands || (ltb 0 given.bands && eqb m 0)) places_count
          ∙ w.parts.bands_count;
      listed = ap (λ l. first_broken (band_rules l)) bands_are ∙ w.parts.bands;
    };
    shuffles = record {
      whole = whole_is (count image) given.shuffles job.shuffles [] (from_shuffles image) shuffles_laid shuffles_sized;
      counted = ap (ltb 499) shuffles_count ∙ w.parts.shuffles_count;
      listed =
          ap (λ l. first_broken (shuffle_rules (count image) l)) shuffles_are
          ∙ ap (λ m. first_broken (shuffle_rules m job.shuffles)) values_count
          ∙ w.parts.shuffles;
    };
    ended = ap length ended;
    sums =
        ap (λ l. first_broken (sum_rules (count image) l (weights_of (count image) (joins_in (from_joins image))))) values_are
        ∙ ap (λ l. first_broken (sum_rules (count image) job.values l)) weights_are
        ∙ ap (λ m. first_broken (sum_rules m job.values job.weights)) values_count
        ∙ w.sums;
  }

  pub image_taken : image_refusal image ≡ 0
  image_taken = let_in image bytes_accepted
