-- The job image: which job a string of bytes is, or by which number it is refused, and which bytes a job is. Little-endian, six sections
-- in fixed order, each after its 2-byte unsigned count. In the reader's part b is the bytes from a section on. Assumes nothing.
use Rattle.std.specs.Prelude.{not, ◌&&◌, ◌||◌, List, [], ◌∷◌, ◌++◌, ℕ, ◌+◌, ◌*◌, eqb, ltb, ℤ, length, drop}
use Rattle.std.specs.Int.{w32}
use Rattle.std.proofs.Common.{to_z, of_z}
use Rattle.whole.specs.Rules.{Rule, first_broken, in_turn, outside}
use Rattle.whole.specs.Search.{any_above}
use Rattle.whole.specs.Table.{table, each}
use Rattle.words.specs.Words.{byte_at, two_at, word_at, two_bytes, word_bytes}
use Rattle.judges.specs.Values.{any_value_beyond}
use Rattle.shuffles.specs.Shuffles.{any_lacking}
use Rattle.account.specs.Refusals.{sum_rules}
use Rattle.places.specs.Places.{places_in_turn}
use Rattle.places.specs.Bands.{any_misplaced}
use Rattle.image.specs.Joins.{Join, weights_of, joins_of, join_rules}
use Rattle.image.specs.declared.Given.{Given}

-- a job, in the lists that the other calls take
pub record Job : Type 0 where
  pub values : List ℤ
  pub categories : List ℕ
  pub weights : List ℕ
  pub places : List ℤ
  pub bands : List ℕ
  pub shuffles : List ℕ

-- ---- a section: its count, then its items

-- the count
abbrev pub count : List ℕ → ℕ
count b = two_at b 0

-- the bytes of its items, and what follows them
abbrev pub items : List ℕ → List ℕ
items b = drop 2 b

-- the bytes after a section whose items have that size
abbrev pub after : ℕ → List ℕ → List ℕ
after size b = drop (2 + size * count b) b

-- the first k numbers of some bytes: 4-byte signed, 4-byte unsigned, a byte each
abbrev pub signed_words : ℕ → List ℕ → List ℤ
signed_words k b = table (λ i. to_z w32 (word_at b (4 * i))) k

abbrev pub words : ℕ → List ℕ → List ℕ
words k b = table (λ i. word_at b (4 * i)) k

abbrev pub bytes : ℕ → List ℕ → List ℕ
bytes k b = table (λ i. byte_at b i) k

-- the k-th join of some bytes: from, to, weight, a byte each
abbrev pub join_in : List ℕ → ℕ → Join
join_in b k = record { from = byte_at b (3 * k); to = byte_at b (3 * k + 1); weight = byte_at b (3 * k + 2) }

-- ---- the six sections: the bytes from each on, which the one before it decides, and what it has

abbrev pub values_in : List ℕ → List ℤ
values_in b = signed_words (count b) (items b)

abbrev pub from_categories : List ℕ → List ℕ
from_categories image = after 4 image

abbrev pub categories_in : List ℕ → List ℕ
categories_in b = bytes (count b) (items b)

abbrev pub from_joins : List ℕ → List ℕ
from_joins image = after 1 (from_categories image)

abbrev pub joins_in : List ℕ → List Join
joins_in b = table (join_in (items b)) (count b)

abbrev pub from_places : List ℕ → List ℕ
from_places image = after 3 (from_joins image)

abbrev pub places_in : List ℕ → List ℤ
places_in b = signed_words (2 * count b) (items b)

abbrev pub from_bands : List ℕ → List ℕ
from_bands image = after 8 (from_places image)

abbrev pub bands_in : List ℕ → List ℕ
bands_in b = words (count b) (items b)

abbrev pub from_shuffles : List ℕ → List ℕ
from_shuffles image = after 4 (from_bands image)

-- n bytes each
abbrev pub shuffles_in : ℕ → List ℕ → List ℕ
shuffles_in n b = bytes (count b * n) (items b)

-- what follows the last section
abbrev pub rest : List ℕ → List ℕ
rest image = after (count image) (from_shuffles image)

-- the job that an image is, where it is not refused
unfoldable pub job_of : List ℕ → Job
job_of image = record {
  values = values_in image;
  categories = categories_in (from_categories image);
  weights = weights_of (count image) (joins_in (from_joins image));
  places = places_in (from_places image);
  bands = bands_in (from_bands image);
  shuffles = shuffles_in (count image) (from_shuffles image);
}

-- ---- the rules on a section's count, which the writer has too

-- 2 to 64 values
abbrev pub zone_count_rule : ℕ → Rule
zone_count_rule n = (outside 2 64 n, 1)

-- categories and places: 0 or n
abbrev pub none_or_all_rule : ℕ → ℕ → Rule
none_or_all_rule n k = (not (eqb k 0 || eqb k n), 15)

-- up to 4,032 joins
abbrev pub join_count_rule : ℕ → Rule
join_count_rule k = (ltb 4032 k, 15)

-- 0 to 8 bands, and 0 where there are no places
abbrev pub band_count_rule : ℕ → ℕ → Rule
band_count_rule places k = (ltb 8 k || (ltb 0 k && eqb places 0), 12)

-- 0 to 499 shuffles
abbrev pub shuffle_count_rule : ℕ → Rule
shuffle_count_rule k = (ltb 499 k, 15)

-- ---- and on its items, which the writer has too but for the joins. Where all items of a section have one rule it is said of them together

abbrev pub value_rules : List ℤ → List Rule
value_rules values = (any_value_beyond values, 3) ∷ []

abbrev pub category_rules : List ℕ → List Rule
category_rules categories = (any_above 7 categories, 8) ∷ []

abbrev pub band_rules : List ℕ → List Rule
band_rules bands = (any_misplaced bands, 12) ∷ []

abbrev pub shuffle_rules : ℕ → List ℕ → List Rule
shuffle_rules n shuffles = (any_lacking n shuffles, 13) ∷ []

-- ---- the reader goes by place

-- a section: 14 if its count is cut, its count's own rule, 14 if the section is cut, then its items' rules
abbrev pub section_rules : ℕ → Rule → List Rule → List ℕ → List Rule
section_rules size of_count of_items b = (ltb (length b) 2, 14) ∷ of_count ∷ (ltb (length b) (2 + size * count b), 14) ∷ of_items

unfoldable pub in_values : List ℕ → List Rule
in_values b = section_rules 4 (zone_count_rule (count b)) (value_rules (values_in b)) b

unfoldable pub in_categories : ℕ → List ℕ → List Rule
in_categories n b = section_rules 1 (none_or_all_rule n (count b)) (category_rules (categories_in b)) b

unfoldable pub in_joins : ℕ → List ℕ → List Rule
in_joins n b = section_rules 3 (join_count_rule (count b)) (in_turn (join_rules n (join_in (items b))) (count b)) b

unfoldable pub in_places : ℕ → List ℕ → List Rule
in_places n b = section_rules 8 (none_or_all_rule n (count b)) (places_in_turn (places_in b)) b

unfoldable pub in_bands : ℕ → List ℕ → List Rule
in_bands places b = section_rules 4 (band_count_rule places (count b)) (band_rules (bands_in b)) b

unfoldable pub in_shuffles : ℕ → List ℕ → List Rule
in_shuffles n b = section_rules n (shuffle_count_rule (count b)) (shuffle_rules n (shuffles_in n b)) b

-- after the last section 17, 6, 7
abbrev pub at_the_end : List ℕ → List Rule
at_the_end image = (ltb 0 (length (rest image)), 17) ∷ sum_rules (count image) (job_of image).values (job_of image).weights

unfoldable pub image_rules : List ℕ → List Rule
image_rules image =
    let n = count image in
    in_values image
    ++ (in_categories n (from_categories image)
    ++ (in_joins n (from_joins image)
    ++ (in_places n (from_places image)
    ++ (in_bands (count (from_places image)) (from_bands image)
    ++ (in_shuffles n (from_shuffles image)
    ++ at_the_end image)))))

-- the number by which an image is refused, 0 where it is accepted
unfoldable pub image_refusal : List ℕ → ℕ
image_refusal image = first_broken (image_rules image)

-- ---- the bytes of a job, whose counts are given: it counts the joins itself

abbrev pub signed_bytes : ℤ → List ℕ
signed_bytes x = word_bytes (of_z w32 x)

abbrev pub join_bytes : Join → List ℕ
join_bytes join = join.from ∷ join.to ∷ join.weight ∷ []

abbrev pub section_bytes : ℕ → List ℕ → List ℕ
section_bytes k of_items = two_bytes k ++ of_items

unfoldable pub job_bytes : Given → Job → List ℕ
job_bytes given job =
    let joins = joins_of given.values job.weights in
    section_bytes given.values (each signed_bytes job.values)
    ++ (section_bytes given.categories job.categories
    ++ (section_bytes (length joins) (each join_bytes joins)
    ++ (section_bytes given.places (each signed_bytes job.places)
    ++ (section_bytes given.bands (each word_bytes job.bands)
    ++ section_bytes given.shuffles job.shuffles))))
