-- What the private functions of the reader promise each other. Assumes nothing.
use Rattle.std.specs.Prelude.{◌≡◌, false, not, ◌&&◌, List, [], ◌∷◌, ℕ, ◌+◌, ◌*◌, ◌≤◌, ◌<◌, eqb, ltb, length, take, get_or}
use Rattle.whole.specs.Rules.{Rule, first_broken, in_turn, outside}
use Rattle.whole.specs.Table.{table}
use Rattle.judges.specs.Values.{any_value_beyond}
use Rattle.image.specs.Joins.{Join, join_rules, weights_of}
use Rattle.image.specs.Image.{Job, count, items, signed_words, words, join_in, job_of}
use Rattle.image.specs.Reader.{counts_in}
use Rattle.reader.specs.declared.sections.Section.{Section}
use Rattle.reader.specs.declared.judging.Sections.{Sections}

-- ---- joins

-- the k-th of some joins, three bytes each
abbrev pub join_at : List (List ℕ) → ℕ → Join
join_at joins k = let join = get_or joins k [] in record { from = get_or join 0 0; to = get_or join 1 0; weight = get_or join 2 0 }

-- a join's rules, its order judged by its place: `next` is the first place after those of the joins before it
abbrev pub rules_by_place : ℕ → ℕ → ℕ → ℕ → ℕ → List Rule
rules_by_place n next from to weight =
    (not (ltb from n && ltb to n), 16)
    ∷ (eqb from to, 5)
    ∷ (ltb (from * n + to) next, 16)
    ∷ (outside 1 9 weight, 4)
    ∷ []

-- joins of n zones that break no rule
pub record Joinable (n : ℕ) (joins : List (List ℕ)) : Type 0 where
  pub zones : n ≤ 64
  pub sound : first_broken (in_turn (join_rules n (join_at joins)) (length joins)) ≡ 0

-- ---- sections

-- the section at the front of some bytes, its items of a size
pub record Held (size : ℕ) (b : List ℕ) (section : Section) : Type 0 where
  pub counted : section.count ≡ count b
  pub held : section.items.now ≡ take (size * count b) (items b)
  pub whole : 2 + size * count b ≤ length b

-- and the joins there
pub record Joins (b : List ℕ) (joins : List (List ℕ)) : Type 0 where
  pub counted : length joins ≡ count b
  pub held : (k : ℕ) → k < count b → join_at joins k ≡ join_in (items b) k

-- values and joins that can be summed, since they break no rule
pub record Summable (n : ℕ) (values : List ℕ) (triples : List (List ℕ)) : Type 0 where
  pub two : 2 ≤ n
  pub near : any_value_beyond (signed_words n values) ≡ false
  pub joins : Joinable n triples

-- the counts of six sections, and the job that they hold
abbrev pub sizes : Sections → List ℕ
sizes s =
    s.values.count ∷ s.categories.count ∷ length s.joins.now ∷ s.places.count ∷ s.bands.count ∷ s.shuffles.count ∷ []

abbrev pub job_in : Sections → Job
job_in s = record {
  values = signed_words s.values.count s.values.items.now;
  categories = s.categories.items.now;
  weights = weights_of s.values.count (table (join_at s.joins.now) (length s.joins.now));
  places = signed_words (2 * s.places.count) s.places.items.now;
  bands = words s.bands.count s.bands.items.now;
  shuffles = s.shuffles.items.now;
}

-- they fit into the buffers
pub record Fitting (s : Sections) : Type 0 where
  pub categories : length s.categories.items.now ≡ s.categories.count
  pub few_categories : s.categories.count ≤ 64
  pub joins : Joinable s.values.count s.joins.now
  pub places : s.places.count ≤ 64
  pub bands : s.bands.count ≤ 8
  pub shuffles : length s.shuffles.items.now ≡ s.values.count * s.shuffles.count
  pub few_shuffles : s.shuffles.count ≤ 499

-- what is known of the sections of an image that is not refused
pub record LaidOut (image : List ℕ) (s : Sections) : Type 0 where
  pub counts : sizes s ≡ counts_in image
  pub job : job_in s ≡ job_of image
  pub fitting : Fitting s
