-- What the reader answers, and what it leaves in the six buffers that it is lent. Assumes nothing.
use Rattle.std.specs.Prelude.{List, [], ◌∷◌, ℕ, ℤ, length}
use Rattle.whole.specs.Rules.{Rule, first_broken, misfits, unless_refused}
use Rattle.whole.specs.Table.{over}
use Rattle.image.specs.Image.{Job, count, from_categories, from_joins, from_places, from_bands, from_shuffles, job_of, image_rules}

-- the six lent buffers, which the writer is lent too
pub record Buffers : Type 0 where
  pub values : List ℤ
  pub categories : List ℕ
  pub weights : List ℕ
  pub places : List ℤ
  pub bands : List ℕ
  pub shuffles : List ℕ

abbrev pub buffers : List ℤ → List ℕ → List ℕ → List ℤ → List ℕ → List ℕ → Buffers
buffers values categories weights places bands shuffles = record {
  values = values;
  categories = categories;
  weights = weights;
  places = places;
  bands = bands;
  shuffles = shuffles;
}

-- their lengths, with those that they must have
abbrev pub buffer_lengths : Buffers → List (ℕ × ℕ)
buffer_lengths lent =
    (length lent.values, 64)
    ∷ (length lent.categories, 64)
    ∷ (length lent.weights, 4096)
    ∷ (length lent.places, 128)
    ∷ (length lent.bands, 8)
    ∷ (length lent.shuffles, 31936)
    ∷ []

-- 2 first, then the image by place
unfoldable pub read_rules : List ℕ → Buffers → List Rule
read_rules image lent = (misfits (buffer_lengths lent), 2) ∷ image_rules image

-- the refusal, 0 where no rule is broken
unfoldable pub read_refusal : List ℕ → Buffers → ℕ
read_refusal image lent = first_broken (read_rules image lent)

-- the six counts of an image
unfoldable pub counts_in : List ℕ → List ℕ
counts_in image =
    count image
    ∷ count (from_categories image)
    ∷ count (from_joins image)
    ∷ count (from_places image)
    ∷ count (from_bands image)
    ∷ count (from_shuffles image)
    ∷ []

-- the counts that the call answers, none where it is refused
unfoldable pub read_counts : List ℕ → Buffers → List ℕ
read_counts image lent = unless_refused (read_refusal image lent) (counts_in image) []

-- the buffers with a job in them
unfoldable pub filled : Job → Buffers → Buffers
filled job lent = record {
  values = over job.values lent.values;
  categories = over job.categories lent.categories;
  weights = over job.weights lent.weights;
  places = over job.places lent.places;
  bands = over job.bands lent.bands;
  shuffles = over job.shuffles lent.shuffles;
}

-- what the buffers hold after the call
unfoldable pub read_left : List ℕ → Buffers → Buffers
read_left image lent = unless_refused (read_refusal image lent) (filled (job_of image) lent) lent
