-- What goes in comes out. Stated for what the two calls answer and leave by their contracts: a job that is written and read is the same job
-- with the same counts, and an accepted image that is read and written is the same bytes. And what reads an accepted image need expect no
-- refusal from the calls on its job. Assumes nothing.
use Rattle.std.specs.Prelude.{◌≡◌, false, List, [], ◌∷◌, ℕ, ◌*◌, ℤ, length, take}
use Rattle.whole.specs.Search.{any_above}
use Rattle.whole.specs.Table.{over}
use Rattle.account.specs.Refusals.{account_refusal}
use Rattle.account.specs.Rank.{rank_refusal}
use Rattle.joins.specs.Joins.{join_refusal}
use Rattle.places.specs.Gabriel.{gabriel_refusal}
use Rattle.places.specs.Bands.{band_refusal}
use Rattle.image.specs.Joins.{joins_of}
use Rattle.image.specs.Image.{count, from_categories, from_places, from_bands, from_shuffles, job_of, job_bytes}
use Rattle.image.specs.Reader.{Buffers, read_refusal, read_counts, read_left}
use Rattle.image.specs.Writer.{lent_job, write_refusal, write_length, write_left}
use Rattle.image.specs.declared.Given.{Given}

-- ---- a job is written from some buffers, and what was written is read into others
module _ (given : Given) (lent : Buffers) (out : List ℕ) (others : Buffers) where
  -- the image
  abbrev pub image_of : List ℕ
  image_of = job_bytes given (lent_job given lent)

  pub record ReadBack : Type 0 where
    -- it is what the writer fills of its output, and as long as it answers
    pub written : take (length image_of) (write_left given lent out) ≡ image_of
    pub long : write_length given lent (length out) ≡ length image_of ∷ []
    -- the reader takes it
    pub taken : read_refusal image_of others ≡ 0
    -- with the same counts, and the joins that the writer counted
    pub counts :
        read_counts image_of others
        ≡ given.values
        ∷ given.categories
        ∷ length (joins_of given.values (lent_job given lent).weights)
        ∷ given.places
        ∷ given.bands
        ∷ given.shuffles
        ∷ []
    -- and leaves the same job
    pub job : lent_job given (read_left image_of others) ≡ lent_job given lent

-- ---- an image is read into some buffers, and what was read is written

-- the counts of an image, but for the joins: as the reader answers them and the writer is given them
unfoldable pub given_in : List ℕ → Given
given_in image = record {
  values = count image;
  categories = count (from_categories image);
  places = count (from_places image);
  bands = count (from_bands image);
  shuffles = count (from_shuffles image);
}

module _ (image : List ℕ) (lent : Buffers) (out : List ℕ) where
  -- what the reader leaves
  abbrev pub left : Buffers
  left = read_left image lent

  pub record WrittenBack : Type 0 where
    -- the writer takes it
    pub taken : write_refusal (given_in image) left (length out) ≡ 0
    -- and writes the same bytes
    pub long : write_length (given_in image) left (length out) ≡ length image ∷ []
    pub bytes : write_left (given_in image) left out ≡ over image out

-- ---- the job of an accepted image, in the other calls

pub record TakenByAll (image : List ℕ) : Type 0 where
  pub account :
      (locals : List ℤ) → length locals ≡ count image →
      account_refusal (count image) (job_of image).values (job_of image).weights locals ≡ 0
  pub hot_list :
      (zones : List ℕ) → length zones ≡ count image → account_refusal (count image) (job_of image).values (job_of image).weights zones ≡ 0
  -- under any desk numbers 0 to 3, one for each of its shuffles
  pub rank :
      (desks : List ℕ) → length desks ≡ count (from_shuffles image) → any_above 3 desks ≡ false →
      rank_refusal (count image) (job_of image).values (job_of image).weights (job_of image).shuffles desks ≡ 0
  -- where it has categories
  pub join_table :
      (count (from_categories image) ≡ 0 → ⊥) →
      join_refusal (count image) (job_of image).values (job_of image).categories (job_of image).weights 64 ≡ 0
  -- where it has places
  pub gabriel : (count (from_places image) ≡ 0 → ⊥) → gabriel_refusal (count image) (job_of image).places (count image * count image) ≡ 0
  -- where it has bands
  pub bands :
      (count (from_bands image) ≡ 0 → ⊥) →
      band_refusal (count image) (job_of image).places (job_of image).bands (count image * count image) ≡ 0
