-- The calls on a job image for other software: counts and lengths in lent lists. Assumes nothing.
use Rattle.std.specs.Prelude.{List, [], ◌∷◌, ℕ, length, get_or}
use Rattle.whole.specs.Rules.{first_broken, misfits, unless_refused}
use Rattle.whole.specs.Table.{over}
use Rattle.image.specs.Image.{job_of, job_bytes, image_rules, zone_count_rule}
use Rattle.image.specs.Reader.{Buffers, buffer_lengths, counts_in, filled}
use Rattle.image.specs.Writer.{lent_job, write_rules}
use Rattle.image.specs.declared.Given.{Given}
use Rattle.report.specs.Text.{image_text}

-- ---- dca_read: six counts are lent beside the six buffers
module _ (image : List ℕ) (lent : Buffers) (counts : List ℕ) where
  -- 2, then the image by place; 0 where no rule is broken
  unfoldable pub read_number : ℕ
  read_number = first_broken ((misfits ((length counts, 6) ∷ buffer_lengths lent), 2) ∷ image_rules image)

  -- the buffers after the call, and the counts of values, categories, joins, places, bands and shuffles
  unfoldable pub buffers_after : Buffers
  buffers_after = unless_refused read_number (filled (job_of image) lent) lent

  unfoldable pub counts_after : List ℕ
  counts_after = unless_refused read_number (counts_in image) counts

-- ---- dca_write: five counts are lent beside the six buffers and the output, and one place for the image's length

-- the counts of values, categories, places, bands and shuffles
abbrev pub given_by : List ℕ → Given
given_by counts = record {
  values = get_or counts 0 0;
  categories = get_or counts 1 0;
  places = get_or counts 2 0;
  bands = get_or counts 3 0;
  shuffles = get_or counts 4 0;
}

module _ (lent : Buffers) (counts out bytes : List ℕ) where
  abbrev given : Given
  given = given_by counts

  -- 2 for the counts, without which there is no n; 1; 2 for the place of the length; then the writer's own rules, 1 and 2 the first of them
  unfoldable pub write_number : ℕ
  write_number =
      first_broken
      ((misfits ((length counts, 5) ∷ []), 2)
      ∷ zone_count_rule given.values
      ∷ (misfits ((length bytes, 1) ∷ []), 2)
      ∷ write_rules given lent (length out))

  -- the output after the call: only the image's length is filled
  unfoldable pub out_after : List ℕ
  out_after = unless_refused write_number (over (job_bytes given (lent_job given lent)) out) out

  -- the image's length
  unfoldable pub length_after : List ℕ
  length_after = unless_refused write_number (length (job_bytes given (lent_job given lent)) ∷ []) bytes

-- ---- dca_report: 16,384 bytes are lent for the text, and one place for its length
module _ (image text bytes : List ℕ) where
  -- 2, then the image by place; 0 where no rule is broken
  unfoldable pub text_number : ℕ
  text_number = first_broken ((misfits ((length text, 16384) ∷ (length bytes, 1) ∷ []), 2) ∷ image_rules image)

  -- the text at the front after the call, and its length
  unfoldable pub text_after : List ℕ
  text_after = unless_refused text_number (over (image_text image) text) text

  unfoldable pub text_length_after : List ℕ
  text_length_after = unless_refused text_number (length (image_text image) ∷ []) bytes
