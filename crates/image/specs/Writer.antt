-- What the writer answers, and what it leaves in its output. Assumes nothing.
use Rattle.std.specs.Prelude.{List, [], ◌∷◌, ◌++◌, ℕ, ◌*◌, ltb, length, take}
use Rattle.whole.specs.Rules.{Rule, first_broken, in_turn, misfits, unless_refused}
use Rattle.whole.specs.Table.{over}
use Rattle.account.specs.Refusals.{sum_rules}
use Rattle.places.specs.Places.{places_in_turn}
use Rattle.image.specs.Joins.{weight_rules}
use Rattle.image.specs.Image.{
  Job,
  zone_count_rule,
  none_or_all_rule,
  band_count_rule,
  shuffle_count_rule,
  value_rules,
  category_rules,
  band_rules,
  shuffle_rules,
  job_bytes,
}
use Rattle.image.specs.Reader.{Buffers, buffers, buffer_lengths}
use Rattle.image.specs.declared.Given.{Given}
use Rattle.image.specs.declared.Lists.{Lists}

-- the lists that are lent, as the reader's buffers hold them
abbrev pub listed : Lists → Buffers
listed lists = buffers lists.values.now lists.categories.now lists.weights.now lists.places.now lists.bands.now lists.shuffles.now

-- the job in the buffers: unused entries are no part of it
unfoldable pub lent_job : Given → Buffers → Job
lent_job given lent = record {
  values = take given.values lent.values;
  categories = take given.categories lent.categories;
  weights = take (given.values * given.values) lent.weights;
  places = take (2 * given.places) lent.places;
  bands = take given.bands lent.bands;
  shuffles = take (given.shuffles * given.values) lent.shuffles;
}

-- its parts in the image's order, a count before its items
unfoldable pub part_rules : Given → Job → List Rule
part_rules given job =
    let n = given.values in
    value_rules job.values
    ++ ((none_or_all_rule n given.categories ∷ category_rules job.categories)
    ++ (in_turn (weight_rules n job.weights) (n * n)
    ++ ((none_or_all_rule n given.places ∷ places_in_turn job.places)
    ++ ((band_count_rule given.places given.bands ∷ band_rules job.bands)
    ++ (shuffle_count_rule given.shuffles ∷ shuffle_rules n job.shuffles)))))

-- 1, then 2, then its parts, then 6, 7 and 19, where the output has so much room
unfoldable pub write_rules : Given → Buffers → ℕ → List Rule
write_rules given lent room =
    let job = lent_job given lent in
    zone_count_rule given.values
    ∷ (misfits (buffer_lengths lent), 2)
    ∷ (part_rules given job
    ++ (sum_rules given.values job.values job.weights
    ++ ((ltb room (length (job_bytes given job)), 19) ∷ [])))

-- the refusal, 0 where no rule is broken
unfoldable pub write_refusal : Given → Buffers → ℕ → ℕ
write_refusal given lent room = first_broken (write_rules given lent room)

-- the length that the call answers, none where it is refused
unfoldable pub write_length : Given → Buffers → ℕ → List ℕ
write_length given lent room = unless_refused (write_refusal given lent room) (length (job_bytes given (lent_job given lent)) ∷ []) []

-- what the output holds after the call: it fills only the image's length
unfoldable pub write_left : Given → Buffers → List ℕ → List ℕ
write_left given lent out =
    unless_refused (write_refusal given lent (length out)) (over (job_bytes given (lent_job given lent)) out) out
