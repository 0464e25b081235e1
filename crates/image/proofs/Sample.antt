-- The image of document 01's worked report, computed: these bytes are accepted, they are that job, and that job is these bytes. Then the same
-- of an image in which a value is not returned (request A.7), whose joins at that zone stay. Assumes nothing.
use mathlib.Core.Path.{◌≡◌, refl}
use mathlib.Core.List.{List, [], ◌∷◌}
use Prim.Native.Nat.{ℕ}
use lib.IntN.{pos}
use Rattle.whole.specs.Order.{lacks}
use Rattle.whole.specs.Rules.{in_turn}
use Rattle.whole.specs.Search.{some, count, any_beyond, any_above}
use Rattle.whole.specs.Sum.{sum}
use Rattle.whole.specs.Table.{table, table_rows, pair_at, each}
use Rattle.words.specs.Words.{two_at, word_at}
use Rattle.judges.specs.Values.{not_returned, missing, any_value_beyond}
use Rattle.shuffles.specs.Shuffles.{shuffle_count, any_lacking}
use Rattle.kept.specs.Kept.{passing, keeps, kept_zones, kept_count, kept_values}
use Rattle.kept.specs.Returned.{reduced}
use Rattle.account.specs.Measures.{row_of, pairs_of, weight_of, spread_of}
use Rattle.account.specs.Refusals.{job_spread}
use Rattle.places.specs.Places.{across, up, at_one_place, place_rules_of, places_in_turn}
use Rattle.places.specs.Bands.{any_empty_band, any_not_rising, any_misplaced}
use Rattle.image.specs.Joins.{join_weight, joins_from, join_rules}
use Rattle.image.specs.Image.{Job, job_of, in_values, in_categories, in_joins, in_places, in_bands, in_shuffles, image_rules}
use Rattle.image.specs.Image.{image_refusal, job_bytes}
use Rattle.image.specs.declared.Given.{Given}

-- values 1 1 3 3; categories 0 0 1 1; joins 0-1 and 1-0 weight 3, 1-2 and 2-1 weight 1; places (0,0) (1,0) (3,0) (9,9); bands 1 4;
-- shuffles 0 1 2 3 and 2 1 0 3
abbrev pub report_job : Job
report_job = record {
  values = pos 1 ∷ pos 1 ∷ pos 3 ∷ pos 3 ∷ [];
  categories = 0 ∷ 0 ∷ 1 ∷ 1 ∷ [];
  weights = 0 ∷ 3 ∷ 0 ∷ 0 ∷ 3 ∷ 0 ∷ 1 ∷ 0 ∷ 0 ∷ 1 ∷ 0 ∷ 0 ∷ 0 ∷ 0 ∷ 0 ∷ 0 ∷ [];
  places = pos 0 ∷ pos 0 ∷ pos 1 ∷ pos 0 ∷ pos 3 ∷ pos 0 ∷ pos 9 ∷ pos 9 ∷ [];
  bands = 1 ∷ 4 ∷ [];
  shuffles = 0 ∷ 1 ∷ 2 ∷ 3 ∷ 2 ∷ 1 ∷ 0 ∷ 3 ∷ [];
}

abbrev pub report_counts : Given
report_counts = record { values = 4; categories = 4; places = 4; bands = 2; shuffles = 2 }

abbrev pub report_image : List ℕ
report_image =
    4 ∷ 0 ∷ 1 ∷ 0 ∷ 0 ∷ 0 ∷ 1 ∷ 0 ∷ 0 ∷ 0 ∷ 3 ∷ 0 ∷ 0 ∷ 0 ∷ 3 ∷ 0 ∷ 0 ∷ 0
    ∷ 4 ∷ 0 ∷ 0 ∷ 0 ∷ 1 ∷ 1
    ∷ 4 ∷ 0 ∷ 0 ∷ 1 ∷ 3 ∷ 1 ∷ 0 ∷ 3 ∷ 1 ∷ 2 ∷ 1 ∷ 2 ∷ 1 ∷ 1
    ∷ 4 ∷ 0
    ∷ 0 ∷ 0 ∷ 0 ∷ 0 ∷ 0 ∷ 0 ∷ 0 ∷ 0 ∷ 1 ∷ 0 ∷ 0 ∷ 0 ∷ 0 ∷ 0 ∷ 0 ∷ 0
    ∷ 3 ∷ 0 ∷ 0 ∷ 0 ∷ 0 ∷ 0 ∷ 0 ∷ 0 ∷ 9 ∷ 0 ∷ 0 ∷ 0 ∷ 9 ∷ 0 ∷ 0 ∷ 0
    ∷ 2 ∷ 0 ∷ 1 ∷ 0 ∷ 0 ∷ 0 ∷ 4 ∷ 0 ∷ 0 ∷ 0
    ∷ 2 ∷ 0 ∷ 0 ∷ 1 ∷ 2 ∷ 3 ∷ 2 ∷ 1 ∷ 0 ∷ 3
    ∷ []

-- ---- values 1, 3 and one not returned; joins 0-1, 1-0 and 1-2 with weight 2, the last at the zone that returned nothing
abbrev pub marked_job : Job
marked_job = record {
  values = pos 1 ∷ pos 3 ∷ not_returned ∷ [];
  categories = [];
  weights = 0 ∷ 2 ∷ 0 ∷ 2 ∷ 0 ∷ 2 ∷ 0 ∷ 0 ∷ 0 ∷ [];
  places = [];
  bands = [];
  shuffles = [];
}

abbrev pub marked_counts : Given
marked_counts = record { values = 3; categories = 0; places = 0; bands = 0; shuffles = 0 }

-- the sections after that of the values
abbrev marked_rest : List ℕ
marked_rest = 0 ∷ 0 ∷ 3 ∷ 0 ∷ 0 ∷ 1 ∷ 2 ∷ 1 ∷ 0 ∷ 2 ∷ 1 ∷ 2 ∷ 2 ∷ 0 ∷ 0 ∷ 0 ∷ 0 ∷ 0 ∷ 0 ∷ []

abbrev pub marked_image : List ℕ
marked_image = 3 ∷ 0 ∷ 1 ∷ 0 ∷ 0 ∷ 0 ∷ 3 ∷ 0 ∷ 0 ∷ 0 ∷ 0 ∷ 0 ∷ 0 ∷ 128 ∷ marked_rest

-- the same with zone 1 not returned, at which every join is
abbrev pub weightless_image : List ℕ
weightless_image = 3 ∷ 0 ∷ 1 ∷ 0 ∷ 0 ∷ 0 ∷ 0 ∷ 0 ∷ 0 ∷ 128 ∷ 3 ∷ 0 ∷ 0 ∷ 0 ∷ marked_rest

-- ---- what is computed
judged : (image_refusal report_image ≡ 0) × ((image_refusal marked_image ≡ 0) × (image_refusal weightless_image ≡ 6))
unfolding image_refusal image_rules in_values in_categories in_joins in_places in_bands in_shuffles
    in_turn join_rules places_in_turn place_rules_of across up at_one_place any_misplaced any_empty_band any_not_rising any_lacking
    shuffle_count lacks some any_beyond any_above job_of table table_rows join_weight two_at word_at
    weight_of spread_of pairs_of row_of sum pair_at job_spread keeps passing count kept_zones kept_count kept_values
    missing any_value_beyond reduced
judged = (refl, (refl, refl))

pub report_accepted : image_refusal report_image ≡ 0
report_accepted = judged.0

pub report_read : job_of report_image ≡ report_job
unfolding job_of table table_rows join_weight two_at word_at
report_read = refl

pub report_written : job_bytes report_counts report_job ≡ report_image
unfolding job_bytes each joins_from
report_written = refl

pub marked_accepted : image_refusal marked_image ≡ 0
marked_accepted = judged.1.0

pub marked_read : job_of marked_image ≡ marked_job
unfolding job_of table table_rows join_weight two_at word_at
marked_read = refl

pub marked_written : job_bytes marked_counts marked_job ≡ marked_image
unfolding job_bytes each joins_from
marked_written = refl

pub weightless_refused : image_refusal weightless_image ≡ 6
weightless_refused = judged.1.1
