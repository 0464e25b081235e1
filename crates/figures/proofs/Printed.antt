-- The report of document 01's image is its worked report, byte for byte: antt computes it. Assumes nothing.
use mathlib.Core.Path.{◌≡◌, refl, ap, ◌∙◌}
use lib.Ieee.{to_bits, round}
use Rattle.whole.specs.Order.{place_of, ordered}
use Rattle.whole.specs.Rules.{unless_refused}
use Rattle.whole.specs.Search.{some, count, first}
use Rattle.whole.specs.Sum.{sum}
use Rattle.whole.specs.Table.{table, table_rows, pair_at, each}
use Rattle.words.specs.Words.{two_at}
use Rattle.digits.specs.Digits.{unsigned, decimal, hexadecimal}
use Rattle.nearest.specs.Answers.{nearest_float, nearest_side}
use Rattle.nearest.specs.Sides.{side_by, side_of}
use Rattle.shuffles.specs.Shuffles.{shuffle_count}
use Rattle.kept.specs.Kept.{
  passing,
  keeps,
  kept_zones,
  kept_count,
  kept_values,
  kept_pairs,
  kept_row,
  kept_shuffles,
  kept_first,
  put_back,
}
use Rattle.judges.specs.Values.{missing}
use Rattle.kept.specs.Returned.{reduced}
use Rattle.account.specs.Measures.{total_of, deviation_of, spread_of, row_of, pairs_of, weight_of, cross_of, squares_of, local_of}
use Rattle.account.specs.Refusals.{job_spread}
use Rattle.account.specs.Answers.{class_row, zones_local, job_kept, job_locals}
use Rattle.account.specs.Classes.{class_weight, zones_class_row, class_row_of}
use Rattle.account.specs.Rank.{values_cross, shuffle_cross, compared, zones_rank, job_rank}
use Rattle.hot_list.specs.HotList.{falling, hotter, row_sum, in_order, hot_list}
use Rattle.joins.specs.Joins.{weight_between, joins_of}
use Rattle.places.specs.Places.{across, up, squared_distance}
use Rattle.places.specs.Bands.{within_band, band_class, pair_class, band_classes}
use Rattle.coefficients.specs.Coefficients as coefficients
use Rattle.coefficients.specs.Coefficients.{pair_of, class_pair}
use Rattle.image.specs.Image.{job_of}
use Rattle.image.proofs.Sample.{report_job, report_image, report_accepted, report_read}
use Rattle.pages.specs.Lines.{numbers, bits}
use Rattle.report.specs.Lines.{coefficient}
use Rattle.report.specs.Text.{
  whole_lines,
  counts_line,
  job_lines,
  local_line,
  local_lines,
  pair_line,
  pair_lines,
  class_line,
  class_lines,
  rank_line,
  job_text,
  image_text,
  refusal_line,
  report_text,
}
use Rattle.figures.specs.WorkedReport.{printed, worked_report}

computed : job_text 4 report_job ≡ printed worked_report
unfolding job_text whole_lines counts_line job_lines local_lines local_line pair_lines pair_line class_lines class_line rank_line numbers bits coefficient each
    unsigned decimal hexadecimal nearest_float nearest_side side_by side_of round to_bits table table_rows pair_at sum some count first place_of ordered
    missing reduced passing keeps kept_zones kept_count kept_values kept_pairs kept_row kept_shuffles kept_first put_back
    total_of deviation_of spread_of row_of pairs_of weight_of cross_of squares_of local_of class_row class_weight
    zones_local zones_class_row zones_rank job_spread job_kept job_locals class_row_of
    falling hotter row_sum in_order hot_list shuffle_count values_cross shuffle_cross compared job_rank weight_between joins_of across up squared_distance
    within_band band_class pair_class band_classes coefficients.coefficient pair_of class_pair
computed = refl

pub report_right : report_text report_image ≡ printed worked_report
unfolding report_text image_text two_at
report_right =
    ap (λ refusal. unless_refused refusal (job_text 4 (job_of report_image)) (refusal_line refusal)) report_accepted
    ∙ ap (job_text 4) report_read
    ∙ computed
