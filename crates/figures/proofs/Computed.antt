-- Every row is right: antt computes it. Assumes nothing.
use lib.Dec.{T}
use lib.Ieee.{to_bits, round}
use Rattle.whole.specs.Order.{place_of, ordered}
use Rattle.whole.specs.Search.{some, count, first}
use Rattle.whole.specs.Sum.{sum}
use Rattle.whole.specs.Table.{table, table_rows, pair_at}
use Rattle.nearest.specs.Answers.{nearest_float, nearest_side}
use Rattle.nearest.specs.Sides.{side_by, side_of}
use Rattle.shuffles.specs.Shuffles.{shuffle_count}
use Rattle.kept.specs.Kept.{
  passing,
  keeps,
  kept_zones,
  kept_count,
  kept_values,
  kept_pairs,
  kept_row,
  kept_shuffles,
  kept_first,
  put_back,
}
use Rattle.judges.specs.Values.{missing}
use Rattle.kept.specs.Returned.{missing_count, reduced}
use Rattle.account.specs.Measures.{total_of, deviation_of, spread_of, row_of, pairs_of, weight_of, cross_of, squares_of, local_of}
use Rattle.account.specs.Refusals.{job_spread}
use Rattle.account.specs.Answers.{class_row, zones_figures, zones_local, job_kept, job_figures, job_row, job_locals}
use Rattle.account.specs.Classes.{class_weight, zones_class_row, class_row_of}
use Rattle.account.specs.Rank.{values_cross, shuffle_cross, compared, zones_rank, job_rank}
use Rattle.hot_list.specs.HotList.{falling, hotter, row_sum, in_order, hot_list}
use Rattle.joins.specs.Joins.{weight_between, joins_of, join_table}
use Rattle.places.specs.Places.{across, up, squared_distance}
use Rattle.places.specs.Bands.{within_band, band_class, pair_class, band_classes}
use Rattle.coefficients.specs.Coefficients.{coefficient, pair_of, job_pair, class_pair}
use Rattle.figures.specs.Figures.{right, all_right, published}

pub figures_right : T (all_right published)
unfolding right all_right published sum some count first place_of ordered table table_rows pair_at nearest_float nearest_side side_by side_of round to_bits
    missing missing_count reduced passing keeps kept_zones kept_count kept_values kept_pairs kept_row kept_shuffles kept_first put_back
    total_of deviation_of spread_of row_of pairs_of weight_of cross_of squares_of local_of class_row class_weight
    zones_figures zones_local zones_class_row zones_rank job_spread job_kept job_figures job_row job_locals class_row_of
    falling hotter row_sum in_order hot_list weight_between joins_of join_table across up squared_distance within_band band_class pair_class band_classes
    shuffle_count values_cross shuffle_cross compared job_rank coefficient pair_of job_pair class_pair
figures_right = tt
