-- The report of a job as request A.6 has it, with the order of request A.2, by the weights that count: what the text is where every value is
-- returned, and, by the reduced weights, where some is not. Assumes nothing.
use Rattle.std.specs.Prelude.{cond, List, [], ◌++◌, ℕ, suc, length}
use Rattle.whole.specs.Order.{ordered}
use Rattle.whole.specs.Table.{table, at, pair_at, each}
use Rattle.shuffles.specs.Shuffles.{shuffle_count}
use Rattle.kept.specs.Kept.{keeps, kept_count, kept_values, kept_pairs, kept_shuffles, kept_first, put_back}
use Rattle.account.specs.Measures.{spread_of}
use Rattle.account.specs.Answers.{zones_local}
use Rattle.account.specs.Classes.{zones_class_row}
use Rattle.account.specs.Rank.{zones_rank}
use Rattle.hot_list.specs.HotList.{hotter, row_sum}
use Rattle.places.specs.Bands.{band_classes}
use Rattle.coefficients.specs.Coefficients.{pair_of}
use Rattle.image.specs.Image.{Job}
use Rattle.report.specs.Text.{numbered, whole_lines, local_line, class_line, counts_line, pair_lines, where_given}

unfoldable pub six_text : ℕ → Job → List ℕ → List ℕ
six_text n job counting =
    let many = kept_count n counting in
    let x = kept_values n counting job.values in
    let w = kept_pairs n counting counting in
    let m = spread_of (at x) many in
    let locals = table (put_back n counting (zones_local many x w)) n in
    let row = zones_class_row many x w (kept_pairs n counting (band_classes n job.places job.bands)) in
    let rows = shuffle_count n (length job.shuffles) in
    whole_lines many (at x) (pair_at w many)
    ++ (each (λ zone. cond (keeps n counting zone) (local_line locals m zone) [])
    (ordered (kept_first (keeps n counting) (hotter (at locals) (row_sum n counting))) n)
    ++ (where_given job.categories (pair_lines n job.categories counting)
    ++ (where_given job.bands (each (λ k. class_line (row k) (pair_of many m (row k)) k) (numbered (suc (length job.bands))))
    ++ where_given job.shuffles (counts_line (zones_rank rows many x w (kept_shuffles n counting rows job.shuffles))))))
