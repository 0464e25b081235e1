-- The report of a job in which every zone counts, as document 01 alone has it but for the order of its zones, which is given: what the text
-- is where every zone touches another and its value is returned. Document 01's own order is `base_order`. Assumes nothing.
use Rattle.std.specs.Prelude.{List, ◌++◌, ℕ, suc, ltb, length}
use Rattle.whole.specs.Order.{ordered}
use Rattle.whole.specs.Table.{table, at, pair_at, each}
use Rattle.shuffles.specs.Shuffles.{shuffle_count}
use Rattle.account.specs.Measures.{spread_of}
use Rattle.account.specs.Answers.{zones_local}
use Rattle.account.specs.Classes.{zones_class_row}
use Rattle.account.specs.Rank.{zones_rank}
use Rattle.hot_list.specs.HotList.{falling}
use Rattle.places.specs.Bands.{band_classes}
use Rattle.coefficients.specs.Coefficients.{pair_of}
use Rattle.image.specs.Image.{Job}
use Rattle.report.specs.Text.{numbered, whole_lines, local_line, class_line, counts_line, pair_lines, where_given}

-- by falling local numerator, equal ones by rising number
unfoldable pub base_order : ℕ → Job → List ℕ
base_order n job = ordered (falling (at (table (zones_local n job.values job.weights) n)) ltb) n

unfoldable pub base_text : ℕ → Job → List ℕ → List ℕ
base_text n job order =
    let x = at job.values in
    let m = spread_of x n in
    let locals = table (zones_local n job.values job.weights) n in
    let classes = band_classes n job.places job.bands in
    let row = zones_class_row n job.values job.weights classes in
    whole_lines n x (pair_at job.weights n)
    ++ (each (local_line locals m) order
    ++ (where_given job.categories (pair_lines n job.categories job.weights)
    ++ (where_given job.bands (each (λ k. class_line (row k) (pair_of n m (row k)) k) (numbered (suc (length job.bands))))
    ++ where_given job.shuffles
    (counts_line (zones_rank (shuffle_count n (length job.shuffles)) n job.values job.weights job.shuffles)))))
