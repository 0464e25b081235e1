-- Values not returned (request A.7). A zone whose value is not returned has weights that count as 0, in its row and in its column, so that
-- it touches nobody. Assumes nothing.
use Rattle.std.specs.Prelude.{cond, ◌||◌, List, ℕ, ℤ, length}
use Rattle.whole.specs.Search.{count}
use Rattle.whole.specs.Table.{table_rows, pair_at}
use Rattle.judges.specs.Values.{missing}

-- how many values are not returned
unfoldable pub missing_count : List ℤ → ℕ
missing_count values = count (missing values) (length values)

-- the weights that count: 0 in the row and in the column of a zone whose value is not returned
unfoldable pub reduced : ℕ → List ℤ → List ℕ → List ℕ
reduced n values weights = table_rows (λ i j. cond (missing values i || missing values j) 0 (pair_at weights n i j)) n n
