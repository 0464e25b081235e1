-- What the private functions ask of each other; no part of the public promise. Assumes nothing.
use Rattle.std.specs.Prelude.{cond, List, ℕ, ltb}
use Rattle.whole.specs.Search.{some}
use Rattle.whole.specs.Table.{pair_at}

-- 1 where the column of zone j holds weight in the first rows, so many of them, else 0
abbrev pub column_mark : ℕ → List ℕ → ℕ → ℕ → ℕ
column_mark n weights rows j = cond (some (λ i. ltb 0 (pair_at weights n i j)) rows) 1 0
