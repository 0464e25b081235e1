-- A list of shuffles: a row of n zone numbers for each, and by which number the list is refused. Assumes nothing.
use Rattle.std.specs.Prelude.{Bool, cond, List, [], ◌∷◌, ◌++◌, ℕ, ◌*◌, ◌/◌, ltb, length}
use Rattle.whole.specs.Order.{lacks}
use Rattle.whole.specs.Rules.{first_broken, size_rules}
use Rattle.whole.specs.Search.{some}
use Rattle.whole.specs.Table.{pair_at}

-- the number of shuffles in a list of that length: its whole rows of n, at most 499
unfoldable pub shuffle_count : ℕ → ℕ → ℕ
shuffle_count n length = let rows = length / n in cond (ltb 499 rows) 499 rows

-- a shuffle lacks some zone number
unfoldable pub any_lacking : ℕ → List ℕ → Bool
any_lacking n shuffles = some (λ r. lacks (pair_at shuffles n r) n) (shuffle_count n (length shuffles))

-- 1 and 2: the list, of that length, has nothing beside its 0 to 499 whole rows. The refusal is 0 where no rule is broken
unfoldable pub row_refusal : ℕ → ℕ → ℕ
row_refusal n length = first_broken (size_rules n ((length, shuffle_count n length * n) ∷ []))

-- 1, 2 and 13: the list has nothing beside its 0 to 499 whole rows. The refusal is 0 where no rule is broken
unfoldable pub shuffle_refusal : ℕ → List ℕ → ℕ
shuffle_refusal n shuffles =
    first_broken
    (size_rules n ((length shuffles, shuffle_count n (length shuffles) * n) ∷ []) ++ ((any_lacking n shuffles, 13) ∷ []))
