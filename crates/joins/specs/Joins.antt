-- The join table: categories 0 to 7; T(r,s) = sum of w(i,j) with i in r and j in s. f gives the weight of each ordered pair of zones, and c
-- the category of each zone. Assumes nothing.
use Rattle.std.specs.Prelude.{cond, ◌&&◌, ◌||◌, List, [], ◌∷◌, ◌++◌, ℕ, ◌*◌, eqb, ℤ, pos, length, get_or}
use Rattle.whole.specs.Rules.{Rule, first_broken, size_rules, unless_refused}
use Rattle.whole.specs.Search.{any_above, any_on_diagonal}
use Rattle.whole.specs.Sum.{sum}
use Rattle.whole.specs.Table.{table_rows, pair_at}
use Rattle.judges.specs.Values.{any_value_beyond}
use Rattle.kept.specs.Returned.{reduced}
use Rattle.account.specs.Measures.{weight_of}

-- ---- what is worked

-- the weight that counts from category r to category s: w(i,j) with i in r and j in s, and 0 elsewhere
unfoldable pub weight_between : (ℕ → ℕ → ℕ) → (ℕ → ℕ) → ℕ → ℕ → ℕ → ℕ → ℕ
weight_between f c r s i j = cond (eqb (c i) r && eqb (c j) s) (f i j) 0

-- T(r,s): the sum of those weights, over all ordered pairs of n zones
unfoldable pub joins_of : (ℕ → ℕ → ℕ) → (ℕ → ℕ) → ℕ → ℕ → ℕ → ℤ
joins_of f c n r s = weight_of (weight_between f c r s) n

-- the category of each zone, of a list
abbrev pub category_at : List ℕ → ℕ → ℕ
category_at categories i = get_or categories i 0

-- the join table of two lists: T(0,0), T(0,1), .., T(7,7), a row of eight for each r
unfoldable pub join_table : ℕ → List ℕ → List ℕ → List ℤ
join_table n categories weights = table_rows (joins_of (pair_at weights n) (category_at categories) n) 8 8

-- ---- like and unlike joins, each pair of zones once: the table keeps them twice over where the weights are the same both ways

-- like joins of category r: the weights of the pairs i < j with both zones in r
unfoldable pub like_joins : (ℕ → ℕ → ℕ) → (ℕ → ℕ) → ℕ → ℕ → ℤ
like_joins f c n r = sum (λ j. sum (λ i. pos (weight_between f c r r i j)) j) n

-- the weight of a pair with one zone in r and the other in s, and 0 of another pair
unfoldable pub weight_across : (ℕ → ℕ → ℕ) → (ℕ → ℕ) → ℕ → ℕ → ℕ → ℕ → ℕ
weight_across f c r s i j = cond ((eqb (c i) r && eqb (c j) s) || (eqb (c i) s && eqb (c j) r)) (f i j) 0

-- unlike joins of categories r and s: those of the pairs i < j
unfoldable pub unlike_joins : (ℕ → ℕ → ℕ) → (ℕ → ℕ) → ℕ → ℕ → ℕ → ℤ
unlike_joins f c n r s = sum (λ j. sum (λ i. pos (weight_across f c r s i j)) j) n

-- ---- what is refused

-- 1 to 5 and 8, where `room` places are lent: the join table needs neither 6 nor 7, and of the values no more than whether they are returned
unfoldable pub join_rules : ℕ → List ℤ → List ℕ → List ℕ → ℕ → List Rule
join_rules n values categories weights room =
    size_rules n ((length values, n) ∷ (length categories, n) ∷ (length weights, n * n) ∷ (room, 64) ∷ [])
    ++ ((any_value_beyond values, 3) ∷ (any_above 9 weights, 4) ∷ (any_on_diagonal n weights, 5) ∷ (any_above 7 categories, 8) ∷ [])

-- the refusal, 0 where no rule is broken
unfoldable pub join_refusal : ℕ → List ℤ → List ℕ → List ℕ → ℕ → ℕ
join_refusal n values categories weights room = first_broken (join_rules n values categories weights room)

-- what the lent list holds after the call: the table of the weights that count
unfoldable pub joins_left : ℕ → List ℤ → List ℕ → List ℕ → List ℤ → List ℤ
joins_left n values categories weights lent =
    unless_refused (join_refusal n values categories weights (length lent)) (join_table n categories (reduced n values weights)) lent
