-- Joins: from, to, weight. An image lists them, one for each weight above 0; a job has a table of weights, a row of n for each zone.
-- Assumes nothing.
use Rattle.std.specs.Prelude.{Bool, false, not, cond, ◌&&◌, ◌||◌, List, [], ◌∷◌, ℕ, zero, suc, ◌+◌, ◌/◌, ◌%◌, eqb, ltb, get_or}
use Rattle.whole.specs.Rules.{Rule, outside}
use Rattle.whole.specs.Table.{table_rows}

pub record Join : Type 0 where
  pub from : ℕ
  pub to : ℕ
  pub weight : ℕ

-- ---- the table of some joins

-- the weight of the join from zone i to zone j, 0 where no join goes there
unfoldable pub join_weight : List Join → ℕ → ℕ → ℕ
join_weight [] i j = 0
join_weight (join ∷ joins) i j = cond (eqb join.from i && eqb join.to j) join.weight (join_weight joins i j)

-- the weights of some joins between n zones, a row of n for each zone
abbrev pub weights_of : ℕ → List Join → List ℕ
weights_of n joins = table_rows (join_weight joins) n n

-- ---- the joins of a table

-- of the weights from place p on, row by row: one for each weight above 0
unfoldable pub joins_from : ℕ → ℕ → List ℕ → List Join
joins_from n p [] = []
joins_from n p (zero ∷ weights) = joins_from n (p + 1) weights
joins_from n p (suc w ∷ weights) = record { from = p / n; to = p % n; weight = suc w } ∷ joins_from n (p + 1) weights

abbrev pub joins_of : ℕ → List ℕ → List Join
joins_of n weights = joins_from n 0 weights

-- ---- what is refused of joins, in the reader

-- one join comes after another: strictly rising by from, then to
abbrev pub comes_after : Join → Join → Bool
comes_after earlier later =
    ltb earlier.from later.from || (eqb earlier.from later.from && ltb earlier.to later.to)

-- the k-th join does not come after the one before it; the first has none before it
abbrev pub not_rising : (ℕ → Join) → ℕ → Bool
not_rising join zero = false
not_rising join (suc k) = not (comes_after (join k) (join (suc k)))

-- of the k-th join: 16 for its ends, 5, 16 for order, 4
unfoldable pub join_rules : ℕ → (ℕ → Join) → ℕ → List Rule
join_rules n join k =
    (not (ltb (join k).from n && ltb (join k).to n), 16)
    ∷ (eqb (join k).from (join k).to, 5)
    ∷ (not_rising join k, 16)
    ∷ (outside 1 9 (join k).weight, 4)
    ∷ []

-- ---- what is refused of a table of weights, in the writer

-- of the weight at place p, from zone p / n to zone p % n: 5 before 4
unfoldable pub weight_rules : ℕ → List ℕ → ℕ → List Rule
weight_rules n weights p =
    (ltb 0 (get_or weights p 0) && eqb (p / n) (p % n), 5) ∷ (ltb 9 (get_or weights p 0), 4) ∷ []
