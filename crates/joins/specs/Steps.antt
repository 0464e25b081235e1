-- What the private functions ask of each other; no part of the public promise. Assumes nothing.
use Rattle.std.specs.Prelude.{◌≡◌, cond, List, ℕ, ◌+◌, ◌*◌, ◌/◌, ◌%◌, ◌≤◌, ◌<◌, eqb, ℤ, pos, length, get_or}
use Rattle.whole.specs.Sum.{sum}
use Rattle.whole.specs.Table.{at}
use Rattle.joins.specs.Joins.{category_at}

module _ (n : ℕ) (categories weights : List ℕ) where
  -- the entry of the p-th weight, by the categories of its two zones
  abbrev pub entry_of : ℕ → ℕ
  entry_of p = category_at categories (p / n) * 8 + category_at categories (p % n)

  -- what the p-th weight adds to entry t
  abbrev pub adds : ℕ → ℕ → ℤ
  adds t p = pos (cond (eqb (entry_of p) t) (get_or weights p 0) 0)

  -- the first p weights are counted
  pub record Counted (entries : List ℤ) (p : ℕ) : Type 0 where
    pub passed : p ≤ n * n
    pub count : length entries ≡ 64
    pub holds : (t : ℕ) → t < 64 → at entries t ≡ sum (adds t) p
