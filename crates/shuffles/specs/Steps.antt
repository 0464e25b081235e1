-- What functions ask of a list of shuffles before they read a row of it; no part of the public promise. Assumes nothing.
use Rattle.std.specs.Prelude.{◌≡◌, Bool, true, false, List, ℕ, ◌+◌, ◌*◌, ◌≤◌, ◌<◌, length}
use Rattle.whole.specs.Order.{lacks}
use Rattle.whole.specs.Table.{pair_at}

-- the list has a row r of n numbers
pub record Row (shuffles : List ℕ) (n r : ℕ) : Type 0 where
  pub zones : n ≤ 64
  pub early : r < 499
  pub there : r * n + n ≤ length shuffles

-- which is a shuffle of the zones
pub record Shuffle (shuffles : List ℕ) (n r : ℕ) : Type 0 where
  pub row : Row shuffles n r
  pub full : lacks (pair_at shuffles n r) n ≡ false

-- the list is so many shuffles
pub record Shuffles (shuffles : List ℕ) (n rows : ℕ) : Type 0 where
  pub zones : n ≤ 64
  pub few : rows ≤ 499
  pub count : length shuffles ≡ rows * n
  pub full : (r : ℕ) → r < rows → lacks (pair_at shuffles n r) n ≡ false

-- the mark of a number: 1 where it is named
abbrev pub mark_of : Bool → ℕ
mark_of true = 1
mark_of false = 0
