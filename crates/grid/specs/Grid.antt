-- The grid network: r rows by c columns, zones row by row; weight 1 from each zone to those that a move of the kind leads to.
-- Assumes nothing.
use Rattle.std.specs.Prelude.{cond, List, [], ◌∷◌, ℕ, ◌*◌, length}
use Rattle.whole.specs.Rules.{Rule, first_broken, size_rules, unless_refused}
use Rattle.whole.specs.Table.{table_rows}
use Rattle.grid.specs.Moves.{steps_of, any_leads}
use Rattle.grid.specs.declared.Move.{Move}

-- the weight of zones i and j
unfoldable pub grid_weight : Move → ℕ → ℕ → ℕ → ℕ
grid_weight kind columns i j = cond (any_leads columns i j (steps_of kind)) 1 0

-- the network: a row of weights for each of the r × c zones
unfoldable pub grid_network : ℕ → ℕ → Move → List ℕ
grid_network rows columns kind = table_rows (grid_weight kind columns) (rows * columns) (rows * columns)

-- 1 and 2, where `room` places are lent: r × c outside 2 to 64, and the list not of its exact length
abbrev pub grid_rules : ℕ → ℕ → ℕ → List Rule
grid_rules rows columns room = size_rules (rows * columns) ((room, (rows * columns) * (rows * columns)) ∷ [])

-- the refusal, 0 where no rule is broken
unfoldable pub grid_refusal : ℕ → ℕ → ℕ → ℕ
grid_refusal rows columns room = first_broken (grid_rules rows columns room)

-- what the lent list holds after the call
unfoldable pub grid_left : ℕ → ℕ → Move → List ℕ → List ℕ
grid_left rows columns kind weights =
    unless_refused (grid_refusal rows columns (length weights)) (grid_network rows columns kind) weights
