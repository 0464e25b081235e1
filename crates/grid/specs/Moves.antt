-- The moves on a grid: row and column steps, rook four, bishop four, queen all eight. Assumes nothing.
use Rattle.std.specs.Prelude.{Bool, ◌&&◌, List, [], ◌∷◌, ◌++◌, ℕ, ◌/◌, ◌%◌, ℤ, pos, negsuc, ◌+ℤ◌, length, get_or}
use Rattle.whole.specs.Integer.{equal}
use Rattle.whole.specs.Search.{some}
use Rattle.grid.specs.declared.Move.{Move}
use Rattle.grid.specs.declared.Move.TheVariants.{Rook, Bishop, Queen}

-- a row step and a column step; `negsuc 0` is -1
abbrev pub Step : Type 0
Step = ℤ × ℤ

abbrev pub rook_steps : List Step
rook_steps = (negsuc 0, pos 0) ∷ (pos 1, pos 0) ∷ (pos 0, negsuc 0) ∷ (pos 0, pos 1) ∷ []

abbrev pub bishop_steps : List Step
bishop_steps = (negsuc 0, negsuc 0) ∷ (pos 1, pos 1) ∷ (negsuc 0, pos 1) ∷ (pos 1, negsuc 0) ∷ []

-- the steps of each kind of move
abbrev pub steps_of : Move → List Step
steps_of Rook = rook_steps
steps_of Bishop = bishop_steps
steps_of Queen = rook_steps ++ bishop_steps

-- ---- zones row by row: the row and the column of a zone, where a row has so many columns
unfoldable pub grid_row : ℕ → ℕ → ℕ
grid_row columns i = i / columns

unfoldable pub grid_column : ℕ → ℕ → ℕ
grid_column columns i = i % columns

-- a step leads from zone i to zone j
unfoldable pub leads : ℕ → ℕ → ℕ → Step → Bool
leads columns i j step =
    equal (pos (grid_row columns i) +ℤ step.0) (pos (grid_row columns j))
    && equal (pos (grid_column columns i) +ℤ step.1) (pos (grid_column columns j))

-- some step of the list does
unfoldable pub any_leads : ℕ → ℕ → ℕ → List Step → Bool
any_leads columns i j steps = some (λ k. leads columns i j (get_or steps k (pos 0, pos 0))) (length steps)
