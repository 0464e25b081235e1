-- The numbers of document 01's causes of refusal that the reader and the writer can give. Assumes nothing.
use Rattle.std.specs.Prelude.{Bool, false, ◌||◌, List, [], ◌∷◌, ℕ, eqb}

-- a number is one of a list
abbrev pub among : ℕ → List ℕ → Bool
among number [] = false
among number (one ∷ others) = eqb number one || among number others

abbrev pub reader_numbers : List ℕ
reader_numbers = 1 ∷ 2 ∷ 3 ∷ 4 ∷ 5 ∷ 6 ∷ 7 ∷ 8 ∷ 10 ∷ 11 ∷ 12 ∷ 13 ∷ 14 ∷ 15 ∷ 16 ∷ 17 ∷ []

abbrev pub writer_numbers : List ℕ
writer_numbers = 1 ∷ 2 ∷ 3 ∷ 4 ∷ 5 ∷ 6 ∷ 7 ∷ 8 ∷ 10 ∷ 11 ∷ 12 ∷ 13 ∷ 15 ∷ 19 ∷ []
