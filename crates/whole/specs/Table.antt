-- A list by its places. Assumes nothing.
use Rattle.std.specs.Prelude.{List, [], ◌∷◌, ◌++◌, ℕ, zero, suc, ◌+◌, ◌*◌, ℤ, pos, length, get_or, drop}

-- the list f 0, f 1, .., f (n − 1)
unfoldable pub table : {A : Type 0} → (ℕ → A) → ℕ → List A
table f zero = []
table f (suc n) = f zero ∷ table (λ k. f (suc k)) n

-- m rows of n, one after the other: row k is f k 0, f k 1, .., f k (n − 1)
unfoldable pub table_rows : {A : Type 0} → (ℕ → ℕ → A) → ℕ → ℕ → List A
table_rows f zero n = []
table_rows f (suc m) n = table_rows f m n ++ table (f m) n

-- the k-th number of a list
abbrev pub at : List ℤ → ℕ → ℤ
at numbers k = get_or numbers k (pos 0)

-- what a list that has a row of n for each i holds of the ordered pair (i,j)
unfoldable pub pair_at : List ℕ → ℕ → ℕ → ℕ → ℕ
pair_at numbers n i j = get_or numbers (i * n + j) 0

-- the bytes of each item, one after the other
unfoldable pub each : {A : Type 0} → (A → List ℕ) → List A → List ℕ
each bytes [] = []
each bytes (item ∷ more) = bytes item ++ each bytes more

-- a list written over the front of another, whose further entries keep what they held
abbrev pub over : {A : Type 0} → List A → List A → List A
over new old = new ++ drop (length new) old
