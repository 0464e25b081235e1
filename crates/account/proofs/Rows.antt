-- A row of a list that has one row of n after another, lent as a part of it. Assumes nothing.
use mathlib.Core.Path.{◌≡◌, ap, ◌∙◌}
use mathlib.Core.List.{List}
use Prim.Native.Nat.{ℕ, ◌+◌, ◌*◌, ◌-◌, ◌≤◌, ◌<◌}
use native.Mathlib.Omega.{arith}
use lib.ListN.{length, get_or, take, drop}
use Rattle.std.proofs.lemmas.List.Edits.{length-between, get_or-between}
use Rattle.kept.proofs.Marks.{row_end}

module _ {A : Type 0} (l : List A) (n i : ℕ) where
  -- row i
  abbrev pub row : List A
  row = take (i * n + n - i * n) (drop (i * n) l)

  -- which lies in a list of n rows
  pub row_in : length l ≡ n * n → i < n → i * n + n ≤ length l
  row_in count h = omega (arith, row_end n i h, count)

  module _ (there : i * n + n ≤ length l) where
    pub row_length : length row ≡ n
    row_length = length-between l (i * n) (i * n + n) there ∙ omega arith

    pub row_at : (j : ℕ) (d : A) → j < n → get_or row j d ≡ get_or l (i * n + j) d
    row_at j d p = get_or-between l (i * n) (i * n + n) j d (omega arith)

-- the same as a call has cut it out
module _ {A : Type 0} (l : List A) (n i : ℕ) (there : i * n + n ≤ length l) (part : List A) (e : part ≡ take n (drop (i * n) l)) where
  pub is_row : part ≡ row l n i
  is_row = e ∙ ap (λ m. take m (drop (i * n) l)) (omega arith)

  pub part_length : length part ≡ n
  part_length = ap length is_row ∙ row_length l n i there

  pub part_at : (j : ℕ) (d : A) → j < n → get_or part j d ≡ get_or l (i * n + j) d
  part_at j d p = ap (λ t. get_or t j d) is_row ∙ row_at l n i there j d p
