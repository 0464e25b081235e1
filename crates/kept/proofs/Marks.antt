-- The marks of the columns that hold weight: the row of a zone, one more row that is marked, and a kept zone by its row and its column.
-- Assumes nothing.
use mathlib.Core.Path.{◌≡◌, refl, sym, ap, ◌∙◌}
use mathlib.Core.Bool.{Bool, true, false, cond, ◌||◌}
use mathlib.Core.List.{List}
use Prim.Native.Nat.{ℕ, zero, suc, ◌+◌, ◌*◌, ◌≤◌, ◌<◌}
use native.Mathlib.Nat as N
use native.Mathlib.Omega.{arith}
use lib.Dec.{ltb}
use lib.ListN.{length, get_or, take, drop, length-drop}
use lib.Seq.{get_or-take, get_or-drop, length-take-le}
use Rattle.whole.specs.Search.{some, any_above}
use Rattle.whole.specs.Table.{table, pair_at}
use Rattle.whole.proofs.Search.{some_next, some_cong}
use Rattle.whole.proofs.Table.{table_length, table_held, table_cong}
use Rattle.kept.specs.Kept.{keeps}
use Rattle.kept.specs.Steps.{column_mark}

-- ---- places of a row
pub row_end : (n i : ℕ) → i < n → i * n + n ≤ n * n
row_end n i h = omega (arith, N.mul-le-mul_right n h)

-- ---- the row of zone i, taken out of the weights
module _ (n : ℕ) (weights : List ℕ) (i : ℕ) where
  abbrev row : List ℕ
  row = take n (drop (i * n) weights)

  pub row_long : i * n + n ≤ length weights → length row ≡ n
  row_long room = length-take-le n (drop (i * n) weights) (omega (arith, length-drop (i * n) weights))

  pub row_at : (j : ℕ) → j < n → get_or row j 0 ≡ pair_at weights n i j
  unfolding pair_at
  row_at j h = get_or-take n (drop (i * n) weights) j 0 h ∙ get_or-drop (i * n) weights j 0

-- ---- one more row: a column that holds weight there is marked, and the others stay as they were
pub marked_next :
    (n : ℕ) (weights : List ℕ) (i : ℕ) (part marks : List ℕ) → part ≡ take n (drop (i * n) weights) →
    marks ≡ table (column_mark n weights i) n →
    table (λ j. cond (ltb 0 (get_or part j 0)) 1 (get_or marks j 0)) (length marks) ≡ table (column_mark n weights (i + 1)) n
marked_next n weights i part marks p m =
    ap (table (λ j. cond (ltb 0 (get_or part j 0)) 1 (get_or marks j 0))) (ap length m ∙ table_length _ n)
    ∙ table_cong _ _ n 0
    (λ j h.
    let test : ℕ → Bool = λ i. ltb 0 (pair_at weights n i j) in
    ap (λ v. cond (ltb 0 v) 1 (get_or marks j 0)) (ap (λ l. get_or l j 0) p ∙ row_at n weights i j h)
    ∙ ap (cond (test i) 1) (table_held (column_mark n weights i) n 0 marks m j h)
    ∙ go (test i) (some test i)
    ∙ ap (λ b. cond b 1 0) (sym (some_next test i)))
  where
    go : (b c : Bool) → ◌≡◌ {A = ℕ} (cond b 1 (cond c 1 0)) (cond (c || b) 1 0)
    go true true = refl
    go true false = refl
    go false true = refl
    go false false = refl

-- ---- some number passes one test or another
some_either : (a b : ℕ → Bool) (n : ℕ) → some (λ k. a k || b k) n ≡ (some a n || some b n)
unfolding some
some_either a b zero = refl
some_either a b (suc n) = ap (λ t. t || (a n || b n)) (some_either a b n) ∙ four (some a n) (some b n) (a n) (b n)
  where
    four : (p q r s : Bool) → ((p || q) || (r || s)) ≡ ((p || r) || (q || s))
    four true q r s = refl
    four false true true s = refl
    four false true false s = refl
    four false false r s = refl

-- ---- a zone is kept where its column is marked, and else where its row holds weight
module _ (n : ℕ) (weights : List ℕ) (i : ℕ) where
  abbrev column : Bool
  column = some (λ j. ltb 0 (pair_at weights n j i)) n

  by_both : keeps n weights i ≡ (some (λ j. ltb 0 (pair_at weights n i j)) n || column)
  unfolding keeps
  by_both = some_either (λ j. ltb 0 (pair_at weights n i j)) (λ j. ltb 0 (pair_at weights n j i)) n

  pub by_column : 0 < column_mark n weights n i → true ≡ keeps n weights i
  by_column h = sym (by_both ∙ go column (some (λ j. ltb 0 (pair_at weights n i j)) n) h)
    where
      go : (c r : Bool) → 0 < cond c 1 0 → (r || c) ≡ true
      go true true p = refl
      go true false p = refl
      go false r p = let z : ⊥ = omega arith in absurd z

  pub by_row :
      (part : List ℕ) → part ≡ take n (drop (i * n) weights) → i * n + n ≤ length weights → column_mark n weights n i ≤ 0 →
      any_above 0 part ≡ keeps n weights i
  unfolding any_above
  by_row part e room h =
      ap (λ l. some (λ k. ltb 0 (get_or l k 0)) (length l)) e ∙ ap (some held) (row_long n weights i room) ∙ same ∙ sym (by_both ∙ go column _ h)
    where
      held : ℕ → Bool
      held k = ltb 0 (get_or (row n weights i) k 0)

      same : some held n ≡ some (λ j. ltb 0 (pair_at weights n i j)) n
      same = some_cong held _ n (λ k p. ap (ltb 0) (row_at n weights i k p))

      go : (c r : Bool) → cond c 1 0 ≤ 0 → (r || c) ≡ r
      go true r p = let z : ⊥ = omega arith in absurd z
      go false true p = refl
      go false false p = refl
