-- Laws of `table_rows`, and of a loop that writes it row by row, each row through a part that was lent. Assumes nothing.
use mathlib.Core.Path.{◌≡◌, sym, ap, ◌∙◌, subst}
use mathlib.Core.List.{List, ◌++◌, append_assoc}
use Prim.Native.Nat.{ℕ, zero, suc, ◌+◌, ◌*◌, ◌-◌, ◌/◌, ◌%◌, ◌≤◌, ◌<◌, zero-le}
use native.Mathlib.Nat as N
use native.Mathlib.Decide.{ℕ_discrete}
use native.Mathlib.Numerals.{add-one}
use native.Mathlib.Omega.{arith}
use borrow.Rule.Slice.PartMut.{put_mid, mid_len, same_len_mid}
use lib.ListN.{length, get_or, set, take, length-append, length-set, get_or-append}
use lib.Seq.{take_at, take_all, length-take-le, get_or-append-add, ext_get_or}
use Rattle.whole.specs.Table.{table, table_rows}
use Rattle.whole.proofs.Table.{table_length, table_at, stored}

-- ---- the place p of a list of m rows of n: it lies in row p / n, at column p % n
pub record Split (m n p : ℕ) : Type 0 where
  pub row : p / n < m
  pub column : p % n < n
  pub whole : p / n * n + p % n ≡ p

-- where there is a place there is a column
pub some_columns : (m n p : ℕ) → p < m * n → 0 < n
some_columns m zero p h = let z : ⊥ = omega (arith, N.mul-zero m) in absurd z
some_columns m (suc n) p h = omega arith

pub split : (m n p : ℕ) → p < m * n → Split m n p
split m n p h =
    let some : 0 < n = some_columns m n p h in
    record { row = (N.div-lt_iff_lt-mul {k = n} {x = p} {y = m} some).1 h; column = N.mod-lt p some; whole = N.div-add-mod' p n }

module _ {A : Type 0} (f : ℕ → ℕ → A) where
  pub rows_length : (m n : ℕ) → length (table_rows f m n) ≡ m * n
  unfolding table_rows
  rows_length zero n = omega arith
  rows_length (suc m) n = omega (arith, length-append (table_rows f m n) (table (f m) n), rows_length m n, table_length (f m) n)

  -- the i-th of row k
  pub rows_at : (m n k i : ℕ) (d : A) → k < m → i < n → get_or (table_rows f m n) (k * n + i) d ≡ f k i
  unfolding table_rows
  rows_at zero n k i d h p = let z : ⊥ = omega arith in absurd z
  rows_at (suc m) n k i d h p = pick (ℕ_discrete k m) (λ (q : k < m). rows_at m n k i d q p)
    where
      before : (k m : ℕ) → k < suc m → (k ≡ m → ⊥) → k + 1 ≤ m
      before k m h q = omega arith

      pick :
          Dec (k ≡ m) → (k < m → get_or (table_rows f m n) (k * n + i) d ≡ f k i) →
          get_or (table_rows f m n ++ table (f m) n) (k * n + i) d ≡ f k i
      pick (yes q) g =
          rw q
          (ap (λ t. get_or (table_rows f m n ++ table (f m) n) (t + i) d) (sym (rows_length m n))
          ∙ get_or-append-add (table_rows f m n) (table (f m) n) i d
          ∙ table_at (f m) n i d p)
      pick (no q) g =
          get_or-append (table_rows f m n) (table (f m) n) d (k * n + i)
          (omega (arith, rows_length m n, N.mul-le-mul_right n (before k m h q)))
          ∙ g (omega arith)

  -- the p-th of the whole list
  pub rows_place : (m n p : ℕ) (d : A) → p < m * n → get_or (table_rows f m n) p d ≡ f (p / n) (p % n)
  rows_place m n p d h =
      let s = split m n p h in
      ap (λ t. get_or (table_rows f m n) t d) (sym s.whole) ∙ rows_at m n (p / n) (p % n) d s.row s.column

  -- what holds of every entry holds of every place
  pub rows_each :
      (P : A → Type 0) (m n : ℕ) (d : A) → ((k i : ℕ) → k < m → i < n → P (f k i)) → (t : ℕ) → t < m * n →
      P (get_or (table_rows f m n) t d)
  rows_each P m n d h t p =
      let s = split m n t p in
      subst P (sym (rows_place m n t d p)) (h (t / n) (t % n) s.row s.column)

  -- ---- place after place: a list that holds each entry at its place is the table
  pub rows_flat :
      (m n : ℕ) (d : A) (l : List A) → length l ≡ m * n → ((p : ℕ) → p < m * n → get_or l p d ≡ f (p / n) (p % n)) → l ≡ table_rows f m n
  rows_flat m n d l e h =
      ext_get_or d l (table_rows f m n) (e ∙ sym (rows_length m n))
      (λ p q. h p (omega arith) ∙ sym (rows_place m n p d (omega arith)))

  -- the first p places are written
  pub record Filled (m n : ℕ) (d : A) (l : List A) (p : ℕ) : Type 0 where
    pub passed : p ≤ m * n
    pub count : length l ≡ m * n
    pub holds : (q : ℕ) → q < p → get_or l q d ≡ f (q / n) (q % n)

  -- none is, then one more, then all are
  pub filled_none : (m n : ℕ) (d : A) (l : List A) → length l ≡ m * n → Filled m n d l 0
  filled_none m n d l e = record { passed = zero-le; count = e; holds = λ q h. let z : ⊥ = omega arith in absurd z }

  pub filled_next :
      (m n : ℕ) (d : A) (l : List A) (p : ℕ) (v : A) → Filled m n d l p → p < m * n → v ≡ f (p / n) (p % n) →
      Filled m n d (set l p v) (p + 1)
  filled_next m n d l p v so h e = record {
    passed = omega arith;
    count = length-set l p v ∙ so.count;
    holds = stored (λ q. f (q / n) (q % n)) d v l p (omega (arith, so.count)) e so.holds;
  }

  pub filled_all : (m n : ℕ) (d : A) (l : List A) (p : ℕ) → Filled m n d l p → m * n ≤ p → l ≡ table_rows f m n
  filled_all m n d l p so h = rows_flat m n d l so.count (λ q k. so.holds q (omega arith))

  -- ---- the first rows are written
  pub rows_none : (n : ℕ) (l : List A) → take (0 * n) l ≡ table_rows f 0 n
  unfolding table_rows
  rows_none n l = ap (λ m. take m l) (N.zero-mul n)

  rows_more : (n m : ℕ) → table_rows f (m + 1) n ≡ table_rows f m n ++ table (f m) n
  unfolding table_rows
  rows_more n m = ap (λ t. table_rows f t n) (add-one m)

  -- one more row: the part from k n to k n + n has come back with it
  module _
      (n k : ℕ) (l part : List A) (room : k * n + n ≤ length l)
      (so_far : take (k * n) l ≡ table_rows f k n) (row : part ≡ table (f k) n) where
    part_length : length part ≡ n
    part_length = ap length row ∙ table_length (f k) n

    pub row_length : length (put_mid (k * n) (k * n + n - k * n) l part) ≡ length l
    row_length = same_len_mid (k * n) (k * n + n - k * n) l part (part_length ∙ sym (mid_len (k * n) (k * n + n) l room ∙ omega arith))

    pub row_written : take ((k + 1) * n) (put_mid (k * n) (k * n + n - k * n) l part) ≡ table_rows f (k + 1) n
    row_written =
        ap (λ z. take ((k + 1) * n) z) (sym (append_assoc (take (k * n) l) part _))
        ∙ take_at (take (k * n) l ++ part) _ ((k + 1) * n)
        (omega (arith, length-append (take (k * n) l) part, length-take-le (k * n) l (omega arith), part_length))
        ∙ ap (λ z. z ++ part) so_far
        ∙ ap (λ z. table_rows f k n ++ z) row
        ∙ sym (rows_more n k)

  -- all m rows are written
  pub rows_done : (n m k : ℕ) (l : List A) → k ≡ m → length l ≡ m * n → take (k * n) l ≡ table_rows f k n → l ≡ table_rows f m n
  rows_done n m k l e h g =
      sym (take_all (k * n) l (omega (arith, h, ap (λ t. t * n) e))) ∙ g ∙ ap (λ t. table_rows f t n) e

-- rows with the same entries are the same list
pub rows_cong :
    {A : Type 0} (f g : ℕ → ℕ → A) (m n : ℕ) (d : A) → ((k i : ℕ) → k < m → i < n → f k i ≡ g k i) → table_rows f m n ≡ table_rows g m n
rows_cong f g m n d h =
    rows_flat g m n d (table_rows f m n) (rows_length f m n)
    (λ p q. let s = split m n p q in rows_place f m n p d q ∙ h (p / n) (p % n) s.row s.column)
