-- The weights of a class, and the 27 sums of the nine classes by their places. Assumes nothing.
use mathlib.Core.Path.{◌≡◌, refl, sym, ap, ◌∙◌, subst}
use mathlib.Core.Bool.{Bool, true, false, cond}
use mathlib.Core.List.{List}
use Prim.Native.Nat.{ℕ, zero, suc, ◌+◌, ◌*◌, ◌/◌, ◌%◌, ◌≤◌, ◌<◌}
use native.Mathlib.Nat as N
use native.Mathlib.Decide.{ℕ_discrete}
use native.Mathlib.Omega.{arith}
use borrow.Author.Tests.{eq-eqb, ne_eqb}
use lib.Dec.{eqb}
use lib.IntN.{ℤ, pos, nat_abs, ◌+ℤ◌, +ℤ_idr}
use lib.ListN.{length, set, length-set}
use lib.Seq.{get_or-set_same, get_or-set_other}
use Rattle.whole.specs.Table.{table_rows, at, pair_at}
use Rattle.whole.proofs.TableRows.{split, rows_length, rows_at, rows_each, rows_flat}
use Rattle.account.specs.Classes.{class_weight, sum_at}
use Rattle.account.specs.Steps.{Sized, row_added}
use Rattle.account.specs.declared.ClassRow.{ClassRow}

-- ---- a weight that counts in a class is no more than the weight itself
part_le : (b : Bool) (v m : ℕ) → v ≤ m → cond b v 0 ≤ m
part_le true v m h = h
part_le false v m h = omega arith

pub class_le : (weights classes : List ℕ) (n k i j m : ℕ) → pair_at weights n i j ≤ m → class_weight weights classes n k i j ≤ m
unfolding class_weight
class_le weights classes n k i j m h = part_le (eqb (pair_at classes n i j) k) (pair_at weights n i j) m h

-- ---- a list of m rows of n by the places of its rows
pub by_places :
    (f : ℕ → ℕ → ℤ) (m n : ℕ) (l : List ℤ) → length l ≡ m * n →
    ((k i : ℕ) → k < m → i < n → at l (k * n + i) ≡ f k i) → l ≡ table_rows f m n
by_places f m n l e h =
    rows_flat f m n (pos 0) l e
    (λ p q. let s = split m n p q in ap (at l) (sym s.whole) ∙ h (p / n) (p % n) s.row s.column)

-- ---- the three sums of the nine classes
module _ (f : ℕ → ℕ → ℤ) (l : List ℤ) (e : l ≡ table_rows f 9 3) where
  pub sums_at : (k s : ℕ) → k < 9 → s < 3 → at l (k * 3 + s) ≡ f k s
  sums_at k s h p = ap (λ t. at t (k * 3 + s)) e ∙ rows_at f 9 3 k s (pos 0) h p

  pub sums_sized : (b : ℕ) → ((k s : ℕ) → k < 9 → s < 3 → nat_abs (f k s) ≤ b) → Sized b l 27
  sums_sized b h = record {
    count = ap length e ∙ rows_length f 9 3;
    size = λ t p. subst (λ m. nat_abs (at m t) ≤ b) (sym e) (rows_each f (λ z. nat_abs z ≤ b) 9 3 (pos 0) h t p);
  }

  pub sums_alike : (g : ℕ → ℕ → ℤ) → ((k s : ℕ) → k < 9 → s < 3 → f k s ≡ g k s) → l ≡ table_rows g 9 3
  sums_alike g h = by_places g 9 3 l (ap length e ∙ rows_length f 9 3) (λ k s p q. sums_at k s p q ∙ h k s p q)

  -- a row is added to that of class k
  pub row_more :
      (g : ℕ → ℕ → ℤ) (k : ℕ) (row : ClassRow) (out : List ℤ) → out ≡ row_added l k row.weight row.cross row.squares →
      ((q s : ℕ) → q < 9 → f q s +ℤ cond (eqb k q) (sum_at row s) (pos 0) ≡ g q s) → out ≡ table_rows g 9 3
  unfolding row_added
  row_more g k row out r h =
      by_places g 9 3 out (ap length r ∙ rows_length _ 9 3)
      (λ q s p t. ap (λ o. at o (q * 3 + s)) r ∙ rows_at _ 9 3 q s (pos 0) p t
      ∙ ap (λ z. z +ℤ cond (eqb k q) (sum_at row s) (pos 0)) (sums_at q s p t)
      ∙ h q s p)

-- ---- three stores, each of a sum and what is added to it
module _
    (l : List ℤ) (k : ℕ) (row : ClassRow) (a b c : ℤ) (fit : length l ≡ 27) (h : k < 9)
    (first : a ≡ at l (k * 3) +ℤ row.weight) (second : b ≡ at l (k * 3 + 1) +ℤ row.cross)
    (third : c ≡ at l (k * 3 + 2) +ℤ row.squares) where
  abbrev one : List ℤ
  one = set l (k * 3) a

  abbrev two : List ℤ
  two = set one (k * 3 + 1) b

  abbrev three : List ℤ
  three = set two (k * 3 + 2) c

  one_length : length one ≡ 27
  one_length = length-set l (k * 3) a ∙ fit

  two_length : length two ≡ 27
  two_length = length-set one (k * 3 + 1) b ∙ one_length

  three_length : length three ≡ 27
  three_length = length-set two (k * 3 + 2) c ∙ two_length

  own : (s : ℕ) → s < 3 → at three (k * 3 + s) ≡ at l (k * 3 + s) +ℤ sum_at row s
  own zero q =
      rw (N.add-zero (k * 3))
      (get_or-set_other two (k * 3 + 2) (k * 3) c (pos 0) (λ e. omega arith)
      ∙ get_or-set_other one (k * 3 + 1) (k * 3) b (pos 0) (λ e. omega arith)
      ∙ get_or-set_same l (k * 3) a (pos 0) (omega (arith, fit))
      ∙ first)
  own (suc zero) q =
      get_or-set_other two (k * 3 + 2) (k * 3 + 1) c (pos 0) (λ e. omega arith)
      ∙ get_or-set_same one (k * 3 + 1) b (pos 0) (omega (arith, one_length))
      ∙ second
  own (suc (suc zero)) q = get_or-set_same two (k * 3 + 2) c (pos 0) (omega (arith, two_length)) ∙ third
  own (suc (suc (suc s))) q = let x : ⊥ = omega arith in absurd x

  others : (q s : ℕ) → (q ≡ k → ⊥) → s < 3 → at three (q * 3 + s) ≡ at l (q * 3 + s)
  others q s f t =
      get_or-set_other two (k * 3 + 2) (q * 3 + s) c (pos 0) (λ e. f (omega arith))
      ∙ get_or-set_other one (k * 3 + 1) (q * 3 + s) b (pos 0) (λ e. f (omega arith))
      ∙ get_or-set_other l (k * 3) (q * 3 + s) a (pos 0) (λ e. f (omega arith))

  pub row_stored : three ≡ row_added l k row.weight row.cross row.squares
  unfolding row_added
  row_stored = by_places _ 9 3 three three_length (λ q s p t. pick q s t (ℕ_discrete q k))
    where
      pick :
          (q s : ℕ) → s < 3 → Dec (q ≡ k) → at three (q * 3 + s) ≡ at l (q * 3 + s) +ℤ cond (eqb k q) (sum_at row s) (pos 0)
      pick q s t (yes e) = rw (e, eq-eqb k k refl) (own s t)
      pick q s t (no f) = rw (ne_eqb k q (λ e. f (sym e)), +ℤ_idr (at l (q * 3 + s))) (others q s f t)
