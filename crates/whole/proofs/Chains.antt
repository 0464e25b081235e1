-- What the library's methods find or count of a list, as a search of its places. Assumes nothing.
use mathlib.Core.Path.{◌≡◌, refl, sym, ap, subst, ◌∙◌}
use mathlib.Core.Bool.{Bool, true, false, cond, ◌||◌}
use mathlib.Core.Logic.{⊎_elim}
use mathlib.Core.List.{List, [], ◌∷◌}
use Prim.Native.Nat.{ℕ, zero, suc, ◌+◌, ◌≤◌, ◌<◌}
use native.Mathlib.Nat as N
use native.Mathlib.Numerals.{add-one}
use native.Mathlib.Omega.{arith}
use lib.ListN.{length, get_or, take}
use lib.Seq.{take_all}
use Rattle.std.specs.Iterator.Runs.{Run}
use Rattle.std.specs.List.{fold, list_any, count_by, filter, range_with_len}
use Rattle.std.specs.Option.{IfSome, IsSomeAnd}
use Rattle.std.specs.Prelude.{Option, Some}
use Rattle.std.proofs.Math.Bool.{or_assoc, or-false}
use Rattle.std.proofs.iter.runs.Made.{at-is}
use Rattle.std.proofs.lemmas.List.Folds.{list_any_more}
use Rattle.std.proofs.lemmas.List.FromFn.{length-range_with_len, get_or-range_with_len}
use Rattle.std.proofs.lemmas.Option.{slice_get_cases}
use Rattle.std.proofs.lemmas.List.Sums.{count_by_more_yes, count_by_more_no, length-filter}
use Rattle.whole.specs.Search.{some, count}
use Rattle.whole.proofs.Counting.{count_cong}

module _ {A : Type 0} (test : A → Bool) (items : List A) (d : A) where
  abbrev passes : ℕ → Bool
  passes k = test (get_or items k d)

  -- of the first i
  pub any_front : (i : ℕ) → i ≤ length items → list_any test (take i items) ≡ some passes i
  unfolding some
  any_front zero h = refl
  any_front (suc i) h =
      ap (λ k. list_any test (take k items)) (sym (add-one i))
      ∙ list_any_more test items i d (omega arith)
      ∙ ap (λ t. t || passes i) (any_front i (omega arith))

  count_front : (i : ℕ) → i ≤ length items → count_by test (take i items) ≡ count passes i
  unfolding count
  count_front zero h = refl
  count_front (suc i) h =
      ap (λ k. count_by test (take k items)) (sym (add-one i)) ∙ go (passes i) refl (count_front i (omega arith))
    where
      go :
          (b : Bool) → passes i ≡ b → count_by test (take i items) ≡ count passes i →
          count_by test (take (i + 1) items) ≡ count passes i + cond (passes i) 1 0
      go true e g = count_by_more_yes test items i d (omega arith) e ∙ rw e (ap (λ c. c + 1) g)
      go false e g = count_by_more_no test items i d (omega arith) e ∙ rw e (g ∙ sym (N.add-zero (count passes i)))

  -- of all
  pub any_some : list_any test items ≡ some (λ k. test (get_or items k d)) (length items)
  any_some = ap (list_any test) (sym (take_all (length items) items (omega arith))) ∙ any_front (length items) (omega arith)

  pub counted : count_by test items ≡ count (λ k. test (get_or items k d)) (length items)
  counted = ap (count_by test) (sym (take_all (length items) items (omega arith))) ∙ count_front (length items) (omega arith)

-- of the numbers below n
pub range_counted : (test : ℕ → Bool) (n : ℕ) → length (filter test (range_with_len 0 n)) ≡ count test n
range_counted test n =
    length-filter test (range_with_len 0 n)
    ∙ counted test (range_with_len 0 n) 0
    ∙ ap (count (λ k. test (get_or (range_with_len 0 n) k 0))) (length-range_with_len 0 n)
    ∙ count_cong _ test n (λ k h. ap test (get_or-range_with_len 0 n k 0 h ∙ N.zero-add k))

-- ---- by a method that is not left at the first find
from_found : {A : Type 0} (test : A → Bool) (found : Bool) (list : List A) → fold (λ b x. b || test x) found list ≡ (found || list_any test list)
from_found test found [] = sym (or-false found)
from_found test found (x ∷ xs) = from_found test (found || test x) xs ∙ or_assoc found (test x) (list_any test xs)

pub folded_some : {A : Type 0} (test : A → Bool) (list : List A) (d : A) →
    fold (λ b x. b || test x) false list ≡ some (λ k. test (get_or list k d)) (length list)
folded_some test list d = from_found test false list ∙ any_some test list d

-- ---- a chain that is searched gave an item at each place before its end
pub item_there : {S A : Type 0} {steps : S → Option A → S → Type 0} (run : Run steps) (k : ℕ) → k < run.len → (x : A) × (run.at k ≡ Some x)
item_there run k h =
    ⊎_elim (λ w. (w.0, at-is run k ∙ w.2)) (λ w. let z : ⊥ = omega (arith, run.long, w.0, h) in absurd z) (slice_get_cases run.items k).1

-- and what is said of the item there, or of one that is there, holds of it
pub said : {A : Type 0} {o : Option A} (P : A → Type 0) {x : A} → IfSome o P → o ≡ Some x → P x
said P h e = subst (λ o. IfSome o P) e h

pub found : {A : Type 0} {o : Option A} (P : A → Type 0) {x : A} → IsSomeAnd o P → o ≡ Some x → P x
found P h e = subst (λ o. IsSomeAnd o P) e h
