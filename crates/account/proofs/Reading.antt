-- From the lists that the code reads to the measures. Assumes nothing.
use mathlib.Core.Path.{◌≡◌, refl, sym, ap, ◌∙◌, subst}
use mathlib.Core.Bool.{Bool, true, false, not}
use mathlib.Core.List.{List}
use Prim.Native.Nat.{ℕ, zero, suc, ◌+◌, ◌*◌, ◌≤◌, ◌<◌}
use native.Mathlib.Nat as N
use native.Mathlib.Numerals.{add-one}
use native.Mathlib.Omega.{arith}
use borrow.Author.Tests.{ne_eqb}
use lib.Dec.{T, ltb, ltb→lt}
use lib.IntN.{ℤ, pos, nat_abs, ◌+ℤ◌, ◌-ℤ◌}
use lib.ListN.{length, get_or, take}
use lib.Seq.{take_all}
use mir.Syntax.{w32}
use Rattle.std.specs.List.{sum_by}
use Rattle.std.proofs.lemmas.List.Sums.{sum_by_more}
use Rattle.whole.specs.Integer.{square, is_zero}
use Rattle.whole.specs.Search.{any_above}
use Rattle.whole.specs.Sum.{sum}
use Rattle.whole.specs.Table.{table, at, pair_at}
use Rattle.whole.proofs.Lists.{within}
use Rattle.whole.proofs.Machine.{Is, val, told, rd, r32}
use Rattle.whole.proofs.Search.{none_above, some_witness}
use Rattle.whole.proofs.Size.{zero_of_size}
use Rattle.whole.proofs.Sum.{sum_cong, sum_none, sum_rows}
use Rattle.whole.proofs.SumSize.{terms_zero}
use Rattle.whole.proofs.Table.{table_length, table_held}
use Rattle.account.specs.Measures.{row_of, pairs_of, weight_of}
use Rattle.account.specs.Steps.{Sized, Valued, Weighted}
use Rattle.account.proofs.Sizes.{square_size}

-- ---- a list that holds a table whose entries are small
pub table_sized : (b n : ℕ) (f : ℕ → ℤ) (l : List ℤ) → l ≡ table f n → ((k : ℕ) → k < n → nat_abs (f k) ≤ b) → Sized b l n
table_sized b n f l e h = record {
  count = ap length e ∙ table_length f n;
  size = λ k p. rw (table_held f n (pos 0) l e k p) (h k p);
}

-- ---- the values
module _ (values : List ℤ) (n : ℕ) (v : Valued values n) where
  -- as the machine reads one
  pub value_is : (k : ℕ) → k < n → Is (r32 (at values k)) (at values k) 100000
  value_is k h = rd w32 (val (at values k) 100000 (v.near.size k h)) tt

  -- the same widened by a call
  pub value_told : {y : ℤ} (k : ℕ) → k < n → y ≡ r32 (at values k) → Is y (at values k) 100000
  value_told k h e = told (at values k) 100000 (e ∙ (value_is k h).same) (v.near.size k h)

  pub read_le : (k : ℕ) → k < n → nat_abs (r32 (at values k)) ≤ 100000
  read_le k h = rw (value_is k h).same (v.near.size k h)

  -- what `squared_difference` answers of two
  pub difference_told :
      {y : ℤ} (i j : ℕ) → i < n → j < n → y ≡ square (r32 (at values i) -ℤ r32 (at values j)) →
      Is y (square (at values i -ℤ at values j)) 40000000000
  difference_told i j h k e =
      told (square (at values i -ℤ at values j)) 40000000000
      (e ∙ ap (λ z. square (z -ℤ r32 (at values j))) (value_is i h).same ∙ ap (λ z. square (at values i -ℤ z)) (value_is j k).same)
      (square_size (at values) n v.zones v.near.size i j h k)

-- ---- the sum of the front of a list, as std has it
pub front_sum : (l : List ℕ) (i : ℕ) → i ≤ length l → pos (sum_by (λ x. x) (take i l)) ≡ sum (λ k. pos (get_or l k 0)) i
unfolding sum
front_sum l zero h = refl
front_sum l (suc i) h =
    ap (λ m. pos (sum_by (λ x. x) (take m l))) (sym (add-one i))
    ∙ ap pos (sum_by_more (λ x. x) l i 0 (omega arith))
    ∙ ap (λ z. z +ℤ pos (get_or l i 0)) (front_sum l i (omega arith))

-- ---- the weights
module _ (weights : List ℕ) (n : ℕ) (w : Weighted weights n) where
  pub place : (i j : ℕ) → i < n → j < n → i * n + j < length weights
  place i j h k = omega (arith, within n i j h k, w.count)

  pub weight_le : (i j : ℕ) → i < n → j < n → pair_at weights n i j ≤ 9
  unfolding pair_at
  weight_le i j h k = w.light (i * n + j) (within n i j h k)

  -- there are up to 64 × 64 of them
  pub few_weights : length weights ≤ 4096
  few_weights = omega (arith, w.count, N.mul-le-mul w.zones w.zones)

  -- summed along the list they are W
  pub flat_weight : sum (λ k. pos (get_or weights k 0)) (n * n) ≡ weight_of (pair_at weights n) n
  unfolding weight_of pairs_of row_of pair_at
  flat_weight =
      sum_rows (λ k. pos (get_or weights k 0)) n n
      ∙ sum_cong _ _ n (λ i p. sum_cong _ _ n (λ j q. ap pos (sym (N.mul-one (get_or weights (i * n + j) 0)))))

  -- as std adds them
  pub added_weight : pos (sum_by (λ x. x) weights) ≡ weight_of (pair_at weights n) n
  added_weight =
      ap (λ t. pos (sum_by (λ x. x) t)) (sym (take_all (n * n) weights (omega (arith, w.count))))
      ∙ front_sum weights (n * n) (omega (arith, w.count))
      ∙ flat_weight

  -- and W is 0 exactly where none is above 0
  pub weightless : is_zero (weight_of (pair_at weights n) n) ≡ not (any_above 0 weights)
  unfolding any_above
  weightless = go (any_above 0 weights) refl
    where
      above : (k : ℕ) → k < n * n → pos (get_or weights k 0) ≡ pos (nat_abs (pos (get_or weights k 0)))
      above k h = refl

      go : (b : Bool) → any_above 0 weights ≡ b → is_zero (weight_of (pair_at weights n) n) ≡ not b
      go false e =
          let none : (k : ℕ) → k < n * n → pos (get_or weights k 0) ≡ pos 0 = λ k h.
          ap pos (let light = none_above 0 weights e k (omega (arith, w.count)) in omega arith) in
          ap is_zero (sym flat_weight ∙ sum_cong _ _ (n * n) none ∙ sum_none (n * n))
      go true e =
          let found = some_witness (λ k. ltb 0 (get_or weights k 0)) (length weights) e in
          let heavy = ltb→lt 0 (get_or weights found.0 0) (subst T (sym found.2) tt) in
          ne_eqb (nat_abs (weight_of (pair_at weights n) n)) 0
          (λ z. let zero = terms_zero (λ k. pos (get_or weights k 0)) (n * n) above (flat_weight ∙ zero_of_size _ z) found.0
          (omega (arith, found.1, w.count)) in
          let size : get_or weights found.0 0 ≡ 0 = ap nat_abs zero in
          omega (arith, heavy))
