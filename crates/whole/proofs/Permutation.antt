-- A row of n numbers below n, no two of them equal, has each number below n once, and a sum over it is the sum over those numbers.
-- Assumes nothing.
use mathlib.Core.Path.{◌≡◌, refl, sym, ap, ◌∙◌}
use mathlib.Core.Bool.{Bool, true, false, not, cond}
use Prim.Native.Nat.{ℕ, ◌≤◌, ◌<◌}
use native.Mathlib.Nat as N
use native.Mathlib.Decide.{ℕ_discrete}
use native.Mathlib.Omega.{arith}
use borrow.Author.Tests.{eq-eqb, ne_eqb, eqb-true, not-false}
use lib.Dec.{eqb}
use lib.IntN.{ℤ, pos, nat_abs}
use Rattle.whole.specs.Search.{some, first}
use Rattle.whole.specs.Sum.{sum}
use Rattle.whole.specs.Order.{lacks}
use Rattle.whole.proofs.Sum.{sum_cong, sum_const, sum_none, sum_swap, sum_pick}
use Rattle.whole.proofs.SumSize.{sum_size_but}
use Rattle.whole.proofs.Search.{some_none, none_some, some_found, some_witness}
use Rattle.whole.proofs.Counting.{first_below, first_passes}

-- f takes the numbers below n to the numbers below n, and g takes them back
pub record Permutation (f g : ℕ → ℕ) (n : ℕ) : Type 0 where
  pub into : (i : ℕ) → i < n → f i < n
  pub back : (k : ℕ) → k < n → g k < n
  pub there : (i : ℕ) → i < n → g (f i) ≡ i
  pub here : (k : ℕ) → k < n → f (g k) ≡ k

-- where a number stands in a row
abbrev pub stands : (ℕ → ℕ) → ℕ → ℕ → ℕ
stands f n k = first (λ i. eqb (f i) k) n

-- ---- a number that is in the row, and one that is not

-- a sum over the row in which only k counts, which stands at s and nowhere else
sum_at :
    (f : ℕ → ℕ) (n k s : ℕ) (h : ℕ → ℤ) → s < n → f s ≡ k → ((i : ℕ) → i < n → f i ≡ k → s ≡ i) →
    sum (λ i. cond (eqb (f i) k) (h (f i)) (pos 0)) n ≡ h k
sum_at f n k s h p e only =
    sum_cong (λ i. cond (eqb (f i) k) (h (f i)) (pos 0)) (λ i. cond (eqb s i) (h k) (pos 0)) n (λ i q. pick i q (ℕ_discrete s i))
    ∙ sum_pick s n (h k) p
  where
    pick : (i : ℕ) → i < n → Dec (s ≡ i) → cond (eqb (f i) k) (h (f i)) (pos 0) ≡ cond (eqb s i) (h k) (pos 0)
    pick i q (yes r) = let g = ap f (sym r) ∙ e in rw (eq-eqb s i r, eq-eqb (f i) k g) (ap h g)
    pick i q (no r) = rw (ne_eqb s i r, ne_eqb (f i) k (λ g. r (only i q g))) refl

module _ (f : ℕ → ℕ) (n : ℕ) where
  -- k is in the row
  abbrev among : ℕ → Bool
  among k = some (λ i. eqb (f i) k) n

  -- where it is, it stands where `stands` says
  stands_there : (k : ℕ) → among k ≡ true → (stands f n k < n) × (f (stands f n k) ≡ k)
  stands_there k e =
      let test : ℕ → Bool = λ i. eqb (f i) k in
      let w = some_witness test n e in
      (first_below test n w.0 w.1 w.2, eqb-true (f (stands f n k)) k (first_passes test n w.0 w.1 w.2))

  -- 1 where f i is k, else 0
  abbrev hit : ℕ → ℕ → ℤ
  hit i k = cond (eqb (f i) k) (pos 1) (pos 0)

  -- how often k is in the row
  abbrev column : ℕ → ℤ
  column k = sum (λ i. hit i k) n

  -- not at all, where it is not among them
  column_none : (k : ℕ) → among k ≡ false → column k ≡ pos 0
  column_none k e =
      sum_cong (λ i. hit i k) (λ i. pos 0) n (λ i p. rw (some_none (λ j. eqb (f j) k) n i e p) refl) ∙ sum_none n

  module _ (into : (i : ℕ) → i < n → f i < n) (apart : (i j : ℕ) → i < n → j < n → f i ≡ f j → i ≡ j) where
    -- once, where it is
    column_one : (k : ℕ) → among k ≡ true → column k ≡ pos 1
    column_one k e =
        let g = stands_there k e in
        sum_at f n k (stands f n k) (λ i. pos 1) g.0 g.1 (λ i p r. apart (stands f n k) i g.0 p (g.1 ∙ sym r))

    -- at most once
    column_size : (k : ℕ) → nat_abs (column k) ≤ 1
    column_size k = go (among k) refl
      where
        go : (b : Bool) → among k ≡ b → nat_abs (column k) ≤ 1
        go true e = rw (column_one k e) (omega arith)
        go false e = rw (column_none k e) (omega arith)

    -- n in all
    columns : sum column n ≡ pos n
    columns =
        sym (sum_swap hit n n)
        ∙ sum_cong (λ i. sum (λ k. hit i k) n) (λ i. pos 1) n (λ i p. sum_pick (f i) n (pos 1) (into i p))
        ∙ sum_const (pos 1) n
        ∙ ap pos (N.mul-one n)

    -- each number below n is in the row
    all_among : (k : ℕ) → k < n → among k ≡ true
    all_among k p = go (among k) refl
      where
        go : (b : Bool) → among k ≡ b → b ≡ true
        go true e = refl
        go false e =
            let h = sum_size_but column n 1 k p (column_none k e) (λ i q. column_size i) in
            let z : ⊥ = omega (arith, h, ap nat_abs columns) in absurd z

-- no two of n numbers below n are equal: each number below n is among them (the pigeonhole)
pub distinct :
    (f : ℕ → ℕ) (n : ℕ) → ((i : ℕ) → i < n → f i < n) → ((i j : ℕ) → i < n → j < n → f i ≡ f j → i ≡ j) →
    Permutation f (stands f n) n
distinct f n into apart =
    let found : (k : ℕ) → k < n → (stands f n k < n) × (f (stands f n k) ≡ k) = λ k p. stands_there f n k (all_among f n into apart k p) in
    record {
      into = into;
      back = λ k p. (found k p).0;
      there = λ i p. let g = found (f i) (into i p) in apart (stands f n (f i)) i g.0 p g.1;
      here = λ k p. (found k p).1;
    }

-- where none is lacking each stands somewhere
stands_somewhere : (f : ℕ → ℕ) (n : ℕ) → lacks f n ≡ false → (k : ℕ) → k < n → (stands f n k < n) × (f (stands f n k) ≡ k)
unfolding lacks
stands_somewhere f n e k p = stands_there f n k (not-false (among f n k) (some_none (λ j. not (among f n j)) n k e p))

-- none is lacking
pub full : (f : ℕ → ℕ) (n : ℕ) → lacks f n ≡ false → Permutation f (stands f n) n
full f n e =
    record {
      into = λ i p. omega (arith, row i p, s.back i p);
      back = λ k p. (found k p).0;
      there = λ i p. ap g (row i p) ∙ s.here i p;
      here = λ k p. (found k p).1;
    }
  where
    g : ℕ → ℕ
    g = stands f n

    found : (k : ℕ) → k < n → (g k < n) × (f (g k) ≡ k)
    found = stands_somewhere f n e

    s : Permutation g (stands g n) n
    s = distinct g n (λ k p. (found k p).0) (λ j k p q r. sym (found j p).1 ∙ ap f r ∙ (found k q).1)

    row : (i : ℕ) → i < n → f i ≡ stands g n i
    row i p = ap f (sym (s.here i p)) ∙ (found (stands g n i) (s.back i p)).1

pub none_lacking : (f g : ℕ → ℕ) (n : ℕ) → Permutation f g n → lacks f n ≡ false
unfolding lacks
none_lacking f g n s =
    none_some (λ k. not (some (λ i. eqb (f i) k) n)) n
    (λ k p. ap not (sym (some_found (λ i. eqb (f i) k) n (g k) (s.back k p) (eq-eqb (f (g k)) k (s.here k p)))))

-- ---- a sum over the row
pub permuted_sum : (f g : ℕ → ℕ) (n : ℕ) → Permutation f g n → (h : ℕ → ℤ) → sum (λ i. h (f i)) n ≡ sum h n
permuted_sum f g n s h =
    sum_cong (λ i. h (f i)) (λ i. sum (λ k. term i k) n) n (λ i p. sym (sum_pick (f i) n (h (f i)) (s.into i p)))
    ∙ sum_swap term n n
    ∙ sum_cong (λ k. sum (λ i. term i k) n) h n
    (λ k p. sum_at f n k (g k) h (s.back k p) (s.here k p) (λ i q r. ap g (sym r) ∙ s.there i q))
  where
    term : ℕ → ℕ → ℤ
    term i k = cond (eqb (f i) k) (h (f i)) (pos 0)
