-- Laws of `count` and of `first`. Assumes nothing.
use mathlib.Core.Path.{◌≡◌, refl, sym, ap, ◌∙◌}
use mathlib.Core.Bool.{Bool, true, false, cond}
use Prim.Native.Nat.{ℕ, zero, suc, ◌+◌, ◌≤◌, ◌<◌}
use native.Mathlib.Nat as N
use native.Mathlib.Numerals.{add-one}
use native.Mathlib.Decide.{ℕ_discrete}
use native.Mathlib.Omega.{arith}
use Rattle.whole.specs.Search.{some, count, first}
use Rattle.whole.proofs.Search.{some_none}

-- what one number adds to a count is 0 or 1
at_most_one : (b : Bool) → cond b 1 0 ≤ 1
at_most_one true = omega arith
at_most_one false = omega arith

-- where a test is passed whenever another is, it adds no less to its count
adds_less : (a b : Bool) → (a ≡ true → b ≡ true) → cond {A = ℕ} a 1 0 ≤ cond b 1 0
adds_less true b h = rw (h refl) (omega arith)
adds_less false b h = omega arith

-- where one below n passes, the first that does is below n and passes
first_found : (test : ℕ → Bool) (n k : ℕ) → k < n → test k ≡ true → (first test n < n) × (test (first test n) ≡ true)
unfolding first
first_found test zero k h e = let z : ⊥ = omega arith in absurd z
first_found test (suc n) zero h e = rw e (omega arith, e)
first_found test (suc n) (suc k) h e = go (test 0) refl (first_found (λ i. test (suc i)) n k (omega arith) e)
  where
    go :
        (b : Bool) → test 0 ≡ b → (first (λ i. test (suc i)) n < n) × (test (suc (first (λ i. test (suc i)) n)) ≡ true) →
        (cond b 0 (suc (first (λ i. test (suc i)) n)) < suc n) × (test (cond b 0 (suc (first (λ i. test (suc i)) n))) ≡ true)
    go true p g = (omega arith, p)
    go false p g = (omega (arith, g.0), g.1)

-- the first that passes is k, where none before k does and k does
first_here : (test : ℕ → Bool) (n k : ℕ) → k < n → ((i : ℕ) → i < k → test i ≡ false) → test k ≡ true → first test n ≡ k
unfolding first
first_here test zero k h f e = let z : ⊥ = omega arith in absurd z
first_here test (suc n) zero h f e = rw e refl
first_here test (suc n) (suc k) h f e =
    rw (f 0 (omega arith)) (ap suc (first_here (λ i. test (suc i)) n k (omega arith) (λ i p. f (suc i) (omega arith)) e))

-- it is n, where none below n does
first_past : (test : ℕ → Bool) (n : ℕ) → ((i : ℕ) → i < n → test i ≡ false) → first test n ≡ n
unfolding first
first_past test zero f = refl
first_past test (suc n) f = rw (f 0 (omega arith)) (ap suc (first_past (λ i. test (suc i)) n (λ i p. f (suc i) (omega arith))))

module _ (test : ℕ → Bool) where
  pub count_zero : count test 0 ≡ 0
  unfolding count
  count_zero = refl

  count_more : (n : ℕ) → count test (n + 1) ≡ count test n + cond (test n) 1 0
  unfolding count
  count_more n = ap (count test) (add-one n)

  -- a loop that counts has met one that passes, and one that does not
  pub count_yes : (n c : ℕ) → c ≡ count test n → test n ≡ true → c + 1 ≡ count test (n + 1)
  count_yes n c e t = ap (λ k. k + 1) e ∙ sym (count_more n ∙ rw t refl)

  pub count_no : (n c : ℕ) → c ≡ count test n → test n ≡ false → c ≡ count test (n + 1)
  count_no n c e t = e ∙ sym (count_more n ∙ rw t (N.add-zero (count test n)))

  pub count_le : (n : ℕ) → count test n ≤ n
  unfolding count
  count_le zero = omega arith
  count_le (suc n) = omega (arith, count_le n, at_most_one (test n))

  -- the first that passes does pass, where one below n does
  pub first_below : (n k : ℕ) → k < n → test k ≡ true → first test n < n
  first_below n k h e = (first_found test n k h e).0

  pub first_passes : (n k : ℕ) → k < n → test k ≡ true → test (first test n) ≡ true
  first_passes n k h e = (first_found test n k h e).1

  -- a loop that looks for the first has met it at k, and one that has passed all n has met none
  pub first_is : (n k : ℕ) → k < n → some test k ≡ false → test k ≡ true → first test n ≡ k
  first_is n k h p e = first_here test n k h (λ i q. some_none test k i p q) e

  pub none_first : (n : ℕ) → some test n ≡ false → first test n ≡ n
  none_first n p = first_past test n (λ i q. some_none test n i p q)

pub count_cong : (a b : ℕ → Bool) (n : ℕ) → ((k : ℕ) → k < n → a k ≡ b k) → count a n ≡ count b n
unfolding count
count_cong a b zero h = refl
count_cong a b (suc n) h = rw (count_cong a b n (λ k p. h k (omega arith)), h n (omega arith)) refl

-- whatever passes a passes b
count_no_more : (a b : ℕ → Bool) (n : ℕ) → ((i : ℕ) → i < n → a i ≡ true → b i ≡ true) → count a n ≤ count b n
unfolding count
count_no_more a b zero h = omega arith
count_no_more a b (suc n) h =
    omega (arith, count_no_more a b n (λ i p. h i (omega arith)), adds_less (a n) (b n) (h n (omega arith)))

-- whatever passes a passes b, and one passes b alone
pub count_less :
    (a b : ℕ → Bool) (n k : ℕ) → ((i : ℕ) → i < n → a i ≡ true → b i ≡ true) → k < n → a k ≡ false → b k ≡ true → count a n < count b n
unfolding count
count_less a b zero k h p q r = let z : ⊥ = omega arith in absurd z
count_less a b (suc n) k h p q r =
    pick (ℕ_discrete k n) (λ (l : k < n). count_less a b n k (λ i s. h i (omega arith)) l q r)
  where
    pick : Dec (k ≡ n) → (k < n → count a n < count b n) → count a n + cond (a n) 1 0 < count b n + cond (b n) 1 0
    pick (yes e) g =
        rw (ap a (sym e) ∙ q, ap b (sym e) ∙ r) (omega (arith, count_no_more a b n (λ i s. h i (omega arith))))
    pick (no e) g = omega (arith, g (omega arith), adds_less (a n) (b n) (h n (omega arith)))

-- three tests of which each number passes one
pub count_three :
    (a b c : ℕ → Bool) (n : ℕ) → ((k : ℕ) → k < n → cond (a k) 1 0 + cond (b k) 1 0 + cond (c k) 1 0 ≡ 1) →
    count a n + count b n + count c n ≡ n
unfolding count
count_three a b c zero h = omega arith
count_three a b c (suc n) h = omega (arith, count_three a b c n (λ k p. h k (omega arith)), h n (omega arith))
