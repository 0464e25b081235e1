-- Laws of `passing`, the numbers below n that pass a test, rising: how many they are, which number stands at a place and at which place a
-- number stands, a sum over them, and where all pass. Assumes nothing.
use mathlib.Core.Path.{◌≡◌, refl, sym, ap, ◌∙◌, subst}
use mathlib.Core.Bool.{Bool, true, false, cond, ◌&&◌}
use mathlib.Core.List.{List, [], ◌∷◌, ◌++◌, append-nil}
use Prim.Native.Nat.{ℕ, zero, suc, ◌+◌, ◌<◌}
use native.Mathlib.Nat as N
use native.Mathlib.Decide.{ℕ_discrete, dec_lt}
use native.Mathlib.Numerals.{add-one}
use native.Mathlib.Omega.{arith}
use lib.IntN.{ℤ, pos, nat_abs, ◌+ℤ◌, +ℤ_idr}
use lib.ListN.{length, get_or, length-append, get_or-append}
use lib.Seq.{get_or_at}
use Rattle.whole.specs.Search.{count}
use Rattle.whole.specs.Sum.{sum}
use Rattle.whole.proofs.Sum.{sum_cong, sum_const, sum_more}
use Rattle.kept.specs.Kept.{passing}

module _ (test : ℕ → Bool) where
  -- the k-th number that passes
  abbrev nth : ℕ → ℕ → ℕ
  nth n k = get_or (passing test n) k 0

  -- ---- one more number
  list_yes : (n : ℕ) → test n ≡ true → passing test (suc n) ≡ passing test n ++ (n ∷ [])
  unfolding passing
  list_yes n e = rw e refl

  list_no : (n : ℕ) → test n ≡ false → passing test (suc n) ≡ passing test n
  unfolding passing
  list_no n e = rw e (append-nil (passing test n))

  more_yes : (n : ℕ) → test n ≡ true → count test (suc n) ≡ count test n + 1
  unfolding count
  more_yes n e = rw e refl

  more_no : (n : ℕ) → test n ≡ false → count test (suc n) ≡ count test n
  unfolding count
  more_no n e = rw e (N.add-zero (count test n))

  -- the same as a loop meets it that has put those so far at the front of a list, and puts one more or none
  pub list_found : (n : ℕ) (l : List ℕ) → test n ≡ true → l ≡ passing test n ++ (n ∷ []) → l ≡ passing test (n + 1)
  list_found n l e f = f ∙ sym (list_yes n e) ∙ ap (passing test) (sym (add-one n))

  pub list_passed : (n : ℕ) (l : List ℕ) → test n ≡ false → l ≡ passing test n → l ≡ passing test (n + 1)
  list_passed n l e f = f ∙ sym (list_no n e) ∙ ap (passing test) (sym (add-one n))

  -- ---- how many
  pub passing_length : (n : ℕ) → length (passing test n) ≡ count test n
  unfolding passing count
  passing_length zero = refl
  passing_length (suc n) = length-append (passing test n) (cond (test n) (n ∷ []) []) ∙ rw (passing_length n, one (test n)) refl
    where
      one : (b : Bool) → length (cond b (n ∷ []) []) ≡ cond b 1 0
      one true = refl
      one false = refl

  -- the last one, and those before it
  nth_new : (n : ℕ) → test n ≡ true → nth (suc n) (count test n) ≡ n
  nth_new n e = ap (λ l. get_or l (count test n) 0) (list_yes n e) ∙ get_or_at (passing test n) n [] 0 (count test n) (passing_length n)

  nth_old : (n k : ℕ) → k < count test n → nth (suc n) k ≡ nth n k
  nth_old n k h = go (test n) refl
    where
      go : (b : Bool) → test n ≡ b → nth (suc n) k ≡ nth n k
      go true e =
          ap (λ l. get_or l k 0) (list_yes n e) ∙ get_or-append (passing test n) (n ∷ []) 0 k (omega (arith, passing_length n))
      go false e = ap (λ l. get_or l k 0) (list_no n e)

  -- fewer are before i than before n, where i passes and is below n
  pub place_below : (n i : ℕ) → i < n → test i ≡ true → count test i < count test n
  place_below zero i h e = let z : ⊥ = omega arith in absurd z
  place_below (suc n) i h e = go (ℕ_discrete i n) (test n) refl (λ (q : i < n). place_below n i q e)
    where
      go : Dec (i ≡ n) → (b : Bool) → test n ≡ b → (i < n → count test i < count test n) → count test i < count test (suc n)
      go (yes p) b f g = omega (arith, more_yes n (ap test (sym p) ∙ e), ap (count test) p)
      go (no p) true f g = omega (arith, more_yes n f, g (omega arith))
      go (no p) false f g = omega (arith, more_no n f, g (omega arith))

  -- ---- a number stands at the place that counts those before it
  pub nth_place : (n i : ℕ) → i < n → test i ≡ true → nth n (count test i) ≡ i
  nth_place zero i h e = let z : ⊥ = omega arith in absurd z
  nth_place (suc n) i h e = pick (ℕ_discrete i n) (λ (q : i < n). nth_place n i q e)
    where
      pick : Dec (i ≡ n) → (i < n → nth n (count test i) ≡ i) → nth (suc n) (count test i) ≡ i
      pick (yes p) g = ap (λ k. nth (suc n) (count test k)) p ∙ nth_new n (ap test (sym p) ∙ e) ∙ sym p
      pick (no p) g = nth_old n (count test i) (place_below n i (omega arith) e) ∙ g (omega arith)

  -- ---- the number at a place is below n, passes, and has so many before it
  pub record Stands (n k i : ℕ) : Type 0 where
    pub below : i < n
    pub passes : test i ≡ true
    pub before : count test i ≡ k

  pub nth_stands : (n k : ℕ) → k < count test n → Stands n k (nth n k)
  unfolding count
  nth_stands zero k h = let z : ⊥ = omega arith in absurd z
  nth_stands (suc n) k h = go (test n) refl (dec_lt k (count test n)) (λ (q : k < count test n). nth_stands n k q)
    where
      old : k < count test n → Stands n k (nth n k) → Stands (suc n) k (nth (suc n) k)
      old q s =
          subst (λ i. Stands (suc n) k i) (sym (nth_old n k q))
          (record { below = omega (arith, s.below); passes = s.passes; before = s.before })

      go :
          (b : Bool) → test n ≡ b → Dec (k < count test n) → (k < count test n → Stands n k (nth n k)) →
          Stands (suc n) k (nth (suc n) k)
      go b e (yes q) g = old q (g q)
      go true e (no q) g =
          let p : count test n ≡ k = omega (arith, h, more_yes n e) in
          subst (λ i. Stands (suc n) k i) (sym (nth_new n e) ∙ ap (nth (suc n)) p)
          (record { below = omega arith; passes = e; before = p })
      go false e (no q) g = let z : ⊥ = omega (arith, h, more_no n e) in absurd z

  -- ---- a sum over those that pass is a sum over all, in which those that do not count as 0
  pub passing_sum : (h : ℕ → ℤ) (n : ℕ) → sum (λ k. h (nth n k)) (count test n) ≡ sum (λ i. cond (test i) (h i) (pos 0)) n
  unfolding sum count
  passing_sum h zero = refl
  passing_sum h (suc n) = go (test n) refl (passing_sum h n)
    where
      old : sum (λ k. h (nth (suc n) k)) (count test n) ≡ sum (λ k. h (nth n k)) (count test n)
      old = sum_cong _ _ (count test n) (λ k p. ap h (nth_old n k p))

      go :
          (b : Bool) → test n ≡ b → sum (λ k. h (nth n k)) (count test n) ≡ sum (λ i. cond (test i) (h i) (pos 0)) n →
          sum (λ k. h (nth (suc n) k)) (count test (suc n)) ≡ sum (λ i. cond (test i) (h i) (pos 0)) n +ℤ cond (test n) (h n) (pos 0)
      go true e g =
          ap (sum (λ k. h (nth (suc n) k))) (more_yes n e)
          ∙ sum_more (λ k. h (nth (suc n) k)) (count test n)
          ∙ ap (λ z. z +ℤ h (nth (suc n) (count test n))) (old ∙ g)
          ∙ rw (e, nth_new n e) refl
      go false e g =
          ap (sum (λ k. h (nth (suc n) k))) (more_no n e) ∙ old ∙ g ∙ rw e (sym (+ℤ_idr (sum (λ i. cond (test i) (h i) (pos 0)) n)))

  -- the same, where what does not pass is 0 anyway
  pub passing_sum_all :
      (h : ℕ → ℤ) (n : ℕ) → ((i : ℕ) → i < n → test i ≡ false → h i ≡ pos 0) → sum (λ k. h (nth n k)) (count test n) ≡ sum h n
  passing_sum_all h n none = passing_sum h n ∙ sum_cong _ _ n (λ i p. go (test i) refl (none i p))
    where
      go : {i : ℕ} (b : Bool) → test i ≡ b → (test i ≡ false → h i ≡ pos 0) → cond (test i) (h i) (pos 0) ≡ h i
      go true e g = rw e refl
      go false e g = rw e (sym (g e))

  -- ---- where all pass, each stands at its own place
  pub all_pass : (n : ℕ) → ((i : ℕ) → i < n → test i ≡ true) → count test n ≡ n
  unfolding count
  all_pass zero h = refl
  all_pass (suc n) h = rw (all_pass n (λ i p. h i (omega arith)), h n (omega arith)) (omega arith)

  pub own_place : (n : ℕ) → ((i : ℕ) → i < n → test i ≡ true) → (k : ℕ) → k < n → nth n k ≡ k
  own_place n h k p = ap (nth n) (sym (all_pass k (λ i q. h i (omega arith)))) ∙ nth_place n k p (h k p)

-- two tests that agree below n are passed by the same numbers
pub passing_cong : (a b : ℕ → Bool) (n : ℕ) → ((k : ℕ) → k < n → a k ≡ b k) → passing a n ≡ passing b n
unfolding passing
passing_cong a b zero h = refl
passing_cong a b (suc n) h = rw (passing_cong a b n (λ k p. h k (omega arith)), h n (omega arith)) refl

-- where none passes
pub passing_none : (test : ℕ → Bool) (n : ℕ) → ((i : ℕ) → i < n → test i ≡ false) → passing test n ≡ []
unfolding passing
passing_none test zero h = refl
passing_none test (suc n) h = rw (passing_none test n (λ i p. h i (omega arith)), h n (omega arith)) refl

-- a count is a sum of ones
pub count_ones : (test : ℕ → Bool) (n : ℕ) → pos (count test n) ≡ sum (λ i. cond (test i) (pos 1) (pos 0)) n
count_ones test n =
    sym (sum_const (pos 1) (count test n) ∙ ap pos (N.mul-one (count test n))) ∙ passing_sum test (λ i. pos 1) n

-- of those that pass as many pass a further test as pass both
pub passing_count :
    (test further : ℕ → Bool) (n : ℕ) →
    count (λ k. further (get_or (passing test n) k 0)) (count test n) ≡ count (λ i. test i && further i) n
passing_count test further n =
    ap nat_abs
    (count_ones (λ k. further (get_or (passing test n) k 0)) (count test n)
    ∙ passing_sum test (λ i. cond (further i) (pos 1) (pos 0)) n
    ∙ sum_cong _ _ n (λ i p. both (test i) (further i))
    ∙ sym (count_ones (λ i. test i && further i) n))
  where
    both : (a b : Bool) → cond a (cond b (pos 1) (pos 0)) (pos 0) ≡ cond (a && b) (pos 1) (pos 0)
    both true b = refl
    both false b = refl
