-- The size of a finite sum, sharper where a term is 0 and over the pairs i < j; sums of terms that are not below 0. Assumes nothing.
use mathlib.Core.Path.{◌≡◌, refl, sym, ap, ◌∙◌}
use Prim.Native.Nat.{ℕ, zero, suc, ◌+◌, ◌*◌, ◌≤◌, ◌<◌}
use native.Mathlib.Decide.{ℕ_discrete}
use native.Mathlib.Omega.{arith}
use lib.IntN.{ℤ, pos, nat_abs, ◌+ℤ◌}
use Rattle.whole.specs.Sum.{sum}
use Rattle.whole.proofs.Size.{size_+, +_above, zero_of_size}

-- n terms of at most b
pub sum_size : (f : ℕ → ℤ) (n b : ℕ) → ((k : ℕ) → k < n → nat_abs (f k) ≤ b) → nat_abs (sum f n) ≤ n * b
unfolding sum
sum_size f zero b h = omega arith
sum_size f (suc n) b h = omega (arith, sum_size f n b (λ k p. h k (omega arith)), h n (omega arith), size_+ (sum f n) (f n))

-- one of which is 0
pub sum_size_but : (f : ℕ → ℤ) (n b i : ℕ) → i < n → f i ≡ pos 0 → ((k : ℕ) → k < n → nat_abs (f k) ≤ b) → nat_abs (sum f n) + b ≤ n * b
unfolding sum
sum_size_but f zero b i p e h = let x : ⊥ = omega arith in absurd x
sum_size_but f (suc n) b i p e h = pick (ℕ_discrete i n) (λ (q : i < n). sum_size_but f n b i q e (λ k r. h k (omega arith)))
  where
    pick : Dec (i ≡ n) → (i < n → nat_abs (sum f n) + b ≤ n * b) → nat_abs (sum f n +ℤ f n) + b ≤ suc n * b
    pick (yes q) g = omega (arith, size_+ (sum f n) (f n), ap nat_abs (ap f (sym q) ∙ e), sum_size f n b (λ k r. h k (omega arith)))
    pick (no q) g = omega (arith, size_+ (sum f n) (f n), h n (omega arith), g (omega arith))

-- the k-th at most k × b, as the sum over i < k of terms of at most b is: n (n − 1) / 2 of them
pub sum_size_pairs : (f : ℕ → ℤ) (n b : ℕ) → ((k : ℕ) → k < n → nat_abs (f k) ≤ k * b) → 2 * nat_abs (sum f n) + n * b ≤ n * n * b
unfolding sum
sum_size_pairs f zero b h = omega arith
sum_size_pairs f (suc n) b h = omega (arith, sum_size_pairs f n b (λ k r. h k (omega arith)), h n (omega arith), size_+ (sum f n) (f n))

-- ---- terms that are not below 0
pub sum_above : (f : ℕ → ℤ) (n : ℕ) → ((k : ℕ) → k < n → f k ≡ pos (nat_abs (f k))) → sum f n ≡ pos (nat_abs (sum f n))
unfolding sum
sum_above f zero h = refl
sum_above f (suc n) h = +_above (sum f n) (f n) (sum_above f n (λ k p. h k (omega arith))) (h n (omega arith))

-- such a sum is 0 only where every term is
pub terms_zero : (f : ℕ → ℤ) (n : ℕ) → ((k : ℕ) → k < n → f k ≡ pos (nat_abs (f k))) → sum f n ≡ pos 0 → (k : ℕ) → k < n → f k ≡ pos 0
unfolding sum
terms_zero f zero h e k p = let x : ⊥ = omega arith in absurd x
terms_zero f (suc n) h e k p =
    pick (ℕ_discrete k n) (λ (q : k < n). terms_zero f n (λ k r. h k (omega arith)) (zero_of_size (sum f n) both.0) k q)
  where
    joined : (a b : ℤ) → a ≡ pos (nat_abs a) → b ≡ pos (nat_abs b) → a +ℤ b ≡ pos (nat_abs a + nat_abs b)
    joined a b p q = ap (λ x. x +ℤ b) p ∙ ap (λ x. pos (nat_abs a) +ℤ x) q

    parts : (a b : ℤ) → a ≡ pos (nat_abs a) → b ≡ pos (nat_abs b) → a +ℤ b ≡ pos 0 → (nat_abs a ≡ 0) × (nat_abs b ≡ 0)
    parts a b p q e = let s : nat_abs a + nat_abs b ≡ 0 = ap nat_abs (sym (joined a b p q) ∙ e) in (omega arith, omega arith)

    both : (nat_abs (sum f n) ≡ 0) × (nat_abs (f n) ≡ 0)
    both = parts (sum f n) (f n) (sum_above f n (λ k r. h k (omega arith))) (h n (omega arith)) e

    pick : Dec (k ≡ n) → (k < n → f k ≡ pos 0) → f k ≡ pos 0
    pick (yes q) g = ap f q ∙ zero_of_size (f n) both.1
    pick (no q) g = g (omega arith)
