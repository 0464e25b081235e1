-- Laws of `some`, as a searching loop uses them. Assumes nothing.
use mathlib.Core.Path.{◌≡◌, refl, sym, ap, ◌∙◌}
use mathlib.Core.Bool.{Bool, true, false, false≢true, ◌||◌, or-false}
use mathlib.Core.List.{List}
use Prim.Native.Nat.{ℕ, zero, suc, ◌+◌, ◌≤◌, ◌<◌}
use native.Mathlib.Numerals.{add-one}
use native.Mathlib.Decide.{ℕ_discrete}
use native.Mathlib.Omega.{arith}
use borrow.Author.Tests.{le-ltb, ltb-false}
use lib.Dec.{ltb}
use lib.IntN.{ℤ, nat_abs}
use lib.ListN.{length, get_or}
use Rattle.whole.specs.Search.{some, any_beyond, any_above}
use Rattle.whole.specs.Table.{at}
use Rattle.whole.proofs.Rules.{beside}

module _ (test : ℕ → Bool) where
  -- before the first
  pub some_zero : some test 0 ≡ false
  unfolding some
  some_zero = refl

  -- one more, as a loop looks at it
  pub some_next : (n : ℕ) → some test (n + 1) ≡ (some test n || test n)
  unfolding some
  some_next n = ap (some test) (add-one n)

  -- none so far, and not here
  pub some_more : (n : ℕ) → some test n ≡ false → test n ≡ false → some test (n + 1) ≡ false
  some_more n p q = some_next n ∙ rw (p, q) refl

  -- not here: the answer stays
  pub some_same : (n : ℕ) → test n ≡ false → some test n ≡ some test (n + 1)
  some_same n e = sym (some_next n ∙ rw e (or-false (some test n)))

  -- one that passes
  some_hit : (n k : ℕ) → k < n → test k ≡ true → some test n ≡ true
  unfolding some
  some_hit zero k h e = let z : ⊥ = omega arith in absurd z
  some_hit (suc n) k h e = pick (ℕ_discrete k n) (λ (q : k < n). some_hit n k q e)
    where
      pick : Dec (k ≡ n) → (k < n → some test n ≡ true) → (some test n || test n) ≡ true
      pick (yes p) g = beside (some test n) (test n) (ap test (sym p) ∙ e)
      pick (no p) g = rw (g (omega arith)) refl

  -- none passes
  pub some_none : (n k : ℕ) → some test n ≡ false → k < n → test k ≡ false
  some_none n k p h = go (test k) refl
    where
      go : (b : Bool) → test k ≡ b → b ≡ false
      go false e = refl
      go true e = sym (some_hit n k h e) ∙ p

  -- and where none does, that is found
  pub none_some : (n : ℕ) → ((k : ℕ) → k < n → test k ≡ false) → some test n ≡ false
  unfolding some
  none_some zero h = refl
  none_some (suc n) h = rw (none_some n (λ k p. h k (omega arith)), h n (omega arith)) refl

  -- a loop that has found one, and one that has passed all n
  pub some_found : (n k : ℕ) → k < n → test k ≡ true → true ≡ some test n
  some_found n k h e = sym (some_hit n k h e)

  pub some_done : (i n : ℕ) → i ≡ n → some test i ≡ false → false ≡ some test n
  some_done i n l e = sym (ap (some test) (sym l) ∙ e)

-- where some number below n passes a test, here is one
pub some_witness : (test : ℕ → Bool) (n : ℕ) → some test n ≡ true → (k : ℕ) × (k < n) × (test k ≡ true)
unfolding some
some_witness test zero e = absurd (false≢true e)
some_witness test (suc n) e = go (some test n) refl e (some_witness test n)
  where
    go :
        (b : Bool) → some test n ≡ b → (b || test n) ≡ true → (some test n ≡ true → (k : ℕ) × (k < n) × (test k ≡ true)) →
        (k : ℕ) × (k < suc n) × (test k ≡ true)
    go true p q g = let w = g p in (w.0, omega (arith, w.1), w.2)
    go false p q g = (n, omega arith, q)

pub some_cong : (a b : ℕ → Bool) (n : ℕ) → ((k : ℕ) → k < n → a k ≡ b k) → some a n ≡ some b n
unfolding some
some_cong a b zero h = refl
some_cong a b (suc n) h = rw (some_cong a b n (λ k p. h k (omega arith)), h n (omega arith)) refl

-- ---- where no number of a list is beyond the limit, and where none is above it
pub none_beyond :
    (limit : ℕ) (numbers : List ℤ) → any_beyond limit numbers ≡ false → (k : ℕ) → k < length numbers → nat_abs (at numbers k) ≤ limit
unfolding any_beyond
none_beyond limit numbers e k h =
    ltb-false limit (nat_abs (at numbers k)) (some_none (λ k. ltb limit (nat_abs (at numbers k))) (length numbers) k e h)

pub none_above : (limit : ℕ) (numbers : List ℕ) → any_above limit numbers ≡ false → (k : ℕ) → k < length numbers → get_or numbers k 0 ≤ limit
unfolding any_above
none_above limit numbers e k h = ltb-false limit (get_or numbers k 0) (some_none (λ k. ltb limit (get_or numbers k 0)) (length numbers) k e h)

pub all_within :
    (limit : ℕ) (numbers : List ℕ) → ((k : ℕ) → k < length numbers → get_or numbers k 0 ≤ limit) → any_above limit numbers ≡ false
unfolding any_above
all_within limit numbers h = none_some (λ k. ltb limit (get_or numbers k 0)) (length numbers) (λ k p. le-ltb limit (get_or numbers k 0) (h k p))
