-- Two integers compared: one of less, equal and greater holds. Assumes nothing.
use mathlib.Core.Path.{◌≡◌, refl, sym, ap, ◌∙◌, subst}
use mathlib.Core.Bool.{Bool, true, false, not, true≢false}
use Prim.Native.Nat.{ℕ, zero, suc, ◌*◌, ◌<◌}
use native.Mathlib.Nat as N
use native.Mathlib.Decide.{dec_lt}
use native.Mathlib.Omega.{arith}
use borrow.Author.Tests.{lt-ltb, le-ltb, lt-leb, le-leb, eq-eqb, ne_eqb, ltb-true, ltb-false, eqb-true}
use lib.IntN.{ℤ, pos, negsuc, neg_ℤ, nat_abs, ◌-ℤ◌, ◌*ℤ◌, +ℤ_invr}
use lib.Dec.{ltb, leb}
use lib.Signed.{lt_z, le_z, ◌≤ℤ◌}
use Rattle.whole.specs.Integer.{equal}
use Rattle.whole.proofs.Integer.{equal_of_diff}
use Rattle.whole.proofs.Size.{zero_of_size, one_above, one_some}

-- ---- equal
pub equal_same : (a : ℤ) → equal a a ≡ true
equal_same a = eq-eqb (nat_abs (a -ℤ a)) 0 (ap nat_abs (+ℤ_invr a))

pub equal_true : (a b : ℤ) → equal a b ≡ true → a ≡ b
equal_true a b e = equal_of_diff a b (zero_of_size (a -ℤ b) (eqb-true (nat_abs (a -ℤ b)) 0 e))

-- where a and b are two numbers the test fails
pub unequal : (a b : ℤ) → (a ≡ b → ⊥) → equal a b ≡ false
unequal a b f = ne_eqb (nat_abs (a -ℤ b)) 0 (λ e. f (equal_of_diff a b (zero_of_size (a -ℤ b) e)))

-- ---- less
-- no number is less than itself
not_itself : (a : ℤ) → lt_z a a ≡ false
not_itself (pos a) = le-ltb a a (N.le_refl a)
not_itself (negsuc a) = le-ltb a a (N.le_refl a)

pub less_unequal : (a b : ℤ) → lt_z a b ≡ true → equal a b ≡ false
less_unequal a b h = unequal a b (λ e. true≢false (sym h ∙ ap (lt_z a) (sym e) ∙ not_itself a))

pub more_unequal : (a b : ℤ) → lt_z b a ≡ true → equal a b ≡ false
more_unequal a b h = unequal a b (λ e. true≢false (sym h ∙ ap (lt_z b) e ∙ not_itself b))

pub less_only : (a b : ℤ) → lt_z a b ≡ true → lt_z b a ≡ false
less_only (pos a) (pos b) h = le-ltb b a (N.le_of_lt (ltb-true a b h))
less_only (pos a) (negsuc b) h = absurd (true≢false (sym h))
less_only (negsuc a) (pos b) h = refl
less_only (negsuc a) (negsuc b) h = le-ltb a b (N.le_of_lt (ltb-true b a h))

-- where neither of two numbers is less they are one
one_number : (a b : ℤ) → lt_z a b ≡ false → lt_z b a ≡ false → a ≡ b
one_number (pos a) (pos b) p q = ap pos (N.le_antisymm (ltb-false b a q) (ltb-false a b p))
one_number (pos a) (negsuc b) p q = absurd (true≢false q)
one_number (negsuc a) (pos b) p q = absurd (true≢false p)
one_number (negsuc a) (negsuc b) p q = ap negsuc (N.le_antisymm (ltb-false b a p) (ltb-false a b q))

pub else_equal : (a b : ℤ) → lt_z a b ≡ false → lt_z b a ≡ false → equal a b ≡ true
else_equal a b p q = subst (λ (x : ℤ). equal a x ≡ true) (one_number a b p q) (equal_same a)

pub equal_neither : (a b : ℤ) → equal a b ≡ true → (lt_z a b ≡ false) × (lt_z b a ≡ false)
equal_neither a b e =
    let s = equal_true a b e in
    (ap (λ (x : ℤ). lt_z x b) s ∙ not_itself b, ap (lt_z b) s ∙ not_itself b)

pub less_trans : (a b c : ℤ) → lt_z a b ≡ true → lt_z b c ≡ true → lt_z a c ≡ true
less_trans (pos a) (pos b) (pos c) h k = lt-ltb a c (N.lt_trans (ltb-true a b h) (ltb-true b c k))
less_trans (pos a) (pos b) (negsuc c) h k = k
less_trans (pos a) (negsuc b) c h k = absurd (true≢false (sym h))
less_trans (negsuc a) (pos b) (pos c) h k = refl
less_trans (negsuc a) (pos b) (negsuc c) h k = absurd (true≢false (sym k))
less_trans (negsuc a) (negsuc b) (pos c) h k = refl
less_trans (negsuc a) (negsuc b) (negsuc c) h k = lt-ltb c a (N.lt_trans (ltb-true c b k) (ltb-true b a h))

-- at most is not more
at_most_size : (a b : ℕ) → leb a b ≡ not (ltb b a)
at_most_size a b = go (dec_lt b a)
  where
    go : Dec (b < a) → leb a b ≡ not (ltb b a)
    go (yes h) = lt-leb a b h ∙ sym (ap not (lt-ltb b a h))
    go (no h) = le-leb a b (omega arith) ∙ sym (ap not (le-ltb b a (omega arith)))

pub at_most : (a b : ℤ) → le_z a b ≡ not (lt_z b a)
at_most (pos a) (pos b) = at_most_size a b
at_most (pos a) (negsuc b) = refl
at_most (negsuc a) (pos b) = refl
at_most (negsuc a) (negsuc b) = at_most_size b a

-- ---- two numbers compare as their products by a number from 1 do
-- a number below 0 and one that is not
less_below : (k l : ℕ) → 0 < l → lt_z (neg_ℤ (pos l)) (pos k) ≡ true
less_below k zero h = let z : ⊥ = omega arith in absurd z
less_below k (suc l) h = refl

-- two numbers that are not above 0
pub less_neg : (k l : ℕ) → k < l → lt_z (neg_ℤ (pos l)) (neg_ℤ (pos k)) ≡ true
less_neg k zero h = let z : ⊥ = omega arith in absurd z
less_neg zero (suc l) h = refl
less_neg (suc k) (suc l) h = lt-ltb k l (omega arith)

less_times : (a b : ℤ) (m : ℕ) → 0 < m → lt_z a b ≡ true → lt_z (a *ℤ pos m) (b *ℤ pos m) ≡ true
less_times (pos a) (pos b) m h e = lt-ltb (a * m) (b * m) (N.mul-lt-mul_of_pos_right (ltb-true a b e) h)
less_times (pos a) (negsuc b) m h e = absurd (true≢false (sym e))
less_times (negsuc a) (pos b) m h e = less_below (b * m) (suc a * m) (N.mul-pos (N.zero-lt-suc a) h)
less_times (negsuc a) (negsuc b) m h e =
    let p = ltb-true b a e in less_neg (suc b * m) (suc a * m) (N.mul-lt-mul_of_pos_right {m = suc b} {n = suc a} (omega arith) h)

module _ (a b : ℤ) (c : ℤ) (h : pos 1 ≤ℤ c) where
  scaled : (x y : ℤ) → lt_z x y ≡ true → lt_z (x *ℤ c) (y *ℤ c) ≡ true
  scaled x y e = rw (one_above c h) (less_times x y (nat_abs c) (one_some c h) e)

  pub less_scaled : lt_z (a *ℤ c) (b *ℤ c) ≡ lt_z a b
  less_scaled = go (lt_z a b) (lt_z b a) refl refl
    where
      go : (s t : Bool) → lt_z a b ≡ s → lt_z b a ≡ t → lt_z (a *ℤ c) (b *ℤ c) ≡ s
      go true t p q = scaled a b p
      go false true p q = less_only (b *ℤ c) (a *ℤ c) (scaled b a q)
      go false false p q = ap (λ z. lt_z (z *ℤ c) (b *ℤ c)) (one_number a b p q) ∙ not_itself (b *ℤ c)

  pub equal_scaled : equal (a *ℤ c) (b *ℤ c) ≡ equal a b
  equal_scaled = go (lt_z a b) (lt_z b a) refl refl
    where
      go : (s t : Bool) → lt_z a b ≡ s → lt_z b a ≡ t → equal (a *ℤ c) (b *ℤ c) ≡ equal a b
      go true t p q = less_unequal (a *ℤ c) (b *ℤ c) (scaled a b p) ∙ sym (less_unequal a b p)
      go false true p q = more_unequal (a *ℤ c) (b *ℤ c) (scaled b a q) ∙ sym (more_unequal a b q)
      go false false p q =
          ap (λ z. equal (z *ℤ c) (b *ℤ c)) (one_number a b p q) ∙ equal_same (b *ℤ c) ∙ sym (else_equal a b p q)
