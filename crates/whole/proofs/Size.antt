-- The size of an integer, `nat_abs`: of a sum, a product, a square; and integers that are not below 0. Assumes nothing.
use mathlib.Core.Path.{◌≡◌, refl, ap, ◌∙◌}
use mathlib.Core.Bool.{Bool, true, false, cond}
use Prim.Native.Nat.{ℕ, zero, suc, ◌+◌, ◌*◌, ◌-◌, ◌≤◌, ◌<◌, ◌^◌}
use native.Mathlib.Nat as N
use native.Mathlib.Omega.{arith}
use borrow.Author.Tests.{eqb-false}
use lib.Dec.{ltb, leb→le, le→leb}
use lib.IntN.{ℤ, pos, negsuc, neg_ℤ, nat_abs, ◌+ℤ◌, ◌-ℤ◌, ◌*ℤ◌}
use lib.Signed.{mag, ◌≤ℤ◌}
use mir.Syntax.{Width}
use mir.Val.{SFits, hbits}
use Rattle.whole.specs.Integer.{square, is_zero, below_zero}
use Rattle.whole.proofs.Integer.{diff, diff_of, diff_+, plus_part, minus_part}

-- ---- of a sum
size_of_diff : (a b : ℕ) → nat_abs (diff a b) ≤ a + b
unfolding diff
size_of_diff a zero = omega arith
size_of_diff a (suc b) = go a b (ltb a (suc b))
  where
    go : (a b : ℕ) (t : Bool) → nat_abs (cond t (negsuc (suc b - suc a)) (pos (a - suc b))) ≤ a + suc b
    go a b true = omega arith
    go a b false = omega arith

parts_size : (z : ℤ) → plus_part z + minus_part z ≡ nat_abs z
unfolding plus_part minus_part
parts_size (pos n) = omega arith
parts_size (negsuc n) = omega arith

pub size_+ : (a b : ℤ) → nat_abs (a +ℤ b) ≤ nat_abs a + nat_abs b
size_+ a b =
    let e : a +ℤ b ≡ diff (plus_part a + plus_part b) (minus_part a + minus_part b) =
    ap (λ x. x +ℤ b) (diff_of a)
    ∙ ap (λ x. diff (plus_part a) (minus_part a) +ℤ x) (diff_of b)
    ∙ diff_+ (plus_part a) (minus_part a) (plus_part b) (minus_part b) in
    omega (arith, ap nat_abs e, size_of_diff (plus_part a + plus_part b) (minus_part a + minus_part b), parts_size a, parts_size b)

pub size_neg : (a : ℤ) → nat_abs (neg_ℤ a) ≡ nat_abs a
size_neg (pos zero) = refl
size_neg (pos (suc n)) = refl
size_neg (negsuc n) = refl

-- ---- of a product
pub size_* : (a b : ℤ) → nat_abs (a *ℤ b) ≡ nat_abs a * nat_abs b
size_* (pos a) (pos b) = refl
size_* (pos a) (negsuc b) = size_neg (pos (a * suc b))
size_* (negsuc a) (pos b) = size_neg (pos (suc a * b))
size_* (negsuc a) (negsuc b) = refl

-- ---- bounds that chain
pub size_+_le : (a b : ℤ) (m n : ℕ) → nat_abs a ≤ m → nat_abs b ≤ n → nat_abs (a +ℤ b) ≤ m + n
size_+_le a b m n h k = omega (arith, size_+ a b)

pub size___le : (a b : ℤ) (m n : ℕ) → nat_abs a ≤ m → nat_abs b ≤ n → nat_abs (a -ℤ b) ≤ m + n
size___le a b m n h k = omega (arith, size_+ a (neg_ℤ b), size_neg b)

pub size_*_le : (a b : ℤ) (m n : ℕ) → nat_abs a ≤ m → nat_abs b ≤ n → nat_abs (a *ℤ b) ≤ m * n
size_*_le a b m n h k = omega (arith, size_* a b, N.mul-le-mul h k)

-- ---- a size of 0
pub zero_of_size : (z : ℤ) → nat_abs z ≡ 0 → z ≡ pos 0
zero_of_size (pos n) e = ap pos e
zero_of_size (negsuc n) e = let h : ⊥ = omega arith in absurd h

pub some_size : (z : ℤ) → is_zero z ≡ false → 1 ≤ nat_abs z
some_size z e = let h = eqb-false (nat_abs z) 0 e in omega arith

pub square_zero : (z : ℤ) → square z ≡ pos 0 → z ≡ pos 0
square_zero (pos zero) e = refl
square_zero (pos (suc n)) e = let h = ap nat_abs e in let x : ⊥ = omega arith in absurd x
square_zero (negsuc n) e = let h = ap nat_abs e in let x : ⊥ = omega arith in absurd x

-- ---- not below 0: the integer is its size
pub square_above : (z : ℤ) → square z ≡ pos (nat_abs (square z))
square_above (pos n) = refl
square_above (negsuc n) = refl

pub +_above : (a b : ℤ) → a ≡ pos (nat_abs a) → b ≡ pos (nat_abs b) → a +ℤ b ≡ pos (nat_abs (a +ℤ b))
+_above a b p q = rw (p, q) refl

pub *_above : (a b : ℤ) → a ≡ pos (nat_abs a) → b ≡ pos (nat_abs b) → a *ℤ b ≡ pos (nat_abs (a *ℤ b))
*_above a b p q = rw (p, q) refl

-- ---- at least 1
pub one_above : (z : ℤ) → pos 1 ≤ℤ z → z ≡ pos (nat_abs z)
one_above (pos n) h = refl
one_above (negsuc n) h = absurd h.le

pub one_some : (z : ℤ) → pos 1 ≤ℤ z → 1 ≤ nat_abs z
one_some (pos n) h = leb→le 1 n h.le
one_some (negsuc n) h = absurd h.le

pub one_of : (z : ℤ) → z ≡ pos (nat_abs z) → 1 ≤ nat_abs z → pos 1 ≤ℤ z
one_of z e h = rw e (record { le = le→leb 1 (nat_abs z) h })

pub one_* : (a b : ℤ) → pos 1 ≤ℤ a → pos 1 ≤ℤ b → pos 1 ≤ℤ (a *ℤ b)
one_* a b h k = one_of (a *ℤ b) (*_above a b (one_above a h) (one_above b k)) (rw (size_* a b) (N.mul-pos (one_some a h) (one_some b k)))

-- ---- the sign of a negative, and of a product by such a number
pub below_neg : (n : ℕ) → 0 < n → below_zero (neg_ℤ (pos n)) ≡ true
below_neg zero h = absurd (N.lt_irrefl 0 h)
below_neg (suc n) h = refl

pub sign_* : (p q : ℤ) → pos 1 ≤ℤ q → below_zero (p *ℤ q) ≡ below_zero p
sign_* (pos a) (pos n) h = refl
sign_* (negsuc a) (pos n) h = below_neg (suc a * n) (N.mul-pos (N.zero-lt-suc a) (leb→le 1 n h.le))
sign_* p (negsuc n) h = absurd h.le

-- ---- a size below half the width's power fits
mag_le : (a : ℤ) → mag a ≤ nat_abs a
mag_le (pos n) = omega arith
mag_le (negsuc n) = omega arith

pub fits_size : (w : Width) (a : ℤ) → nat_abs a < 2 ^ hbits w → SFits w a
fits_size w a h = record { sfits = N.lt_of_le_of_lt (mag_le a) h }
