-- A float's distance from p / q as one of natural numbers. Assumes nothing.
use mathlib.Core.Path.{◌≡◌, refl, sym, ap, ◌∙◌}
use mathlib.Core.Bool.{Bool, true, false, not, cond, beq}
use Prim.Native.Nat.{ℕ, zero, suc, ◌+◌, ◌-◌, ◌*◌, ◌^◌, ◌≤◌, ◌<◌}
use native.Mathlib.Nat.{zero-mul}
use native.Mathlib.Omega.{arith}
use lib.Dec.{T, ltb, ltb→lt, nltb→le}
use lib.IntN.{ℤ, pos, negsuc, neg_ℤ, nat_abs, sub_ℕ, ◌-ℤ◌, ◌*ℤ◌}
use Rattle.whole.specs.Integer.{below_zero}
-- the distance of a and b
pub use Rattle.halves.proofs.Rounding.{apart}
use Rattle.nearest.specs.Bits.{negative, size_of, signed}
use Rattle.nearest.specs.Nearest.{distance}

-- the distance of ±a and ±b
abbrev pub signed_apart : Bool → ℕ → Bool → ℕ → ℕ
signed_apart s a t b = cond (beq s t) (apart a b) (a + b)

pub signed_mul : (s : Bool) (a n : ℕ) → signed s a *ℤ pos n ≡ signed s (a * n)
signed_mul false a n = refl
signed_mul true zero n = ap pos (zero-mul n) ∙ sym (ap (λ (z : ℕ). neg_ℤ (pos z)) (zero-mul n))
signed_mul true (suc a) n = refl

sub_size : (a b : ℕ) → nat_abs (sub_ℕ a b) ≡ apart a b
sub_size a b = go (ltb a b) (ltb→lt a b) (nltb→le a b)
  where
    less : (a b : ℕ) → a < b → suc (b - suc a) ≡ apart a b
    less a b h = omega arith

    more : (a b : ℕ) → b ≤ a → a - b ≡ apart a b
    more a b h = omega arith

    go : (c : Bool) → (T c → a < b) → (T (not c) → b ≤ a) → nat_abs (cond c (negsuc (b - suc a)) (pos (a - b))) ≡ apart a b
    go true h k = less a b (h tt)
    go false h k = more a b (k tt)

swap : (a b : ℕ) → apart a b ≡ apart b a
swap a b = omega arith

to_zero : (a : ℕ) → a + 0 ≡ apart a 0
to_zero a = omega arith

from_zero : (a : ℕ) → 0 + a ≡ apart 0 a
from_zero a = omega arith

two_more : (a b : ℕ) → suc (suc (a + b)) ≡ suc a + suc b
two_more a b = omega arith

difference : (s t : Bool) (x y : ℕ) → nat_abs (signed s x -ℤ signed t y) ≡ signed_apart s x t y
difference false false x zero = to_zero x
difference false false x (suc y) = sub_size x (suc y)
difference false true x zero = refl
difference false true x (suc y) = refl
difference true false zero zero = refl
difference true false zero (suc y) = sub_size 0 (suc y) ∙ sym (from_zero (suc y))
difference true false (suc x) zero = sub_size 0 (suc x) ∙ swap 0 (suc x) ∙ sym (to_zero (suc x))
difference true false (suc x) (suc y) = two_more x y
difference true true zero zero = refl
difference true true zero (suc y) = from_zero (suc y)
difference true true (suc x) zero = sub_size 0 (suc x) ∙ swap 0 (suc x)
difference true true (suc x) (suc y) = sub_size (suc y) (suc x) ∙ swap (suc y) (suc x)

scaled : (s t : Bool) (a n c l : ℕ) → nat_abs (signed s a *ℤ pos n -ℤ signed t c *ℤ pos l) ≡ signed_apart s (a * n) t (c * l)
scaled s t a n c l =
    ap (λ (z : ℤ). nat_abs (z -ℤ signed t c *ℤ pos l)) (signed_mul s a n)
    ∙ ap (λ (z : ℤ). nat_abs (signed s (a * n) -ℤ z)) (signed_mul t c l)
    ∙ difference s t (a * n) (c * l)

pub distance_is : (p : ℤ) (n b : ℕ) → distance p (pos n) b ≡ signed_apart (negative b) (size_of b * n) (below_zero p) (nat_abs p * 2 ^ 1074)
distance_is (pos a) n b = scaled (negative b) false (size_of b) n a (2 ^ 1074)
distance_is (negsuc a) n b = scaled (negative b) true (size_of b) n (suc a) (2 ^ 1074)

-- ---- of one sign, and of two
pub one_sign : (s : Bool) (x y : ℕ) → signed_apart s x s y ≡ apart x y
one_sign true x y = refl
one_sign false x y = refl

pub any_signs : (s t : Bool) (x y far : ℕ) → far ≤ apart x y → far ≤ x + y → far ≤ signed_apart s x t y
any_signs true true x y far h k = h
any_signs true false x y far h k = k
any_signs false true x y far h k = k
any_signs false false x y far h k = h
