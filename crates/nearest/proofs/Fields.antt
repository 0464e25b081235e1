-- The bits of a finite float say the value that the kit's `of_bits` gives them. Assumes nothing.
use mathlib.Core.Path.{◌≡◌, sym, ◌∙◌, subst}
use mathlib.Core.Logic.{inl, inr}
use mathlib.Core.Bool.{Bool, true, false, not, cond}
use Prim.Native.Nat.{ℕ, zero, suc, ◌+◌, ◌*◌, ◌^◌, ◌≤◌, ◌<◌}
use native.Mathlib.Nat.{lt_irrefl, eq-or-lt_of_le, mul-one, mod-lt, div-lt_iff_lt-mul, eq_of_mul-eq-mul_right}
use native.Mathlib.Omega.{arith}
use lib.Dec.{T, eqb, eqb→eq}
use lib.Ieee.{Float, nan, inf, fin, binary64, down, odd, of_bits, of_fields, to_bits, fits, is_nan}
use lib.Ieee.Bits.{of_bits-to_bits, to_bits-lt}
use lib.Ieee.Exact.{HasValue, odd_sign}
use lib.Ieee.Fits.{down_pos}
use lib.Pow.{pow_pos}
use Rattle.nearest.specs.Bits.{negative, field, digits, Finite, steps, size_of}

-- ---- from the bits to the value
pub fields_value : (s : Bool) (x t : ℕ) → x < 2047 → HasValue (of_fields binary64 s x t) s (steps x t) (2 ^ 1074)
unfolding of_fields
fields_value s zero t h = subst (λ (z : ℕ). HasValue (odd 53 s t 0 1074) s z (2 ^ 1074)) (mul-one t) (odd_sign 53 s t 0 1074)
fields_value s (suc x) t h = go (eqb (suc x) 2047) (eqb→eq (suc x) 2047)
  where
    no : (y : ℕ) → y < 2047 → y ≡ 2047 → ⊥
    no y l e = omega arith

    go :
        (b : Bool) → (T b → suc x ≡ 2047) →
        HasValue (cond b (cond (eqb t 0) (inf s) nan) (odd 53 s (2 ^ 52 + t) x 1074)) s ((2 ^ 52 + t) * 2 ^ x) (2 ^ 1074)
    go true k = absurd (no (suc x) h (k tt))
    go false k = odd_sign 53 s (2 ^ 52 + t) x 1074

bits_value : (b : ℕ) → field b < 2047 → HasValue (of_bits binary64 b) (negative b) (size_of b) (2 ^ 1074)
unfolding of_bits
bits_value b h = fields_value (negative b) (field b) (digits b) h

-- ---- bits that have a value are finite
fields_finite : (s : Bool) (x t : ℕ) (u : Bool) (a c : ℕ) → HasValue (of_fields binary64 s x t) u a c → x ≡ 2047 → ⊥
unfolding of_fields
fields_finite s x t u a c v e = go (eqb t 0) (subst (λ (z : ℕ). HasValue (of_fields binary64 s z t) u a c) e v)
  where
    go : (b : Bool) → HasValue (cond b (inf s) nan) u a c → ⊥
    go true w = w
    go false w = w

bits_finite : (b : ℕ) (u : Bool) (a c : ℕ) → b < 2 ^ 64 → HasValue (of_bits binary64 b) u a c → Finite b
unfolding of_bits
bits_finite b u a c h v =
    let within : field b < 2048 = (div-lt_iff_lt-mul (pow_pos 52)).1 (mod-lt b (pow_pos 63)) in
    (h, small (field b) within (fields_finite (negative b) (field b) (digits b) u a c v))
  where
    at_most : (x : ℕ) → x < 2048 → x ≤ 2047
    at_most x l = omega arith

    small : (x : ℕ) → x < 2048 → (x ≡ 2047 → ⊥) → x < 2047
    small x l k = elim (eq-or-lt_of_le (at_most x l)) [ inl e ↦ absurd (k e) | inr g ↦ g ]

same_value : (x : Float) (s t : Bool) (a b c : ℕ) → HasValue x s a c → HasValue x t b c → (s ≡ t) × (a ≡ b)
same_value nan s t a b c v w = absurd v
same_value (inf u) s t a b c v w = absurd v
same_value (fin u m e) s t a b c v w = (sym v.0 ∙ w.0, eq_of_mul-eq-mul_right (down e) (down_pos e) a b (sym v.1 ∙ w.1))

-- ---- what the bits of a float of a known value are
pub record Read (b : ℕ) (s : Bool) (a : ℕ) : Type 0 where
  pub finite : Finite b
  pub sign : negative b ≡ s
  pub size : size_of b ≡ a

pub read : (x : Float) (s : Bool) (a : ℕ) → T (fits binary64 x) → HasValue x s a (2 ^ 1074) → Read (to_bits binary64 x) s a
read x s a f v =
    let b = to_bits binary64 x in
    let u : HasValue (of_bits binary64 b) s a (2 ^ 1074) = rw (of_bits-to_bits binary64 x f) v in
    let F = bits_finite b s a (2 ^ 1074) (to_bits-lt binary64 x f) u in
    let same = same_value (of_bits binary64 b) (negative b) s (size_of b) a (2 ^ 1074) (bits_value b F.1) u in
    record { finite = F; sign = same.0; size = same.1 }

-- ---- a float whose bits are finite is no NaN
pub finite_number : (x : Float) → Finite (to_bits binary64 x) → T (not (is_nan x))
unfolding is_nan to_bits
finite_number nan h = absurd (lt_irrefl 2047 h.1)
finite_number (inf s) h = tt
finite_number (fin s m e) h = tt
