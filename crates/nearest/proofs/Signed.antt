-- A float with its sign put on: the negative of a rounded size is the rounded negative, and 0 has no sign. No rounded ratio is a NaN.
-- Assumes nothing.
use mathlib.Core.Path.{◌≡◌, refl, sym, ap, ◌∙◌}
use mathlib.Core.Bool.{Bool, true, false, not, cond}
use Prim.Native.Nat.{ℕ, zero, suc, ◌+◌, ◌*◌, ◌^◌, ◌<◌}
use native.Mathlib.Nat.{lt_irrefl}
use lib.Dec.{T, ltb}
use lib.Ieee.{Float, Format, binary64, prec, emax, low, neg, odd, units, round, of_bits, is_nan, nan, inf, fin}
use lib.Ieee.Fits.{round_is}
use lib.IntN.{ℤ, pos, negsuc, nat_abs}
use Rattle.whole.specs.Integer.{below_zero}
use Rattle.whole.proofs.Size.{zero_of_size}
use Rattle.nearest.specs.Answers.{nearest_float}
use Rattle.nearest.specs.Bits.{signed}
use Rattle.nearest.proofs.NearestFloat.{zero_round}

neg_odd : (d q k l : ℕ) → neg (odd d false q k l) ≡ odd d true q k l
unfolding neg odd
neg_odd d zero k l = refl
neg_odd d (suc q) k l = refl

neg_units : (f : Format) (q k : ℕ) → neg (units f false q k) ≡ units f true q k
unfolding units neg
neg_units f q k = go (ltb (q * 2 ^ k) (2 ^ (low f + suc (emax f))))
  where
    go :
        (b : Bool) →
        neg (cond b (odd (suc (prec f)) false q k (low f)) (inf false)) ≡ cond b (odd (suc (prec f)) true q k (low f)) (inf true)
    go true = neg_odd (suc (prec f)) q k (low f)
    go false = refl

pub neg_round : (f : Format) (a c : ℕ) → neg (round f false a c) ≡ round f true a c
neg_round f a c = ap neg (round_is f false a c) ∙ neg_units f _ _ ∙ sym (round_is f true a c)

pub neg_neg : (x : Float) → neg (neg x) ≡ x
unfolding neg
neg_neg nan = refl
neg_neg (inf true) = refl
neg_neg (inf false) = refl
neg_neg (fin true m e) = refl
neg_neg (fin false m e) = refl

-- ---- what is rounded is no NaN
odd_number : (d : ℕ) (s : Bool) (q k l : ℕ) → T (not (is_nan (odd d s q k l)))
unfolding odd is_nan
odd_number d s zero k l = tt
odd_number d s (suc q) k l = tt

units_number : (f : Format) (s : Bool) (q k : ℕ) → T (not (is_nan (units f s q k)))
unfolding units is_nan
units_number f s q k = go (ltb (q * 2 ^ k) (2 ^ (low f + suc (emax f))))
  where
    go : (b : Bool) → T (not (is_nan (cond b (odd (suc (prec f)) s q k (low f)) (inf s))))
    go true = odd_number (suc (prec f)) s q k (low f)
    go false = tt

pub round_number : (f : Format) (s : Bool) (a c : ℕ) → T (not (is_nan (round f s a c)))
round_number f s a c = rw (round_is f s a c) (units_number f s _ _)

-- ---- the float of a signed ratio
pub signed_float : (s : Bool) (a q : ℕ) (x : Float) → 0 < a → x ≡ round binary64 false a q → cond s (neg x) x ≡ nearest_float (signed s a) (pos q)
unfolding nearest_float
signed_float false a q x A e = e
signed_float true zero q x A e = absurd (lt_irrefl 0 A)
signed_float true (suc a) q x A e = ap neg e ∙ neg_round binary64 (suc a) q

-- ---- what `float_of` divides is p over q, and 0 has no sign
pub signed_size : (p : ℤ) → signed (below_zero p) (nat_abs p) ≡ p
signed_size (pos n) = refl
signed_size (negsuc n) = refl

pub at_zero : (p q : ℤ) → 0 < nat_abs q → nat_abs p ≡ 0 → of_bits binary64 0 ≡ nearest_float p q
unfolding nearest_float
at_zero p q Q z = zero_round (nat_abs q) Q ∙ ap (λ (x : ℤ). nearest_float x q) (sym (zero_of_size p z))
