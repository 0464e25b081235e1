-- A signed number as the code tests its sign, and its size as the code works it out: −(z + 1) + 1 for a z below 0. Assumes nothing.
use mathlib.Core.Path.{◌≡◌, refl, sym, ap, ◌∙◌, subst}
use mathlib.Core.Bool.{true, false, true≢false, false≢true}
use Prim.Native.Nat.{ℕ, zero, suc, ◌+◌, ◌-◌, ◌<◌, ◌^◌}
use native.Mathlib.Nat as N
use native.Mathlib.Numerals.{add-one}
use native.Mathlib.Omega.{arith}
use borrow.Author.Rules.{sfits_of}
use lib.Dec.{T, leb-suc-zero}
use lib.IntN.{ℤ, pos, negsuc, suc_ℤ, ◌+ℤ◌, ◌-ℤ◌, nat_abs, +ℤ_idl, +ℤ_one}
use lib.Signed.{lt_z, non_neg}
use mir.Facts.{to_z_pos, to_z-neg}
use mir.Syntax.{Width, w64}
use mir.Val.{Fits, SFits, bits, hbits, to_z, of_z}
use mir.ValLaws.{to_z-of_z}
use Rattle.whole.specs.Integer.{below_zero}
use Rattle.whole.proofs.Machine.{r64}

double : (a : ℕ) → a < 2 ^ 63 → a + 1 < 2 ^ 64
double a q = omega arith

-- ---- the negative number that the bits u stand for, as the code makes it: −1 − k, for the k that is left of u up to the top
minus_more : (k : ℕ) → negsuc 0 -ℤ pos k ≡ negsuc k
minus_more zero = refl
minus_more (suc k) = ap negsuc (ap suc (N.zero-add k))

module _ (w : Width) (k : ℕ) (l : k < 2 ^ hbits w) where
  minus_read : negsuc 0 -ℤ to_z w k ≡ negsuc k
  minus_read = ap (λ (z : ℤ). negsuc 0 -ℤ z) (to_z_pos w l) ∙ minus_more k

  pub minus_fits : SFits w (negsuc 0 -ℤ to_z w k)
  minus_fits = subst (SFits w) (sym minus_read) (sfits_of l)

  pub minus_is : (u : ℕ) → 2 ^ bits w - suc k ≡ u → to_z w (of_z w (negsuc 0 -ℤ to_z w k)) ≡ to_z w u
  minus_is u e = to_z-of_z w (negsuc 0 -ℤ to_z w k) minus_fits ∙ minus_read ∙ sym (to_z-neg w k l) ∙ ap (to_z w) e

-- ---- the sign and the size of a number

-- the code's test of the sign
pub sign_read : (z : ℤ) → SFits w64 z → lt_z (r64 z) (pos 0) ≡ below_zero z
sign_read z f = ap (λ (y : ℤ). lt_z y (pos 0)) (to_z-of_z w64 z f) ∙ go z
  where
    go : (z : ℤ) → lt_z z (pos 0) ≡ below_zero z
    go (pos a) = leb-suc-zero a
    go (negsuc a) = refl

-- what the code reads of z where z is not below 0: its size
pub not_below : (z : ℤ) → SFits w64 z → lt_z (r64 z) (pos 0) ≡ false → T (non_neg (r64 z)) × Fits w64 (nat_abs (r64 z))
not_below z f t = go z f (ap (λ (y : ℤ). lt_z y (pos 0)) (sym (to_z-of_z w64 z f)) ∙ t)
  where
    go : (z : ℤ) → SFits w64 z → lt_z z (pos 0) ≡ false → T (non_neg (r64 z)) × Fits w64 (nat_abs (r64 z))
    go (pos a) f t =
        subst (λ (y : ℤ). T (non_neg y) × Fits w64 (nat_abs y)) (sym (to_z-of_z w64 (pos a) f))
        (tt, record { fits = omega (arith, double a f.sfits) })
    go (negsuc a) f t = absurd (true≢false t)

-- where z is below 0: 0 − (z + 1) fits and is not below 0, and 1 more is z's size
abbrev turned : ℤ → ℤ
turned z = r64 (pos 0 -ℤ r64 (r64 z +ℤ pos 1))

pub record Turned (z : ℤ) : Type 0 where
  pub add : SFits w64 (r64 z +ℤ pos 1)
  pub sub : SFits w64 (pos 0 -ℤ r64 (r64 z +ℤ pos 1))
  pub cast : T (non_neg (turned z)) × Fits w64 (nat_abs (turned z))
  pub more : Fits w64 (nat_abs (turned z) + 1)
  pub size : nat_abs (turned z) + 1 ≡ nat_abs z

next_fits : (a : ℕ) → a < 2 ^ 63 → SFits w64 (suc_ℤ (negsuc a))
next_fits zero h = record { sfits = h }
next_fits (suc a) h = record { sfits = N.lt_of_lt_of_le (N.lt-suc_self a) (N.le_of_lt h) }

flipped : (a : ℕ) → pos 0 -ℤ suc_ℤ (negsuc a) ≡ pos a
flipped zero = refl
flipped (suc a) = +ℤ_idl (pos (suc a))

pub below : (z : ℤ) → SFits w64 z → lt_z (r64 z) (pos 0) ≡ true → Turned z
below z f t = go z f (ap (λ (y : ℤ). lt_z y (pos 0)) (sym (to_z-of_z w64 z f)) ∙ t)
  where
    go : (z : ℤ) → SFits w64 z → lt_z z (pos 0) ≡ true → Turned z
    go (pos a) f t = absurd (false≢true (sym (leb-suc-zero a) ∙ t))
    go (negsuc a) f t =
        let z = negsuc a in
        let e1 : r64 z +ℤ pos 1 ≡ suc_ℤ z = ap (λ (y : ℤ). y +ℤ pos 1) (to_z-of_z w64 z f) ∙ +ℤ_one z in
        let e2 : r64 (r64 z +ℤ pos 1) ≡ suc_ℤ z = ap r64 e1 ∙ to_z-of_z w64 (suc_ℤ z) (next_fits a f.sfits) in
        let e3 : pos 0 -ℤ r64 (r64 z +ℤ pos 1) ≡ pos a = ap (λ (y : ℤ). pos 0 -ℤ y) e2 ∙ flipped a in
        let e4 : turned z ≡ pos a = ap r64 e3 ∙ to_z-of_z w64 (pos a) (record { sfits = f.sfits }) in record {
          add = subst (SFits w64) (sym e1) (next_fits a f.sfits);
          sub = subst (SFits w64) (sym e3) (record { sfits = f.sfits });
          cast = subst (λ (y : ℤ). T (non_neg y) × Fits w64 (nat_abs y)) (sym e4) (tt, record { fits = omega (arith, double a f.sfits) });
          more = subst (λ (y : ℤ). Fits w64 (nat_abs y + 1)) (sym e4) (record { fits = double a f.sfits });
          size = ap (λ (y : ℤ). nat_abs y + 1) e4 ∙ add-one a;
        }
