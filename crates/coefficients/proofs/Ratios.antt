-- The ratios of a pair are within the limits of part 2, so that 18 never applies; and what the code's products come to. Assumes nothing.
use mathlib.Core.Path.{◌≡◌, refl, ap, ◌∙◌}
use mathlib.Core.Bool.{false}
use mathlib.Core.List.{List}
use Prim.Native.Nat.{ℕ, ◌*◌, ◌-◌, ◌≤◌}
use native.Mathlib.Nat as N
use native.Mathlib.Omega.{arith}
use lib.IntN.{ℤ, pos, nat_abs, ◌*ℤ◌}
use lib.Signed.{◌≤ℤ◌}
use mir.Syntax.{w64}
use mir.Val.{to_z}
use Rattle.whole.specs.Integer.{is_zero}
use Rattle.whole.specs.Rules.{ratio_limit}
use Rattle.whole.proofs.Machine.{Is, val, rd, nat, is_*, to, r64}
use Rattle.whole.proofs.Size.{size_*, some_size, one_some, one_of, one_*}
use Rattle.nearest.specs.Answers.{nearest_refusal, nearest_rounded}
use Rattle.nearest.proofs.Theorems.{not_refused}
use Rattle.account.specs.declared.ClassRow.{ClassRow}
use Rattle.coefficients.specs.Steps.{Ratio, Formable, FormableRows, Numerators}

pub ratio_taken : (p q : ℤ) → Ratio p q → nearest_refusal p q ≡ 0
ratio_taken p q r = not_refused p q r.one r.numerator r.divisor

-- the same ratio by other names
pub ratio_same : {p p' q q' : ℤ} → p' ≡ p → q' ≡ q → Ratio p q → Ratio p' q'
ratio_same e f r = rw (e, f) r

pub nearest_same : {p p' q q' : ℤ} → p' ≡ p → q' ≡ q → nearest_rounded p' q' ≡ nearest_rounded p q
nearest_same {p} {p'} {q} {q'} e f = ap (λ v. nearest_rounded v q') e ∙ ap (nearest_rounded p) f

-- up to 64 zones have up to 4,032 ordered pairs off the diagonal, and two zones have two
pub ordered_le : (n : ℕ) → n ≤ 64 → (n - 1) * n ≤ 4032
ordered_le n h = N.mul-le-mul {n₂ = 63} {m₂ = 64} (omega arith) h

ordered_some : (n : ℕ) → 2 ≤ n → 1 ≤ (n - 1) * n
ordered_some n h = N.mul-le-mul {n₁ = 1} {m₁ = 1} (omega arith) (omega arith)

-- a factor is no larger than a product whose other factor is not 0
pub left_le : (a b : ℤ) (m : ℕ) → 1 ≤ nat_abs b → nat_abs (a *ℤ b) ≤ m → nat_abs a ≤ m
left_le a b m h g = omega (arith, size_* a b, N.mul-le-mul_left (nat_abs a) h)

right_le : (a b : ℤ) (m : ℕ) → 1 ≤ nat_abs a → nat_abs (a *ℤ b) ≤ m → nat_abs b ≤ m
right_le a b m h g = omega (arith, size_* a b, N.mul-le-mul_right (nat_abs b) h)

module _ (n : ℕ) (spread : ℤ) (row : ClassRow) (s : Formable n spread row) where
  -- ---- of a job or a class that has weight
  module _ (some : is_zero row.weight ≡ false) where
    weight_one : pos 1 ≤ℤ row.weight
    weight_one = one_of row.weight s.weight_above (some_size row.weight some)

    pub moran_ratio : Ratio row.cross (row.weight *ℤ spread)
    moran_ratio = record {
      one = one_* row.weight spread weight_one s.varied;
      divisor = s.moran_divisor;
      numerator = s.moran_numerator;
    }

    pub geary_ratio : Ratio (pos ((n - 1) * n) *ℤ row.squares) ((pos 2 *ℤ row.weight) *ℤ spread)
    geary_ratio = record {
      one = one_* (pos 2 *ℤ row.weight) spread (one_* (pos 2) row.weight (record { le = tt }) weight_one) s.varied;
      divisor = s.geary_divisor;
      numerator = s.geary_numerator;
    }

  -- ---- the code's products
  spread_some : 1 ≤ nat_abs spread
  spread_some = one_some spread s.varied

  spread_is : Is (r64 spread) spread ratio_limit
  spread_is = rd w64 (val spread ratio_limit s.spread_limit) tt

  pub weight_val : Is row.weight row.weight ratio_limit
  weight_val = val row.weight ratio_limit (left_le row.weight spread ratio_limit spread_some s.moran_divisor)

  weight_is : Is (r64 row.weight) row.weight ratio_limit
  weight_is = rd w64 weight_val tt

  pub cross_is : Is (r64 row.cross) row.cross ratio_limit
  cross_is = rd w64 (val row.cross ratio_limit s.moran_numerator) tt

  squares_is : Is (r64 row.squares) row.squares ratio_limit
  squares_is =
      let bound = right_le (pos ((n - 1) * n)) row.squares ratio_limit (ordered_some n s.two) s.geary_numerator in
      rd w64 (val row.squares ratio_limit bound) tt

  -- W × M, which divides P
  pub moran_divisor_is : Is (r64 row.weight *ℤ r64 spread) (row.weight *ℤ spread) ratio_limit
  moran_divisor_is = to ratio_limit (is_* weight_is spread_is) refl s.moran_divisor

  -- (n − 1) × n × G, and 2 × W × M, which divides it
  pub geary_numerator_is : Is (to_z w64 ((n - 1) * n) *ℤ r64 row.squares) (pos ((n - 1) * n) *ℤ row.squares) ratio_limit
  geary_numerator_is = to ratio_limit (is_* (nat w64 ((n - 1) * n) 4032 (ordered_le n s.zones) tt) squares_is) refl s.geary_numerator

  pub twice_is : Is (pos 2 *ℤ r64 row.weight) (pos 2 *ℤ row.weight) ratio_limit
  twice_is =
      to ratio_limit (is_* (val (pos 2) 2 (omega arith)) weight_is) refl
      (left_le (pos 2 *ℤ row.weight) spread ratio_limit spread_some s.geary_divisor)

  pub geary_divisor_is : Is (r64 (pos 2 *ℤ r64 row.weight) *ℤ r64 spread) ((pos 2 *ℤ row.weight) *ℤ spread) ratio_limit
  geary_divisor_is = to ratio_limit (is_* (rd w64 twice_is tt) spread_is) refl s.geary_divisor

-- the same sums and spread by other names
pub formable_same : {n : ℕ} {m m' : ℤ} {r r' : ClassRow} → m' ≡ m → r' ≡ r → Formable n m r → Formable n m' r'
formable_same e f s = rw (e, f) s

pub rows_same : {n : ℕ} {m m' : ℤ} {l l' : List ℤ} → m' ≡ m → l' ≡ l → FormableRows n m l → FormableRows n m' l'
rows_same e f r = rw (e, f) r

pub numerators_same : {m m' : ℤ} {l l' : List ℤ} → m' ≡ m → l' ≡ l → Numerators m l → Numerators m' l'
numerators_same e f r = rw (e, f) r
