-- A whole number of at most as many binary digits as the format has, scaled by powers of 2: nothing is rounded. Assumes nothing.
use mathlib.Core.Path.{◌≡◌, sym, ap, ◌∙◌}
use mathlib.Core.Logic.{◌⊎◌, inl, inr, ⊎_elim}
use mathlib.Core.Bool.{Bool, false, cond}
use Prim.Native.Nat.{ℕ, zero, suc, ◌+◌, ◌-◌, ◌*◌, ◌/◌, ◌^◌, ◌≤◌, ◌<◌}
use native.Mathlib.Nat as N
use native.Mathlib.Omega.{arith}
use lib.Arith.{lt→nleb}
use lib.Dec.{T}
use lib.Ieee.{Float, nan, inf, fin, Format, binary64, prec, emax, low, up, down, top, hid, size, round, mul, of_int, of_bits, to_bits, fits}
use lib.Ieee.Back.{round_whole}
use lib.Ieee.Bits.{is_false, of_bits-to_bits}
use lib.Ieee.Digits.{back}
use lib.Ieee.Exact.{HasValue, round_exact}
use lib.Ieee.Fits.{down_pos, two, two-le_pos}
use lib.Ieee.Positive.{mul_at, positive_of_value}
use lib.IntN.{pos}
use lib.Pow.{pow-add, pow_pos, pow_mono, pow-lt, shl_lt}
use Rattle.nearest.specs.Bits.{negative, field, digits}
use Rattle.nearest.proofs.Fields.{fields_value}

-- ---- a value is written in one way
bits_of_value :
    (f : Format) (x : Float) (s : Bool) (a : ℕ) → HasValue x s a (2 ^ low f) →
    to_bits f x ≡ cond s (top f) 0 + (size a - prec f) * hid f + a / 2 ^ (size a - prec f)
unfolding to_bits
bits_of_value f nan s a v = absurd v
bits_of_value f (inf t) s a v = absurd v
bits_of_value f (fin t m e) s a v =
    ap (λ (z : ℕ). cond t (top f) 0 + (size z - prec f) * hid f + z / 2 ^ (size z - prec f))
    (ap (λ (z : ℕ). z / down e) v.1 ∙ N.mul-div_cancel a (down_pos e))
    ∙ ap (λ (b : Bool). cond b (top f) 0 + (size a - prec f) * hid f + a / 2 ^ (size a - prec f)) v.0

pub value_unique :
    (f : Format) (x y : Float) (s : Bool) (a : ℕ) → T (fits f x) → T (fits f y) →
    HasValue x s a (2 ^ low f) → HasValue y s a (2 ^ low f) → x ≡ y
value_unique f x y s a p q v w =
    sym (of_bits-to_bits f x p) ∙ ap (of_bits f) (bits_of_value f x s a v ∙ sym (bits_of_value f y s a w)) ∙ of_bits-to_bits f y q

-- one fraction for another of the same size
pub rescale : (x : Float) (s : Bool) (w l num den : ℕ) → 0 < l → num * l ≡ w * den → HasValue x s w l → HasValue x s num den
rescale nan s w l num den p h v = v
rescale (inf t) s w l num den p h v = v
rescale (fin t m e) s w l num den p h v = (
  v.0,
  N.eq_of_mul-eq-mul_right l p (m * up e * den) (num * down e)
      (N.mul_right_comm (m * up e) den l
      ∙ ap (λ (x : ℕ). x * den) v.1
      ∙ N.mul_right_comm w (down e) den
      ∙ ap (λ (x : ℕ). x * down e) (sym h)
      ∙ N.mul_right_comm num l (down e)),
)

-- ---- m × 2^j / 2^i is a value of the format
pub in_steps : (m j i l : ℕ) → i ≤ l → m * 2 ^ j * 2 ^ l ≡ m * 2 ^ (j + (l - i)) * 2 ^ i
in_steps m j i l h =
    N.mul_assoc m (2 ^ j) (2 ^ l)
    ∙ ap (λ (z : ℕ). m * z)
    (ap (λ (z : ℕ). 2 ^ j * 2 ^ z) (sym (back l i h))
    ∙ ap (λ (z : ℕ). 2 ^ j * z) (pow-add 2 (l - i) i)
    ∙ sym (N.mul_assoc (2 ^ j) (2 ^ (l - i)) (2 ^ i))
    ∙ ap (λ (z : ℕ). z * 2 ^ i) (sym (pow-add 2 j (l - i))))
    ∙ sym (N.mul_assoc m (2 ^ (j + (l - i))) (2 ^ i))

pub room : (p j i l e : ℕ) → p + j ≤ e → i ≤ l → p + (j + (l - i)) < l + suc e
room p j i l e h k = omega arith

module _ (f : Format) (m j i : ℕ) (M : m ≤ 2 ^ prec f) (J : prec f + j ≤ emax f) (I : i ≤ low f) where
  shift : ℕ
  shift = j + (low f - i)

  small_room : prec f + shift ≤ low f + suc (emax f)
  unfolding shift
  small_room = N.le_of_lt (room (prec f) j i (low f) (emax f) J I)

  -- m has the format's digits or fewer
  fewer : (s : Bool) → m < 2 ^ prec f → HasValue (round f s (m * 2 ^ j) (2 ^ i)) s (m * 2 ^ j) (2 ^ i)
  unfolding shift
  fewer s l =
      round_exact f s (m * 2 ^ j) (2 ^ i) m shift (pow_pos i) l
      (N.lt_of_lt_of_le (shl_lt (prec f) shift l) (pow_mono small_room))
      (in_steps m j i (low f) I)

  -- or it is the next power of 2
  full : (s : Bool) → m ≡ 2 ^ prec f → HasValue (round f s (m * 2 ^ j) (2 ^ i)) s (m * 2 ^ j) (2 ^ i)
  unfolding shift
  full s e =
      round_exact f s (m * 2 ^ j) (2 ^ i) 1 (prec f + shift) (pow_pos i) (pow-lt (two-le_pos (prec f) (two f)))
      (rw (N.one-mul (2 ^ (prec f + shift))) (pow-lt (room (prec f) j i (low f) (emax f) J I)))
      (in_steps m j i (low f) I
      ∙ ap (λ (z : ℕ). z * 2 ^ i)
      (ap (λ (z : ℕ). z * 2 ^ shift) e ∙ sym (pow-add 2 (prec f) shift) ∙ sym (N.one-mul (2 ^ (prec f + shift)))))

  pub exact : (s : Bool) → HasValue (round f s (m * 2 ^ j) (2 ^ i)) s (m * 2 ^ j) (2 ^ i)
  exact s = elim (N.eq-or-lt_of_le M) [ inl e ↦ full s e | inr l ↦ fewer s l ]

-- ---- in the code: a power of 2 is made by its bits, the field x and no digits, and m is cast and multiplied by it
pub power_bits : (j i x : ℕ) → x + i ≡ 1023 + j → 0 < x → x < 2047 → HasValue (of_bits binary64 (x * 2 ^ 52)) false (2 ^ j) (2 ^ i)
unfolding of_bits
power_bits j i zero e P B = let z : ⊥ = omega arith in absurd z
power_bits j i (suc y) e P B =
    let b = suc y * 2 ^ 52 in
    let sign_is : negative b ≡ false = is_false (negative b) (lt→nleb (2 ^ 63) b (omega arith)) in
    let field_is : field b ≡ suc y = omega arith in
    let digits_are : digits b ≡ 0 = omega arith in
    let places : j + 1074 ≡ 52 + y + i = omega arith in
    rescale (of_bits binary64 b) false (2 ^ 52 * 2 ^ y) (2 ^ 1074) (2 ^ j) (2 ^ i) (pow_pos 1074)
    (sym (pow-add 2 j 1074) ∙ ap (λ (z : ℕ). 2 ^ z) places ∙ pow-add 2 (52 + y) i ∙ ap (λ (z : ℕ). z * 2 ^ i) (pow-add 2 52 y))
    (rw (sign_is, field_is, digits_are) (fields_value false (suc y) 0 B))

pub cast :
    (f : Format) (m j i : ℕ) (y : Float) → 0 < m → m ≤ 2 ^ prec f → HasValue y false (2 ^ j) (2 ^ i) →
    mul f (of_int f (pos m)) y ≡ round f false (m * 2 ^ j) (2 ^ i)
unfolding of_int
cast f m j i y P M u =
    let x = round f false m 1 in
    let v : HasValue x false m 1 = round_whole f false m M in
    let above = positive_of_value y (2 ^ j) (2 ^ i) u (pow_pos j) in
    mul_at f x y m 1 (2 ^ j) (2 ^ i) (positive_of_value x m 1 v P) above (pow_pos 0) (pow_pos i) v u
    ∙ ap (λ (z : ℕ). round f false (m * 2 ^ j) z) (N.one-mul (2 ^ i))

-- the code's doublings leave the format room
pub few_doublings : (j : ℕ) → (j ≡ 0) ⊎ (j ≡ 10) → 53 + j ≤ 1023
few_doublings j h = ⊎_elim (λ z. omega arith) (λ z. omega arith) h
