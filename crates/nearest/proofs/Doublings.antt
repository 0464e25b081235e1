-- A number that is doubled so often, as the machine has it, and a step of the long division by it. Assumes nothing.
use mathlib.Core.Path.{◌≡◌, sym, ap, ◌∙◌}
use Prim.Native.Nat.{ℕ, ◌+◌, ◌*◌, ◌/◌, ◌%◌, ◌^◌, ◌≤◌, ◌<◌}
use native.Mathlib.Nat as N
use native.Mathlib.Omega.{arith}
use lib.Arith.{digits_lt}
use lib.Pow.{pow_pos, pow_mono}

-- doubled less often, a number is no larger
pub less_often : (x r c b : ℕ) → c ≤ r → x * 2 ^ r ≤ b → x * 2 ^ c ≤ b
less_often x r c b h = N.le_trans (N.mul-le-mul_left x (pow_mono h))

-- a number that stays below 2^64 is shifted whole
shifted : (x y c : ℕ) → x < y → y * 2 ^ c ≤ 2 ^ 64 → x * 2 ^ c % 2 ^ 64 ≡ x * 2 ^ c
shifted x y c h k = N.mod-eq_of_lt (N.lt_of_lt_of_le (N.mul-lt-mul_of_pos_right h (pow_pos c)) k)

-- ---- a whole part and a rest, c digits further
module _ (w r d c : ℕ) (over : r < d) (room : (d + 1) * 2 ^ c ≤ 2 ^ 64) (lacking : (w + 1) * 2 ^ c ≤ 2 ^ 53) where
  rest_is : r * 2 ^ c % 2 ^ 64 ≡ r * 2 ^ c
  rest_is = shifted r (d + 1) c (omega arith) room

  whole_is : w * 2 ^ c % 2 ^ 64 ≡ w * 2 ^ c
  whole_is = shifted w (w + 1) c (omega arith) (omega arith)

  pub further_most : w * 2 ^ c % 2 ^ 64 + r * 2 ^ c % 2 ^ 64 / d < 2 ^ 53
  further_most =
      let h : w < w + 1 = omega arith in
      let D : 0 < d = omega arith in
      let q : r * 2 ^ c / d < 2 ^ c = (N.div-lt_iff_lt-mul D).1 (rw (N.mul_comm (2 ^ c) d) (N.mul-lt-mul_of_pos_right over (pow_pos c))) in
      rw (rest_is, whole_is) (N.lt_of_lt_of_le (digits_lt h q) lacking)

  pub further_same : (w * 2 ^ c % 2 ^ 64 + r * 2 ^ c % 2 ^ 64 / d) * d + r * 2 ^ c % 2 ^ 64 % d ≡ (w * d + r) * 2 ^ c
  further_same =
      let s = r * 2 ^ c in
      rw (rest_is, whole_is)
      (ap (λ (z : ℕ). z + s % d) (N.add-mul (w * 2 ^ c) (s / d) d)
      ∙ N.add_assoc (w * 2 ^ c * d) (s / d * d) (s % d)
      ∙ ap (λ (z : ℕ). w * 2 ^ c * d + z) (N.div-add-mod' s d)
      ∙ ap (λ (z : ℕ). z + s) (N.mul_right_comm w (2 ^ c) d)
      ∙ sym (N.add-mul (w * d) r (2 ^ c)))
