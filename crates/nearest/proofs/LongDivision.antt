-- A long division of a by q whose quotient has all of the format's digits, rounded half to even, is the kit's `round` of a / q. The
-- quotient: a × 2^k is w times q × 2^j, and r is left over. Assumes nothing.
use mathlib.Core.Path.{◌≡◌, sym, ap, ◌∙◌}
use mathlib.Core.Bool.{Bool}
use Prim.Native.Nat.{ℕ, suc, ◌+◌, ◌-◌, ◌*◌, ◌/◌, ◌%◌, ◌^◌, ◌≤◌, ◌<◌, compare}
use native.Mathlib.Nat as N
use native.Mathlib.Omega.{arith}
use lib.Arith.{digits_div, digits_mod}
use lib.Ieee.{Format, prec, emax, low, size, nearest, units, round}
use lib.Ieee.Digits.{size-lt, size-le, back}
use lib.Ieee.Exact.{HasValue, units_val}
use lib.Ieee.Fits.{round_is, round-fits, core, nearest-le, two, two-le_pos}
use lib.Ieee.Nearest.{closest, closest_same}
use lib.Pow.{pow-add, pow_pos, pow_mono, pow-lt}
use Rattle.nearest.proofs.Powers.{value_unique, rescale, in_steps, room, exact}

-- n has more than j digits
size_gt : (n j : ℕ) → 2 ^ j ≤ n → j < size n
size_gt n j h = N.lt_of_not-le (λ (g : size n ≤ j). N.not-le_of_lt (N.lt_of_lt_of_le (size-lt n) (pow_mono g)) h)

-- how many of z digits are dropped where p of them are kept
drop_at : (p b z : ℕ) → 0 < p → z ≤ p + b → p - 1 + b < z → z - p ≡ b
drop_at p b z P h k = omega arith

module _ (f : Format) (a q j k w r : ℕ) (Q : 0 < q) (split : w * (q * 2 ^ j) + r ≡ a * 2 ^ k) (over : r < q * 2 ^ j)
    (least : 2 ^ (prec f - 1) ≤ w) (most : w < 2 ^ prec f) (K : k ≤ low f) where
  -- what `round` divides, in steps of the format's least value
  n : ℕ
  n = a * 2 ^ low f

  -- how many digits of it are dropped
  dropped : ℕ
  dropped = j + (low f - k)

  -- what is kept
  m : ℕ
  m = nearest w (compare (r * 2) (q * 2 ^ j))

  scaled_divisor : q * 2 ^ j * 2 ^ (low f - k) ≡ q * 2 ^ dropped
  unfolding dropped
  scaled_divisor = N.mul_assoc q (2 ^ j) (2 ^ (low f - k)) ∙ ap (λ (z : ℕ). q * z) (sym (pow-add 2 j (low f - k)))

  n_is : n ≡ w * (q * 2 ^ dropped) + r * 2 ^ (low f - k)
  unfolding n dropped
  n_is =
      let c = low f - k in
      ap (λ (z : ℕ). a * 2 ^ z) (sym (back (low f) k K))
      ∙ ap (λ (z : ℕ). a * z) (pow-add 2 c k)
      ∙ ap (λ (z : ℕ). a * z) (N.mul_comm (2 ^ c) (2 ^ k))
      ∙ sym (N.mul_assoc a (2 ^ k) (2 ^ c))
      ∙ ap (λ (z : ℕ). z * 2 ^ c) (sym split)
      ∙ N.add-mul (w * (q * 2 ^ j)) r (2 ^ c)
      ∙ ap (λ (z : ℕ). z + r * 2 ^ c)
      (N.mul_assoc w (q * 2 ^ j) (2 ^ c) ∙ ap (λ (z : ℕ). w * z) scaled_divisor)

  rest_lt : r * 2 ^ (low f - k) < q * 2 ^ dropped
  rest_lt = N.lt_of_lt_of_le (N.mul-lt-mul_of_pos_right over (pow_pos (low f - k))) (N.le_of_eq scaled_divisor)

  whole_is : n / q / 2 ^ dropped ≡ w
  whole_is = N.div-div-eq-div-mul n q (2 ^ dropped) ∙ ap (λ (z : ℕ). z / (q * 2 ^ dropped)) n_is ∙ digits_div w rest_lt

  dropped_is : size (n / q) - prec f ≡ dropped
  dropped_is =
      let b = dropped in
      let below : n / q < 2 ^ (prec f + b) = rw (pow-add 2 (prec f) b) ((N.div-lt_iff_lt-mul (pow_pos b)).0 (rw whole_is most)) in
      let from : 2 ^ (prec f - 1 + b) ≤ n / q = rw (pow-add 2 (prec f - 1) b) ((N.le-div_iff_mul-le (pow_pos b)).0 (rw whole_is least)) in
      drop_at (prec f) b (size (n / q)) (two-le_pos (prec f) (two f))
      (size-le (n / q) (prec f + b) below)
      (size_gt (n / q) (prec f - 1 + b) from)

  kept_is : closest n (q * 2 ^ dropped) ≡ m
  unfolding n dropped m
  kept_is =
      let c = low f - k in
      let d = q * 2 ^ j in
      let cross : a * 2 ^ low f * d ≡ a * 2 ^ k * (q * 2 ^ (j + c)) =
      ap (λ (z : ℕ). a * 2 ^ z * d) (sym (back (low f) k K)) ∙ simp (pow-add, N.mul_assoc, N.mul_comm, N.mul_left_comm) in
      closest_same (a * 2 ^ low f) (q * 2 ^ (j + c)) (a * 2 ^ k) d (N.mul-pos Q (pow_pos (j + c))) (N.mul-pos Q (pow_pos j)) cross
      ∙ ap (λ (z : ℕ). closest z d) (sym split)
      ∙ ap (λ (z : ℕ). nearest z (compare ((w * d + r) % d * 2) d)) (digits_div w over)
      ∙ ap (λ (z : ℕ). nearest w (compare (z * 2) d)) (digits_mod w over)

  round_units : (s : Bool) → round f s a q ≡ units f s m dropped
  unfolding n
  round_units s = round_is f s a q ∙ ap (λ (z : ℕ). core f s n q z) dropped_is ∙ ap (λ (z : ℕ). units f s z dropped) kept_is

  m_top : m ≤ 2 ^ prec f
  unfolding m
  m_top = N.le_trans (nearest-le w (compare (r * 2) (q * 2 ^ j))) most

  -- the kit's rounded a / q is m × 2^j / 2^k
  round_value : (s : Bool) → prec f + j ≤ emax f → HasValue (round f s a q) s (m * 2 ^ dropped) (2 ^ low f)
  unfolding dropped
  round_value s J =
      let under : m * 2 ^ dropped < 2 ^ (low f + suc (emax f)) =
      N.lt_of_le_of_lt
      (N.le_trans (N.mul-le-mul_right (2 ^ dropped) m_top) (N.le_of_eq (sym (pow-add 2 (prec f) dropped))))
      (pow-lt (room (prec f) j k (low f) (emax f) J K)) in
      rw (round_units s) (units_val f s m dropped under)

  -- in steps of the least value: what a / q is, multiplied out by q, and what is made of it
  pub ratio_steps : a * 2 ^ low f ≡ w * (q * 2 ^ (j + (low f - k))) + r * 2 ^ (low f - k)
  unfolding n dropped
  ratio_steps = n_is

  pub rest_steps : r * 2 ^ (low f - k) < q * 2 ^ (j + (low f - k))
  unfolding dropped
  rest_steps = rest_lt

  pub float_steps :
      (s : Bool) → prec f + j ≤ emax f →
      HasValue (round f s a q) s (nearest w (compare (r * 2) (q * 2 ^ j)) * 2 ^ (j + (low f - k))) (2 ^ low f)
  unfolding m dropped
  float_steps s J = round_value s J

  -- and so is what the code builds
  pub built : (s : Bool) → prec f + j ≤ emax f → round f s (nearest w (compare (r * 2) (q * 2 ^ j)) * 2 ^ j) (2 ^ k) ≡ round f s a q
  unfolding m dropped
  built s J =
      let x = round f s (m * 2 ^ j) (2 ^ k) in
      value_unique f x (round f s a q) s (m * 2 ^ dropped) (round-fits f s (m * 2 ^ j) (2 ^ k)) (round-fits f s a q)
      (rescale x s (m * 2 ^ j) (2 ^ k) (m * 2 ^ dropped) (2 ^ low f) (pow_pos k)
      (sym (in_steps m j k (low f) K))
      (exact f m j k m_top J K s))
      (round_value s J)
