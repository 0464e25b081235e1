-- What the kit's `round` makes of a / q. In steps of 2^-1074 it lies between w × 2^k and (w + 1) × 2^k, for a w of 53 binary digits, and
-- one of the two is taken. Assumes nothing.
use mathlib.Core.Path.{◌≡◌, sym, subst}
use mathlib.Core.Logic.{◌⊎◌}
use mathlib.Core.Bool.{Bool}
use Prim.Native.Nat.{ℕ, ◌+◌, ◌-◌, ◌*◌, ◌/◌, ◌%◌, ◌^◌, ◌≤◌, ◌<◌, compare}
use native.Mathlib.Nat as N
use native.Mathlib.Omega.{arith}
use lib.Dec.{lit≤}
use lib.Ieee.{Float, binary64, size, nearest, round}
use lib.Ieee.Digits.{size-le, size_reaches}
use lib.Ieee.Exact.{HasValue, units_val}
use lib.Ieee.Fits.{round_is, nearest-le, kept-lt}
use lib.Ieee.Scale.{normal_of_fraction}
use lib.Pow.{pow-add, pow_pos, pow-lt}
use Rattle.nearest.proofs.Between.{Down, Up, one_taken}

pub record Kept (a q : ℕ) : Type 0 where
  -- the whole part in units of 2^k, what is left over, and which whole number is taken
  pub w : ℕ
  pub k : ℕ
  pub r : ℕ
  pub m : ℕ
  pub split : w * (q * 2 ^ k) + r ≡ a * 2 ^ 1074
  pub over : r < q * 2 ^ k
  pub least : 2 ^ 52 ≤ w
  pub most : w < 2 ^ 53
  pub taken : Down m w r (q * 2 ^ k) ⊎ Up m w r (q * 2 ^ k)
  pub top : m ≤ 2 ^ 53
  pub value : (s : Bool) → HasValue (round binary64 s a q) s (m * 2 ^ k) (2 ^ 1074)

module _ (a q : ℕ) (A : 0 < a) (A' : a < 2 ^ 63) (Q : 0 < q) (Q' : q < 2 ^ 63) where
  n : ℕ
  n = a * 2 ^ 1074

  -- how many digits of the quotient are dropped
  k : ℕ
  k = size (n / q) - 53

  w : ℕ
  w = n / (q * 2 ^ k)

  r : ℕ
  r = n % (q * 2 ^ k)

  m : ℕ
  m = nearest w (compare (r * 2) (q * 2 ^ k))

  most : w < 2 ^ 53
  unfolding w k
  most = subst (λ (x : ℕ). x < 2 ^ 53) (N.div-div-eq-div-mul n q (2 ^ k)) (kept-lt 53 (n / q))

  -- a / q is at least 2^-63, so the quotient has 53 digits and more
  enough : 53 ≤ size (n / q)
  unfolding n
  enough =
      normal_of_fraction binary64 a q Q
      (N.le_trans (N.mul-le-mul_left (2 ^ 52) (N.le_of_lt Q'))
      (N.le_trans (lit≤ tt) (N.le_trans (N.le_of_eq (sym (N.one-mul (2 ^ 1074)))) (N.mul-le-mul_right (2 ^ 1074) A))))

  least : 2 ^ 52 ≤ w
  unfolding w k
  least =
      let h : 2 ^ 52 * 2 ^ k ≤ n / q =
      N.le_trans (N.le_of_eq (sym (pow-add 2 52 k))) (size_reaches (n / q) (52 + k) (used (size (n / q)) enough)) in
      subst (λ (x : ℕ). 2 ^ 52 ≤ x) (N.div-div-eq-div-mul n q (2 ^ k)) ((N.le-div_iff_mul-le (pow_pos k)).1 h)
    where
      used : (z : ℕ) → 53 ≤ z → 52 + (z - 53) < z
      used z h = omega arith

  -- a / q is below 2^63
  dropped_le : k ≤ 1084
  unfolding k n
  dropped_le =
      let h : n < 2 ^ 1137 = N.lt_of_lt_of_le (N.mul-lt-mul_of_pos_right A' (pow_pos 1074)) (lit≤ tt) in
      cut (size (n / q)) (size-le (n / q) 1137 (N.lt_of_le_of_lt (N.div-le_self n q) h))
    where
      cut : (z : ℕ) → z ≤ 1137 → z - 53 ≤ 1084
      cut z h = omega arith

  top : m ≤ 2 ^ 53
  unfolding m
  top = N.le_trans (nearest-le w (compare (r * 2) (q * 2 ^ k))) most

  value : (s : Bool) → HasValue (round binary64 s a q) s (m * 2 ^ k) (2 ^ 1074)
  unfolding m w r k n
  value s =
      subst (λ (z : Float). HasValue z s (m * 2 ^ k) (2 ^ 1074)) (sym (round_is binary64 s a q))
      (units_val binary64 s m k
      (N.lt_of_le_of_lt (N.le_trans (N.mul-le-mul_right (2 ^ k) top) (N.le_of_eq (sym (pow-add 2 53 k)))) (pow-lt (room k dropped_le))))
    where
      room : (b : ℕ) → b ≤ 1084 → 53 + b < 2098
      room b h = omega arith

  pub kept : Kept a q
  unfolding m w r n
  kept = record {
    w = w;
    k = k;
    r = r;
    m = m;
    split = N.div-add-mod' n (q * 2 ^ k);
    over = N.mod-lt n (N.mul-pos Q (pow_pos k));
    least = least;
    most = most;
    taken = one_taken w r (q * 2 ^ k);
    top = top;
    value = value;
  }
