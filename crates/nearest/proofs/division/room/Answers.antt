-- `room` meets its contract: the leading zeros and the digits are 64. Assumes nothing.
use mathlib.Core.Path.{◌≡◌, sym, ap, ◌∙◌, subst}
use Prim.Native.Nat.{ℕ, ◌+◌, ◌*◌, ◌^◌, ◌≤◌, ◌<◌}
use native.Mathlib.Nat as N
use native.Mathlib.Omega.{arith}
use lib.Count.{count_leading_zeros, leading_le, leading_length}
use lib.Pow.{pow-add, pow_mono}
use Rattle.nearest.specs.Steps.{Room}
use Rattle.nearest.proofs.division.room.Goals as goal

-- a number of m digits
of_digits : (x r m : ℕ) → r ≤ 64 → r + m ≡ 64 → x < 2 ^ m → 2 ^ m ≤ 2 * x + 1 → Room x r
of_digits x r m F e below from = record {
  few = F;
  inside =
      let l : m + r ≡ 64 = omega arith in
      N.le_trans (N.mul-le-mul_right (2 ^ r) (next (2 ^ m) below)) (N.le_of_eq (sym (pow-add 2 m r) ∙ ap (λ (z : ℕ). 2 ^ z) l));
  most = λ k h.
      let l : m < k + 1 =
      N.lt_of_not-le (λ (g : k + 1 ≤ m). twice (2 ^ k) h (N.le_trans (N.le_of_eq (sym (pow-add 2 k 1))) (N.le_trans (pow_mono g) from))) in
      omega arith;
}
  where
    next : (p : ℕ) → x < p → x + 1 ≤ p
    next p h = omega arith

    twice : (p : ℕ) → x < p → p * 2 ≤ 2 * x + 1 → ⊥
    twice p h l = omega arith

pub returns : goal.returns
returns c =
    let x = c.args.x in
    let l = leading_length 64 x c.ranges.x.fits in
    subst (Room x) (sym c.from.ensures) (of_digits x (count_leading_zeros 64 x) l.0 (leading_le 64 x) l.1 l.2 l.3)
