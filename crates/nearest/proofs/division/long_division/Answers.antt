-- `long_division` meets its contract. The loop keeps whole × divisor + rest at a × 2^halvings. As the whole part has at most 53 digits
-- the halvings are fewer than 116, since a × 2^halvings is below 2^116. Assumes nothing.
use mathlib.Core.Path.{◌≡◌, sym, ap, ◌∙◌}
use Prim.Native.Nat.{ℕ, ◌+◌, ◌*◌, ◌^◌, ◌≤◌, ◌<◌}
use native.Mathlib.Nat as N
use native.Mathlib.Omega.{arith}
use borrow.Author.Rules.{rules}
use lib.Arith.{digits_lt}
use lib.Pow.{pow-add, pow_mono}
use Rattle.nearest.proofs.Doublings.{less_often}
use Rattle.nearest.proofs.division.long_division.Goals as goal

at_least : (a k : ℕ) → 0 < a → 2 ^ k ≤ a * 2 ^ k
at_least a k A = rw (N.mul_comm a (2 ^ k)) (N.le-mul_of_pos_right (2 ^ k) A)

few : (a d w r k : ℕ) → 0 < a → d < 2 ^ 63 → w * d + r ≡ a * 2 ^ k → r < d → w < 2 ^ 53 → k < 116
few a d w r k A D e R W =
    let h : a * 2 ^ k < 2 ^ 116 = N.lt_of_le_of_lt (N.le_of_eq (sym e)) (N.lt_of_lt_of_le (digits_lt W R) (bound d D)) in
    N.lt_of_not-le (λ (g : 116 ≤ k). N.not-le_of_lt h (N.le_trans (pow_mono g) (at_least a k A)))
  where
    bound : (d : ℕ) → d < 2 ^ 63 → 2 ^ 53 * d ≤ 2 ^ 116
    bound d h = omega arith

-- c digits further
further :
    (a d w r k c w' r' k' : ℕ) → 0 < a → d < 2 ^ 63 → w * d + r ≡ a * 2 ^ k →
    (w' * d + r' ≡ (w * d + r) * 2 ^ c) × ((r' < d) × ((w' < 2 ^ 53) × (k' ≡ k + c))) →
    (w' * d + r' ≡ a * 2 ^ k') × (r' < d) × (w' < 2 ^ 53) × (k' < 116)
further a d w r k c w' r' k' A D e s =
    let same : w' * d + r' ≡ a * 2 ^ k' =
    s.0
    ∙ ap (λ (z : ℕ). z * 2 ^ c) e
    ∙ N.mul_assoc a (2 ^ k) (2 ^ c)
    ∙ ap (λ (z : ℕ). a * z) (sym (pow-add 2 k c))
    ∙ ap (λ (z : ℕ). a * 2 ^ z) (sym s.1.1.1) in
    (same, s.1.0, s.1.1.0, few a d w' r' k' A D same s.1.0 s.1.1.0)

pub loop-x-init : goal.loop-x-init
loop-x-init c =
    let a = c.args.a in
    let d = c.args.divisor in
    let D : 0 < d = omega arith in
    (N.div-add-mod' a d ∙ sym (N.mul-one a), N.mod-lt a D, (N.div-lt_iff_lt-mul D).1 (omega arith), omega arith)

pub loop-x-preserved-then-most-lt-WORTH : goal.loop-x-preserved-then-most-lt-WORTH
loop-x-preserved-then-most-lt-WORTH c =
    let l = c.loop-x in
    further _ _ _ _ _ 1 _ _ _ c.requires.a_nonzero c.requires.divisor_bound l.invariant.0 (
      c.next_digit-x.ensures.rest_value,
      (c.next_digit-x.ensures.rest_lt_divisor_2, (c.next_digit-x.ensures.whole_bound_2, c.next_digit-x.ensures.halvings_value)),
    )

pub more_digits-x-requires : goal.more_digits-x-requires
more_digits-x-requires c =
    let l = c.loop-x in
    let room = c.room-most in
    let e = c.count.ensures in record {
      rest_lt_divisor = l.invariant.1;
      count_bound = less_often _ _ _ _ e.upper_bound room.ensures.inside;
      count_bound_2 = e.result_bound;
      count_bound_3 = e.upper_bound_2;
      halvings_bound = omega arith;
    }

pub loop-x-preserved : goal.loop-x-preserved
loop-x-preserved c =
    let l = c.loop-x in
    further _ _ _ _ _ c.count.result _ _ _ c.requires.a_nonzero c.requires.divisor_bound l.invariant.0 (
      c.more_digits-x.ensures.rest_value,
      (
        c.more_digits-x.ensures.rest_lt_divisor_2,
        (
          c.more_digits-x.ensures.whole_bound,
          c.more_digits-x.ensures.halvings_value,
        ),
      ),
    )

pub returns : goal.returns
returns c =
    let l = c.loop-x in
    record { same = l.invariant.0; over = l.invariant.1; least = search rules; most = l.invariant.2; few = search rules }
