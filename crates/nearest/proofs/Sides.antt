-- On which side of its ratio a float lies, from what the division left over and which number it took. Assumes nothing.
use mathlib.Core.Path.{◌≡◌, refl, sym, ap, ◌∙◌, subst}
use mathlib.Core.Logic.{◌⊎◌, ⊎_elim}
use mathlib.Core.Bool.{Bool, true, false, not, cond, beq, true≢false}
use Prim.Native.Nat.{ℕ, zero, suc, ◌+◌, ◌-◌, ◌*◌, ◌^◌, ◌≤◌, ◌<◌, compare, Ordering}
use native.Mathlib.Nat as N
use native.Mathlib.Omega.{arith}
use borrow.Author.Tests.{lt-ltb, eqb-true, eqb-false}
use lib.Dec.{eqb}
use lib.Ieee.{binary64, nearest, round, to_bits}
use lib.Ieee.Exact.{HasValue}
use lib.Ieee.Fits.{round-fits}
use lib.IntN.{ℤ, pos, negsuc, neg_ℤ, nat_abs, ◌*ℤ◌}
use lib.Pow.{pow_pos}
use lib.Signed.{lt_z, ◌≤ℤ◌}
use Rattle.whole.specs.Integer.{equal, below_zero}
use Rattle.whole.proofs.Compare.{equal_same, equal_true, less_unequal, more_unequal, less_only, else_equal, less_neg}
use Rattle.whole.proofs.Size.{zero_of_size, one_above, one_some}
use Rattle.halves.proofs.Compare.{Cmp, cmp}
use Rattle.nearest.specs.Answers.{nearest_float, nearest_side}
use Rattle.nearest.specs.Bits.{size_of, signed, value_of}
use Rattle.nearest.specs.Sides.{side_by, side_of, other_side}
use Rattle.nearest.specs.Steps.{Widened, Divided, taken_side}
use Rattle.nearest.specs.declared.Side.{Side}
use Rattle.nearest.specs.declared.Side.TheVariants.{Equal, Below, Above}
use Rattle.nearest.proofs.Between.{Down, Up, one_taken}
use Rattle.nearest.proofs.Distance.{signed_mul}
use Rattle.nearest.proofs.Fields.{Read, read}
use Rattle.nearest.proofs.NearestFloat.{zero_bits}
use Rattle.nearest.proofs.LongDivision.{ratio_steps, rest_steps, float_steps}
use Rattle.nearest.proofs.Powers.{few_doublings}
use Rattle.nearest.proofs.Rounding.{kept}

-- ---- where one number lies beside another
pub at_equal : (y z : ℤ) → y ≡ z → side_by y z ≡ Equal
unfolding side_by
at_equal y z e = rw (e, equal_same z) refl

pub at_below : (y z : ℤ) → lt_z y z ≡ true → side_by y z ≡ Below
unfolding side_by
at_below y z h = rw (less_unequal y z h, h) refl

pub at_above : (y z : ℤ) → lt_z z y ≡ true → side_by y z ≡ Above
unfolding side_by
at_above y z h = rw (more_unequal y z h, less_only z y h) refl

-- and back
module _ (y z : ℤ) where
  pub only_equal : side_by y z ≡ Equal → y ≡ z
  unfolding side_by
  only_equal = go (equal y z) (lt_z y z) (equal_true y z)
    where
      go : (e l : Bool) → (e ≡ true → y ≡ z) → cond e Equal (cond l Below Above) ≡ Equal → y ≡ z
      go true l h k = h refl
      go false true h k = cc
      go false false h k = cc

  pub only_below : side_by y z ≡ Below → lt_z y z ≡ true
  unfolding side_by
  only_below = go (equal y z) (lt_z y z)
    where
      go : (e l : Bool) → cond e Equal (cond l Below Above) ≡ Below → l ≡ true
      go true l k = cc
      go false true k = refl
      go false false k = cc

  pub only_above : side_by y z ≡ Above → lt_z z y ≡ true
  unfolding side_by
  only_above = go (equal y z) (lt_z y z) (lt_z z y) refl refl refl
    where
      go : (e l g : Bool) → equal y z ≡ e → lt_z y z ≡ l → lt_z z y ≡ g → cond e Equal (cond l Below Above) ≡ Above → g ≡ true
      go e l true he hl hg k = refl
      go true l false he hl hg k = cc
      go false true false he hl hg k = cc
      go false false false he hl hg k = absurd (true≢false (sym (else_equal y z hl hg) ∙ he))

-- ---- the number taken for a quotient: a ratio of n steps is w times u and the rest, of r times c more, and the float m times u
module _ (w r d m c u n : ℕ) (some : 0 < c) (over : r < d) (within : r * c < u) (split : n ≡ w * u + r * c)
    (taken : Down m w r d ⊎ Up m w r d) where
  -- nothing is left over
  on_it : r ≡ 0 → m * u ≡ n
  on_it e = ⊎_elim (λ t. ap (λ z. z * u) t.taken ∙ kept) (λ t. absurd (none t.near)) taken
    where
      kept : w * u ≡ n
      kept = let z : r * c ≡ 0 = ap (λ z. z * c) e ∙ N.zero-mul c in omega arith

      none : d ≤ r * 2 → ⊥
      none h = omega arith

  -- the whole part is kept
  short_of : 0 < r → m ≡ w → m * u < n
  short_of h e = let z : 0 < r * c = N.mul-pos h some in let f : m * u ≡ w * u = ap (λ z. z * u) e in omega arith

  -- it went up
  past_it : (m ≡ w → ⊥) → n < m * u
  past_it f = ⊎_elim (λ t. absurd (f t.taken)) (λ t. up (ap (λ z. z * u) t.taken ∙ N.suc-mul w u)) taken
    where
      up : m * u ≡ w * u + u → n < m * u
      up e = omega arith

  pub side_is : taken_side false w r m ≡ side_by (pos (m * u)) (pos n)
  side_is = go (eqb r 0) refl
    where
      other : (b : Bool) → eqb m w ≡ b → 0 < r → cond (beq (not b) false) Below Above ≡ side_by (pos (m * u)) (pos n)
      other true e h = sym (at_below (pos (m * u)) (pos n) (lt-ltb (m * u) n (short_of h (eqb-true m w e))))
      other false e h = sym (at_above (pos (m * u)) (pos n) (lt-ltb n (m * u) (past_it (eqb-false m w e))))

      above : (r ≡ 0 → ⊥) → 0 < r
      above f = N.pos_of_ne-zero f

      go : (b : Bool) → eqb r 0 ≡ b → cond b Equal (cond (beq (not (eqb m w)) false) Below Above) ≡ side_by (pos (m * u)) (pos n)
      go true e = sym (at_equal (pos (m * u)) (pos n) (ap pos (on_it (eqb-true r 0 e))))
      go false e = other (eqb m w) refl (above (eqb-false r 0 e))

-- of the negatives it is the other one
taken_turned : (w r m : ℕ) → taken_side true w r m ≡ other_side (taken_side false w r m)
taken_turned w r m = go (eqb r 0) (eqb m w)
  where
    go :
        (none same : Bool) →
        cond none Equal (cond (beq (not same) true) Below Above) ≡ other_side (cond none Equal (cond (beq (not same) false) Below Above))
    go true same = refl
    go false true = refl
    go false false = refl

-- ---- the value of the float that is made of p and q, where p has this sign
module _ (s : Bool) (a q m k : ℕ) (v : HasValue (round binary64 s a q) s (m * 2 ^ k) (2 ^ 1074)) where
  abbrev b : ℕ
  b = to_bits binary64 (round binary64 s a q)

  pub value_is : value_of b *ℤ pos q ≡ signed s (m * (q * 2 ^ k))
  value_is =
      let is : Read b s (m * 2 ^ k) = read (round binary64 s a q) s (m * 2 ^ k) (round-fits binary64 s a q) v in
      ap (λ (z : ℤ). z *ℤ pos q) (ap (λ (t : Bool). signed t (size_of b)) is.sign ∙ ap (signed s) is.size)
      ∙ signed_mul s (m * 2 ^ k) q
      ∙ ap (signed s) (N.mul_assoc m (2 ^ k) q ∙ ap (λ (z : ℕ). m * z) (N.mul_comm (2 ^ k) q))

-- ---- the quotient of two sizes, and the number taken for it
divided_side :
    (a q j w r k : ℕ) → 0 < q → w * (q * 2 ^ j) + r ≡ a * 2 ^ k → r < q * 2 ^ j → 2 ^ 52 ≤ w → w < 2 ^ 53 → k ≤ 1074 → 53 + j ≤ 1023 →
    taken_side false w r (nearest w (compare (r * 2) (q * 2 ^ j))) ≡ nearest_side (pos a) (pos q)
unfolding nearest_side side_of nearest_float
divided_side a q j w r k Q split over least most K J =
    let m = nearest w (compare (r * 2) (q * 2 ^ j)) in
    let c = 2 ^ (1074 - k) in
    let D = j + (1074 - k) in
    let v = float_steps binary64 a q j k w r Q split over least most K false J in
    side_is w r (q * 2 ^ j) m c (q * 2 ^ D) (a * 2 ^ 1074) (pow_pos (1074 - k)) over
    (rest_steps binary64 a q j k w r Q split over least most K)
    (ratio_steps binary64 a q j k w r Q split over least most K)
    (one_taken w r (q * 2 ^ j))
    ∙ ap (λ (z : ℤ). side_by z (pos (a * 2 ^ 1074))) (sym (value_is false a q m D v))

of_sizes :
    (a q d j w r k m : ℕ) → 0 < q → Widened q d j → Divided a d w r k → m ≡ nearest w (compare (r * 2) d) →
    taken_side false w r m ≡ nearest_side (pos a) (pos q)
of_sizes a q d j w r k m Q by x e =
    let K : k ≤ 1074 = omega arith in
    ap (taken_side false w r) (e ∙ ap (λ (z : ℕ). nearest w (compare (r * 2) z)) by.same)
    ∙ divided_side a q j w r k Q
    (subst (λ (z : ℕ). w * z + r ≡ a * 2 ^ k) by.same x.same)
    (subst (λ (z : ℕ). r < z) by.same x.over)
    x.least x.most K (few_doublings j by.often)

-- ---- the negatives of two sizes
turned : (y z : ℕ) → side_by (neg_ℤ (pos y)) (neg_ℤ (pos z)) ≡ other_side (side_by (pos y) (pos z))
turned y z = go (compare y z) (cmp y z)
  where
    go : (o : Ordering) → Cmp o y z → side_by (neg_ℤ (pos y)) (neg_ℤ (pos z)) ≡ other_side (side_by (pos y) (pos z))
    go Ordering.lt h =
        at_above (neg_ℤ (pos y)) (neg_ℤ (pos z)) (less_neg y z h) ∙ ap other_side (sym (at_below (pos y) (pos z) (lt-ltb y z h)))
    go Ordering.eq h =
        at_equal (neg_ℤ (pos y)) (neg_ℤ (pos z)) (ap (λ (x : ℕ). neg_ℤ (pos x)) h) ∙ ap other_side (sym (at_equal (pos y) (pos z) (ap pos h)))
    go Ordering.gt h =
        at_below (neg_ℤ (pos y)) (neg_ℤ (pos z)) (less_neg z y h) ∙ ap other_side (sym (at_above (pos y) (pos z) (lt-ltb z y h)))

-- ---- from two sizes to two numbers
minus_at : (a q : ℕ) → suc a < 2 ^ 63 → 0 < q → q < 2 ^ 63 → other_side (nearest_side (pos (suc a)) (pos q)) ≡ nearest_side (negsuc a) (pos q)
unfolding nearest_side side_of nearest_float
minus_at a q A Q Q' =
    let x = kept (suc a) q (N.zero-lt-suc a) A Q Q' in
    let n = suc a * 2 ^ 1074 in
    let u = q * 2 ^ x.k in
    ap (λ (z : ℤ). other_side (side_by z (pos n))) (value_is false (suc a) q x.m x.k (x.value false))
    ∙ sym (turned (x.m * u) n)
    ∙ ap (λ (z : ℤ). side_by z (neg_ℤ (pos n))) (sym (value_is true (suc a) q x.m x.k (x.value true)))

zero_at : (q : ℕ) → 0 < q → Equal ≡ nearest_side (pos 0) (pos q)
unfolding nearest_side side_of nearest_float
zero_at q Q =
    sym (ap (λ (b : ℕ). side_by (value_of b *ℤ pos q) (pos 0 *ℤ pos (2 ^ 1074))) (zero_bits q Q)
    ∙ at_equal (pos (0 * q)) (pos (0 * 2 ^ 1074)) (ap pos (N.zero-mul q)))

-- the side that the code finds, of the float of a signed ratio
pub signed_side :
    (s : Bool) (a q d j w r k m : ℕ) → 0 < a → a < 2 ^ 63 → 0 < q → q < 2 ^ 63 → Widened q d j → Divided a d w r k →
    m ≡ nearest w (compare (r * 2) d) → taken_side s w r m ≡ nearest_side (signed s a) (pos q)
signed_side false a q d j w r k m A A' Q Q' by x e = of_sizes a q d j w r k m Q by x e
signed_side true zero q d j w r k m A A' Q Q' by x e = absurd (N.lt_irrefl 0 A)
signed_side true (suc a) q d j w r k m A A' Q Q' by x e =
    taken_turned w r m ∙ ap other_side (of_sizes (suc a) q d j w r k m Q by x e) ∙ minus_at a q A' Q Q'

-- ---- for any divisor from 1
module _ (q : ℤ) (h : pos 1 ≤ℤ q) where
  same_divisor : (p : ℤ) → nearest_side p (pos (nat_abs q)) ≡ nearest_side p q
  same_divisor p = ap (nearest_side p) (sym (one_above q h))

  pub side_at_zero : (p : ℤ) → nat_abs p ≡ 0 → Equal ≡ nearest_side p q
  side_at_zero p e =
      zero_at (nat_abs q) (one_some q h) ∙ same_divisor (pos 0) ∙ ap (λ (z : ℤ). nearest_side z q) (sym (zero_of_size p e))

  pub side_at_plus : (p : ℤ) → below_zero p ≡ false → nearest_side (pos (nat_abs p)) (pos (nat_abs q)) ≡ nearest_side p q
  side_at_plus (pos a) e = same_divisor (pos a)
  side_at_plus (negsuc a) e = absurd (true≢false e)

  pub side_at_minus :
      (p : ℤ) → nat_abs p < 2 ^ 63 → nat_abs q < 2 ^ 63 → below_zero p ≡ true →
      other_side (nearest_side (pos (nat_abs p)) (pos (nat_abs q))) ≡ nearest_side p q
  side_at_minus (pos a) A B e = absurd (true≢false (sym e))
  side_at_minus (negsuc a) A B e = minus_at a (nat_abs q) A (one_some q h) B ∙ same_divisor (negsuc a)

  -- of a number and its negative
  pub turned_side :
      (p : ℤ) → nat_abs p < 2 ^ 63 → nat_abs q < 2 ^ 63 → nearest_side (neg_ℤ p) q ≡ other_side (nearest_side p q)
  turned_side (pos zero) A B = let e = sym (side_at_zero (pos 0) refl) in e ∙ ap other_side (sym e)
  turned_side (pos (suc a)) A B =
      sym (side_at_minus (negsuc a) A B refl) ∙ ap other_side (side_at_plus (pos (suc a)) refl)
  turned_side (negsuc a) A B =
      sym (side_at_plus (pos (suc a)) refl) ∙ sym (twice _) ∙ ap other_side (side_at_minus (negsuc a) A B refl)
    where
      twice : (s : Side) → other_side (other_side s) ≡ s
      twice Equal = refl
      twice Below = refl
      twice Above = refl
