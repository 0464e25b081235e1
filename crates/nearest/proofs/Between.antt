-- No float lies strictly between w × 2^k and (w + 1) × 2^k steps, for a w of 53 binary digits. So of these two the nearer is the
-- nearest of all floats. Assumes nothing.
use mathlib.Core.Path.{◌≡◌, refl, sym, ap, ◌∙◌}
use mathlib.Core.Logic.{◌⊎◌, inl, inr, ⊎_elim}
use Prim.Native.Nat.{ℕ, zero, suc, ◌+◌, ◌-◌, ◌*◌, ◌%◌, ◌^◌, ◌≤◌, ◌<◌, compare, Ordering}
use native.Mathlib.Nat.{le_trans, le_of_eq, le_of_lt, mul-one, mul_comm, mul_assoc, mul-le-mul_left, mul-le-mul_right, suc-mul}
use native.Mathlib.Omega.{arith}
use lib.Ieee.{nearest}
use lib.Ieee.Digits.{back}
use lib.Pow.{pow-add, pow_pos, pow_mono, shl_lt}
use Rattle.nearest.specs.Bits.{steps}
use Rattle.halves.proofs.Compare.{Cmp, cmp, either}
use Rattle.nearest.proofs.Distance.{apart}

-- ---- nothing between
module _ (t w k : ℕ) (T : t < 2 ^ 52) (W : 2 ^ 52 ≤ w) where
  -- in the field 0
  low : t ≤ w * 2 ^ k
  low = le_trans (le_of_lt T) (le_trans W (le_trans (le_of_eq (sym (mul-one w))) (mul-le-mul_left w (pow_pos k))))

  -- in a field whose steps are 2^x, for an x below k
  finer : (x : ℕ) → x < k → (2 ^ 52 + t) * 2 ^ x ≤ w * 2 ^ k
  finer x h =
      le_trans (le_of_lt (shl_lt 53 x carried))
      (le_trans (pow_mono (next x h)) (le_trans (le_of_eq (pow-add 2 52 k)) (mul-le-mul_right (2 ^ k) W)))
    where
      carried : 2 ^ 52 + t < 2 ^ 53
      carried = omega arith

      next : (x : ℕ) → x < k → 53 + x ≤ 52 + k
      next x h = omega arith

  -- and for an x from k on, where every step is a multiple of 2^k
  coarser : (x : ℕ) → k ≤ x → ((2 ^ 52 + t) * 2 ^ x ≤ w * 2 ^ k) ⊎ (suc w * 2 ^ k ≤ (2 ^ 52 + t) * 2 ^ x)
  coarser x h =
      let c = (2 ^ 52 + t) * 2 ^ (x - k) in
      let e : (2 ^ 52 + t) * 2 ^ x ≡ c * 2 ^ k =
      ap (λ (z : ℕ). (2 ^ 52 + t) * 2 ^ z) (sym (back x k h))
      ∙ ap (λ (z : ℕ). (2 ^ 52 + t) * z) (pow-add 2 (x - k) k)
      ∙ sym (mul_assoc (2 ^ 52 + t) (2 ^ (x - k)) (2 ^ k)) in
      ⊎_elim
      (λ (l : c ≤ w). inl (le_trans (le_of_eq e) (mul-le-mul_right (2 ^ k) l)))
      (λ (l : w < c). inr (le_trans (mul-le-mul_right (2 ^ k) l) (le_of_eq (sym e))))
      (either c w)

pub none_between : (x t w k : ℕ) → t < 2 ^ 52 → 2 ^ 52 ≤ w → (steps x t ≤ w * 2 ^ k) ⊎ (suc w * 2 ^ k ≤ steps x t)
none_between zero t w k T W = inl (low t w k T W)
none_between (suc x) t w k T W = ⊎_elim (λ (h : k ≤ x). coarser t w k T W x h) (λ (h : x < k). inl (finer t w k T W x h)) (either k x)

-- ---- which of the two is taken: m is w or the next number, where r of u is left over

pub record Down (m w r u : ℕ) : Type 0 where
  pub taken : m ≡ w
  pub near : r * 2 ≤ u
  pub tie : r * 2 ≡ u → m % 2 ≡ 0

pub record Up (m w r u : ℕ) : Type 0 where
  pub taken : m ≡ suc w
  pub near : u ≤ r * 2
  pub tie : r * 2 ≡ u → m % 2 ≡ 0

at_tie : (w r u : ℕ) → r * 2 ≡ u → Down (w + w % 2) w r u ⊎ Up (w + w % 2) w r u
at_tie w r u e =
    ⊎_elim
    (λ h. inl (record { taken = stays w h; near = le_of_eq e; tie = λ f. even w }))
    (λ h. inr (record { taken = moves w h; near = le_of_eq (sym e); tie = λ f. even w }))
    (either (w % 2) 0)
  where
    stays : (w : ℕ) → w % 2 ≤ 0 → w + w % 2 ≡ w
    stays w h = omega arith

    moves : (w : ℕ) → 0 < w % 2 → w + w % 2 ≡ suc w
    moves w h = omega arith

    even : (w : ℕ) → (w + w % 2) % 2 ≡ 0
    even w = omega arith

pub one_taken : (w r u : ℕ) → Down (nearest w (compare (r * 2) u)) w r u ⊎ Up (nearest w (compare (r * 2) u)) w r u
one_taken w r u = go (compare (r * 2) u) (cmp (r * 2) u)
  where
    no : (a b : ℕ) → a < b → a ≡ b → ⊥
    no a b h e = omega arith

    go : (o : Ordering) → Cmp o (r * 2) u → Down (nearest w o) w r u ⊎ Up (nearest w o) w r u
    go Ordering.lt h = inl (record { taken = refl; near = le_of_lt h; tie = λ e. absurd (no (r * 2) u h e) })
    go Ordering.eq h = at_tie w r u h
    go Ordering.gt h = inr (record { taken = refl; near = le_of_lt h; tie = λ e. absurd (no u (r * 2) h (sym e)) })

-- ---- how far it is, for a / q = n / q steps
module _ (n q w k r m : ℕ) (split : w * (q * 2 ^ k) + r ≡ n) (over : r < q * 2 ^ k) where
  at : (z : ℕ) → z * 2 ^ k * q ≡ z * (q * 2 ^ k)
  at z = mul_assoc z (2 ^ k) q ∙ ap (λ (y : ℕ). z * y) (mul_comm (2 ^ k) q)

  next : suc w * 2 ^ k * q ≡ w * (q * 2 ^ k) + q * 2 ^ k
  next = at (suc w) ∙ suc-mul w (q * 2 ^ k)

  pub down_short : Down m w r (q * 2 ^ k) → n ≡ m * 2 ^ k * q + r
  down_short d = let f : m * 2 ^ k * q ≡ w * (q * 2 ^ k) = ap (λ (z : ℕ). z * 2 ^ k * q) d.taken ∙ at w in omega arith

  pub down_far : Down m w r (q * 2 ^ k) → apart (m * 2 ^ k * q) n ≡ r
  down_far d = let f = down_short d in omega arith

  pub up_past : Up m w r (q * 2 ^ k) → m * 2 ^ k * q ≡ n + (q * 2 ^ k - r)
  up_past d = let f : m * 2 ^ k * q ≡ w * (q * 2 ^ k) + q * 2 ^ k = ap (λ (z : ℕ). z * 2 ^ k * q) d.taken ∙ next in omega arith

  pub up_far : Up m w r (q * 2 ^ k) → apart (m * 2 ^ k * q) n ≡ q * 2 ^ k - r
  up_far d = let f = up_past d in omega arith

  module _ (t : Down m w r (q * 2 ^ k) ⊎ Up m w r (q * 2 ^ k)) where
    -- no farther than either of the two
    far_down : apart (m * 2 ^ k * q) n ≤ r
    far_down =
        ⊎_elim
        (λ (d : Down m w r (q * 2 ^ k)). le_of_eq (down_far d))
        (λ (d : Up m w r (q * 2 ^ k)). let e = up_far d in let f = d.near in omega arith)
        t

    far_up : apart (m * 2 ^ k * q) n ≤ q * 2 ^ k - r
    far_up =
        ⊎_elim
        (λ (d : Down m w r (q * 2 ^ k)). let e = down_far d in let f = d.near in omega arith)
        (λ (d : Up m w r (q * 2 ^ k)). le_of_eq (up_far d))
        t

    -- as near as any number of steps that does not lie between the two
    pub nearer : (z : ℕ) → (z ≤ w * 2 ^ k) ⊎ (suc w * 2 ^ k ≤ z) → apart (m * 2 ^ k * q) n ≤ apart (z * q) n
    nearer z h =
        ⊎_elim
        (λ (l : z ≤ w * 2 ^ k). le_trans far_down (under (z * q) (le_trans (mul-le-mul_right q l) (le_of_eq (at w)))))
        (λ (l : suc w * 2 ^ k ≤ z). le_trans far_up (above (z * q) (le_trans (le_of_eq (sym next)) (mul-le-mul_right q l))))
        h
      where
        under : (y : ℕ) → y ≤ w * (q * 2 ^ k) → r ≤ apart y n
        under y l = omega arith

        above : (y : ℕ) → w * (q * 2 ^ k) + q * 2 ^ k ≤ y → q * 2 ^ k - r ≤ apart y n
        above y l = omega arith

    -- and as any with the other sign
    pub across : (y : ℕ) → apart (m * 2 ^ k * q) n ≤ y + n
    across y = le_trans far_down (rest y)
      where
        rest : (y : ℕ) → r ≤ y + n
        rest y = omega arith
