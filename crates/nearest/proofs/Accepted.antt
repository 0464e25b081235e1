-- Numbers that rule 18 lets in, and which it does. Assumes nothing.
use mathlib.Core.Path.{◌≡◌, refl, sym, subst}
use mathlib.Core.Bool.{Bool, true, false, not, ◌||◌}
use Prim.Native.Nat.{ℕ, ◌^◌, ◌≤◌, ◌<◌}
use native.Mathlib.Omega.{arith}
use borrow.Author.Tests.{ltb-false}
use lib.Dec.{T}
use lib.IntN.{ℤ, pos, nat_abs}
use lib.Signed.{lt_z, ◌≤ℤ◌, lt_z_no}
use Rattle.whole.specs.Integer.{beyond}
use Rattle.whole.specs.Rules.{ratio_limit}
use Rattle.whole.proofs.Rules.{holds, neither}
use Rattle.nearest.specs.Answers.{nearest_rules, nearest_refusal}

pub record Accepted (p q : ℤ) : Type 0 where
  pub one : pos 1 ≤ℤ q
  pub p_near : nat_abs p ≤ ratio_limit
  pub q_near : nat_abs q ≤ ratio_limit

-- what keeps the limit fits a signed word
pub under : (a : ℕ) → a ≤ ratio_limit → a < 2 ^ 63
under a h = omega arith

pub accepted : (p q : ℤ) → nearest_refusal p q ≡ 0 → Accepted p q
unfolding nearest_refusal nearest_rules
accepted p q z =
    let h = (holds (lt_z q (pos 1) || beyond ratio_limit p || beyond ratio_limit q) 17 0 z).0 in
    let f = neither (lt_z q (pos 1) || beyond ratio_limit p) (beyond ratio_limit q) h in
    let g = neither (lt_z q (pos 1)) (beyond ratio_limit p) f.0 in
    record {
      one = lt_z_no (subst (λ (b : Bool). T (not b)) (sym g.0) tt);
      p_near = ltb-false ratio_limit (nat_abs p) g.1;
      q_near = ltb-false ratio_limit (nat_abs q) f.1;
    }

-- ---- what the rule's test comes to
module _ (p q : ℤ) where
  pub refused : (lt_z q (pos 1) || beyond ratio_limit p || beyond ratio_limit q) ≡ true → 18 ≡ nearest_refusal p q
  unfolding nearest_refusal nearest_rules
  refused e = rw e refl

  pub let_in : (lt_z q (pos 1) || beyond ratio_limit p || beyond ratio_limit q) ≡ false → 0 ≡ nearest_refusal p q
  unfolding nearest_refusal nearest_rules
  let_in e = rw e refl
