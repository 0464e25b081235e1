-- `float_of` meets its contract: the float of the sizes, with p's sign, and its side. Assumes nothing.
use mathlib.Core.Path.{◌≡◌, refl, sym, ap, ap₂, ◌∙◌}
use Prim.Native.Nat.{ℕ, ◌<◌}
use native.Mathlib.Omega.{arith}
use lib.IntN.{pos, nat_abs}
use mir.Syntax.{w64}
use mir.ValLaws.{to_z-of_z}
use Rattle.whole.specs.Integer.{below_zero}
use Rattle.whole.proofs.Size.{one_above, one_some}
use Rattle.nearest.specs.Answers.{nearest_rounded}
use Rattle.nearest.specs.Bits.{signed}
use Rattle.nearest.proofs.Accepted.{accepted, under}
use Rattle.nearest.proofs.Sides.{side_at_zero}
use Rattle.nearest.proofs.Signed.{at_zero, signed_size}
use Rattle.nearest.proofs.float_of.Goals as goal
use Rattle.nearest.proofs.float_of.Goals.{After-is_below_zero, After-size, After-size-a}

-- ---- what the calls answered
p_size : (c : After-size-a) → c.size-a.result ≡ nat_abs c.args.p
p_size c = c.size-a.ensures ∙ ap nat_abs (to_z-of_z w64 c.args.p c.ranges.p)

q_size : (c : After-size) → c.size.result ≡ nat_abs c.args.q
q_size c = c.size.ensures ∙ ap nat_abs (to_z-of_z w64 c.args.q c.ranges.q)

sign_is : (c : After-is_below_zero) → c.is_below_zero.result ≡ below_zero c.args.p
sign_is c =
    c.is_below_zero.ensures ∙ ap below_zero (to_z-of_z w64 c.args.p c.ranges.p)

pub returns-then-a-eq0 : goal.returns-then-a-eq0
returns-then-a-eq0 c =
    let p = c.args.p in
    let q = c.args.q in
    let one = (accepted p q c.requires).one in
    let z = sym (p_size ((goal.at.returns-then-a-eq0 c).After-size-a)) ∙ c.if-a-eq0.true in
    rw (at_zero p q (one_some q one) z, side_at_zero q one p z) refl

pub ratio-requires : goal.ratio-requires
ratio-requires c =
    let g = accepted c.args.p c.args.q c.requires in
    let e = p_size ((goal.at.ratio-requires c).After-size-a) in
    let f = q_size c in
    record {
      a_nonzero = above c.size-a.result c.if-a-eq0.false;
      a_bound = rw e (under _ g.p_near);
      q_nonzero = rw f (one_some c.args.q g.one);
      q_bound = rw f (under _ g.q_near);
    }
  where
    above : (c : ℕ) → (c ≡ 0 → ⊥) → 0 < c
    above c h = omega arith

-- what was divided is p over q
pub returns : goal.returns
returns c =
    let p = c.args.p in
    let q = c.args.q in
    let one = (accepted p q c.requires).one in
    c.ratio.ensures
    ∙ ap₂ (λ s a. nearest_rounded (signed s a) (pos c.size.result)) (sign_is ((goal.at.returns c).After-is_below_zero))
    (p_size ((goal.at.returns c).After-size-a))
    ∙ ap₂ nearest_rounded (signed_size p) (ap pos (q_size ((goal.at.returns c).After-size)) ∙ sym (one_above q one))
