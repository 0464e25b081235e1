-- `ratio` meets its contract: what is built from the rounded quotient is a / q, rounded, and its side that of the number taken. Assumes nothing.
use mathlib.Core.Path.{◌≡◌, refl, sym, ap, ◌∙◌, subst}
use mathlib.Core.Bool.{Bool, true, false}
use Prim.Native.Nat.{ℕ, ◌+◌, ◌*◌, ◌^◌, ◌≤◌, ◌<◌, compare}
use native.Mathlib.Nat.{le_trans}
use native.Mathlib.Omega.{arith}
use lib.Ieee.{Float, nearest, round, binary64}
use lib.Ieee.Fits.{nearest-le}
use lib.Ieee.Nearest.{nearest-ge}
use lib.IntN.{pos}
use Rattle.nearest.specs.Answers.{nearest_float}
use Rattle.nearest.specs.Bits.{signed}
use Rattle.nearest.specs.Steps.{Widened, Divided}
use Rattle.nearest.proofs.LongDivision.{built}
use Rattle.nearest.proofs.Powers.{few_doublings}
use Rattle.nearest.proofs.Sides.{signed_side}
use Rattle.nearest.proofs.Signed.{signed_float}
use Rattle.nearest.proofs.ratio.Goals as goal
use Rattle.nearest.proofs.ratio.Goals.{After-scaled-size, After-side_taken, then-minus, else-minus}

some : (w m : ℕ) → 2 ^ 52 ≤ w → w ≤ m → 0 < m
some w m h k = omega arith

joined :
    (a q d j w r k m : ℕ) → 0 < q → Widened q d j → Divided a d w r k → m ≡ nearest w (compare (r * 2) d) →
    round binary64 false (m * 2 ^ j) (2 ^ k) ≡ round binary64 false a q
joined a q d j w r k m Q by x e =
    let K : k ≤ 1074 = omega arith in
    ap (λ (z : ℕ). round binary64 false (z * 2 ^ j) (2 ^ k)) (e ∙ ap (λ (z : ℕ). nearest w (compare (r * 2) z)) by.same)
    ∙ built binary64 a q j k w r Q
    (subst (λ (z : ℕ). w * z + r ≡ a * 2 ^ k) by.same x.same)
    (subst (λ (z : ℕ). r < z) by.same x.over)
    x.least x.most K false (few_doublings j by.often)

pub scaled-size-requires : goal.scaled-size-requires
scaled-size-requires c =
    let x = c.long_division-x in
    let by = c.widened-by in
    let o = compare (x.result.rest * 2) by.result.divisor in
    let m = c.half_to_even-m in
    let low : x.result.whole ≤ m.result = rw m.ensures (nearest-ge x.result.whole o) in
    let top : m.result ≤ 2 ^ 53 = rw m.ensures (le_trans (nearest-le x.result.whole o) x.ensures.most) in record {
      m_nonzero = some x.result.whole m.result x.ensures.least low;
      m_bound = top;
      doublings_value = by.ensures.often;
      halvings_bound = x.ensures.few;
    }

-- the float before it has its sign
sized : (c : After-scaled-size) → c.scaled-size.result ≡ round binary64 false c.args.a c.args.q
sized c =
    let by = c.widened-by in
    let x = c.long_division-x in
    let m = c.half_to_even-m in
    c.scaled-size.ensures
    ∙ joined c.args.a c.args.q by.result.divisor by.result.doublings
    x.result.whole x.result.rest x.result.halvings m.result
    c.requires.q_nonzero by.ensures x.ensures m.ensures

-- and after
with_sign :
    (c : After-side_taken) → c.if-minus.result ≡ nearest_float (signed c.args.minus c.args.a) (pos c.args.q)
with_sign c =
    let a = c.args.a in
    let q = c.args.q in
    let x = c.scaled-size.result in
    let as_meant : Bool → Float = λ minus. nearest_float (signed minus a) (pos q) in
    let size = sized ((goal.at.After-side_taken c).After-scaled-size) in
    elim c.if-minus.branch [
      | then-minus w ↦ w.result-is ∙ signed_float true a q x c.requires.a_nonzero size ∙ ap as_meant (sym w.if-minus.true)
      | else-minus w ↦ w.result-is ∙ signed_float false a q x c.requires.a_nonzero size ∙ ap as_meant (sym w.if-minus.false)
    ]

pub returns : goal.returns
returns c =
    let a = c.args in
    let by = c.widened-by in
    let x = c.long_division-x in
    let m = c.half_to_even-m in
    let side =
    c.side_taken.ensures
    ∙ signed_side a.minus a.a a.q by.result.divisor by.result.doublings
    x.result.whole x.result.rest x.result.halvings m.result
    c.requires.a_nonzero c.requires.a_bound c.requires.q_nonzero c.requires.q_bound by.ensures x.ensures m.ensures in
    rw (with_sign c, side) refl
