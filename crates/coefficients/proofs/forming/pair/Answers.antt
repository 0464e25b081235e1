-- `pair` meets its contract: without weight no coefficient, with weight the two ratios, whose products fit. Assumes nothing.
use mathlib.Core.Path.{◌≡◌, refl, ◌∙◌}
use mathlib.Core.Bool.{false}
use Prim.Native.Nat.{ℕ, ◌*◌, ◌-◌}
use native.Mathlib.Omega.{arith}
use lib.IntN.{ℤ, pos, ◌*ℤ◌}
use mir.Syntax.{w64}
use Rattle.whole.specs.Integer.{is_zero}
use Rattle.whole.proofs.Machine.{rd, fit, fits_le, zero_yes, zero_no}
use Rattle.nearest.specs.Answers.{nearest_rounded}
use Rattle.nearest.specs.declared.Rounded.{Rounded}
use Rattle.account.specs.declared.ClassRow.{ClassRow}
use Rattle.coefficients.specs.Coefficients.{coefficient, pair_of}
use Rattle.coefficients.specs.declared.Pair.{Pair}
use Rattle.coefficients.specs.declared.Coefficient.{Coefficient}
use Rattle.coefficients.specs.declared.Coefficient.TheVariants.{Figure}
use Rattle.coefficients.proofs.Ratios as ratios
use Rattle.coefficients.proofs.forming.pair.Goals as goal
use Rattle.coefficients.proofs.forming.pair.Goals.{Else-weight-eq0}

-- the pair of sums that have weight
formed :
    (n : ℕ) (spread : ℤ) (row : ClassRow) (i c : Rounded) (moran geary : Coefficient) → is_zero row.weight ≡ false →
    moran ≡ Figure i.float i.side → i ≡ nearest_rounded row.cross (row.weight *ℤ spread) →
    geary ≡ Figure c.float c.side → c ≡ nearest_rounded (pos ((n - 1) * n) *ℤ row.squares) ((pos 2 *ℤ row.weight) *ℤ spread) →
    ◌≡◌ {A = Pair} (record { moran = moran; geary = geary }) (pair_of n spread row)
unfolding pair_of coefficient
formed n spread row i c moran geary some e e' f f' = rw (some, e, e', f, f') refl

-- at the second arm there is weight
weighty : (c : Else-weight-eq0) → is_zero c.args.row.weight ≡ false
weighty c = zero_no w64 (ratios.weight_val _ _ _ c.requires).same c.if-weight-eq0.false

pub returns-then-weight-eq0 : goal.returns-then-weight-eq0
unfolding pair_of coefficient
returns-then-weight-eq0 c =
    rw (zero_yes w64 (ratios.weight_val _ _ _ c.requires) tt c.if-weight-eq0.true) refl

pub overflow_mul-weight : goal.overflow_mul-weight
overflow_mul-weight c = fit w64 (ratios.moran_divisor_is _ _ _ c.requires) tt

pub ratio-moran-requires : goal.ratio-moran-requires
ratio-moran-requires c =
    ratios.ratio_same (ratios.cross_is _ _ _ c.requires).same (rd w64 (ratios.moran_divisor_is _ _ _ c.requires) tt).same
    (ratios.moran_ratio _ _ _ c.requires (weighty c))

pub overflow_mul-ordered : goal.overflow_mul-ordered
overflow_mul-ordered c = omega (arith, ratios.ordered_le _ c.requires.zones)

pub overflow_cast-ordered : goal.overflow_cast-ordered
overflow_cast-ordered c = fits_le w64 _ 4032 (ratios.ordered_le _ c.requires.zones) tt

pub overflow_mul-twice : goal.overflow_mul-twice
overflow_mul-twice c = fit w64 (ratios.twice_is _ _ _ c.requires) tt

pub overflow_mul-ordered-2 : goal.overflow_mul-ordered-2
overflow_mul-ordered-2 c = fit w64 (ratios.geary_numerator_is _ _ _ c.requires) tt

pub overflow_mul-twice-2 : goal.overflow_mul-twice-2
overflow_mul-twice-2 c = fit w64 (ratios.geary_divisor_is _ _ _ c.requires) tt

pub ratio-geary-requires : goal.ratio-geary-requires
ratio-geary-requires c =
    let numerator = (rd w64 (ratios.geary_numerator_is _ _ _ c.requires) tt).same in
    let divisor = (rd w64 (ratios.geary_divisor_is _ _ _ c.requires) tt).same in
    ratios.ratio_same numerator divisor (ratios.geary_ratio _ _ _ c.requires (weighty ((goal.at.ratio-geary-requires c).Else-weight-eq0)))

pub returns : goal.returns
returns c =
    let moran = (rd w64 (ratios.moran_divisor_is _ _ _ c.requires) tt).same in
    let numerator = (rd w64 (ratios.geary_numerator_is _ _ _ c.requires) tt).same in
    let divisor = (rd w64 (ratios.geary_divisor_is _ _ _ c.requires) tt).same in
    formed _ _ _ _ _ _ _ (weighty ((goal.at.returns c).Else-weight-eq0)) c.from.ensures (c.ratio-moran.ensures ∙ ratios.nearest_same (ratios.cross_is _ _ _ c.requires).same moran)
    c.from-2.ensures (c.ratio-geary.ensures ∙ ratios.nearest_same numerator divisor)
