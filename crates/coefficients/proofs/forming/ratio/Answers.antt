-- `ratio` meets its contract: within the limits the answer is the float and its side. Assumes nothing.
use mathlib.Core.Path.{◌≡◌, refl, sym, ap, ◌∙◌, subst}
use mir.Syntax.{w64}
use mir.ValLaws.{to_z-of_z}
use Rattle.std.proofs.Common.{Ok}
use Rattle.std.specs.Result.{IsOk}
use Rattle.whole.proofs.Machine.{r64}
use Rattle.nearest.specs.Answers.{nearest_rounded}
use Rattle.nearest.proofs.Theorems.{answer_rounded}
use Rattle.coefficients.proofs.Ratios.{ratio_taken, ratio_same, nearest_same}
use Rattle.coefficients.proofs.forming.ratio.Goals as goal
use Rattle.coefficients.proofs.forming.ratio.Goals.{After-nearest}

-- what was asked is p over q
answered : (c : After-nearest) → c.nearest.result ≡ Ok (nearest_rounded c.args.p c.args.q)
answered c =
    let p = c.args.p in
    let q = c.args.q in
    let e = to_z-of_z w64 p c.ranges.p in
    let f = to_z-of_z w64 q c.ranges.q in
    let said = c.nearest.ensures in
    answer_rounded (r64 p) (r64 q) (ratio_taken (r64 p) (r64 q) (ratio_same e f c.requires)) c.nearest.result said.number said.figures
    ∙ ap Ok (nearest_same e f)

pub unwrap-requires : goal.unwrap-requires
unwrap-requires c = subst IsOk (sym (answered c)) refl

pub returns : goal.returns
returns c = let e = answered ((goal.at.returns c).After-nearest) in let f = c.unwrap.ensures in cc
