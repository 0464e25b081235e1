-- `nearest` meets its contract: judged first, and worked only where no rule is broken. Assumes nothing.
use mathlib.Core.Path.{◌≡◌, ap₂, ◌∙◌}
use mir.Syntax.{w64}
use mir.ValLaws.{to_z-of_z}
use Rattle.std.proofs.lemmas.Result.{err_from_is_err_and}
use Rattle.whole.proofs.Machine.{r64}
use Rattle.nearest.specs.Answers.{nearest_refusal, nearest_rounded}
use Rattle.nearest.proofs.Answered.{refused, rounded}
use Rattle.nearest.proofs.nearest.Goals as goal
use Rattle.nearest.proofs.nearest.Goals.{Start}

-- the judge's numbers are those of the call
found : (c : Start) → nearest_refusal (r64 c.args.p) (r64 c.args.q) ≡ nearest_refusal c.args.p c.args.q
found c = ap₂ nearest_refusal (to_z-of_z w64 c.args.p c.ranges.p) (to_z-of_z w64 c.args.q c.ranges.q)

pub returns-in_err-judge : goal.returns-in_err-judge
returns-in_err-judge c =
    let p = err_from_is_err_and c.from_residual.result c.from_residual.ensures.1 in
    let t = (goal.at.returns-in_err-judge c).Start in
    let all = refused c.args.p c.args.q _ (c.in_err-judge.ensures ∙ found t) in
    rw (p.1, p.2) (record { number = all.0; figures = all.1.0; nearest = all.1.1 })

pub returns : goal.returns
returns c =
    let t = (goal.at.returns c).Start in
    let float = c.float_of.ensures ∙ ap₂ nearest_rounded (to_z-of_z w64 c.args.p c.ranges.p) (to_z-of_z w64 c.args.q c.ranges.q) in
    let all = rounded c.args.p c.args.q c.float_of.result (c.in_ok-judge.ensures ∙ found t) float in
    record { number = all.0; figures = all.1.0; nearest = all.1.1 }
