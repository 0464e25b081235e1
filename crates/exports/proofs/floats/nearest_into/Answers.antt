-- `nearest_into` meets its contract: the two places are judged, then the call below judges and divides. Assumes nothing.
use Rattle.std.proofs.Common.{◌≡◌, refl, sym, ap, ◌∙◌, w64}
use lib.IntN.{ℤ}
use lib.ListN.{set}
use mir.ValLaws.{to_z-of_z}
use Rattle.std.specs.Prelude.{Ok}
use Rattle.std.proofs.lemmas.Result.{err_from_is_err_and}
use Rattle.whole.proofs.Machine.{r64}
use Rattle.refusals.specs.declared.Refusal.TheVariants.{Length}
use Rattle.refusals.proofs.Refusals.{left_by}
use Rattle.nearest.specs.Answers.{nearest_refusal, nearest_figures, figures_of}
use Rattle.nearest.proofs.Theorems.{answered_not_nan}
use Rattle.exports.specs.Floats.{nearest_after, side_after}
use Rattle.exports.proofs.FloatAnswers.{nearest_by_length, nearest_below, nearest_put, side_put_too}
use Rattle.exports.proofs.floats.nearest_into.Goals as goal
use Rattle.exports.proofs.floats.nearest_into.Goals.{Start}

-- what is asked below is p over q
asked : (s : Start) {A : Type 0} (f : ℤ → ℤ → A) → f (r64 s.args.p) (r64 s.args.q) ≡ f s.args.p s.args.q
asked s f =
    ap (λ v. f v (r64 s.args.q)) (to_z-of_z w64 s.args.p s.ranges.p)
    ∙ ap (f s.args.p) (to_z-of_z w64 s.args.q s.ranges.q)

pub returns-then-out-ne1 : goal.returns-then-out-ne1
unfolding nearest_after side_after
returns-then-out-ne1 c =
    let a = c.args in
    let e = nearest_by_length a.p a.q a.out.now a.side.now c.then-out-ne1.either in
    record { number = e; lent = sym (left_by _ _ _ Length e); sided = sym (left_by _ _ _ Length e) }

pub returns-in_err-figure : goal.returns-in_err-figure
unfolding nearest_after side_after
returns-in_err-figure c =
    let a = c.args in
    let s = (goal.at.returns-in_err-figure c).Start in
    let p = err_from_is_err_and c.from_residual.result c.from_residual.ensures.1 in
    let e =
    c.in_err-figure.ensures.number ∙ asked s nearest_refusal ∙ nearest_below a.p a.q a.out.now a.side.now c.if-out-ne1.false c.if-side-ne1.false in
    rw (p.1, p.2) (record { number = e; lent = sym (left_by _ _ _ _ e); sided = sym (left_by _ _ _ _ e) })

pub float_to_bits-out : goal.float_to_bits-out
float_to_bits-out c = answered_not_nan _ _ (Ok _) _ c.in_ok-figure.ensures.nearest refl

pub returns : goal.returns
returns c =
    let a = c.args in
    let s = (goal.at.returns c).Start in
    let own = c.in_ok-figure.ensures in
    let taken : 0 ≡ nearest_refusal a.p a.q = own.number ∙ asked s nearest_refusal in
    let figures : figures_of (Ok c.in_ok-figure.figure) ≡ nearest_figures a.p a.q = own.figures ∙ asked s nearest_figures in
    record {
      number = taken ∙ nearest_below a.p a.q a.out.now a.side.now c.if-out-ne1.false c.if-side-ne1.false;
      lent = nearest_put a.p a.q a.out.now a.side.now c.if-out-ne1.false c.if-side-ne1.false _ taken figures;
      sided = ap (λ v. set a.side.now 0 v) c.side_number.ensures ∙ side_put_too a.p a.q a.out.now a.side.now c.if-out-ne1.false c.if-side-ne1.false _ taken figures;
    }
