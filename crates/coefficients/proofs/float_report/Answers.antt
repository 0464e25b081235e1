-- `float_report` meets its contract: its own lists are judged, then the rest is judged and worked. Assumes nothing.
use mathlib.Core.Path.{◌≡◌, refl, sym, ap, ◌∙◌}
use mathlib.Core.List.{List, [], ◌∷◌}
use Prim.Native.Nat.{ℕ, ◌*◌}
use native.Mathlib.Omega.{arith}
use lib.IntN.{ℤ}
use lib.ListN.{length, take}
use lib.Seq.{take_all}
use Rattle.std.proofs.lemmas.Result.{err_from_is_err_and}
use Rattle.whole.specs.Rules.{unless_refused}
use Rattle.whole.proofs.Rules.{Sizes, sizes_hold, fits}
use Rattle.refusals.proofs.Refusals.{not_refused, left_by}
use Rattle.account.specs.Refusals.{job_spread}
use Rattle.account.specs.Classes.{class_locals_of}
use Rattle.account.proofs.ClassTheorems.{class_locals_length}
use Rattle.coefficients.specs.Coefficients.{local_figures, local_sides}
use Rattle.coefficients.specs.FloatReport.{report_refusal, report_sums, report_whole, report_classes}
use Rattle.coefficients.specs.FloatReport.{report_figures, report_sides, report_parts, report_part_sides}
use Rattle.coefficients.specs.Steps.{rest_refusal}
use Rattle.coefficients.proofs.Answered.{refused, reports_same, lent_misfits, sizes_number, rest_number}
use Rattle.coefficients.proofs.float_report.Goals as goal
use Rattle.coefficients.proofs.float_report.Goals.{In_ok-judge_lent, Start}

-- the four lists, and the number of the call
module _ (s : Start) where
  abbrev lent : List (ℕ × ℕ)
  lent =
      (length s.args.figures.now, s.args.n)
      ∷ (length s.args.sides.now, s.args.n)
      ∷ (length s.args.parts.now, 9 * s.args.n)
      ∷ (length s.args.part_sides.now, 9 * s.args.n)
      ∷ []

  abbrev refusal : ℕ
  refusal =
      let a = s.args in
      report_refusal a.n a.values.now a.weights.now a.classes.now a.figures.now a.sides.now a.parts.now a.part_sides.now

pub returns-in_err-judge_lent : goal.returns-in_err-judge_lent
unfolding report_refusal report_sums report_whole report_classes report_figures report_sides report_parts report_part_sides
returns-in_err-judge_lent c =
    let p = err_from_is_err_and c.from_residual.result c.from_residual.ensures.1 in
    let a = c.args in
    let l = lent ((goal.at.returns-in_err-judge_lent c).Start) in
    let few = lent_misfits a.n a.values.now a.weights.now a.classes.now l in
    let number = sizes_number a.n a.values.now a.weights.now a.classes.now l l _ few c.in_err-judge_lent.ensures (not_refused _) in
    let r = refused _ a.n a.values.now a.weights.now a.classes.now [] [] a.figures.now a.sides.now a.parts.now a.part_sides.now _ _ _ number refl refl in
    rw (p.1, p.2)
    (record {
      number = r.number;
      sums = r.sums;
      whole = r.whole;
      pairs = r.pairs;
      figures = r.in_figures;
      sides = r.in_sides;
      parts = sym (left_by _ _ _ _ number);
      part_sides = sym (left_by _ _ _ _ number);
    })

-- where the four lists fit, the number is that of the rest
module _ (c : In_ok-judge_lent) where
  abbrev s : Start
  s = (goal.at.In_ok-judge_lent c).Start

  sized : Sizes s.args.n (lent s)
  sized = sizes_hold s.args.n (lent s) (sym c.in_ok-judge_lent.ensures)

  parts_fit : length s.args.parts.now ≡ 9 * s.args.n
  parts_fit =
      let a = s.args in
      let last = (length a.part_sides.now, 9 * a.n) ∷ [] in
      let third = (length a.parts.now, 9 * a.n) ∷ last in
      let second = (length a.sides.now, a.n) ∷ third in
      let behind = (fits (length a.sides.now) a.n third (fits (length a.figures.now) a.n second sized.fitting).1).1 in
      (fits (length a.parts.now) (9 * a.n) last behind).0

  rest_is : rest_refusal s.args.n s.args.values.now s.args.weights.now s.args.classes.now ≡ refusal s
  unfolding report_refusal
  rest_is = rest_number s.args.n s.args.values.now s.args.weights.now s.args.classes.now (lent s) sized.fitting

  -- all of the local numerators of the classes were wanted
  wanted :
      {A : Type 0} (worked : List ℤ → List A) (kept : List A) {left : List A} →
      left ≡ unless_refused (rest_refusal s.args.n s.args.values.now s.args.weights.now s.args.classes.now)
      (worked (take (length s.args.parts.now) (class_locals_of s.args.n s.args.values.now s.args.weights.now s.args.classes.now)))
      kept →
      left ≡ unless_refused (refusal s) (worked (class_locals_of s.args.n s.args.values.now s.args.weights.now s.args.classes.now)) kept
  wanted worked kept e =
      let a = s.args in
      let numerators = class_locals_of a.n a.values.now a.weights.now a.classes.now in
      let all : take (length a.parts.now) numerators ≡ numerators =
      take_all (length a.parts.now) numerators (omega (arith, parts_fit, class_locals_length a.n a.values.now a.weights.now a.classes.now)) in
      e
      ∙ ap (λ k. unless_refused k (worked (take (length a.parts.now) numerators)) kept) rest_is
      ∙ ap (λ l. unless_refused (refusal s) (worked l) kept) all

pub returns : goal.returns
unfolding report_sums report_whole report_classes report_figures report_sides report_parts report_part_sides
returns c =
    let t = (goal.at.returns c).In_ok-judge_lent in
    let r = reports_same (rest_is t) c.report_sized.ensures in
    let spread = job_spread c.args.n c.args.values.now c.args.weights.now in
    record {
      number = r.number;
      sums = r.sums;
      whole = r.whole;
      pairs = r.pairs;
      figures = r.in_figures;
      sides = r.in_sides;
      parts = wanted t (local_figures spread) c.args.parts.now c.report_sized.ensures.in_parts;
      part_sides = wanted t (local_sides spread) c.args.part_sides.now c.report_sized.ensures.in_part_sides;
    }
