-- `report_into` meets its contract: the place of the length is judged, then the report judges the text's places and the image. Assumes nothing.
use Rattle.std.proofs.Common.{◌≡◌, refl, sym, ◌∙◌, true, not, List, [], ◌∷◌, ℕ, length, eqb, eq-eqb, ne_eqb}
use Rattle.std.proofs.lemmas.Result.{err_from_is_err_and}
use Rattle.whole.specs.Rules.{misfits}
use Rattle.whole.proofs.Rules.{beside}
use Rattle.refusals.specs.declared.Refusal.TheVariants.{Length}
use Rattle.refusals.proofs.Refusals.{left_by, worked_by}
use Rattle.report.specs.Text.{length_in, print_refusal, print_length, page_left}
use Rattle.exports.specs.Images.{text_number, text_after, text_length_after}
use Rattle.exports.proofs.images.report_into.Goals as goal

module _ (image text bytes : List ℕ) where
  -- where a place is lent for the length, the report decides
  by_report : length bytes ≡ 1 → print_refusal image text ≡ text_number image text bytes
  unfolding text_number print_refusal
  by_report fit = rw (eq-eqb (length bytes) 1 fit) refl

  by_place : (length bytes ≡ 1 → ⊥) → 2 ≡ text_number image text bytes
  unfolding text_number
  by_place f =
      let some : misfits ((length text, 16384) ∷ (length bytes, 1) ∷ []) ≡ true =
      rw (ne_eqb (length bytes) 1 f) (beside (not (eqb (length text) 16384)) true refl) in
      rw some refl

pub returns-then-filled-ne1 : goal.returns-then-filled-ne1
unfolding text_after text_length_after
returns-then-filled-ne1 c =
    let e = by_place _ _ _ c.if-filled-ne1.true in
    record { number = e; text = sym (left_by _ _ _ Length e); filled = sym (left_by _ _ _ Length e) }

pub returns-in_err-bytes : goal.returns-in_err-bytes
unfolding page_left text_after text_length_after
returns-in_err-bytes c =
    let p = err_from_is_err_and c.from_residual.result c.from_residual.ensures.1 in
    let own = c.in_err-bytes.ensures in
    let e = own.number ∙ by_report _ _ _ c.if-filled-ne1.false in
    rw (p.1, p.2) (record {
      number = e;
      text = own.page ∙ left_by _ _ _ _ own.number ∙ sym (left_by _ _ _ _ e);
      filled = sym (left_by _ _ _ _ e);
    })

pub returns : goal.returns
unfolding length_in print_length page_left text_after text_length_after
returns c =
    let own = c.in_ok-bytes.ensures in
    let z = own.number ∙ by_report _ _ _ c.if-filled-ne1.false in record {
      number = z;
      text = own.page ∙ worked_by _ _ _ own.number ∙ sym (worked_by _ _ _ z);
      filled = c.put_length.ensures ∙ own.length ∙ worked_by _ _ _ own.number ∙ sym (worked_by _ _ _ z);
    }
