-- `write_into` meets its contract: the counts and the place of the length are judged, then the writer judges and stores. Assumes nothing.
use Rattle.std.proofs.Common.{◌≡◌, refl, sym, ap, ◌∙◌, false, List, [], ◌∷◌, ℕ, length, eq-eqb, ne_eqb}
use Rattle.std.proofs.lemmas.Result.{err_from_is_err_and}
use Rattle.whole.specs.Rules.{Rule, first_broken, outside, misfits}
use Rattle.whole.specs.Table.{over}
use Rattle.whole.proofs.Rules.{holds, first_here}
use Rattle.refusals.specs.declared.Refusal.{Refusal}
use Rattle.refusals.specs.declared.Refusal.TheVariants.{Length}
use Rattle.refusals.specs.Refusals.{number_by}
use Rattle.refusals.proofs.Refusals.{not_refused, left_by, worked_by}
use Rattle.image.specs.Image.{zone_count_rule, job_bytes}
use Rattle.image.specs.Reader.{Buffers, buffers}
use Rattle.image.specs.Writer.{lent_job, write_rules, write_refusal, write_length, write_left}
use Rattle.image.specs.declared.Given.{Given}
use Rattle.writer.specs.Answers.{length_of}
use Rattle.exports.specs.Images.{given_by, write_number, out_after, length_after}
use Rattle.exports.proofs.images.write_into.Goals as goal

module _ (lent : Buffers) (counts out bytes : List ℕ) where
  by_counts : (length counts ≡ 5 → ⊥) → 2 ≡ write_number lent counts out bytes
  unfolding write_number
  by_counts f = rw (ne_eqb (length counts) 5 f) refl

  -- the counts that the writer is given are those that are lent
  module _ (given : Given) (told : given ≡ given_by counts) (five : length counts ≡ 5) where
    by_zones :
        (e : Refusal) → number_by e ≡ first_broken (zone_count_rule given.values ∷ []) →
        number_by e ≡ write_number lent counts out bytes
    unfolding write_number
    by_zones e h =
        let rest : List Rule = (misfits ((length bytes, 1) ∷ []), 2) ∷ write_rules (given_by counts) lent (length out) in
        let zones = h ∙ ap (λ (g : Given). first_broken (zone_count_rule g.values ∷ [])) told in
        rw (eq-eqb (length counts) 5 five)
        (first_here rest (zone_count_rule (given_by counts).values ∷ []) (number_by e) zones (not_refused e))

    module _ (zones : 0 ≡ first_broken (zone_count_rule given.values ∷ [])) where
      inside : outside 2 64 (given_by counts).values ≡ false
      inside = ap (λ (g : Given). outside 2 64 g.values) (sym told) ∙ (holds (outside 2 64 given.values) 0 0 (sym zones)).0

      by_place : (length bytes ≡ 1 → ⊥) → 2 ≡ write_number lent counts out bytes
      unfolding write_number
      by_place f = rw (eq-eqb (length counts) 5 five, inside, ne_eqb (length bytes) 1 f) refl

      -- where all that is fitting, the writer decides
      by_writer : length bytes ≡ 1 → write_refusal given lent (length out) ≡ write_number lent counts out bytes
      unfolding write_number write_refusal
      by_writer fit =
          ap (λ g. first_broken (write_rules g lent (length out))) told
          ∙ rw (eq-eqb (length counts) 5 five, inside, eq-eqb (length bytes) 1 fit) refl

-- and so is the image that it writes
same_image :
    (lent : Buffers) (counts : List ℕ) (given : Given) → given ≡ given_by counts →
    job_bytes given (lent_job given lent) ≡ job_bytes (given_by counts) (lent_job (given_by counts) lent)
same_image lent counts given told = ap (λ g. job_bytes g (lent_job g lent)) told

pub returns-then-counts-ne5 : goal.returns-then-counts-ne5
unfolding out_after length_after
returns-then-counts-ne5 c =
    let e = by_counts _ _ _ _ c.if-counts-ne5.true in
    record { number = e; out = sym (left_by _ _ _ Length e); filled = sym (left_by _ _ _ Length e) }

pub returns-in_err-judge_zone_count : goal.returns-in_err-judge_zone_count
unfolding out_after length_after
returns-in_err-judge_zone_count c =
    let p = err_from_is_err_and c.from_residual.result c.from_residual.ensures.1 in
    let e = by_zones _ _ _ _ _ c.given-given.ensures c.if-counts-ne5.false _ c.in_err-judge_zone_count.ensures in
    rw (p.1, p.2) (record { number = e; out = sym (left_by _ _ _ _ e); filled = sym (left_by _ _ _ _ e) })

pub returns-then-filled-ne1 : goal.returns-then-filled-ne1
unfolding out_after length_after
returns-then-filled-ne1 c =
    let e = by_place _ _ _ _ _ c.given-given.ensures c.if-counts-ne5.false c.in_ok-judge_zone_count.ensures c.if-filled-ne1.true in
    record { number = e; out = sym (left_by _ _ _ Length e); filled = sym (left_by _ _ _ Length e) }

pub returns-in_err-bytes : goal.returns-in_err-bytes
unfolding write_left out_after length_after
returns-in_err-bytes c =
    let p = err_from_is_err_and c.from_residual-in_err-bytes.result c.from_residual-in_err-bytes.ensures.1 in
    let own = c.in_err-bytes.ensures in
    let zones = c.in_ok-judge_zone_count.ensures in
    let e = own.number ∙ by_writer _ _ _ _ _ c.given-given.ensures c.if-counts-ne5.false zones c.if-filled-ne1.false in
    rw (p.1, p.2) (record {
      number = e;
      out = own.lent ∙ left_by _ _ _ _ own.number ∙ sym (left_by _ _ _ _ e);
      filled = sym (left_by _ _ _ _ e);
    })

pub returns : goal.returns
unfolding length_of write_length write_left out_after length_after
returns c =
    let own = c.in_ok-bytes.ensures in
    let zones = c.in_ok-judge_zone_count.ensures in
    let told = c.given-given.ensures in
    let a = c.args in
    let lent = buffers a.values.now a.categories.now a.weights.now a.places.now a.bands.now a.shuffles.now in
    let image = same_image lent a.counts.now _ told in
    let z = own.number ∙ by_writer _ _ _ _ _ told c.if-counts-ne5.false zones c.if-filled-ne1.false in record {
      number = z;
      out =
          own.lent
          ∙ worked_by _ _ _ own.number
          ∙ ap (λ (image : List ℕ). over image a.out.now) image
          ∙ sym (worked_by _ _ _ z);
      filled =
          c.put_length.ensures
          ∙ own.length
          ∙ worked_by _ _ _ own.number
          ∙ ap (λ (image : List ℕ). length image ∷ []) image
          ∙ sym (worked_by _ _ _ z);
    }
