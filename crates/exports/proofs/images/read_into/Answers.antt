-- `read_into` meets its contract: the list of counts is judged, then the reader judges and stores. Assumes nothing.
use Rattle.std.proofs.Common.{◌≡◌, refl, sym, ◌∙◌, List, ℕ, length, eq-eqb, ne_eqb}
use Rattle.std.proofs.lemmas.Result.{err_from_is_err_and}
use Rattle.refusals.specs.declared.Refusal.TheVariants.{Length}
use Rattle.refusals.proofs.Refusals.{left_by, worked_by}
use Rattle.image.specs.Reader.{Buffers, read_rules, read_refusal, read_counts, read_left}
use Rattle.reader.specs.Answers.{counts_of}
use Rattle.exports.specs.Images.{read_number, buffers_after, counts_after}
use Rattle.exports.proofs.images.read_into.Goals as goal

-- where six counts are lent, the reader decides
by_reader : (image : List ℕ) (lent : Buffers) (counts : List ℕ) → length counts ≡ 6 → read_refusal image lent ≡ read_number image lent counts
unfolding read_number read_refusal read_rules
by_reader image lent counts fit = rw (eq-eqb (length counts) 6 fit) refl

by_counts : (image : List ℕ) (lent : Buffers) (counts : List ℕ) → (length counts ≡ 6 → ⊥) → 2 ≡ read_number image lent counts
unfolding read_number
by_counts image lent counts f = rw (ne_eqb (length counts) 6 f) refl

pub returns-then-counts-ne6 : goal.returns-then-counts-ne6
unfolding buffers_after counts_after
returns-then-counts-ne6 c =
    let e = by_counts _ _ _ c.if-counts-ne6.true in
    record { number = e; lent = sym (left_by _ _ _ Length e); counts = sym (left_by _ _ _ Length e) }

pub returns-in_err-six : goal.returns-in_err-six
unfolding read_left buffers_after counts_after
returns-in_err-six c =
    let p = err_from_is_err_and c.from_residual.result c.from_residual.ensures.1 in
    let own = c.in_err-six.ensures in
    let e = own.number ∙ by_reader _ _ _ c.if-counts-ne6.false in
    rw (p.1, p.2) (record {
      number = e;
      lent = own.lent ∙ left_by _ _ _ _ own.number ∙ sym (left_by _ _ _ _ e);
      counts = sym (left_by _ _ _ _ e);
    })

pub returns : goal.returns
unfolding counts_of read_counts read_left buffers_after counts_after
returns c =
    let own = c.in_ok-six.ensures in
    let z = own.number ∙ by_reader _ _ _ c.if-counts-ne6.false in record {
      number = z;
      lent = own.lent ∙ worked_by _ _ _ own.number ∙ sym (worked_by _ _ _ z);
      counts = c.put_counts.ensures ∙ own.counts ∙ worked_by _ _ _ own.number ∙ sym (worked_by _ _ _ z);
    }
