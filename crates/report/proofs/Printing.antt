-- The ways out of the two calls: a page of another length, a refused image, and the text or the line at the page's front. Assumes nothing.
use mathlib.Core.Path.{◌≡◌, refl, sym, ap, ◌∙◌, subst}
use mathlib.Core.List.{List, [], ◌∷◌}
use Prim.Native.Nat.{ℕ, ◌≤◌}
use native.Mathlib.Omega.{arith}
use borrow.Author.Tests.{eq-eqb, ne_eqb}
use lib.ListN.{length, get_or, take, drop, length-append}
use lib.Seq.{take_at}
use Rattle.std.specs.Prelude.{Option, None, Some, Result, Ok, Err}
use Rattle.std.specs.Option.{ok_or}
use Rattle.std.specs.Result.{IsOk}
use Rattle.std.proofs.lemmas.Grind.{common_steps}
use Rattle.whole.specs.Table.{over}
use Rattle.whole.proofs.Rules.{worked_when_taken}
use Rattle.refusals.specs.declared.Refusal.{Refusal}
use Rattle.refusals.specs.declared.Refusal.TheVariants.{Length}
use Rattle.refusals.specs.Refusals.{number_by, number_of}
use Rattle.refusals.proofs.Refusals.{left_by}
use Rattle.image.specs.Image.{image_refusal}
use Rattle.report.specs.Text.{image_text, refusal_line, report_text, length_in}
use Rattle.report.specs.Text.{print_refusal, print_length, page_left, line_refusal, line_length, line_left}
use Rattle.report.specs.Steps.{Put, Prints}
use Rattle.report.proofs.Puts.{put_over}
use Rattle.refusals.proofs.Unrefused.{unrefused}

-- the cause where the library has no array of a page
pub untaken : {A : Type 0} (page : Option A) {e : Refusal} → page ≡ None → Err e ≡ ok_or page Length → e ≡ Length
untaken None none same = grind (arith, common_steps, same)
untaken (Some _) none same = grind (arith, common_steps, none)

-- ---- the report
module _ (image page : List ℕ) where
  abbrev Promised : Result ℕ Refusal → List ℕ → Type 0
  Promised r left =
      (number_of r ≡ print_refusal image page) × ((length_in r ≡ print_length image page) × (left ≡ page_left image page))

  pub by_page : (length page ≡ 16384 → ⊥) → Promised (Err Length) page
  unfolding length_in print_refusal print_length page_left
  by_page f = rw (ne_eqb (length page) 16384 f) (refl, (refl, refl))

  pub by_image :
      length page ≡ 16384 → (r : Result ℕ Refusal) (lent left : List ℕ) → lent ≡ page → Prints image lent left r → Promised r left
  unfolding print_refusal print_length page_left image_refusal
  by_image e r lent left same put =
      let p = subst (λ (l : List ℕ). Prints image l left r) same put in
      rw (eq-eqb (length page) 16384 e) (p.number, (p.long, p.page))

-- ---- the line of a refusal
module _ (number : ℕ) (page : List ℕ) where
  abbrev PromisedLine : Result ℕ Refusal → List ℕ → Type 0
  PromisedLine r left =
      (number_of r ≡ line_refusal page) × ((length_in r ≡ line_length number page) × (left ≡ line_left number page))

  pub line_by_page : (length page ≡ 16384 → ⊥) → PromisedLine (Err Length) page
  unfolding length_in line_refusal line_length line_left
  line_by_page f = rw (ne_eqb (length page) 16384 f) (refl, (refl, refl))

  pub line_by_text :
      length page ≡ 16384 → {lent left : List ℕ} {place : ℕ} → lent ≡ page → Put lent left 0 place 96 (refusal_line number) →
      PromisedLine (Ok place) left
  unfolding length_in line_refusal line_length line_left
  line_by_text e {lent} {left} {place} same there =
      let put = subst (λ (l : List ℕ). Put l left 0 place 96 (refusal_line number)) same there in
      rw (eq-eqb (length page) 16384 e)
      (refl, (ap (λ k. k ∷ []) (omega (arith, put.behind)), put_over put (omega (arith, put.behind, put.few, e))))

-- ---- what a caller knows of each answer, where its page fits

-- a text at the front of a page stands in its first bytes
front : (text page left : List ℕ) (long : ℕ) → left ≡ over text page → long ≡ length text → (take long left ≡ text) × (long ≤ length left)
front text page left long e f = (
  ap (take long) e ∙ take_at text (drop (length text) page) long (sym f),
  omega (arith, ap length e, length-append text (drop (length text) page)),
)

module _ (image page : List ℕ) (fit : length page ≡ 16384) (r : Result ℕ Refusal) (left : List ℕ)
    (number : number_of r ≡ print_refusal image page) (long : length_in r ≡ print_length image page) (stored : left ≡ page_left image page)
  where
    image_decides : print_refusal image page ≡ image_refusal image
    unfolding print_refusal image_refusal
    image_decides = rw (eq-eqb (length page) 16384 fit) refl

    pub printed : {many : ℕ} → r ≡ Ok many → (take many left ≡ report_text image) × (many ≤ length left)
    unfolding length_in print_length page_left report_text
    printed {many} e =
        let taken : print_refusal image page ≡ 0 = sym number ∙ ap number_of e in
        let told = sym (ap length_in e) ∙ long ∙ worked_when_taken _ _ _ taken in
        let at_front =
        front (image_text image) page left many (stored ∙ worked_when_taken _ _ _ taken) (ap (λ l. get_or l 0 0) told) in
        (at_front.0 ∙ sym (worked_when_taken _ _ _ (sym image_decides ∙ taken)), at_front.1)

    pub refused : {k : Refusal} → r ≡ Err k → (refusal_line (number_by k) ≡ report_text image) × (left ≡ page)
    unfolding page_left report_text
    refused {k} e =
        let found : number_by k ≡ print_refusal image page = sym (ap number_of e) ∙ number in (
          ap refusal_line (found ∙ image_decides) ∙ sym (left_by _ _ _ k (found ∙ image_decides)),
          stored ∙ left_by _ _ _ k found,
        )

module _ (number : ℕ) (page : List ℕ) (fit : length page ≡ 16384) (r : Result ℕ Refusal) (left : List ℕ)
    (told : number_of r ≡ line_refusal page) (long : length_in r ≡ line_length number page) (stored : left ≡ line_left number page) where
  taken : line_refusal page ≡ 0
  unfolding line_refusal
  taken = rw (eq-eqb (length page) 16384 fit) refl

  pub line_printed : {many : ℕ} → r ≡ Ok many → (take many left ≡ refusal_line number) × (many ≤ length left)
  unfolding length_in line_length line_left
  line_printed {many} e =
      let put = sym (ap length_in e) ∙ long ∙ worked_when_taken _ _ _ taken in
      front (refusal_line number) page left many (stored ∙ worked_when_taken _ _ _ taken) (ap (λ l. get_or l 0 0) put)

  pub line_unrefused : IsOk r
  line_unrefused = unrefused r (told ∙ taken)
