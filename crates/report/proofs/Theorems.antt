-- What a caller may rely on of the page that it lends. Assumes nothing.
use mathlib.Core.Path.{◌≡◌, refl, ap, ◌∙◌}
use mathlib.Core.List.{List}
use Prim.Native.Nat.{ℕ}
use lib.ListN.{length, take, drop}
use lib.Seq.{take_at}
use Rattle.whole.proofs.Rules.{worked_when_taken, kept_when_refused}
use Rattle.report.specs.Text.{image_text, refusal_line, print_refusal, page_left, line_refusal, line_left}

-- where nothing is refused the text stands at the page's front
module _ (image page : List ℕ) where
  pub page_text : print_refusal image page ≡ 0 → take (length (image_text image)) (page_left image page) ≡ image_text image
  unfolding page_left
  page_text z =
      ap (take (length (image_text image))) (worked_when_taken _ _ _ z)
      ∙ take_at (image_text image) (drop (length (image_text image)) page) (length (image_text image)) refl

  -- where something is, the page is as it was
  pub page_kept : (print_refusal image page ≡ 0 → ⊥) → page_left image page ≡ page
  unfolding page_left
  page_kept f = kept_when_refused _ _ _ f

-- so does the line of a refusal
pub line_text :
    (number : ℕ) (page : List ℕ) → line_refusal page ≡ 0 → take (length (refusal_line number)) (line_left number page) ≡ refusal_line number
unfolding line_left
line_text number page z =
    ap (take (length (refusal_line number))) (worked_when_taken _ _ _ z)
    ∙ take_at (refusal_line number) (drop (length (refusal_line number)) page) (length (refusal_line number)) refl
