-- The first 44,909 bytes of an image decide its report, so that a reader of bytes need read no more. Assumes nothing.
use mathlib.Core.Path.{◌≡◌, sym, ap, ◌∙◌}
use mathlib.Core.List.{List}
use Prim.Native.Nat.{ℕ}
use native.Mathlib.Decide.{ℕ_discrete}
use lib.ListN.{take}
use Rattle.whole.proofs.Rules.{kept_when_refused}
use Rattle.image.specs.Image.{image_refusal}
use Rattle.image.proofs.FirstBytes.{first_bytes_refused, first_bytes_read}
use Rattle.report.specs.Text.{image_text, refusal_line, report_text, Decides}

-- the text of an image that is refused
refused_text : (image : List ℕ) → (image_refusal image ≡ 0 → ⊥) → report_text image ≡ refusal_line (image_refusal image)
unfolding report_text
refused_text image f =
    kept_when_refused (image_refusal image) (image_text image) (refusal_line (image_refusal image)) f

-- images with the same refusal have the same text, where an accepted one is the same
alike : (image other : List ℕ) → image_refusal other ≡ image_refusal image → (image_refusal image ≡ 0 → other ≡ image) →
    report_text other ≡ report_text image
alike image other e same = pick (ℕ_discrete (image_refusal image) 0)
  where
    pick : Dec (image_refusal image ≡ 0) → report_text other ≡ report_text image
    pick (yes z) = ap report_text (same z)
    pick (no f) = refused_text other (λ z. f (sym e ∙ z)) ∙ ap refusal_line e ∙ sym (refused_text image f)

pub first_44909 : Decides 44909
first_44909 image = alike image (take 44909 image) (first_bytes_refused image) (first_bytes_read image)
