-- What the buyer asks for by name, of the four calls together and by themselves. Assumes nothing.
use mathlib.Core.Path.{◌≡◌, refl, sym, ◌∙◌}
use mathlib.Core.Bool.{false}
use mathlib.Core.List.{List, [], ◌∷◌}
use Prim.Native.Nat.{ℕ, ◌*◌, ◌≤◌, ◌<◌}
use lib.IntN.{ℤ}
use lib.ListN.{length, get_or}
use Rattle.nearest.specs.declared.Side.{Side}
use Rattle.whole.specs.Rules.{misfits}
use Rattle.whole.proofs.Rules.{worked_when_taken, kept_when_refused}
use Rattle.account.specs.Answers.{account_figures, account_locals}
use Rattle.account.specs.Classes.{class_refusal, class_account_figures}
use Rattle.account.specs.Classes.{class_account_rows, class_account_locals, class_account_own}
use Rattle.account.specs.Refusals.{account_refusal}
use Rattle.account.proofs.ClassTheorems.{account_taken, class_taken}
use Rattle.coefficients.specs.FloatReport.{report_refusal, report_sums, report_whole, report_classes}
use Rattle.coefficients.specs.FloatReport.{report_figures, report_sides, report_parts, report_part_sides}
use Rattle.coefficients.specs.FloatReport.{plain_refusal, plain_sums, plain_whole, plain_classes}
use Rattle.coefficients.specs.FloatReport.{plain_rows, plain_locals, plain_figures, plain_sides}
use Rattle.agreement.specs.EveryFigure.{Lent, lent_lengths, every_refusal}
use Rattle.agreement.proofs.Fitting.{fit_alike}
-- stated where it is proved: an answer of the report is known by its number, its sums, its pair and those of its classes, so that its
-- contract leaves no second answer open; and so are the four answers by their number and their value
pub use Rattle.agreement.proofs.Answered.{answer_unique, whole_unique, every_unique}

-- ---- every job that the account accepts, under every assignment of classes 0 to 8, is accepted by all four calls together
pub every_taken :
    (n : ℕ) (values : List ℤ) (weights classes : List ℕ) (lent : Lent) →
    account_refusal n values weights lent.locals ≡ 0 →
    length classes ≡ n * n → ((p : ℕ) → p < n * n → get_or classes p 0 ≤ 8) → misfits (lent_lengths n lent) ≡ false →
    every_refusal n values weights classes lent ≡ 0
unfolding every_refusal
every_taken n values weights classes lent = class_taken n values weights classes lent.locals (lent_lengths n lent)

-- ---- on every accepted job the class account answers the account's figures, and leaves the account's local numerators as the job's own
pub accounts_agree :
    (n : ℕ) (values : List ℤ) (weights classes : List ℕ) (rows of_classes own locals : List ℤ) →
    class_refusal n values weights classes rows of_classes own ≡ 0 → length locals ≡ n →
    (account_refusal n values weights locals ≡ 0)
    × ((class_account_figures n values weights classes rows of_classes own ≡ account_figures n values weights locals)
    × (class_account_own n values weights classes rows of_classes own ≡ account_locals n values weights locals))
unfolding class_refusal class_account_figures class_account_own account_figures account_locals
accounts_agree n values weights classes rows of_classes own locals z l =
    let none = account_taken n values weights classes _ z locals l in (
      none,
      (
        worked_when_taken _ _ _ z ∙ sym (worked_when_taken _ _ _ none),
        worked_when_taken _ _ _ z ∙ sym (worked_when_taken _ _ _ none),
      ),
    )

-- ---- the plain report is refused as the float report is, and promises the same sums, pairs, local figures and sides
module _ (n : ℕ) (values : List ℤ) (weights classes : List ℕ) (rows locals : List ℤ) (figures : List ℕ) (sides : List Side) (parts : List ℕ) (part_sides : List Side)
    (rows_fit : length rows ≡ 27) (locals_fit : length locals ≡ n) (figures_fit : length figures ≡ n) (sides_fit : length sides ≡ n)
    (parts_fit : length parts ≡ 9 * n) (part_sides_fit : length part_sides ≡ 9 * n) where
  refused_alike :
      plain_refusal n values weights classes rows locals figures sides
      ≡ report_refusal n values weights classes figures sides parts part_sides
  unfolding plain_refusal report_refusal
  refused_alike =
      fit_alike n values weights classes ((length rows, 27) ∷ (length locals, n) ∷ (length figures, n) ∷ (length sides, n) ∷ [])
      ((length figures, n) ∷ (length sides, n) ∷ (length parts, 9 * n) ∷ (length part_sides, 9 * n) ∷ [])
      (rows_fit, (locals_fit, (figures_fit, (sides_fit, tt))))
      (figures_fit, (sides_fit, (parts_fit, (part_sides_fit, tt))))

  pub plain_same :
      (plain_refusal n values weights classes rows locals figures sides
      ≡ report_refusal n values weights classes figures sides parts part_sides)
      × ((plain_sums n values weights classes rows locals figures sides
      ≡ report_sums n values weights classes figures sides parts part_sides)
      × ((plain_whole n values weights classes rows locals figures sides
      ≡ report_whole n values weights classes figures sides parts part_sides)
      × ((plain_classes n values weights classes rows locals figures sides
      ≡ report_classes n values weights classes figures sides parts part_sides)
      × ((plain_figures n values weights classes rows locals figures sides
      ≡ report_figures n values weights classes figures sides parts part_sides)
      × (plain_sides n values weights classes rows locals figures sides
      ≡ report_sides n values weights classes figures sides parts part_sides)))))
  unfolding plain_sums plain_whole plain_classes plain_figures plain_sides report_sums report_whole report_classes report_figures report_sides
  plain_same = rw refused_alike (refl, (refl, (refl, (refl, (refl, refl)))))

-- ---- a refusal leaves every lent list as it was
pub account_leaves :
    (n : ℕ) (values : List ℤ) (weights : List ℕ) (locals : List ℤ) → (account_refusal n values weights locals ≡ 0 → ⊥) →
    account_locals n values weights locals ≡ locals
unfolding account_locals
account_leaves n values weights locals f = kept_when_refused _ _ _ f

pub class_account_leaves :
    (n : ℕ) (values : List ℤ) (weights classes : List ℕ) (rows of_classes own : List ℤ) →
    (class_refusal n values weights classes rows of_classes own ≡ 0 → ⊥) →
    (class_account_rows n values weights classes rows of_classes own ≡ rows)
    × ((class_account_locals n values weights classes rows of_classes own ≡ of_classes)
    × (class_account_own n values weights classes rows of_classes own ≡ own))
unfolding class_account_rows class_account_locals class_account_own
class_account_leaves n values weights classes rows of_classes own f =
    (kept_when_refused _ _ _ f, (kept_when_refused _ _ _ f, kept_when_refused _ _ _ f))

pub report_leaves :
    (n : ℕ) (values : List ℤ) (weights classes figures : List ℕ) (sides : List Side) (parts : List ℕ) (part_sides : List Side) →
    (report_refusal n values weights classes figures sides parts part_sides ≡ 0 → ⊥) →
    (report_figures n values weights classes figures sides parts part_sides ≡ figures)
    × ((report_sides n values weights classes figures sides parts part_sides ≡ sides)
    × ((report_parts n values weights classes figures sides parts part_sides ≡ parts)
    × (report_part_sides n values weights classes figures sides parts part_sides ≡ part_sides)))
unfolding report_figures report_sides report_parts report_part_sides
report_leaves n values weights classes figures sides parts part_sides f =
    (kept_when_refused _ _ _ f, (kept_when_refused _ _ _ f, (kept_when_refused _ _ _ f, kept_when_refused _ _ _ f)))

pub plain_leaves :
    (n : ℕ) (values : List ℤ) (weights classes : List ℕ) (rows locals : List ℤ) (figures : List ℕ) (sides : List Side) →
    (plain_refusal n values weights classes rows locals figures sides ≡ 0 → ⊥) →
    (plain_rows n values weights classes rows locals figures sides ≡ rows)
    × ((plain_locals n values weights classes rows locals figures sides ≡ locals)
    × ((plain_figures n values weights classes rows locals figures sides ≡ figures)
    × (plain_sides n values weights classes rows locals figures sides ≡ sides)))
unfolding plain_rows plain_locals plain_figures plain_sides
plain_leaves n values weights classes rows locals figures sides f =
    (kept_when_refused _ _ _ f, (kept_when_refused _ _ _ f, (kept_when_refused _ _ _ f, kept_when_refused _ _ _ f)))
