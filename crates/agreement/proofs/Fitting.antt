-- Lists that all have the lengths that they must have, and the numbers of the calls that are lent them. Assumes nothing.
use mathlib.Core.Path.{◌≡◌, refl, sym, ◌∙◌}
use mathlib.Core.Bool.{false}
use mathlib.Core.List.{List, [], ◌∷◌}
use Prim.Native.Nat.{ℕ, ◌*◌}
use borrow.Author.Tests.{eq-eqb}
use lib.IntN.{ℤ}
use lib.ListN.{length}
use Rattle.nearest.specs.declared.Side.{Side}
use Rattle.whole.specs.Rules.{first_broken, misfits}
use Rattle.whole.proofs.Rules.{fits}
use Rattle.account.specs.Classes.{class_rules}
use Rattle.account.specs.Refusals.{account_refusal}
use Rattle.account.proofs.ClassTheorems.{account_taken}
use Rattle.coefficients.specs.FloatReport.{report_refusal, plain_refusal}
use Rattle.coefficients.proofs.Answered.{alike}

-- each length is as it must be
abbrev pub AllFit : List (ℕ × ℕ) → Type 0
AllFit [] = Unit
AllFit (one ∷ others) = (one.0 ≡ one.1) × AllFit others

-- which is what it is for none to misfit
pub all_fit : (lengths : List (ℕ × ℕ)) → misfits lengths ≡ false → AllFit lengths
all_fit [] e = tt
all_fit (one ∷ others) e = let f = fits one.0 one.1 others e in (f.0, all_fit others f.1)

pub none_misfits : (lengths : List (ℕ × ℕ)) → AllFit lengths → misfits lengths ≡ false
none_misfits [] f = refl
none_misfits (one ∷ others) f = rw (eq-eqb one.0 one.1 f.0) (none_misfits others f.1)

-- ---- of a job and its classes, two calls whose lists fit are refused alike
module _ (n : ℕ) (values : List ℤ) (weights classes : List ℕ) where
  pub fit_alike :
      (lent other : List (ℕ × ℕ)) → AllFit lent → AllFit other →
      first_broken (class_rules n values weights classes lent) ≡ first_broken (class_rules n values weights classes other)
  fit_alike lent other f g = alike n values weights classes lent other (none_misfits lent f ∙ sym (none_misfits other g))

  -- so where one refuses nothing, none does
  module _ (lent : List (ℕ × ℕ)) (f : AllFit lent) (taken : first_broken (class_rules n values weights classes lent) ≡ 0) where
    pub account_none : (locals : List ℤ) → length locals ≡ n → account_refusal n values weights locals ≡ 0
    account_none = account_taken n values weights classes lent taken

    pub report_none :
        (figures : List ℕ) (sides : List Side) (parts : List ℕ) (part_sides : List Side) → length figures ≡ n → length sides ≡ n → length parts ≡ 9 * n →
        length part_sides ≡ 9 * n → report_refusal n values weights classes figures sides parts part_sides ≡ 0
    unfolding report_refusal
    report_none figures sides parts part_sides e g h i = fit_alike _ lent (e, (g, (h, (i, tt)))) f ∙ taken

    pub plain_none :
        (rows locals : List ℤ) (figures : List ℕ) (sides : List Side) → length rows ≡ 27 → length locals ≡ n → length figures ≡ n →
        length sides ≡ n → plain_refusal n values weights classes rows locals figures sides ≡ 0
    unfolding plain_refusal
    plain_none rows locals figures sides e g h i = fit_alike _ lent (e, (g, (h, (i, tt)))) f ∙ taken
