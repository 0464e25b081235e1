-- The class account's answer by its two cases: what is known of each by its contract. Assumes nothing.
use mathlib.Core.Path.{◌≡◌, sym, ap, ◌∙◌}
use mathlib.Core.List.{List}
use Prim.Native.Nat.{ℕ}
use lib.IntN.{ℤ}
use Rattle.whole.proofs.Rules.{worked_when_taken}
use Rattle.account.specs.Answers.{listed, figures_of, job_figures}
use Rattle.account.specs.Classes.{class_refusal, class_account_figures}
use Rattle.std.proofs.Common.{Result, Ok, Err}
use Rattle.refusals.specs.declared.Refusal.{Refusal}
use Rattle.refusals.specs.Refusals.{number_by, number_of}
use Rattle.account.specs.declared.Sums.{Sums}

module _ (n : ℕ) (values : List ℤ) (weights classes : List ℕ) (rows of_classes own : List ℤ) (r : Result Sums Refusal)
    (number : number_of r ≡ class_refusal n values weights classes rows of_classes own)
    (figures : figures_of r ≡ class_account_figures n values weights classes rows of_classes own) where
  -- a refusal has the call's number
  pub class_refused : (k : Refusal) → r ≡ Err k → number_by k ≡ class_refusal n values weights classes rows of_classes own
  class_refused k e = sym (ap number_of e) ∙ number

  -- sums are those of the job, and nothing is refused
  pub class_accounted :
      (sums : Sums) → r ≡ Ok sums →
      (class_refusal n values weights classes rows of_classes own ≡ 0) × (listed sums ≡ job_figures n values weights)
  unfolding figures_of class_account_figures
  class_accounted sums e =
      let none : class_refusal n values weights classes rows of_classes own ≡ 0 = sym number ∙ ap number_of e in
      (none, sym (ap figures_of e) ∙ figures ∙ worked_when_taken _ _ _ none)
