-- The two ways out of the call, and all that it promises of each. Assumes nothing.
use mathlib.Core.Path.{◌≡◌, refl, sym, ap, ◌∙◌}
use mathlib.Core.List.{List, [], ◌∷◌}
use Prim.Native.Nat.{ℕ}
use lib.IntN.{ℤ}
use Rattle.std.proofs.Common.{Result, Ok, Err}
use Rattle.std.specs.Result.{IsOkAnd}
use Rattle.refusals.specs.declared.Refusal.{Refusal}
use Rattle.nearest.specs.declared.Side.{Side}
use Rattle.refusals.specs.Refusals.{number_by, number_of}
use Rattle.refusals.proofs.Refusals.{not_refused, left_by, worked_by}
use Rattle.agreement.specs.EveryFigure.{Lent, lists, lent_lengths, answer_in, job_answers, job_lists}
use Rattle.agreement.specs.EveryFigure.{every_refusal, every_answer, every_left}
use Rattle.agreement.specs.Demand3.{Demand3}
use Rattle.agreement.specs.declared.Every.{Every}
use Rattle.agreement.proofs.Demand3.{demand_3}

-- the same lists by other names
pub lists_same :
    {a b c d a' b' c' d' : List ℤ} {e g k e' g' k' : List ℕ} {f h l f' h' l' : List Side} {i j i' j' : List ℤ} →
    a ≡ a' → b ≡ b' → c ≡ c' → d ≡ d' → e ≡ e' → f ≡ f' → g ≡ g' → h ≡ h' → i ≡ i' → j ≡ j' → k ≡ k' → l ≡ l' →
    lists a b c d e f g h i j k l ≡ lists a' b' c' d' e' f' g' h' i' j' k' l'
lists_same m n o p q r s t u v w x = rw (m, n, o, p, q, r, s, t, u, v, w, x) refl

module _ (n : ℕ) (values : List ℤ) (weights classes : List ℕ) (lent : Lent) where
  abbrev refusal : ℕ
  refusal = every_refusal n values weights classes lent

  -- what the contract says of the answer r and of the lists after the call
  pub record Promised (r : Result Every Refusal) (after : Lent) : Type 0 where
    pub number : number_of r ≡ refusal
    pub answer : answer_in r ≡ every_answer n values weights classes lent
    pub left : after ≡ every_left n values weights classes lent
    pub demand3 : refusal ≡ 0 → IsOkAnd r (λ out. Demand3 n out after)

  -- a refusal, and the lists as they were
  pub refused : (k : Refusal) (after : Lent) → number_by k ≡ refusal → after ≡ lent → Promised (Err k) after
  unfolding answer_in every_answer every_left
  refused k after e h = record {
    number = e;
    answer = sym (left_by _ _ _ k e);
    left = h ∙ sym (left_by _ _ _ k e);
    demand3 = λ z. absurd (not_refused k (e ∙ z));
  }

  -- the figures of a job that is accepted
  pub worked :
      (r : Every) (after : Lent) → 0 ≡ refusal → r ≡ job_answers n values weights classes → after ≡ job_lists n values weights classes →
      Promised (Ok r) after
  unfolding answer_in every_answer every_left every_refusal
  worked r after z g h = record {
    number = z;
    answer = ap (λ v. v ∷ []) g ∙ sym (worked_by _ _ _ z);
    left = h ∙ sym (worked_by _ _ _ z);
    demand3 = λ _. rw (g, h) (demand_3 n values weights classes (lent_lengths n lent) (sym z));
  }
