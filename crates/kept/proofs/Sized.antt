-- A call that is lent values, weights and one list more: its sizes are not refused where they fit, so that `reduce` makes the weights that
-- count. Assumes nothing.
use mathlib.Core.Path.{◌≡◌, refl, ◌∙◌}
use mathlib.Core.List.{List, [], ◌∷◌}
use Prim.Native.Nat.{ℕ, ◌*◌, ◌≤◌}
use borrow.Author.Tests.{eq-eqb}
use lib.IntN.{ℤ}
use lib.ListN.{length}
use Rattle.std.specs.Prelude.{Result}
use Rattle.std.specs.Result.{IsOk}
use Rattle.whole.proofs.Rules.{sizes_let_in, worked_when_taken}
use Rattle.refusals.specs.Refusals.{number_of}
use Rattle.refusals.specs.declared.Refusal.{Refusal}
use Rattle.refusals.proofs.Unrefused.{unrefused}
use Rattle.kept.specs.Answers.{lists_refusal, reduce_refusal, reduce_left}
use Rattle.kept.specs.Returned.{reduced}

module _ (n values weights lent places : ℕ) where
  pub record Fitting : Type 0 where
    pub two : 2 ≤ n
    pub zones : n ≤ 64
    pub values_fit : values ≡ n
    pub weights_fit : weights ≡ n * n
    pub lent_fit : lent ≡ places

  pub let_in : Fitting → lists_refusal n values weights lent places ≡ 0
  unfolding lists_refusal
  let_in f =
      sizes_let_in n ((values, n) ∷ (weights, n * n) ∷ (lent, places) ∷ [])
      (record {
        two = f.two;
        zones = f.zones;
        fitting = rw (eq-eqb values n f.values_fit, eq-eqb weights (n * n) f.weights_fit, eq-eqb lent places f.lent_fit) refl;
      })

-- `reduce` of such lists refuses nothing, and its list holds the weights that count
pub record Reduces {A : Type 0} (n : ℕ) (values : List ℤ) (weights left : List ℕ) (result : Result A Refusal) : Type 0 where
  pub taken : IsOk result
  pub made : left ≡ reduced n values weights

pub reduces :
    {A : Type 0} {n : ℕ} {values : List ℤ} {weights left : List ℕ} {result : Result A Refusal} (counting : List ℕ) →
    number_of result ≡ reduce_refusal n values weights counting → left ≡ reduce_left n values weights counting →
    Fitting n (length values) (length weights) (length counting) (n * n) → Reduces n values weights left result
unfolding reduce_left
reduces counting number lent f =
    let none = let_in _ _ _ _ _ f in
    record { taken = unrefused _ (number ∙ none); made = lent ∙ worked_when_taken _ _ _ none }
