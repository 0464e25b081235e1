-- Judges one after the other, each of some rules: a refusal ends them, and else the next decides. Assumes nothing.
use mathlib.Core.Path.{◌≡◌, sym, ◌∙◌}
use mathlib.Core.List.{List, ◌++◌}
use Rattle.whole.specs.Rules.{Rule, first_broken}
use Rattle.whole.proofs.InTurn.{Numbered, first_decides, second_decides}
use Rattle.refusals.specs.declared.Refusal.{Refusal}
use Rattle.refusals.specs.Refusals.{number_by}
use Rattle.refusals.proofs.Refusals.{not_refused}

module _ (rules rest : List Rule) where
  pub stops : (e : Refusal) → number_by e ≡ first_broken rules → number_by e ≡ first_broken (rules ++ rest)
  stops e h = h ∙ sym (first_decides rest rules (λ z. not_refused e (h ∙ z)))

  pub passes : Numbered rules → 0 ≡ first_broken rules → first_broken (rules ++ rest) ≡ first_broken rest
  passes numbered h = second_decides rest rules numbered (sym h)
