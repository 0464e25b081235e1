-- `any_above` meets its contract. Assumes nothing.
use Rattle.std.proofs.Common.{rules, tests, false, ◌||◌, ltb, ◌∙◌}
use Rattle.std.proofs.lemmas.Iterator.{YieldsList-from_slice}
use Rattle.std.proofs.lemmas.Iterator.Consumers.{fold_from_yields_List}
use Rattle.whole.specs.Search.{any_above}
use Rattle.whole.proofs.Chains.{folded_some}
use Rattle.judges.proofs.any_above.Goals as goal

pub returns : goal.returns
unfolding any_above
returns c =
    let a = c.args in
    fold_from_yields_List _ (λ b x. b || ltb a.limit x) false _ c.fold.ensures.ran (YieldsList-from_slice a.numbers.now cc)
    (λ b x d q k. search (rules, tests))
    ∙ folded_some (ltb a.limit) a.numbers.now 0
