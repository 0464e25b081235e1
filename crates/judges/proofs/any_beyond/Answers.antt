-- `any_beyond` meets its contract. Assumes nothing.
use Rattle.std.proofs.Common.{rules, tests, pos, ◌∙◌}
use Rattle.std.proofs.lemmas.Iterator.{YieldsList-from_slice}
use Rattle.std.proofs.lemmas.Iterator.Search.{any_from_yields_List}
use Rattle.whole.specs.Integer.{beyond}
use Rattle.whole.specs.Search.{any_beyond}
use Rattle.whole.proofs.Chains.{any_some}
use Rattle.judges.proofs.any_beyond.Goals as goal

pub returns : goal.returns
unfolding any_beyond
returns c =
    let a = c.args in
    any_from_yields_List (beyond a.limit) _ _ _ c.any.ensures.ran (YieldsList-from_slice a.numbers.now cc) (λ x b q k. search (rules, tests))
    ∙ any_some (beyond a.limit) a.numbers.now (pos 0)
