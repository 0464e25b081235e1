-- `any_missing` meets its contract. Assumes nothing.
use Rattle.std.proofs.Common.{rules, tests, false, ◌||◌, ◌∙◌, pos}
use Rattle.std.proofs.lemmas.Iterator.{YieldsList-from_slice}
use Rattle.std.proofs.lemmas.Iterator.Consumers.{fold_from_yields_List}
use Rattle.whole.specs.Integer.{equal}
use Rattle.whole.proofs.Chains.{folded_some}
use Rattle.judges.specs.Values.{not_returned, missing}
use Rattle.kept.proofs.returned.any_missing.Goals as goal

pub returns : goal.returns
unfolding missing
returns c =
    let values = c.args.values.now in
    fold_from_yields_List _ (λ b x. b || equal x not_returned) false _ c.fold.ensures.ran (YieldsList-from_slice values cc)
    (λ b x d q k. search (rules, tests))
    ∙ folded_some (λ x. equal x not_returned) values (pos 0)
