-- `any_value_beyond` meets its contract. Assumes nothing.
use mathlib.Core.Path.{◌∙◌}
use mathlib.Core.Bool.{not, ◌&&◌}
use lib.IntN.{pos}
use Rattle.std.proofs.Common.{rules, tests}
use Rattle.std.proofs.lemmas.Iterator.{YieldsList-from_slice}
use Rattle.std.proofs.lemmas.Iterator.Search.{any_from_yields_List}
use Rattle.whole.specs.Integer.{beyond, equal}
use Rattle.judges.specs.Values.{not_returned, missing, any_value_beyond}
use Rattle.whole.proofs.Chains.{any_some}
use Rattle.judges.proofs.values.any_value_beyond.Goals as goal

pub returns : goal.returns
unfolding any_value_beyond missing
returns c =
    let values = c.args.values.now in
    any_from_yields_List (λ v. not (equal v not_returned) && beyond 100000 v) _ _ _ c.any.ensures.ran (YieldsList-from_slice values cc)
    (λ x b q k. search (rules, tests))
    ∙ any_some _ values (pos 0)
