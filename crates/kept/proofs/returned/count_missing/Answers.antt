-- `count_missing` meets its contract. Assumes nothing.
use mathlib.Core.Path.{◌≡◌, ◌∙◌}
use lib.IntN.{pos}
use Rattle.std.proofs.Common.{rules}
use Rattle.std.specs.List.{count_by}
use Rattle.whole.specs.Integer.{equal}
use Rattle.judges.specs.Values.{not_returned, missing}
use Rattle.kept.specs.Returned.{missing_count}
use Rattle.whole.proofs.Chains.{counted}
use Rattle.kept.proofs.returned.count_missing.Goals as goal

pub returns : goal.returns
unfolding missing_count missing
returns c =
    let values = c.args.values.now in
    let told : c.count.result ≡ count_by (λ v. equal v not_returned) values = search rules in
    told ∙ counted _ values (pos 0)
