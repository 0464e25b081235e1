-- `reduce_row` meets its contract. Assumes nothing.
use mathlib.Core.Path.{◌≡◌, ap, ◌∙◌}
use mathlib.Core.Bool.{cond, ◌||◌}
use native.Mathlib.Omega.{arith}
use Rattle.std.proofs.Common.{rules}
use lib.ListN.{get_or}
use Rattle.whole.specs.Integer.{equal}
use Rattle.whole.specs.Table.{at}
use Rattle.whole.proofs.Machine.{r32}
use Rattle.whole.proofs.Table.{is_table, stored}
use Rattle.judges.specs.Values.{not_returned, missing}
use Rattle.kept.proofs.Missing.{value_is}
use Rattle.kept.proofs.returned.reduce_row.Goals as goal

pub loop-j-preserved : goal.loop-j-preserved
unfolding missing
loop-j-preserved c =
    let a = c.args in
    let j = c.loop-j.j in
    let weight = get_or a.weights.now j 0 in
    let told : c.counting_weight.result ≡ cond (equal (r32 a.own) not_returned || equal (r32 (at a.values.now j)) not_returned) 0 weight =
    c.counting_weight.ensures in
    let other = (value_is (at a.values.now j) (search rules)).same in
    stored (λ k. cond (equal (r32 a.own) not_returned || equal (at a.values.now k) not_returned) 0 (get_or a.weights.now k 0)) 0 _ c.loop-j.row j
    (omega arith)
    (told ∙ ap (λ x. cond (equal (r32 a.own) not_returned || equal x not_returned) 0 weight) other)
    c.loop-j.invariant

pub returns : goal.returns
returns c =
    let a = c.args in
    is_table _ _ 0 c.loop-j.row (omega arith)
    (λ k p. c.loop-j.invariant k (omega arith)
    ∙ ap (λ x. cond (equal x not_returned || missing a.values.now k) 0 (get_or a.weights.now k 0)) (value_is a.own c.ranges.own).same)
