-- `join_table` meets its contract: judged first, and counted only where no rule is broken. Where every value is returned the weights that
-- count are those lent. Assumes nothing.
use mathlib.Core.Path.{◌≡◌, sym, ap, ◌∙◌}
use lib.IntN.{pos}
use lib.ListN.{length, replicate}
use Rattle.std.proofs.lemmas.Result.{err_from_is_err_and}
use Rattle.refusals.proofs.Refusals.{left_by, worked_by}
use Rattle.kept.specs.Returned.{reduced}
use Rattle.kept.proofs.Reduced.{none_found}
use Rattle.joins.specs.Joins.{join_table, joins_left}
use Rattle.joins.proofs.Accepted.{Accepted, accepted}
use Rattle.joins.proofs.join_table.Goals as goal
use Rattle.joins.proofs.join_table.Goals.{In_ok-judge_joins, After-fill, Else-any_missing}

pub returns-in_err-judge_joins : goal.returns-in_err-judge_joins
unfolding joins_left
returns-in_err-judge_joins c =
    let p = err_from_is_err_and c.from_residual.result c.from_residual.ensures.1 in
    let e = c.in_err-judge_joins.ensures in
    rw (p.1, p.2) (record { number = e; lent = sym (left_by _ _ _ _ e) })

good : (c : In_ok-judge_joins) → Accepted c.args.n c.args.values.now c.args.categories.now c.args.weights.now (length c.args.table.now)
good c = accepted _ _ _ _ _ (sym c.in_ok-judge_joins.ensures)

zeros : (c : After-fill) → c.fill.new.self ≡ replicate 64 (pos 0)
zeros c = c.fill.ensures.after (λ y e. e) ∙ ap (λ k. replicate k (pos 0)) (good ((goal.at.After-fill c).In_ok-judge_joins)).room_fit

pub invariant_of-zones : goal.invariant_of-zones
invariant_of-zones c =
    let g = good ((goal.at.invariant_of-zones c).In_ok-judge_joins) in
    record { few = g.zones; categories_fit = g.categories_fit; weights_fit = g.weights_fit; light = g.light; low = g.low }

pub invariant_of-zones-2 : goal.invariant_of-zones-2
invariant_of-zones-2 c =
    let g = good ((goal.at.invariant_of-zones-2 c).In_ok-judge_joins) in
    record { few = g.zones; categories_fit = g.categories_fit; weights_fit = g.weights_fit; light = g.light; low = g.low }

pub count_returned-requires : goal.count_returned-requires
count_returned-requires c =
    let t = goal.at.count_returned-requires c in
    let g = good t.In_ok-judge_joins in
    record { two = g.two; values_len = g.values_fit; zeros = zeros t.After-fill }

pub returns-then-any_missing : goal.returns-then-any_missing
unfolding joins_left
returns-then-any_missing c =
    let z = c.in_ok-judge_joins.ensures in
    record { number = z; lent = c.count_returned.ensures ∙ sym (worked_by _ _ _ z) }

pub count_joins-requires : goal.count_joins-requires
count_joins-requires c = zeros ((goal.at.count_joins-requires c).After-fill)

-- every value is returned
same : (c : Else-any_missing) → reduced c.args.n c.args.values.now c.args.weights.now ≡ c.args.weights.now
same c =
    let g = good ((goal.at.Else-any_missing c).In_ok-judge_joins) in
    none_found _ _ _ (sym c.any_missing.ensures ∙ c.if-any_missing.false) g.values_fit g.weights_fit

pub returns : goal.returns
unfolding joins_left
returns c =
    let z = c.in_ok-judge_joins.ensures in
    let e = ap (join_table c.args.n c.args.categories.now) (sym (same ((goal.at.returns c).Else-any_missing))) in
    record { number = z; lent = c.count_joins.ensures ∙ e ∙ sym (worked_by _ _ _ z) }
