-- `zone_sums` meets its contract: the local numerators, whose sum is P, are those of the job. Assumes nothing.
use mathlib.Core.Path.{◌≡◌, ap, ◌∙◌}
use native.Mathlib.Omega.{arith}
use lib.IntN.{pos}
use mir.Syntax.{w64}
use Rattle.whole.specs.Sum.{sum}
use Rattle.whole.specs.Table.{at}
use Rattle.whole.proofs.Machine.{rd}
use Rattle.account.specs.Measures.{total_of, spread_of}
use Rattle.account.specs.Steps.{zones_locals}
use Rattle.account.proofs.Locals.{summed_alike, total_held, spread_told, weight_told, cross_told, squares_told, same_figures}
use Rattle.account.proofs.Locals.{locals_sized, locals_cross}
use Rattle.account.proofs.Reading.{few_weights, added_weight}
use Rattle.account.proofs.working.zone_sums.Goals as goal
use Rattle.account.proofs.working.zone_sums.Goals.{After-zone_locals}

-- the lent list holds the local numerators of the job
held :
    (c : After-zone_locals) →
    let job = c.args.job.now in
    c.zone_locals.new.locals ≡ zones_locals job.n job.values.now job.weights.now
held c =
    let s = c.summed-summed.ensures in c.zone_locals.ensures ∙ summed_alike (λ x m. zones_locals m x c.args.job.now.weights.now) s.n_value s.values_value

pub sum_of-cross-requires : goal.sum_of-cross-requires
sum_of-cross-requires c =
    let r = c.args.job.now.good in
    let s = locals_sized _ _ _ r _ (held ((goal.at.sum_of-cross-requires c).After-zone_locals)) in record {
      few = omega (arith, s.count, r.valued.zones);
      sized = rw s.count s;
    }

pub weight_sum-requires : goal.weight_sum-requires
weight_sum-requires c = few_weights _ _ c.args.job.now.good.weighted

pub returns : goal.returns
returns c =
    let job = c.args.job.now in
    let r = job.good in
    let locals = held ((goal.at.returns c).After-zone_locals) in
    let s = c.summed-summed.ensures in
    let total = c.summed-summed.result.summed ∙ summed_alike (λ x m. total_of (at x) m) s.n_value s.values_value in
    let spread = c.spread-spread.ensures ∙ summed_alike (λ x m. spread_of (at x) m) s.n_value s.values_value in
    let weight = c.from-weight.ensures ∙ ap pos c.weight_sum.ensures ∙ added_weight _ _ r.weighted in
    let all = ap (sum (at c.zone_locals.new.locals)) (locals_sized _ _ _ r _ locals).count in record {
      result_value = same_figures job.n job.values.now job.weights.now c.args.missing _ _ _ _ _
          (total_held _ _ r.valued total)
          (rd w64 (spread_told _ _ r.valued spread) tt).same
          (rd w64 (weight_told _ _ r.weighted weight) tt).same
          (rd w64 (cross_told _ _ _ r (c.sum_of-cross.ensures ∙ all ∙ locals_cross _ _ _ r _ locals)) tt).same
          (rd w64 (squares_told _ _ _ r c.squares-squares.ensures) tt).same;
      locals_after = locals;
    }
