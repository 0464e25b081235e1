-- `zone_classes` meets its contract: the rows and the local numerators first, then the sums of the whole job from them. Assumes nothing.
use mathlib.Core.Path.{◌≡◌, ap, ◌∙◌}
use mathlib.Core.List.{List}
use Prim.Native.Nat.{ℕ, ◌+◌, ◌*◌, ◌≤◌, ◌<◌}
use native.Mathlib.Omega.{arith}
use lib.IntN.{ℤ, nat_abs}
use mir.Syntax.{w64}
use Rattle.whole.specs.Sum.{sum}
use Rattle.whole.specs.Table.{at, pair_at}
use Rattle.whole.proofs.Machine.{rd}
use Rattle.whole.proofs.Sum.{sum_cong}
use Rattle.account.specs.Measures.{total_of, spread_of, weight_of, squares_of}
use Rattle.account.specs.Classes.{zones_class_row, sum_at, row_at}
use Rattle.account.specs.Steps.{zones_class_sums, ClassJob}
use Rattle.account.proofs.ByClass.{sums_at}
use Rattle.account.proofs.Locals.{summed_alike, locals_sized, locals_cross, total_held, spread_told, weight_told, cross_told, squares_told, same_figures}
use Rattle.account.proofs.NineClasses.{weights_together, squares_together}
use Rattle.account.proofs.ZoneByZone.{class_weight_size, class_squares_size}
use Rattle.account.proofs.classes.zone_classes.Goals as goal
use Rattle.account.proofs.classes.zone_classes.Goals.{After-add_zones, After-spread-spread, Start}

-- the rows that the zones gave, and their W and G together
module _ (n : ℕ) (values : List ℤ) (weights classes : List ℕ) (g : ClassJob values weights classes n)
    (rows : List ℤ) (e : rows ≡ zones_class_sums n values weights classes) where
  sum_is : (k s : ℕ) → k < 9 → s < 3 → at rows (k * 3 + s) ≡ sum_at (zones_class_row n values weights classes k) s
  unfolding zones_class_sums
  sum_is = sums_at _ rows e

  weight_is : (k : ℕ) → k < 9 → (row_at rows k).weight ≡ (zones_class_row n values weights classes k).weight
  weight_is k h = let place : k * 3 ≡ k * 3 + 0 = omega arith in ap (at rows) place ∙ sum_is k 0 h (omega arith)

  squares_are : (k : ℕ) → k < 9 → (row_at rows k).squares ≡ (zones_class_row n values weights classes k).squares
  squares_are k h = sum_is k 2 h (omega arith)

  weight_small : (k : ℕ) → k < 9 → nat_abs ((row_at rows k).weight) ≤ 94371840000000000
  weight_small k h = rw (weight_is k h) (class_weight_size n values weights classes g k)

  squares_small : (k : ℕ) → k < 9 → nat_abs ((row_at rows k).squares) ≤ 94371840000000000
  squares_small k h = rw (squares_are k h) (class_squares_size n values weights classes g k)

  weight_together : sum (λ k. (row_at rows k).weight) 9 ≡ weight_of (pair_at weights n) n
  weight_together = sum_cong _ _ 9 weight_is ∙ weights_together n values weights classes g.classed.low

  square_together : sum (λ k. (row_at rows k).squares) 9 ≡ squares_of (pair_at weights n) (at values) n
  square_together = sum_cong _ _ 9 squares_are ∙ squares_together n values weights classes g.classed.low

-- the call that is answered with the rows and the local numerators
module _ (c : After-add_zones) where
  abbrev summing : After-spread-spread
  summing = ((goal.at.After-add_zones c).After-spread-spread)

  abbrev start : Start
  start = ((goal.at.After-spread-spread summing).Start)

pub nine_together-weight-requires : goal.nine_together-weight-requires
nine_together-weight-requires c =
    let after_add_zones = (goal.at.nine_together-weight-requires c).After-add_zones in
    let a = (start after_add_zones).args in
    let rows = c.add_zones.ensures.rows_after in
    let g = (start after_add_zones).args.lists.now.good in record {
      weights = weight_small a.lists.now.job.n a.lists.now.job.values.now a.lists.now.job.weights.now a.lists.now.classes.now g _ rows;
      squares = squares_small a.lists.now.job.n a.lists.now.job.values.now a.lists.now.job.weights.now a.lists.now.classes.now g _ rows;
    }

pub sum_of-cross-requires : goal.sum_of-cross-requires
sum_of-cross-requires c =
    let g = (start ((goal.at.sum_of-cross-requires c).After-add_zones)).args.lists.now.good.job in
    let s = locals_sized _ _ _ g _ c.add_zones.ensures.locals_after in record {
      few = omega (arith, s.count, g.valued.zones);
      sized = rw s.count s;
    }

pub returns : goal.returns
returns c =
    let after_add_zones = (goal.at.returns c).After-add_zones in
    let m = summing after_add_zones in
    let s = start after_add_zones in
    let a = s.args in
    let g = s.args.lists.now.good in
    let r = g.job in
    let held = c.add_zones.ensures in
    let summed = m.summed-summed.ensures in
    let total = m.summed-summed.result.summed ∙ summed_alike (λ x m. total_of (at x) m) summed.n_value summed.values_value in
    let spread = m.spread-spread.ensures ∙ summed_alike (λ x m. spread_of (at x) m) summed.n_value summed.values_value in
    let all = ap (sum (at c.add_zones.new.locals)) (locals_sized _ _ _ r _ held.locals_after).count in
    let weight = c.nine_together-weight.ensures.weight ∙ weight_together a.lists.now.job.n a.lists.now.job.values.now a.lists.now.job.weights.now a.lists.now.classes.now g _ held.rows_after in
    let squares = c.nine_together-weight.ensures.square ∙ square_together a.lists.now.job.n a.lists.now.job.values.now a.lists.now.job.weights.now a.lists.now.classes.now g _ held.rows_after in record {
      result_value = same_figures a.lists.now.job.n a.lists.now.job.values.now a.lists.now.job.weights.now a.missing _ _ _ _ _
          (total_held _ _ r.valued total)
          (rd w64 (spread_told _ _ r.valued spread) tt).same
          (rd w64 (weight_told _ _ r.weighted weight) tt).same
          (rd w64 (cross_told _ _ _ r (c.sum_of-cross.ensures ∙ all ∙ locals_cross _ _ _ r _ held.locals_after)) tt).same
          (rd w64 (squares_told _ _ _ r squares) tt).same;
      rows_after = held.rows_after;
      class_locals_after = held.class_locals_after;
      locals_after = held.locals_after;
    }
