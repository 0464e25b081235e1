-- `add_pairs` meets its contract. The loop's invariant: the parts hold the sums over the pairs passed. Assumes nothing.
use mathlib.Core.Path.{◌≡◌, sym, ap, ◌∙◌}
use Prim.Native.Nat.{ℕ, zero, suc, ◌+◌, ◌*◌, ◌<◌}
use native.Mathlib.Nat as N
use native.Mathlib.Omega.{arith}
use lib.IntN.{pos, ◌-ℤ◌, ◌*ℤ◌}
use mir.Syntax.{w64}
use Rattle.whole.specs.Integer.{square}
use Rattle.whole.specs.Table.{at, pair_at}
use Rattle.whole.proofs.Lists.{within}
use Rattle.whole.proofs.Machine.{Is, told, rd, is_*, fit, r64}
use Rattle.account.specs.Measures.{deviation_of}
use Rattle.account.specs.Classes.{sum_at}
use Rattle.account.specs.Steps.{counted, row_added}
use Rattle.account.specs.declared.ClassRow.{ClassRow}
use Rattle.account.proofs.Locals.{deviations_sized, deviation_is}
use Rattle.account.proofs.Reading.{weight_le, difference_told}
use Rattle.account.proofs.ZoneByZone.{no_pairs, one_pair, all_pairs, pairs_sized, added_small}
use Rattle.account.proofs.classes.add_pairs.Goals as goal
use Rattle.account.proofs.classes.add_pairs.Goals.{After-squared_difference-square}

-- a turn: what is added to the sums of the class of the pair (i,j)
module _ (c : After-squared_difference-square) where
  abbrev j : ℕ
  j = c.loop-j.j

  abbrev passing : j < c.args.work.now.lists.job.n
  passing = c.loop-j-test.true

  abbrev weight : ℕ
  weight = pair_at c.args.work.now.lists.job.weights.now c.args.work.now.lists.job.n c.args.i j

  weight_is : Is (r64 c.from-weight.result) (pos weight) 9
  unfolding pair_at
  weight_is =
      let w = c.args.work.now.lists.good.job.weighted in
      rd w64 (told (pos weight) 9 c.from-weight.ensures (weight_le _ _ w c.args.i j c.requires.i_lt_n passing)) tt

  cross_is :
      Is (r64 c.from-weight.result *ℤ r64 (at c.args.work.now.d.now j)) (pos weight *ℤ deviation_of (at c.args.work.now.lists.job.values.now) c.args.work.now.lists.job.n j) 115200000
  cross_is =
      is_* weight_is
      (deviation_is c.args.work.now.lists.job.values.now c.args.work.now.lists.job.n c.args.work.now.d.now c.args.work.now.lists.good.job.valued c.args.work.now.worked j passing)

  squares_is :
      Is (r64 c.from-weight.result *ℤ r64 c.squared_difference-square.result)
      (pos weight *ℤ square (at c.args.work.now.lists.job.values.now c.args.i -ℤ at c.args.work.now.lists.job.values.now j)) 360000000000
  squares_is =
      let v = c.args.work.now.lists.good.job.valued in
      let apart = difference_told c.args.work.now.lists.job.values.now c.args.work.now.lists.job.n v c.args.i j c.requires.i_lt_n passing c.squared_difference-square.ensures in
      is_* weight_is (rd w64 apart tt)

  abbrev added : ClassRow
  added = record {
    weight = r64 c.from-weight.result;
    cross = r64 (r64 c.from-weight.result *ℤ r64 (at c.args.work.now.d.now j));
    squares = r64 (r64 c.from-weight.result *ℤ r64 c.squared_difference-square.result);
  }

  each : (place : ℕ) → sum_at added place ≡ pos weight *ℤ counted c.args.work.now.lists.job.n c.args.work.now.lists.job.values.now place c.args.i j
  each zero = weight_is.same ∙ sym (ap pos (N.mul-one weight))
  each (suc zero) = (rd w64 cross_is tt).same
  each (suc (suc place)) = (rd w64 squares_is tt).same

pub bounds-work-j : goal.bounds-work-j
bounds-work-j c =
    omega (arith, (deviations_sized c.args.work.now.lists.job.values.now c.args.work.now.lists.job.n c.args.work.now.d.now c.args.work.now.lists.good.job.valued c.args.work.now.worked).count)

pub loop-j-init : goal.loop-j-init
loop-j-init c =
    no_pairs c.args.work.now.lists.job.n c.args.work.now.lists.job.values.now c.args.work.now.lists.job.weights.now c.args.work.now.lists.classes.now c.args.i _ c.requires.parts_value

pub overflow_mul-weight : goal.overflow_mul-weight
overflow_mul-weight c = fit w64 (cross_is ((goal.at.overflow_mul-weight c).After-squared_difference-square)) tt

pub overflow_mul-weight-in-loop-j : goal.overflow_mul-weight-in-loop-j
overflow_mul-weight-in-loop-j c = fit w64 (squares_is ((goal.at.overflow_mul-weight-in-loop-j c).After-squared_difference-square)) tt

pub add_row-requires : goal.add_row-requires
add_row-requires c =
    let t = (goal.at.add_row-requires c).After-squared_difference-square in
    let g = c.args.work.now.lists.good in
    let a = c.args in record {
      sized = pairs_sized a.work.now.lists.job.n a.work.now.lists.job.values.now a.work.now.lists.job.weights.now a.work.now.lists.classes.now g a.i (j t) _ c.requires.i_lt_n (omega arith) c.loop-j.invariant;
      k_bound = omega (arith, c.from-k.ensures, g.classed.low (a.i * a.work.now.lists.job.n + j t) (within a.work.now.lists.job.n a.i (j t) c.requires.i_lt_n (passing t)));
      weight_bound = added_small (weight_is t) (omega arith);
      cross_bound = added_small (rd w64 (cross_is t) tt) (omega arith);
      squares_bound = added_small (rd w64 (squares_is t) tt) (omega arith);
    }

pub loop-j-preserved : goal.loop-j-preserved
unfolding pair_at
loop-j-preserved c =
    let t = (goal.at.loop-j-preserved c).After-squared_difference-square in
    let a = c.args in
    let row = added t in
    one_pair a.work.now.lists.job.n a.work.now.lists.job.values.now a.work.now.lists.job.weights.now a.work.now.lists.classes.now a.i (j t) row c.loop-j.parts _ c.loop-j.invariant
    (c.add_row.ensures ∙ ap (λ (k : ℕ). row_added c.loop-j.parts k row.weight row.cross row.squares) c.from-k.ensures) (each t)

pub returns : goal.returns
returns c =
    let a = c.args in
    all_pairs a.work.now.lists.job.n a.work.now.lists.job.values.now a.work.now.lists.job.weights.now a.work.now.lists.classes.now a.i c.loop-j.j c.loop-j.parts (omega arith) c.loop-j.invariant
