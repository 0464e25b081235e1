-- `tally` meets its contract. The loop's invariant: the counts of each desk are those of its shuffles passed. Assumes nothing.
use mathlib.Core.Path.{◌≡◌, refl, sym, ap, ◌∙◌}
use mathlib.Core.Bool.{false}
use mathlib.Core.List.{List}
use Prim.Native.Nat.{ℕ, ◌≤◌, ◌<◌}
use native.Mathlib.Omega.{arith}
use lib.IntN.{ℤ}
use lib.ListN.{get_or}
use mir.Syntax.{w64}
use Rattle.std.specs.Ordering.{int_cmp}
use Rattle.whole.specs.Order.{lacks}
use Rattle.whole.specs.Table.{at, pair_at}
use Rattle.whole.proofs.Machine.{Is, rd, r64}
use Rattle.account.specs.Rank.{shuffled, no_counts}
use Rattle.account.specs.Steps.{cross_held, cross_moved}
use Rattle.account.proofs.Adding.{cross_alike}
use Rattle.account.proofs.Locals.{deviations_cross_told}
use Rattle.account.proofs.Shuffled.{row_long, row_names, shuffled_size}
use Rattle.account.proofs.Tallied.{all_none_yet, all_no_more, all_tallied, all_one_more}
use Rattle.account.proofs.ranking.tally.Goals as goal
use Rattle.account.proofs.ranking.tally.Goals.{After-shuffle_cross-cross, After-from-desk}

-- the P of the shuffle at hand and the job's own, as the machine compares them
module _ (c : After-shuffle_cross-cross) where
  abbrev n : ℕ
  n = c.args.weighed.now.n

  abbrev shuffles : List ℕ
  shuffles = c.args.shuffles.now.shuffles.now

  abbrev numbers : ℕ → ℤ
  numbers = cross_moved c.args.weighed.now.weights.now n c.args.weighed.now.d.now shuffles

  abbrev own : ℤ
  own = cross_held c.args.weighed.now.weights.now c.args.weighed.now.n c.args.weighed.now.d.now

  -- the row is that of the shuffle
  names : (i : ℕ) → i < n → get_or c.shuffle-row.result.zones.now i 0 ≡ pair_at shuffles n c.loop-r.r i
  names i p =
      let s = c.args.shuffles.now in
      row_names shuffles s.n s.rows c.loop-r.r s.good c.loop-r-test.true _ c.shuffle-row.ensures i (omega (arith, c.requires, p))
      ∙ ap (λ (m : ℕ). pair_at shuffles m c.loop-r.r i) c.requires

  all : lacks (pair_at shuffles n c.loop-r.r) n ≡ false
  all =
      ap (λ (m : ℕ). lacks (pair_at shuffles m c.loop-r.r) m) (sym c.requires)
      ∙ c.args.shuffles.now.good.full c.loop-r.r c.loop-r-test.true

  shuffle_is : Is (r64 c.shuffle_cross-cross.result) (numbers c.loop-r.r) 6039797760000000000
  shuffle_is =
      let w = c.args.weighed.now in
      let small = shuffled_size _ _ _ _ w.sized all in
      let alike = cross_alike (pair_at w.weights.now n) n _ (shuffled (at w.d.now) (pair_at shuffles n c.loop-r.r)) (λ i p. ap (at w.d.now) (names i p)) in
      rd w64 (deviations_cross_told _ _ w.weighted _ small (c.shuffle_cross-cross.ensures ∙ alike)) tt

  own_is : Is (r64 c.cross_sum-own.result) own 6039797760000000000
  own_is = rd w64 (deviations_cross_told _ _ c.args.weighed.now.weighted (at c.args.weighed.now.d.now) c.args.weighed.now.sized.size c.cross_sum-own.ensures) tt

-- the desk that the shuffle names
module _ (c : After-from-desk) where
  abbrev a : After-shuffle_cross-cross
  a = (goal.at.After-from-desk c).After-shuffle_cross-cross

  named : get_or c.args.shuffles.now.desks.now c.loop-r.r 0 ≡ c.from-desk.result
  named = sym c.from-desk.ensures

  low : c.from-desk.result < 4
  low = omega (arith, c.args.shuffles.now.desked.low c.loop-r.r c.loop-r-test.true, named)

  -- none of its counts can overflow
  small :
      let counts = get_or c.loop-r.counts c.from-desk.result no_counts in
      (counts.less ≤ 498) × (counts.equal ≤ 498) × (counts.greater ≤ 498)
  small =
      let m = all_no_more _ _ _ c.loop-r.invariant c.from-desk.result low in
      let f = c.args.shuffles.now.good.few in
      let h = c.loop-r-test.true in
      (omega (arith, m.0), omega (arith, m.1), omega (arith, m.2))

pub loop-r-init : goal.loop-r-init
loop-r-init c = all_none_yet _ _ _ _ refl

pub shuffle_cross-cross-requires : goal.shuffle_cross-cross-requires
shuffle_cross-cross-requires c =
    let s = c.args.shuffles.now in
    row_long s.shuffles.now s.n s.rows c.loop-r.r s.good c.loop-r-test.true _ c.shuffle-row.ensures ∙ c.requires

pub counted-requires-clause-less_bound : goal.counted-requires-clause-less_bound
counted-requires-clause-less_bound c =
    let p = (goal.at.counted-requires-clause-less_bound c).After-from-desk in omega (arith, (small p).0)

pub counted-requires-clause-equal_bound : goal.counted-requires-clause-equal_bound
counted-requires-clause-equal_bound c =
    let p = (goal.at.counted-requires-clause-equal_bound c).After-from-desk in omega (arith, (small p).1)

pub counted-requires-clause-greater_bound : goal.counted-requires-clause-greater_bound
counted-requires-clause-greater_bound c =
    let p = (goal.at.counted-requires-clause-greater_bound c).After-from-desk in omega (arith, (small p).2)

pub loop-r-preserved : goal.loop-r-preserved
loop-r-preserved c =
    let p = (goal.at.loop-r-preserved c).After-from-desk in
    let told : int_cmp (numbers (a p) c.loop-r.r) (own (a p)) ≡ c.cmp.result = cc (c.cmp.ensures, (shuffle_is (a p)).same, (own_is (a p)).same) in
    rw c.counted.ensures (all_one_more _ _ _ c.loop-r.invariant c.from-desk.result c.cmp.result (low p) (named p) told)

pub returns : goal.returns
returns c =
    let s = c.args.shuffles.now in
    let e : c.loop-r.r ≡ s.rows = omega arith in
    rw (← e) (all_tallied _ _ _ c.loop-r.invariant)
