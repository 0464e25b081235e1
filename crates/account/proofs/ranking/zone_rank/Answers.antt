-- `zone_rank` meets its contract: the deviations are worked once, and a shuffle's deviations are the job's, shuffled. Assumes nothing.
use mathlib.Core.Path.{◌≡◌, sym, ap, ◌∙◌}
use Prim.Native.Nat.{ℕ}
use mathlib.Core.List.{List}
use lib.IntN.{ℤ}
use lib.ListN.{length}
use Rattle.whole.specs.Order.{lacks}
use Rattle.whole.specs.Table.{table, at, pair_at}
use Rattle.whole.proofs.Lists.{front}
use Rattle.whole.proofs.Table.{table_length}
use Rattle.account.specs.Measures.{deviation_of}
use Rattle.account.specs.Rank.{compared_of, of_desk, zones_desk, four}
use Rattle.account.specs.Steps.{cross_held, cross_moved}
use Rattle.account.proofs.Locals.{summed_alike, deviations_sized}
use Rattle.account.proofs.Shuffled.{own_cross, its_cross}
use Rattle.account.proofs.Tallied.{four_cong, compared_cong}
use Rattle.account.proofs.ranking.zone_rank.Goals as goal
use Rattle.account.proofs.ranking.zone_rank.Goals.{After-deviations, Start}

-- the deviations of the job, as the array's front holds them
module _ (c : After-deviations) where
  abbrev a : Start
  a = ((goal.at.After-deviations c).Start)

  abbrev expected : List ℤ
  expected = table (deviation_of (at a.args.job.now.values.now) a.args.job.now.n) a.args.job.now.n

  as_long : length expected ≡ a.args.job.now.n
  as_long = table_length (deviation_of (at a.args.job.now.values.now) a.args.job.now.n) a.args.job.now.n

  told : c.deviations.new.d ≡ expected
  told = c.deviations.ensures ∙ summed_alike (λ x m. table (deviation_of (at x) m) m) c.summed-summed.ensures.n_value c.summed-summed.ensures.values_value

  -- what is compared is the P of the shuffles, and the job's own
  same :
      (d : List ℤ) → d ≡ expected →
      let g = a.args in
      let s = g.shuffles.now in
      four
      (λ k. compared_of (of_desk s.desks.now k) (cross_moved g.job.now.weights.now g.job.now.n d s.shuffles.now)
      (cross_held g.job.now.weights.now g.job.now.n d)
      s.rows)
      ≡ four (zones_desk s.rows g.job.now.n g.job.now.values.now g.job.now.weights.now s.shuffles.now s.desks.now)
  unfolding zones_desk
  same d e =
      let g = a.args in
      let s = g.shuffles.now in
      four_cong _ _
      (λ k l. compared_cong (of_desk s.desks.now k) _ _ _ _ s.rows
      (λ r h. its_cross g.job.now.values.now g.job.now.weights.now g.job.now.n d e s.shuffles.now r
      (ap (λ (m : ℕ). lacks (pair_at s.shuffles.now m r) m) (sym a.requires) ∙ s.good.full r h))
      (own_cross g.job.now.values.now g.job.now.weights.now g.job.now.n d e))

pub invariant_of-weighed : goal.invariant_of-weighed
invariant_of-weighed c =
    let after_deviations = (goal.at.invariant_of-weighed c).After-deviations in
    let job = (a after_deviations).args.job.now.good in
    let d = front {A = ℤ} _ _ (expected after_deviations) _ (told after_deviations) (as_long after_deviations) in record {
      weighted = job.weighted;
      sized = deviations_sized _ _ _ job.valued d;
    }

pub returns : goal.returns
returns c =
    let after_deviations = (goal.at.returns c).After-deviations in
    c.tally.ensures ∙ same after_deviations _ (front {A = ℤ} _ _ (expected after_deviations) _ (told after_deviations) (as_long after_deviations))
