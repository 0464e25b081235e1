-- `judge_sums` meets its contract: where every zone stands in the list the values gathered are the values lent; else they are gathered at
-- the front of a local array, and their spread is judged there. Assumes nothing.
use mathlib.Core.Path.{◌≡◌, refl, sym, ap, ◌∙◌}
use mathlib.Core.Bool.{false}
use mathlib.Core.List.{List, [], ◌∷◌}
use Prim.Native.Nat.{ℕ, ◌≤◌}
use native.Mathlib.Omega.{arith}
use borrow.Author.Tests.{eq-eqb, ne_eqb}
use lib.Dec.{eqb}
use lib.IntN.{ℤ, pos}
use lib.ListN.{length}
use lib.Seq.{length-take-le}
use Rattle.whole.specs.Integer.{is_zero}
use Rattle.whole.specs.Rules.{first_broken}
use Rattle.whole.specs.Table.{at}
use Rattle.kept.specs.Returned.{reduced}
use Rattle.account.specs.Measures.{spread_of}
use Rattle.account.specs.Steps.{gathered}
use Rattle.account.proofs.KeptLists.{gathered_by, gathered_all}
use Rattle.account.proofs.KeptJob.{lent_job, whole_job}
use Rattle.account.proofs.KeptWork as work
use Rattle.account.proofs.judging.judge_sums.Goals as goal
use Rattle.account.proofs.judging.judge_sums.Goals.{After-gather, Else-many-n}

module _ (values : List ℤ) (zones : List ℕ) (out : List ℤ) (e : out ≡ gathered values zones) where
  -- what is judged of them is 7 of the job, where 6 is not broken
  by_spread :
      eqb (length zones) 0 ≡ false → (r : ℕ) → r ≡ first_broken ((is_zero (spread_of (at out) (length zones)), 7) ∷ []) →
      r
      ≡ first_broken
      ((eqb (length zones) 0, 6) ∷ (is_zero (spread_of (at (gathered values zones)) (length zones)), 7) ∷ [])
  by_spread six r told =
      told
      ∙ ap (λ l. first_broken ((is_zero (spread_of (at l) (length zones)), 7) ∷ [])) e
      ∙ rw six refl

-- they fit into the array
room : (c : Else-many-n) → length c.args.kept.now.zones.now ≤ 64
room c = let z = c.args.kept.now.rising in omega (arith, z.few, z.most)

pub returns-then-many-eq0 : goal.returns-then-many-eq0
returns-then-many-eq0 c = rw (eq-eqb _ _ c.if-many-eq0.true) refl

pub invariant_of-judge_spread : goal.invariant_of-judge_spread
invariant_of-judge_spread c =
    let kept = c.args.kept.now in
    let job = kept.job in
    let counting = reduced job.n job.values.now job.weights.now in
    let all = sym (work.zones_count job.n counting kept.zones.now kept.kept) ∙ c.if-many-n.true in
    record { valued = (whole_job job.n job.values.now job.weights.now job.good all).valued }

pub returns-then-many-n : goal.returns-then-many-n
returns-then-many-n c =
    let kept = c.args.kept.now in
    let job = kept.job in
    let values = job.values.now in
    let zones = kept.zones.now in
    let all = gathered_all zones job.n kept.rising c.if-many-n.true values job.good.count in
    by_spread values zones values (sym all) (ne_eqb _ _ c.if-many-eq0.false) _ (rw c.if-many-n.true c.judge_spread.ensures)

-- the values that are gathered
values_are : (c : After-gather) → c.gather.new.out ≡ gathered c.args.kept.now.job.values.now c.args.kept.now.zones.now
values_are c =
    let k = c.args.kept.now in
    let long = c.gather.auto.out ∙ length-take-le _ _ (room ((goal.at.After-gather c).Else-many-n)) in
    gathered_by (pos 0) k.job.values.now c.gather.new.out k.zones.now long c.gather.ensures

-- those of zones kept are within the limit
pub invariant_of-judge_spread-2 : goal.invariant_of-judge_spread-2
invariant_of-judge_spread-2 c =
    let kept = c.args.kept.now in
    let job = kept.job in
    let counting = reduced job.n job.values.now job.weights.now in
    let values = values_are ((goal.at.invariant_of-judge_spread-2 c).After-gather) in
    record {
      valued =
          rw (
            work.values_are job.n counting kept.zones.now kept.kept job.values.now _ values,
            work.zones_count job.n counting kept.zones.now kept.kept,
          ) (lent_job job.n job.values.now job.weights.now job.good).valued;
    }

pub returns : goal.returns
returns c =
    let kept = c.args.kept.now in
    by_spread kept.job.values.now kept.zones.now _ (values_are ((goal.at.returns c).After-gather)) (ne_eqb _ _ c.if-many-eq0.false) _ c.judge_spread-2.ensures
