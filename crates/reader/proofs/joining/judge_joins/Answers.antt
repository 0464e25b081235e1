-- `judge_joins` meets its contract: each join is judged by its place after those that passed. Assumes nothing.
use mathlib.Core.Path.{◌≡◌, refl, sym}
use Prim.Native.Nat.{ℕ}
use Rattle.std.proofs.lemmas.Result.{err_from_is_err_and}
use Rattle.refusals.proofs.Refusals.{not_refused}
use Rattle.whole.specs.Rules.{first_broken}
use Rattle.whole.proofs.InTurn.{turn_none, turn_next, turn_found}
use Rattle.image.specs.Joins.{Join, join_rules}
use Rattle.image.proofs.Weights.{join_numbered}
use Rattle.reader.specs.Steps.{join_at, rules_by_place}
use Rattle.reader.proofs.JoinOrder.{none_passed, one_passed, judged}
use Rattle.reader.proofs.joining.judge_joins.Goals as goal
use Rattle.reader.proofs.joining.judge_joins.Goals.{After-judge_join}

-- the join at hand is judged by its rules
module _ (c : After-judge_join) where
  abbrev n : ℕ
  n = c.args.zones.n

  abbrev join : ℕ → Join
  join = join_at c.args.joins.now

  abbrev i : ℕ
  i = c.loop-from.from-index

  by_place :
      (r : ℕ) → r ≡ first_broken (rules_by_place n c.loop-from.next c.from-from.result c.from-to.result (join i).weight) →
      r ≡ first_broken (join_rules n join i)
  by_place r = judged n join i _ _ _ _ r c.loop-from.invariant.0 c.loop-from.invariant.1 c.from-from.ensures c.from-to.ensures refl

pub loop-from-init : goal.loop-from-init
loop-from-init c =
    let join = join_at c.args.joins.now in (turn_none (join_rules c.args.zones.n join) (join_numbered c.args.zones.n join), none_passed c.args.zones.n join)

pub returns-in_err-judge_join : goal.returns-in_err-judge_join
returns-in_err-judge_join c =
    let p = err_from_is_err_and c.from_residual.result c.from_residual.ensures.1 in
    let l = (goal.at.returns-in_err-judge_join c).After-judge_join in
    let e = c.in_err-judge_join.ensures in
    rw (p.1, p.2)
    (turn_found (join_rules (n l) (join l)) (join_numbered (n l) (join l)) _ (i l) _ c.loop-from-test.true c.loop-from.invariant.0
    (by_place l _ e) (not_refused c.in_err-judge_join.field-0.0))

pub loop-from-preserved : goal.loop-from-preserved
loop-from-preserved c =
    let l = (goal.at.loop-from-preserved c).After-judge_join in (
      turn_next (join_rules (n l) (join l)) (join_numbered (n l) (join l)) (i l) c.loop-from.invariant.0
          (sym (by_place l 0 c.in_ok-judge_join.ensures)),
      one_passed (n l) (join l) (i l) _ (rw (c.from-from.ensures, c.from-to.ensures) refl),
    )
