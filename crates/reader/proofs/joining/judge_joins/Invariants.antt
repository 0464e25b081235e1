use mathlib.Core.Path.{◌≡◌}
use Rattle.whole.specs.Rules.{first_broken, in_turn}
use Rattle.image.specs.Joins.{join_rules}
use Rattle.reader.specs.Steps.{join_at}
use Rattle.reader.proofs.JoinOrder.{next_place}
use Rattle.reader.proofs.joining.judge_joins.Given as goal

-- no join passed breaks a rule, and `next` is the place after the last of them
abbrev pub invariant-loop-from : goal.invariant-loop-from
invariant-loop-from l =
    (first_broken (in_turn (join_rules l.zones.n (join_at l.joins)) l.from-index) ≡ 0) × (l.next ≡ next_place l.zones.n (join_at l.joins) l.from-index)
