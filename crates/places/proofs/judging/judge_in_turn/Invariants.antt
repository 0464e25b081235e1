use mathlib.Core.Path.{◌≡◌}
use Rattle.whole.specs.Rules.{first_broken, in_turn}
use Rattle.places.specs.Places.{place_rules_of}
use Rattle.places.proofs.judging.judge_in_turn.Given as goal

abbrev pub invariant-loop-a : goal.invariant-loop-a
invariant-loop-a l = first_broken (in_turn (place_rules_of l.places) l.a) ≡ 0
