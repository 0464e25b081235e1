use mathlib.Core.Path.{◌≡◌}
use Prim.Native.Nat.{◌≤◌}
use lib.ListN.{length}
use Rattle.whole.specs.Rules.{first_broken, in_turn}
use Rattle.image.specs.Joins.{weight_rules}
use Rattle.writer.proofs.joining.judge_weights.Given as goal

abbrev pub invariant-loop-p : goal.invariant-loop-p
invariant-loop-p l = (l.p ≤ length l.weights) × (first_broken (in_turn (weight_rules l.n l.weights) l.p) ≡ 0)
