use mathlib.Core.Path.{◌≡◌}
use mathlib.Core.Bool.{cond}
use Prim.Native.Nat.{ℕ, ◌<◌}
use lib.ListN.{get_or}
use Rattle.kept.specs.Kept.{keeps}
use Rattle.kept.proofs.keeping.put_marks.Given as goal

-- the zones passed have their marks
abbrev pub invariant-loop-i : goal.invariant-loop-i
invariant-loop-i l = (k : ℕ) → k < l.i → get_or l.marks k 0 ≡ cond (keeps l.weights.n l.weights.rows.now k) 1 0
