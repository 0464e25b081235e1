use mathlib.Core.Path.{◌≡◌}
use mathlib.Core.Bool.{cond}
use Prim.Native.Nat.{ℕ, ◌≤◌, ◌<◌}
use lib.Dec.{ltb}
use lib.ListN.{get_or}
use Rattle.kept.proofs.marking.mark_row.Given as goal

-- marked anew are the zones passed
abbrev pub invariant-loop-j : goal.invariant-loop-j
invariant-loop-j l = record {
  passed : (k : ℕ) → k < l.j → get_or l.marks k 0 ≡ cond (ltb 0 (get_or l.row k 0)) 1 (get_or l.initial.marks k 0);
  left : (k : ℕ) → l.j ≤ k → get_or l.marks k 0 ≡ get_or l.initial.marks k 0;
}
