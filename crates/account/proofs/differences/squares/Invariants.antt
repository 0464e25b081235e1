use mathlib.Core.Path.{◌≡◌}
use lib.IntN.{◌-ℤ◌}
use Rattle.whole.specs.Integer.{square}
use Rattle.whole.specs.Sum.{sum}
use Rattle.whole.specs.Table.{at, pair_at}
use Rattle.account.specs.Measures.{row_of}
use Rattle.account.proofs.differences.squares.Given as goal

abbrev pub invariant-loop-i : goal.invariant-loop-i
invariant-loop-i l =
    l.acc ≡ sum (λ i'. row_of (pair_at l.fn.job.weights.now l.fn.job.n) (λ i' j. square (at l.fn.job.values.now i' -ℤ at l.fn.job.values.now j)) i' l.fn.job.n) l.i
