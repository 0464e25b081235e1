use mathlib.Core.Path.{◌≡◌}
use lib.IntN.{pos, ◌-ℤ◌, ◌*ℤ◌}
use Rattle.whole.specs.Integer.{square}
use Rattle.whole.specs.Sum.{sum}
use Rattle.whole.specs.Table.{at, pair_at}
use Rattle.account.proofs.differences.row_squares.Given as goal

abbrev pub invariant-loop-j : goal.invariant-loop-j
invariant-loop-j l =
    l.acc ≡ sum (λ t. pos (pair_at l.fn.job.weights.now l.fn.job.n l.i t) *ℤ square (at l.values l.i -ℤ at l.values t)) l.j
