use Rattle.std.proofs.Common.{◌≡◌, ◌<◌, length, get_or, ℕ}
use Rattle.coefficients.specs.FloatReport.{no_pair}
use Rattle.exports.specs.Steps.{tells}
use Rattle.exports.proofs.storing.put_having.Given as goal

abbrev pub invariant-loop-k : goal.invariant-loop-k
invariant-loop-k l =
    (length l.has ≡ 9) × ((i : ℕ) → i < l.k → get_or l.has i 0 ≡ tells (get_or l.pairs i no_pair).moran)
