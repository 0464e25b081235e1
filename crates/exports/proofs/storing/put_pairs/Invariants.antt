use Rattle.std.proofs.Common.{get_or}
use Rattle.coefficients.specs.FloatReport.{no_pair}
use Rattle.exports.specs.Floats.{bits_put, side_put}
use Rattle.exports.proofs.PairList.{PutSoFar}
use Rattle.exports.proofs.storing.put_pairs.Given as goal

abbrev pub invariant-loop-k : goal.invariant-loop-k
invariant-loop-k l =
    PutSoFar bits_put 9 (λ i. get_or l.pairs i no_pair) l.initial.figures l.figures l.k
    × PutSoFar side_put 9 (λ i. get_or l.pairs i no_pair) l.initial.sides l.sides l.k
