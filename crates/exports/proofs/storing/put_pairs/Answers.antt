-- `put_pairs` meets its contract: the nine pairs are put, by their bits and by their sides. Assumes nothing.
use Rattle.std.proofs.Common.{◌≡◌, arith, get_or, rules}
use Rattle.std.proofs.lemmas.List.{get_or_default}
use mathlib.Core.Path.{subst}
use Rattle.coefficients.specs.FloatReport.{no_pair}
use Rattle.exports.specs.Floats.{bits_put, side_put}
use Rattle.exports.proofs.PairList.{PutSoFar, next_put, all_put}
use Rattle.exports.proofs.storing.put_pairs.Goals as goal

pub returns : goal.returns
returns c =
    let l = c.loop-k in
    let end : l.k ≡ 9 = omega (arith, l.invariant.0.passed) in
    record {
      figures = all_put bits_put 9 _ _ l.figures (subst (PutSoFar bits_put 9 _ _ l.figures) end l.invariant.0);
      sides = all_put side_put 9 _ _ l.sides (subst (PutSoFar side_put 9 _ _ l.sides) end l.invariant.1);
    }

pub loop-k-preserved : goal.loop-k-preserved
loop-k-preserved c =
    let l = c.loop-k in
    let pairs = c.args.pairs.now in
    let item = get_or_default pairs l.k _ no_pair (search rules) in
    let told = c.put_pair.ensures in (
      next_put bits_put 9 (λ i. get_or pairs i no_pair) c.args.figures.now l.figures l.k l.invariant.0 c.loop-k-test.true item told.figures,
      next_put side_put 9 (λ i. get_or pairs i no_pair) c.args.sides.now l.sides l.k l.invariant.1 c.loop-k-test.true item told.sides,
    )
