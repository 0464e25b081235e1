-- `in_joins` meets its contract: its items are judged as they were cut off, three bytes each. Assumes nothing.
use Rattle.std.proofs.Common.{arith}
use Rattle.std.proofs.lemmas.Grind.{common_steps}
use Rattle.image.specs.Image.{in_joins}
use Rattle.reader.specs.Steps.{Joins}
use Rattle.reader.proofs.Triples.{joins_seen, joins_judged}
use Rattle.reader.proofs.sections.in_joins.Goals as goal
use Rattle.reader.proofs.sections.in_joins.Goals.{After-judge_joins}

seen : (c : After-judge_joins) → Joins c.args.left.now c.as_chunks.result.0.now
seen c =
    joins_seen c.args.left.now _ _ (grind (arith, common_steps)) (grind (arith, common_steps)) c.as_chunks.ensures.front
    c.as_chunks.ensures.front_len

pub returns-in_err-judge_joins-clause-number : goal.returns-in_err-judge_joins-clause-number
unfolding in_joins
returns-in_err-judge_joins-clause-number c =
    let e = joins_judged c.args.left.now _ (seen ((goal.at.returns-in_err-judge_joins-clause-number c).After-judge_joins)) c.args.zones.n in
    grind (arith, common_steps, e)

pub returns-clause-number : goal.returns-clause-number
unfolding in_joins
returns-clause-number c =
    let e = joins_judged c.args.left.now _ (seen ((goal.at.returns-clause-number c).After-judge_joins)) c.args.zones.n in
    grind (arith, common_steps, e)

pub returns-clause-taken : goal.returns-clause-taken
returns-clause-taken c =
    (seen ((goal.at.returns-clause-taken c).After-judge_joins), grind (arith, common_steps))
