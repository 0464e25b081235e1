-- `judge_rows` meets its contract: the rows that the code counts are the shuffles. Assumes nothing.
use Rattle.std.proofs.Common.{◌≡◌, rules, length, ◌/◌, min, ◌∙◌}
use Rattle.shuffles.specs.Shuffles.{row_refusal}
use Rattle.shuffles.proofs.ShuffleList.{rows_least}
use Rattle.shuffles.proofs.judge_rows.Goals as goal
use Rattle.shuffles.proofs.judge_rows.Goals.{After-judge_lent}

counted : (c : After-judge_lent) → c.min-rows.result ≡ min (length c.args.shuffles.now / c.args.n) 499
counted c =
    let whole : c.unwrap_or.result ≡ length c.args.shuffles.now / c.args.n = search rules in
    search rules

pub returns : goal.returns
unfolding row_refusal
returns c = rw (← (counted c ∙ rows_least c.args.n (length c.args.shuffles.now))) c.judge_lent.ensures
