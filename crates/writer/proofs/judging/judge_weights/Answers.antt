-- `judge_weights` meets its contract: the weights break no rule where neither search finds one. Assumes nothing.
use mathlib.Core.Path.{sym, ◌∙◌}
use Rattle.image.proofs.BytesBack.{weights_sound}
use Rattle.writer.proofs.judging.judge_weights.Goals as goal

pub returns : goal.returns
returns c =
    let light = sym c.any_above.ensures ∙ c.if-any_above.false in
    let clear = sym c.any_on_diagonal.ensures ∙ c.if-any_on_diagonal.false in
    let t = c.args.table.now in
    sym (weights_sound t.n t.weights.now t.tabled.there light clear)
