-- `class_pairs` meets its contract: class 0 everywhere, then the classes of the bands where there are bands. Assumes nothing.
use mathlib.Core.Path.{◌∙◌}
use borrow.Author.Rules.{rules}
use Rattle.report.proofs.Classing.{unbanded, bands_taken, banded}
use Rattle.refusals.proofs.Unrefused.{unrefused}
use Rattle.report.proofs.working.class_pairs.Goals as goal

pub unwrap-requires : goal.unwrap-requires
unwrap-requires c =
    let zeros = c.fill.ensures.after (λ byte e. e) in
    unrefused _ (c.bands.ensures.number ∙ bands_taken _ _ _ c.args.classes.now _ c.requires zeros (search rules))

pub returns-then-not-is_empty : goal.returns-then-not-is_empty
returns-then-not-is_empty c =
    let zeros = c.fill.ensures.after (λ byte e. e) in
    banded _ _ _ c.args.classes.now _ c.requires zeros (search rules) _ c.bands.ensures.lent

pub returns-else-not-is_empty : goal.returns-else-not-is_empty
returns-else-not-is_empty c =
    let zeros = c.fill.ensures.after (λ byte e. e) in
    unbanded _ _ _ c.args.classes.now _ c.requires zeros (search rules)
