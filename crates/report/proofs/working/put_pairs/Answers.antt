-- `put_pairs` meets its contract: nothing without categories, else the lines of the join table. Assumes nothing.
use mathlib.Core.Path.{◌≡◌, sym, ◌∙◌}
use borrow.Author.Rules.{rules}
use lib.ListN.{length}
use Rattle.joins.proofs.Theorems.{table_left}
use Rattle.report.proofs.Listed.{given, joined_lines}
use Rattle.report.proofs.Puts.{put_as}
use Rattle.refusals.proofs.Unrefused.{unrefused}
use Rattle.report.proofs.working.put_pairs.Goals as goal

pub unwrap-requires : goal.unwrap-requires
unwrap-requires c = unrefused _ (c.join_table.ensures.number ∙ c.requires.joinable (search rules))

pub returns : goal.returns
returns c =
    let some : length c.args.categories.now ≡ 0 → ⊥ = search rules in
    put_as c.put_table.ensures
    (joined_lines _ _ _ _ (table_left _ _ _ _ _ _ c.join_table.ensures.lent (c.requires.joinable some))
    ∙ sym (given c.args.categories.now _ some))
