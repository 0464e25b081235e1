-- `store` meets its contract: what is put from the first byte on is over the front of the room. Assumes nothing.
use mathlib.Core.Path.{refl, ◌∙◌}
use borrow.Author.Rules.{rules}
use Rattle.writer.proofs.Behind.{puts_over}
use Rattle.writer.proofs.lists.CountedJob.store.Goals as goal

pub returns : goal.returns
returns c = search rules ∙ puts_over c.put_sections.ensures refl c.requires
