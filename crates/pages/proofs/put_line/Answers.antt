-- `put_line` meets its contract: the line feed stands behind the start. Assumes nothing.
use mathlib.Core.List.{[], ◌∷◌, append_assoc}
use Rattle.pages.specs.Lines.{numbers}
use Rattle.pages.proofs.Puts.{puts_as, puts_then}
use Rattle.pages.proofs.put_line.Goals as goal

pub returns-clause-text : goal.returns-clause-text
returns-clause-text c =
    puts_as (puts_then c.put_start-place.ensures.text c.put_byte.ensures) (append_assoc c.args.word.now (numbers c.args.list.now) (10 ∷ []))
