-- `put_start` meets its contract: the numbers stand behind the word. Assumes nothing.
use Rattle.pages.proofs.Puts.{puts_then}
use Rattle.pages.proofs.put_start.Goals as goal

pub returns-clause-text : goal.returns-clause-text
returns-clause-text c = puts_then c.put-place.ensures c.put_numbers.ensures.text
