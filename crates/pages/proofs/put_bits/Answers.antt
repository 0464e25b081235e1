-- `put_bits` meets its contract: its local text is the 16 hexadecimal digits. Assumes nothing.
use mathlib.Core.Path.{ap}
use mathlib.Core.List.{◌∷◌}
use Rattle.pages.specs.Lines.{bits}
use Rattle.pages.proofs.Puts.{puts_as, puts_then}
use Rattle.pages.proofs.put_bits.Goals as goal

pub returns : goal.returns
unfolding bits
returns c =
    puts_as (puts_then c.put_byte-place.ensures c.put.ensures) (ap (λ l. 32 ∷ l) c.hexadecimal.ensures)
