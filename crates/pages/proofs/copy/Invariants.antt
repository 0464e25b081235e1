-- `copy` copies the bytes from the front on.
use mathlib.Core.Path.{◌≡◌}
use lib.ListN.{take}
use Rattle.pages.proofs.copy.Given as goal

abbrev pub invariant-loop-k : goal.invariant-loop-k
invariant-loop-k l = take l.k l.places ≡ take l.k l.bytes
