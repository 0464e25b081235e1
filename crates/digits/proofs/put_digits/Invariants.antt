use mathlib.Core.Path.{◌≡◌}
use mathlib.Core.List.{◌++◌}
use Prim.Native.Nat.{◌-◌}
use lib.ListN.{length, take}
use Rattle.digits.specs.Digits.{low_digits}
use Rattle.digits.proofs.put_digits.Given as goal

abbrev pub invariant-loop-byte : goal.invariant-loop-byte
invariant-loop-byte g l =
    take l.byte-index l.text ++ low_digits g.row.BASE (length l.initial.text - l.byte-index) l.rest
    ≡ low_digits g.row.BASE (length l.initial.text) l.n
