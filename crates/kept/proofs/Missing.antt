-- What the code reads of a value. Assumes nothing.
use Prim.Native.Nat.{◌≤◌, ◌<◌, ◌^◌}
use native.Mathlib.Omega.{arith}
use lib.IntN.{ℤ, pos, negsuc, nat_abs}
use lib.Signed.{mag}
use mir.Syntax.{w32}
use mir.Val.{SFits}
use mir.ValLaws.{to_z-of_z}
use Rattle.whole.proofs.Machine.{Is, r32}

-- a value as it is read
pub value_is : (z : ℤ) → SFits w32 z → Is (r32 z) z 2147483648
value_is z h = record { same = to_z-of_z w32 z h; size = small z h.sfits }
  where
    small : (z : ℤ) → mag z < 2 ^ 31 → nat_abs z ≤ 2147483648
    small (pos n) h = omega arith
    small (negsuc n) h = omega arith
