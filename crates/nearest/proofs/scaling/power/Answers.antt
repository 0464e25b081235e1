-- `power` meets its contract: the field is 1,023, one more for each doubling and one less for each halving. Assumes nothing.
use mathlib.Core.Bool.{not}
use Prim.Native.Nat.{ℕ, ◌*◌, ◌%◌, ◌^◌, ◌≤◌}
use native.Mathlib.Omega.{arith}
use borrow.Author.Tests.{le-ltb}
use lib.Dec.{T}
use lib.Ieee.{binary64, nan_bits}
use lib.Ieee.Bits.{nan_bits_above}
use Rattle.nearest.proofs.Powers.{power_bits}
use Rattle.nearest.proofs.scaling.power.Goals as goal

no_nan : (b : ℕ) → b ≤ 2047 * 2 ^ 52 → T (not (nan_bits binary64 b))
no_nan b h = rw (nan_bits_above binary64 b, le-ltb (2047 * 2 ^ 52) (b % 2 ^ 63) (omega arith)) tt

pub float_from_bits-result : goal.float_from_bits-result
float_from_bits-result c = no_nan _ (omega arith)

pub returns : goal.returns
returns c = power_bits c.args.doublings c.args.halvings _ (omega arith) (omega arith) (omega arith)
