-- On which side of a ratio its float lies: by value, so that of two numbers below 0 the nearer to 0 is above. Assumes nothing.
use Rattle.std.specs.Prelude.{cond, ℕ, ◌^◌, ℤ, pos, ◌*ℤ◌}
use Rattle.std.specs.Int.Signed.{lt_z}
use Rattle.whole.specs.Integer.{equal}
use Rattle.nearest.specs.Bits.{value_of}
use Rattle.nearest.specs.declared.Side.{Side}
use Rattle.nearest.specs.declared.Side.TheVariants.{Equal, Below, Above}

-- where y lies beside z
unfoldable pub side_by : ℤ → ℤ → Side
side_by y z = cond (equal y z) Equal (cond (lt_z y z) Below Above)

-- where the float of the bits b lies beside p / q, both multiplied out by q, which is above 0, and by 2^1074
unfoldable pub side_of : ℤ → ℤ → ℕ → Side
side_of p q b = side_by (value_of b *ℤ q) (p *ℤ pos (2 ^ 1074))

-- the number that a side has in a list
abbrev pub side_number : Side → ℕ
side_number Equal = 0
side_number Below = 1
side_number Above = 2

-- where the negative of a float lies beside the negative of its ratio
abbrev pub other_side : Side → Side
other_side Equal = Equal
other_side Below = Above
other_side Above = Below
