-- What it is for the float of the bits b to be the nearest to p / q: document 01's part 2 sentence by sentence, over whole numbers. All
-- sizes and distances are multiplied out by 2^1074, and those that are compared with p / q by q too. Assumes nothing.
use Rattle.std.specs.Prelude.{◌≡◌, ℕ, ◌+◌, ◌-◌, ◌*◌, ◌%◌, ◌^◌, ◌≤◌, ◌<◌, ℤ, pos, nat_abs, ◌*ℤ◌, ◌-ℤ◌}
use Rattle.whole.specs.Integer.{below_zero}
use Rattle.nearest.specs.Bits.{Finite, size_of, signed, value_of}

-- its distance from p / q
abbrev pub distance : ℤ → ℤ → ℕ → ℕ
distance p q b = nat_abs (value_of b *ℤ q -ℤ p *ℤ pos (2 ^ 1074))

-- The gap from the float of the bits b to the next one away from 0: of two floats with one sign, the larger in size has the larger bits.
abbrev pub gap : ℕ → ℕ
gap b = size_of (b + 1) - size_of b

-- a distance is at most half of a gap, and at a tie, where it is just half, m is even
abbrev pub Half : ℕ → ℕ → ℕ → Type 0
Half far wide m = (2 * far ≤ wide) × (2 * far ≡ wide → m % 2 ≡ 0)

-- the float for a p that is not 0
pub record Formed (p q : ℤ) (b : ℕ) : Type 0 where
  -- it is m × 2^e with m from 2^52 to 2^53 - 1, and has the sign of p; e is k - 1074
  pub m : ℕ
  pub k : ℕ
  pub value : value_of b ≡ signed (below_zero p) (m * 2 ^ k)
  pub least : 2 ^ 52 ≤ m
  pub most : m < 2 ^ 53
  -- where p / q is as large in size or larger, the neighbour on its side is the next float away from 0
  pub outward : size_of b * nat_abs q ≤ nat_abs p * 2 ^ 1074 → Half (distance p q b) (gap b * nat_abs q) m
  -- where p / q is as small in size or smaller, it is the next one towards 0
  pub inward : nat_abs p * 2 ^ 1074 ≤ size_of b * nat_abs q → Half (distance p q b) (gap (b - 1) * nat_abs q) m

pub record IsNearest (p q : ℤ) (b : ℕ) : Type 0 where
  pub finite : Finite b
  -- p = 0 gives +0
  pub zero : p ≡ pos 0 → b ≡ 0
  pub formed : (p ≡ pos 0 → ⊥) → Formed p q b
  -- every other finite float lies at least as far
  pub best : (other : ℕ) → Finite other → distance p q b ≤ distance p q other
