-- What `rounds_up` is for: the number that it chooses is the one that the kit's floats take, it lies within half of the quotient, and it
-- is even where it lies just half away. Assumes nothing.
use mathlib.Core.Path.{◌≡◌, sym}
use mathlib.Core.Logic.{⊎_elim}
use mathlib.Core.Bool.{true, false, cond}
use Prim.Native.Nat.{ℕ, ◌+◌, ◌-◌, ◌*◌, ◌%◌, ◌≤◌, ◌<◌, compare, Ordering}
use native.Mathlib.Nat.{le_of_lt, le_of_eq}
use native.Mathlib.Numerals.{add-one}
use native.Mathlib.Omega.{arith}
use borrow.Author.Tests.{lt-ltb, le-ltb, eq-eqb, ne_eqb}
use lib.Dec.{eqb}
use lib.Ieee.{nearest}
use Rattle.halves.specs.Halves.{rounds_up}
use Rattle.halves.proofs.Compare.{Cmp, cmp, either}

-- ---- a rest below half of the divisor, above it, and just half
module _ (whole rest divisor : ℕ) where
  pub below_half : rest * 2 < divisor → rounds_up whole rest divisor ≡ false
  unfolding rounds_up
  below_half h = rw (le-ltb divisor (rest * 2) (le_of_lt h), ne_eqb (rest * 2) divisor (λ e. omega arith))

  pub above_half : divisor < rest * 2 → rounds_up whole rest divisor ≡ true
  unfolding rounds_up
  above_half h = rw (lt-ltb divisor (rest * 2) h)

  pub at_half : rest * 2 ≡ divisor → rounds_up whole rest divisor ≡ eqb (whole % 2) 1
  unfolding rounds_up
  at_half e = rw (le-ltb divisor (rest * 2) (le_of_eq e), eq-eqb (rest * 2) divisor e)

-- ---- at half the kit adds w % 2: nothing to an even number, 1 to an odd one
even : (w : ℕ) → w % 2 ≤ 0 → w + w % 2 ≡ w
even w h = omega arith

odd : (w : ℕ) → 0 < w % 2 → w + w % 2 ≡ w + 1
odd w h = omega arith

-- ---- the number that is chosen is the kit's
pub rounded : (whole rest divisor : ℕ) → nearest whole (compare (rest * 2) divisor) ≡ cond (rounds_up whole rest divisor) (whole + 1) whole
rounded whole rest divisor = go (compare (rest * 2) divisor) (cmp (rest * 2) divisor)
  where
    tie : (w : ℕ) → w + w % 2 ≡ cond (eqb (w % 2) 1) (w + 1) w
    tie w =
        ⊎_elim
        (λ h. rw (ne_eqb (w % 2) 1 (λ e. omega arith)) (even w h))
        (λ h. rw (eq-eqb (w % 2) 1 (omega arith)) (odd w h))
        (either (w % 2) 0)

    go : (o : Ordering) → Cmp o (rest * 2) divisor → nearest whole o ≡ cond (rounds_up whole rest divisor) (whole + 1) whole
    go Ordering.lt h = rw (below_half whole rest divisor h)
    go Ordering.eq h = rw (at_half whole rest divisor h) (tie whole)
    go Ordering.gt h = rw (above_half whole rest divisor h) (sym (add-one whole))

-- ---- it lies within half of the quotient
-- the distance of a and b
abbrev pub apart : ℕ → ℕ → ℕ
apart a b = (a - b) + (b - a)

-- m lies within half of n / divisor, and is even where it lies just half away
abbrev pub Within : ℕ → ℕ → ℕ → Type 0
Within m n divisor = (2 * apart (m * divisor) n ≤ divisor) × (2 * apart (m * divisor) n ≡ divisor → m % 2 ≡ 0)

pub within_half :
    (whole rest divisor : ℕ) → rest < divisor →
    Within (cond (rounds_up whole rest divisor) (whole + 1) whole) (whole * divisor + rest) divisor
within_half whole rest divisor h = rw (← rounded whole rest divisor) (go (compare (rest * 2) divisor) (cmp (rest * 2) divisor))
  where
    go : (o : Ordering) → Cmp o (rest * 2) divisor → Within (nearest whole o) (whole * divisor + rest) divisor
    go Ordering.lt k = omega arith
    go Ordering.eq k = ⊎_elim (λ z. rw (even whole z) (omega arith)) (λ z. rw (odd whole z) (omega arith)) (either (whole % 2) 0)
    go Ordering.gt k = omega arith
