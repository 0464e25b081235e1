-- Parts of lists: a table of n rows of n in one list, and a local array whose first m elements were lent. Assumes nothing.
use mathlib.Core.Path.{◌≡◌, sym, ap, ◌∙◌}
use mathlib.Core.List.{List, ◌++◌}
use Prim.Native.Nat.{ℕ, ◌+◌, ◌*◌, ◌≤◌, ◌<◌}
use native.Mathlib.Nat as N
use native.Mathlib.Omega.{arith}
use lib.ListN.{length, take, length-append}
use lib.Seq.{take_at}

-- the place of (i, j) is within the list
pub within : (n i j : ℕ) → i < n → j < n → i * n + j < n * n
within n i j h k = omega (arith, N.mul-le-mul_right n h)

-- up to 64 zones have up to 4,096 pairs
pub few : (n : ℕ) → n ≤ 64 → n * n ≤ 4096
few n h = N.mul-le-mul {n₂ = 64} {m₂ = 64} h h

-- the part that was lent, after the loan has come back holding t
module _ {A : Type 0} (part rest t : List A) (m : ℕ) (q : part ≡ t) (e : length t ≡ m) where
  pub front : take m (part ++ rest) ≡ t
  front = take_at part rest m (ap length q ∙ e) ∙ q

  pub front_le : m ≤ length (part ++ rest)
  front_le = omega (arith, length-append part rest, ap length q)

  pub front_length : m ≡ length (take m (part ++ rest))
  front_length = sym (ap length front ∙ e)
