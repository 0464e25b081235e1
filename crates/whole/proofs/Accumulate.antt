-- A loop that adds f i to a signed local at each turn: the local is `sum f i`, and its bits are those of it. Assumes nothing.
use mathlib.Core.Path.{◌≡◌, sym, ap, ◌∙◌}
use Prim.Native.Nat.{ℕ, ◌+◌, ◌≤◌, ◌^◌}
use native.Mathlib.Omega.{arith}
use lib.Dec.{T, ltb}
use lib.IntN.{ℤ, pos, nat_abs, ◌+ℤ◌}
use mir.Syntax.{Width}
use mir.Val.{hbits, to_z, of_z}
use Rattle.whole.specs.Sum.{sum}
use Rattle.whole.proofs.Sum.{sum_zero, sum_more}
use Rattle.whole.proofs.Machine.{Is, held, told, is_+, to}

-- every sum on the way to n terms is at most b in size, and b fits
pub record Bounded (w : Width) (f : ℕ → ℤ) (n b : ℕ) : Type 0 where
  pub bound : (m : ℕ) → m ≤ n → nat_abs (sum f m) ≤ b
  pub small : T (ltb b (2 ^ hbits w))

-- ---- the local as a number, as an invariant has it
-- before the first turn
pub running_none : (f : ℕ → ℤ) → pos 0 ≡ sum f 0
running_none f = sym (sum_zero f)

module _ {w : Width} {f : ℕ → ℤ} {n b : ℕ} (s : Bounded w f n b) where
  -- a turn: what stands, and y, which is f i
  pub running_more : (i : ℕ) (acc : ℤ) {y : ℤ} {b' : ℕ} → i + 1 ≤ n → acc ≡ sum f i → Is y (f i) b' → Is (acc +ℤ y) (sum f (i + 1)) b
  running_more i acc h e j =
      let stands = told (sum f i) b e (s.bound i (omega arith)) in
      to b (is_+ stands j) (sym (sum_more f i)) (s.bound (i + 1) h)

-- after the last turn
pub running_done : (f : ℕ → ℤ) (n i : ℕ) (acc : ℤ) → i ≡ n → acc ≡ sum f i → acc ≡ sum f n
running_done f n i acc l e = e ∙ ap (sum f) l

-- ---- the local as its bits
pub acc_none : (w : Width) (f : ℕ → ℤ) → 0 ≡ of_z w (sum f 0)
acc_none w f = ap (of_z w) (running_none f)

module _ {w : Width} {f : ℕ → ℤ} {n b : ℕ} (s : Bounded w f n b) where
  -- the number that the bits are
  read_back : (i acc : ℕ) → i ≤ n → acc ≡ of_z w (sum f i) → to_z w acc ≡ sum f i
  read_back i acc l e = (held w acc (sum f i) b e (s.bound i l) s.small).same

  pub acc_more : (i acc : ℕ) {y : ℤ} {b' : ℕ} → i + 1 ≤ n → acc ≡ of_z w (sum f i) → Is y (f i) b' → Is (to_z w acc +ℤ y) (sum f (i + 1)) b
  acc_more i acc h e j = running_more s i (to_z w acc) h (read_back i acc (omega arith) e) j

  pub acc_done : (i acc : ℕ) → i ≡ n → acc ≡ of_z w (sum f i) → to_z w acc ≡ sum f n
  acc_done i acc l e = running_done f n i (to_z w acc) l (read_back i acc (omega arith) e)
