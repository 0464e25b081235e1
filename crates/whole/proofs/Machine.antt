-- Signed machine numbers. A signed local holds bits, and an operation reads `to_z w` of them. Each law takes a bound on the size,
-- `nat_abs z ≤ b` with b a literal, and `tt` for the test that b is below half the width's power, which computes. Assumes nothing.
use mathlib.Core.Path.{◌≡◌, refl, sym, ap, ◌∙◌, subst}
use Prim.Native.Nat.{ℕ, ◌+◌, ◌*◌, ◌≤◌, ◌^◌, zero-le}
use native.Mathlib.Nat as N
use borrow.Author.Tests.{eq-eqb, ne_eqb}
use lib.Dec.{T, ltb, ltb→lt}
use lib.IntN.{ℤ, pos, nat_abs, ◌+ℤ◌, ◌-ℤ◌, ◌*ℤ◌}
use mathlib.Core.Bool.{true, false}
use mir.Syntax.{Width, w32, w64}
use mir.Val.{SFits, hbits, to_z, of_z}
use mir.ValLaws.{to_z-of_z}
use Rattle.whole.specs.Integer.{is_zero, equal}
use Rattle.whole.proofs.Compare.{equal_same, unequal}
use Rattle.whole.proofs.Size.{fits_size, size_+_le, size___le, size_*_le, zero_of_size}

-- ---- a number of size at most b
pub fits_le : (w : Width) (z : ℤ) (b : ℕ) → nat_abs z ≤ b → T (ltb b (2 ^ hbits w)) → SFits w z
fits_le w z b h t = fits_size w z (N.lt_of_le_of_lt h (ltb→lt b (2 ^ hbits w) t))

-- what is read back from its bits is the number
pub back : (w : Width) (z : ℤ) (b : ℕ) → nat_abs z ≤ b → T (ltb b (2 ^ hbits w)) → to_z w (of_z w z) ≡ z
back w z b h t = to_z-of_z w z (fits_le w z b h t)

-- ---- what a signed expression of the code comes to. `Is y z b`: y, as the machine has it, is the number z, whose size is at most b.
-- y has a `to_z w (of_z w ..)` for each local on the way. One law for each operator, so that the proof of an expression is built as the
-- expression is, and b is computed; `fit` closes the need of each operator, and `.same` is the equation.
pub record Is (y z : ℤ) (b : ℕ) : Type 0 where
  pub same : y ≡ z
  pub size : nat_abs z ≤ b

-- a number itself
pub val : (z : ℤ) (b : ℕ) → nat_abs z ≤ b → Is z z b
val z b h = record { same = refl; size = h }

-- what a call answered, which is z by its contract
pub told : {y : ℤ} (z : ℤ) (b : ℕ) → y ≡ z → nat_abs z ≤ b → Is y z b
told z b e h = record { same = e; size = h }

-- a local that holds y
pub rd : (w : Width) {y z : ℤ} {b : ℕ} → Is y z b → T (ltb b (2 ^ hbits w)) → Is (to_z w (of_z w y)) z b
rd w {y} {z} {b} i t = record { same = ap (λ (x : ℤ). to_z w (of_z w x)) i.same ∙ back w z b i.size t; size = i.size }

-- a local whose bits an invariant gives
pub held : (w : Width) (n : ℕ) (z : ℤ) (b : ℕ) → n ≡ of_z w z → nat_abs z ≤ b → T (ltb b (2 ^ hbits w)) → Is (to_z w n) z b
held w n z b e h t = record { same = ap (to_z w) e ∙ back w z b h t; size = h }

-- an unsigned number that was cast
pub nat : (w : Width) (n b : ℕ) → n ≤ b → T (ltb b (2 ^ hbits w)) → Is (to_z w n) (pos n) b
nat w n b h t = held w n (pos n) b refl h t

pub is_+ : {y z y' z' : ℤ} {b b' : ℕ} → Is y z b → Is y' z' b' → Is (y +ℤ y') (z +ℤ z') (b + b')
is_+ {z} {z'} {b} {b'} i j = record { same = cc (i.same, j.same); size = size_+_le z z' b b' i.size j.size }

pub is__ : {y z y' z' : ℤ} {b b' : ℕ} → Is y z b → Is y' z' b' → Is (y -ℤ y') (z -ℤ z') (b + b')
is__ {z} {z'} {b} {b'} i j = record { same = cc (i.same, j.same); size = size___le z z' b b' i.size j.size }

pub is_* : {y z y' z' : ℤ} {b b' : ℕ} → Is y z b → Is y' z' b' → Is (y *ℤ y') (z *ℤ z') (b * b')
is_* {z} {z'} {b} {b'} i j = record { same = cc (i.same, j.same); size = size_*_le z z' b b' i.size j.size }

-- another name, and another bound, for the number
pub to : {y z z' : ℤ} {b : ℕ} (b' : ℕ) → Is y z b → z ≡ z' → nat_abs z' ≤ b' → Is y z' b'
to b' i e h = record { same = i.same ∙ e; size = h }

pub fit : (w : Width) {y z : ℤ} {b : ℕ} → Is y z b → T (ltb b (2 ^ hbits w)) → SFits w y
fit w {y} {z} {b} i t = subst (SFits w) (sym i.same) (fits_le w z b i.size t)

-- what is read back of a local that holds z, at the two widths in use
abbrev pub r32 : ℤ → ℤ
r32 z = to_z w32 (of_z w32 z)

abbrev pub r64 : ℤ → ℤ
r64 z = to_z w64 (of_z w64 z)

-- ---- y, which is z, compared with 0: the test is one of its bits
pub zero_yes : (w : Width) {y z : ℤ} {b : ℕ} → Is y z b → T (ltb b (2 ^ hbits w)) → of_z w y ≡ of_z w (pos 0) → is_zero z ≡ true
zero_yes w {y} {z} {b} i t e =
    eq-eqb (nat_abs z) 0
    (ap nat_abs (sym (back w z b i.size t) ∙ ap (λ (x : ℤ). to_z w (of_z w x)) (sym i.same) ∙ ap (to_z w) e ∙ back w (pos 0) b zero-le t))

pub zero_no : (w : Width) {y z : ℤ} → y ≡ z → (of_z w y ≡ of_z w (pos 0) → ⊥) → is_zero z ≡ false
zero_no w {y} {z} i f = ne_eqb (nat_abs z) 0 (λ e. f (ap (of_z w) (i ∙ zero_of_size z e)))

-- ---- two numbers compared: the test is one of their bits
pub same_yes : (w : Width) (a b : ℤ) → SFits w a → SFits w b → of_z w a ≡ of_z w b → equal a b ≡ true
same_yes w a b p q e =
    subst (λ (x : ℤ). equal a x ≡ true) (sym (to_z-of_z w a p) ∙ ap (to_z w) e ∙ to_z-of_z w b q) (equal_same a)

pub same_no : (w : Width) (a b : ℤ) → (of_z w a ≡ of_z w b → ⊥) → equal a b ≡ false
same_no w a b f = unequal a b (λ e. f (ap (of_z w) e))
