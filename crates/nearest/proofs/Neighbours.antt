-- Floats of one sign stand in the order of their bits, and how far it is from one to the next. Assumes nothing.
use mathlib.Core.Path.{◌≡◌, refl, sym, ap, ap₂, ◌∙◌, subst}
use mathlib.Core.Logic.{inl, inr, ⊎_elim}
use mathlib.Core.Bool.{Bool, true, false}
use Prim.Native.Nat.{ℕ, zero, suc, ◌+◌, ◌-◌, ◌*◌, ◌/◌, ◌%◌, ◌^◌, ◌≤◌, ◌<◌}
use native.Mathlib.Nat as N
use native.Mathlib.Omega.{arith}
use borrow.Author.Tests.{leb-true, leb-false, le-leb, lt-leb}
use lib.Dec.{lit<, lit≤}
use lib.Pow.{pow-add, pow_pos, pow_mono, shl_lt}
use Rattle.nearest.specs.Bits.{negative, field, digits, Finite, steps, size_of}
use Rattle.nearest.specs.Nearest.{gap}
use Rattle.halves.proofs.Compare.{either}

-- the steps that bits stand for, without a sign
abbrev pub magnitude : ℕ → ℕ
magnitude u = steps (u / 2 ^ 52) (u % 2 ^ 52)

-- the size is the magnitude of the bits below the sign
pub size_is : (b : ℕ) → size_of b ≡ magnitude (b % 2 ^ 63)
size_is b = ap (steps (field b)) (low b)
  where
    low : (b : ℕ) → b % 2 ^ 52 ≡ b % 2 ^ 63 % 2 ^ 52
    low b = omega arith

-- ---- one more
less_one : (y : ℕ) → 2 ^ (suc y - 1) ≡ 2 ^ y
less_one y = ap (λ (z : ℕ). 2 ^ z) (same y)
  where
    same : (y : ℕ) → suc y - 1 ≡ y
    same y = omega arith

within : (x t : ℕ) → steps x (suc t) ≡ steps x t + 2 ^ (x - 1)
within zero t = omega arith
within (suc y) t = omega (arith, less_one y)

over : (x : ℕ) → steps (suc x) 0 ≡ steps x (2 ^ 52 - 1) + 2 ^ (x - 1)
over zero = omega arith
over (suc y) = omega (arith, less_one y, N.pow-suc 2 y)

at : (u x t : ℕ) → u / 2 ^ 52 ≡ x → u % 2 ^ 52 ≡ t → magnitude u ≡ steps x t
at u x t e f = ap₂ steps e f

-- the next bits stand for one unit of their field more
pub magnitude_next : (u : ℕ) → magnitude (suc u) ≡ magnitude u + 2 ^ (u / 2 ^ 52 - 1)
magnitude_next u = ⊎_elim last inner (either (2 ^ 52) (suc (u % 2 ^ 52)))
  where
    inner : suc (u % 2 ^ 52) < 2 ^ 52 → magnitude (suc u) ≡ magnitude u + 2 ^ (u / 2 ^ 52 - 1)
    inner h = at (suc u) (u / 2 ^ 52) (suc (u % 2 ^ 52)) (omega arith) (omega arith) ∙ within (u / 2 ^ 52) (u % 2 ^ 52)

    last : 2 ^ 52 ≤ suc (u % 2 ^ 52) → magnitude (suc u) ≡ magnitude u + 2 ^ (u / 2 ^ 52 - 1)
    last h =
        let e : 2 ^ 52 - 1 ≡ u % 2 ^ 52 = omega arith in
        at (suc u) (suc (u / 2 ^ 52)) 0 (omega arith) (omega arith)
        ∙ over (u / 2 ^ 52)
        ∙ ap (λ (t : ℕ). steps (u / 2 ^ 52) t + 2 ^ (u / 2 ^ 52 - 1)) e

up : (u : ℕ) → magnitude u < magnitude (suc u)
up u = omega (arith, magnitude_next u, pow_pos (u / 2 ^ 52 - 1))

-- larger bits stand for more steps
pub magnitude_less : (u v : ℕ) → u < v → magnitude u < magnitude v
magnitude_less u zero h = absurd (N.not-suc-le-zero h)
magnitude_less u (suc v) h =
    elim (N.eq-or-lt_of_le (N.le_of_suc-le-suc h)) [
      | inl e ↦ subst (λ (z : ℕ). magnitude u < magnitude (suc z)) e (up u)
      | inr l ↦ N.lt_trans (magnitude_less u v l) (up v)
    ]

not_less : (u v : ℕ) → u ≤ v → magnitude u ≤ magnitude v
not_less u v h =
    elim (N.eq-or-lt_of_le h) [
      | inl e ↦ N.le_of_eq (ap magnitude e)
      | inr l ↦ N.le_of_lt (magnitude_less u v l)
    ]

bits_less : (u v : ℕ) → magnitude u < magnitude v → u < v
bits_less u v h = N.lt_of_not-le (λ (g : v ≤ u). N.not-le_of_lt h (not_less v u g))

bits_same : (u v : ℕ) → magnitude u ≡ magnitude v → u ≡ v
bits_same u v e = N.le_antisymm (least u v (N.le_of_eq e)) (least v u (N.le_of_eq (sym e)))
  where
    least : (u v : ℕ) → magnitude u ≤ magnitude v → u ≤ v
    least u v h = ⊎_elim (λ (g : u ≤ v). g) (λ (g : v < u). absurd (N.not-le_of_lt (magnitude_less v u g) h)) (either u v)

-- ---- the float after another
after : (b : ℕ) → Finite b → size_of (b + 1) ≡ magnitude (suc (b % 2 ^ 63))
after b F = size_is (b + 1) ∙ ap magnitude (carry b F.1)
  where
    carry : (b : ℕ) → field b < 2047 → (b + 1) % 2 ^ 63 ≡ suc (b % 2 ^ 63)
    carry b h = omega arith

-- the next float away from 0 is larger by a unit of the field
pub next_size : (b : ℕ) → Finite b → size_of (b + 1) ≡ size_of b + 2 ^ (field b - 1)
next_size b F = after b F ∙ magnitude_next (b % 2 ^ 63) ∙ ap (λ (z : ℕ). z + 2 ^ (field b - 1)) (sym (size_is b))

-- the gap to it is that unit
pub gap_is : (b : ℕ) → Finite b → gap b ≡ 2 ^ (field b - 1)
gap_is b F = ap (λ (z : ℕ). z - size_of b) (next_size b F) ∙ N.add-sub_cancel_left (size_of b) (2 ^ (field b - 1))

pub gap_above : (b : ℕ) → Finite b → 0 < gap b
gap_above b F = rw (gap_is b F) (pow_pos (field b - 1))

-- so that a gap added to a float's size is the size of the next
pub gap_adds : (b : ℕ) → Finite b → size_of (b + 1) ≡ size_of b + gap b
gap_adds b F = next_size b F ∙ ap (λ (z : ℕ). size_of b + z) (sym (gap_is b F))

order : (b c : ℕ) → size_of b < size_of c → b % 2 ^ 63 < c % 2 ^ 63
order b c h = bits_less (b % 2 ^ 63) (c % 2 ^ 63) (omega (arith, h, size_is b, size_is c))

-- a float larger in size than another is as large as the next or larger
pub neighbour_outward : (b v : ℕ) → Finite b → size_of b < size_of v → size_of (b + 1) ≤ size_of v
neighbour_outward b v F h = omega (arith, not_less (suc (b % 2 ^ 63)) (v % 2 ^ 63) (order b v h), after b F, size_is v)

-- a float smaller in size than another is as small as the one before or smaller
pub neighbour_inward : (b v : ℕ) → Finite b → size_of v < size_of b → size_of v ≤ size_of (b - 1)
neighbour_inward b v F h = omega (arith, not_less (v % 2 ^ 63) ((b - 1) % 2 ^ 63) (before b v (order v b h)), size_is v, size_is (b - 1))
  where
    before : (b v : ℕ) → v % 2 ^ 63 < b % 2 ^ 63 → v % 2 ^ 63 ≤ (b - 1) % 2 ^ 63
    before b v h = omega arith

-- floats of one sign and one size are the same
pub same_bits : (b c : ℕ) → b < 2 ^ 64 → c < 2 ^ 64 → negative b ≡ negative c → size_of b ≡ size_of c → b ≡ c
same_bits b c B C s e = go (negative b) refl (sym s)
  where
    low : b % 2 ^ 63 ≡ c % 2 ^ 63
    low = bits_same (b % 2 ^ 63) (c % 2 ^ 63) (sym (size_is b) ∙ e ∙ size_is c)

    go : (t : Bool) → negative b ≡ t → negative c ≡ t → b ≡ c
    go true f g = omega (arith, low, leb-true (2 ^ 63) b f, leb-true (2 ^ 63) c g)
    go false f g = omega (arith, low, leb-false (2 ^ 63) b f, leb-false (2 ^ 63) c g)

-- a float of one sign with b that has the size of the next one is the next one
pub next_bits : (b c : ℕ) → Finite b → c < 2 ^ 64 → negative c ≡ negative b → size_of c ≡ size_of (b + 1) → c ≡ b + 1
next_bits b c F C s e = same_bits c (b + 1) C (omega arith) (s ∙ go (negative b) refl) e
  where
    go : (t : Bool) → negative b ≡ t → t ≡ negative (b + 1)
    go true f = sym (le-leb (2 ^ 63) (b + 1) (omega (arith, leb-true (2 ^ 63) b f)))
    go false f = sym (lt-leb (2 ^ 63) (b + 1) (omega (arith, leb-false (2 ^ 63) b f)))

-- ---- a size is m × 2^k for an m of 53 binary digits in one way
above : (c y m k : ℕ) → c < 2 ^ 53 → 2 ^ 52 ≤ m → c * 2 ^ y ≡ m * 2 ^ k → k ≤ y
above c y m k C M e = ⊎_elim (λ (h : k ≤ y). h) (λ (h : y < k). absurd (no h)) (either k y)
  where
    no : y < k → ⊥
    no h =
        let l : 53 + y ≤ 52 + k = omega arith in
        omega (arith, e, shl_lt 53 y C, pow_mono l, pow-add 2 52 k, N.mul-le-mul_right (2 ^ k) M)

one_way : (c y m k : ℕ) → 2 ^ 52 ≤ c → c < 2 ^ 53 → 2 ^ 52 ≤ m → m < 2 ^ 53 → c * 2 ^ y ≡ m * 2 ^ k → (y ≡ k) × (c ≡ m)
one_way c y m k lo C least M e =
    let f : y ≡ k = N.le_antisymm (above m k c y M lo (sym e)) (above c y m k C least e) in
    (f, N.eq_of_mul-eq-mul_right (2 ^ k) (pow_pos k) c m (ap (λ (z : ℕ). c * 2 ^ z) (sym f) ∙ e))

shape : (x t m k : ℕ) → t < 2 ^ 52 → steps x t ≡ m * 2 ^ k → 2 ^ 52 ≤ m → m < 2 ^ 53 → (x ≡ suc k) × (2 ^ 52 + t ≡ m)
shape zero t m k h e l r = absurd (no (m * 2 ^ k) e (N.le-mul_of_pos_right m (pow_pos k)))
  where
    no : (n : ℕ) → t ≡ n → m ≤ n → ⊥
    no n f g = omega arith
shape (suc y) t m k h e l r =
    let w = one_way (2 ^ 52 + t) y m k (omega arith) (omega arith) l r e in
    (ap suc w.0, w.1)

-- the field and the digits of such a float
pub parts : (b m k : ℕ) → size_of b ≡ m * 2 ^ k → 2 ^ 52 ≤ m → m < 2 ^ 53 → (field b ≡ suc k) × (2 ^ 52 + digits b ≡ m)
parts b m k e l r = shape (field b) (digits b) m k (N.mod-lt b (pow_pos 52)) e l r

-- the gap away from 0 of a float of the size m × 2^k, for an m of 53 binary digits
pub gap_outward : (b m k : ℕ) → Finite b → size_of b ≡ m * 2 ^ k → 2 ^ 52 ≤ m → m < 2 ^ 53 → gap b ≡ 2 ^ k
gap_outward b m k F e l r = gap_is b F ∙ ap (λ (z : ℕ). 2 ^ (z - 1)) (parts b m k e l r).0 ∙ less_one k

finite_before : (b k : ℕ) → Finite b → field b ≡ suc k → Finite (b - 1)
finite_before b k F h = (omega arith, omega arith)

field_same : (b k : ℕ) → field b ≡ suc k → 0 < digits b → field (b - 1) ≡ suc k
field_same b k h g = omega arith

field_less : (b k : ℕ) → field b ≡ suc k → digits b ≡ 0 → field (b - 1) ≡ k
field_less b k h g = omega arith

-- its gap towards 0, and where m is the least, the gap of the field before
pub gap_inward : (b m k : ℕ) → Finite b → size_of b ≡ m * 2 ^ k → 2 ^ 52 < m → m < 2 ^ 53 → gap (b - 1) ≡ 2 ^ k
gap_inward b m k F e l r =
    let p = parts b m k e (N.le_of_lt l) r in
    let some : 0 < digits b = more (digits b) p.1 in
    gap_is (b - 1) (finite_before b k F p.0) ∙ ap (λ (z : ℕ). 2 ^ (z - 1)) (field_same b k p.0 some) ∙ less_one k
  where
    more : (d : ℕ) → 2 ^ 52 + d ≡ m → 0 < d
    more d f = omega arith

pub gap_some : (b m k : ℕ) → Finite b → size_of b ≡ m * 2 ^ k → 2 ^ 52 ≤ m → m < 2 ^ 53 → 0 < gap (b - 1)
gap_some b m k F e l r = gap_above (b - 1) (finite_before b k F (parts b m k e l r).0)

pub gap_least : (b k : ℕ) → Finite b → size_of b ≡ 2 ^ 52 * 2 ^ suc k → gap (b - 1) ≡ 2 ^ k
gap_least b k F e =
    let p = parts b (2 ^ 52) (suc k) e (lit≤ tt) (lit< tt) in
    let none : digits b ≡ 0 = same (digits b) p.1 in
    gap_is (b - 1) (finite_before b (suc k) F p.0)
    ∙ ap (λ (z : ℕ). 2 ^ (z - 1)) (field_less b (suc k) p.0 none)
    ∙ less_one k
  where
    same : (d : ℕ) → 2 ^ 52 + d ≡ 2 ^ 52 → d ≡ 0
    same d f = omega arith
