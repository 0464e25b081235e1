-- The properties of the nearest float fix its 64 bits. Of two that are equally near one would have to be the neighbour of the other, both
-- at a tie, and then of two neighbouring bits both would have to be even. Assumes nothing.
use mathlib.Core.Path.{◌≡◌, refl, sym, ap, ◌∙◌}
use mathlib.Core.Logic.{⊎_elim}
use mathlib.Core.Bool.{Bool, true, false}
use Prim.Native.Nat.{ℕ, zero, suc, ◌+◌, ◌-◌, ◌*◌, ◌%◌, ◌^◌, ◌≤◌, ◌<◌}
use native.Mathlib.Nat as N
use native.Mathlib.Omega.{arith}
use lib.IntN.{ℤ, pos, negsuc, nat_abs}
use lib.Pow.{pow_pos}
use Rattle.whole.specs.Integer.{below_zero}
use Rattle.whole.proofs.Size.{size_neg, below_neg}
use Rattle.nearest.specs.Bits.{negative, digits, Finite, size_of, signed}
use Rattle.nearest.specs.Nearest.{distance, gap, Half, Formed, IsNearest}
use Rattle.halves.proofs.Compare.{either}
use Rattle.nearest.proofs.Distance.{apart, signed_apart, distance_is, one_sign}
use Rattle.nearest.proofs.Neighbours.{parts, gap_adds, neighbour_outward, next_bits, same_bits}

size_signed : (s : Bool) (n : ℕ) → nat_abs (signed s n) ≡ n
size_signed false n = refl
size_signed true n = size_neg (pos n)

sign_signed : (s : Bool) (n : ℕ) → 0 < n → below_zero (signed s n) ≡ s
sign_signed false n h = refl
sign_signed true n h = below_neg n h

-- n is midway from x to y, at the distance d of each
record Midway (x y n d : ℕ) : Type 0 where
  above : x ≤ n
  below : n ≤ y
  twice : y ≡ x + 2 * d

midway : (x y n d : ℕ) → x < y → d ≡ apart x n → d ≡ apart y n → Midway x y n d
midway x y n d h e f = record { above = omega arith; below = omega arith; twice = omega arith }

within : (x y d wide : ℕ) → y ≡ x + 2 * d → 2 * d ≤ wide → y ≤ x + wide
within x y d wide e h = omega arith

exactly : (x y d wide : ℕ) → y ≡ x + 2 * d → y ≡ x + wide → 2 * d ≡ wide
exactly x y d wide e f = omega arith

module _ (p : ℤ) (q : ℕ) (Q : 0 < q) where
  -- ---- a float of that form
  module _ (b : ℕ) (f : Formed p (pos q) b) where
    size_is : size_of b ≡ f.m * 2 ^ f.k
    size_is = sym (size_signed (negative b) (size_of b)) ∙ ap nat_abs f.value ∙ size_signed (below_zero p) (f.m * 2 ^ f.k)

    size_some : 0 < f.m * 2 ^ f.k
    size_some = N.mul-pos (N.le_trans (pow_pos 52) f.least) (pow_pos f.k)

    pub sign_is : negative b ≡ below_zero p
    sign_is =
        sym (sign_signed (negative b) (size_of b) (N.lt_of_lt_of_le size_some (N.le_of_eq (sym size_is))))
        ∙ ap below_zero f.value
        ∙ sign_signed (below_zero p) (f.m * 2 ^ f.k) size_some

    far : distance p (pos q) b ≡ apart (size_of b * q) (nat_abs p * 2 ^ 1074)
    far =
        distance_is p q b
        ∙ ap (λ (s : Bool). signed_apart s (size_of b * q) (below_zero p) (nat_abs p * 2 ^ 1074)) sign_is
        ∙ one_sign (below_zero p) (size_of b * q) (nat_abs p * 2 ^ 1074)

    -- m is even exactly when the bits are
    parity : f.m % 2 ≡ b % 2
    parity = even_as f.m b (parts b f.m f.k size_is f.least f.most).1
      where
        even_as : (m b : ℕ) → 2 ^ 52 + digits b ≡ m → m % 2 ≡ b % 2
        even_as m b e = omega arith

  -- ---- two of that form that are equally far. Were one smaller in size, p / q would be midway
  module _ (b c : ℕ) (B : Finite b) (C : Finite c) (f : Formed p (pos q) b) (g : Formed p (pos q) c)
      (same : distance p (pos q) b ≡ distance p (pos q) c) (less : size_of b < size_of c) where
    abbrev n : ℕ
    n = nat_abs p * 2 ^ 1074

    abbrev d : ℕ
    d = distance p (pos q) b

    wider : size_of b * q < size_of c * q
    wider = N.mul-lt-mul_of_pos_right less Q

    middle : Midway (size_of b * q) (size_of c * q) n d
    middle = midway (size_of b * q) (size_of c * q) n d wider (far b f) (same ∙ far c g)

    -- the larger one is the neighbour of the other
    out : Half d (gap b * q) f.m
    out = f.outward middle.above

    next_times : size_of (b + 1) * q ≡ size_of b * q + gap b * q
    next_times = ap (λ (z : ℕ). z * q) (gap_adds b B) ∙ N.add-mul (size_of b) (gap b) q

    neighbour : c ≡ b + 1
    neighbour = next_bits b c B C.0 (sign_is c g ∙ sym (sign_is b f)) (N.le_antisymm reached (neighbour_outward b c B less))
      where
        reached : size_of c ≤ size_of (b + 1)
        reached = N.le_of_mul-le-mul_right (rw next_times (within (size_of b * q) (size_of c * q) d (gap b * q) middle.twice out.0)) Q

    -- both are at a tie
    tie : 2 * d ≡ gap b * q
    tie = exactly (size_of b * q) (size_of c * q) d (gap b * q) middle.twice (ap (λ (z : ℕ). size_of z * q) neighbour ∙ next_times)

    tie_back : 2 * distance p (pos q) c ≡ gap (c - 1) * q
    tie_back = ap (λ (z : ℕ). 2 * z) (sym same) ∙ tie ∙ ap (λ (z : ℕ). gap z * q) (before c b neighbour)
      where
        before : (c b : ℕ) → c ≡ b + 1 → b ≡ c - 1
        before c b e = omega arith

    clash : ⊥
    clash = no b c neighbour (sym (parity b f) ∙ out.1 tie) (sym (parity c g) ∙ (g.inward middle.below).1 tie_back)
      where
        no : (b c : ℕ) → c ≡ b + 1 → b % 2 ≡ 0 → c % 2 ≡ 0 → ⊥
        no b c e h k = omega arith

  one_form : (b c : ℕ) → IsNearest p (pos q) b → IsNearest p (pos q) c → (p ≡ pos 0 → ⊥) → b ≡ c
  one_form b c B C some =
      let f = B.formed some in
      let g = C.formed some in
      let e : distance p (pos q) b ≡ distance p (pos q) c = N.le_antisymm (B.best c C.finite) (C.best b B.finite) in
      let no = clash b c B.finite C.finite f g e in
      let no' = clash c b C.finite B.finite g f (sym e) in
      let upto : size_of c ≤ size_of b = ⊎_elim (λ h. h) (λ h. absurd (no h)) (either (size_of c) (size_of b)) in
      let from : size_of b ≤ size_of c = ⊎_elim (λ h. h) (λ h. absurd (no' h)) (either (size_of b) (size_of c)) in
      same_bits b c B.finite.0 C.finite.0 (sign_is b f ∙ sym (sign_is c g)) (N.le_antisymm from upto)

pub one_nearest : (p : ℤ) (q : ℕ) → 0 < q → (b c : ℕ) → IsNearest p (pos q) b → IsNearest p (pos q) c → b ≡ c
one_nearest (pos zero) q Q b c B C = B.zero refl ∙ sym (C.zero refl)
one_nearest (pos (suc a)) q Q b c B C = one_form (pos (suc a)) q Q b c B C (λ e. N.suc-ne-zero a (ap nat_abs e))
one_nearest (negsuc a) q Q b c B C = one_form (negsuc a) q Q b c B C (λ e. N.suc-ne-zero a (ap nat_abs e))
