-- A whole number that is printed at the front of a text. Assumes nothing.
use mathlib.Core.Path.{◌≡◌, sym, ap, ◌∙◌}
use mathlib.Core.Bool.{true, false}
use mathlib.Core.List.{List, [], ◌∷◌, ◌++◌, reverse}
use Prim.Native.Nat.{ℕ, ◌+◌, ◌-◌, ◌<◌}
use native.Mathlib.Omega.{arith}
use borrow.Rule.Slice.PartMut.{put_mid, post_of}
use lib.IntN.{ℤ, nat_abs}
use lib.ListN.{length, set}
use Rattle.whole.specs.Integer.{below_zero}
use Rattle.whole.specs.Table.{over}
use Rattle.digits.specs.Digits.{low_digits, unsigned, decimal}
use Rattle.digits.proofs.DecimalDigits.{decimal_below, decimal_not_below}
use Rattle.digits.proofs.LowDigits.{unsigned_low}

module _ (z : ℤ) {k n m : ℕ} {digits : List ℕ} (size : n ≡ nat_abs z) (places : k ≡ length (unsigned n))
    (put : digits ≡ reverse (low_digits 10 m n)) (many : m ≡ k) where
  digits_are : digits ≡ unsigned (nat_abs z)
  digits_are = put ∙ unsigned_low m n (many ∙ places) ∙ ap unsigned size

  as_long : k ≡ length digits
  as_long = places ∙ ap length (ap unsigned size ∙ sym digits_are)

  signed : below_zero z ≡ true → decimal z ≡ 45 ∷ digits
  signed b = decimal_below z b ∙ ap (λ l. 45 ∷ l) (sym digits_are)

  unsigned_is : below_zero z ≡ false → decimal z ≡ digits
  unsigned_is b = decimal_not_below z b ∙ sym digits_are

  pub below_length : below_zero z ≡ true → k + 1 ≡ length (decimal z)
  below_length b = omega (arith, as_long, ap length (signed b))

  pub not_below_length : below_zero z ≡ false → k ≡ length (decimal z)
  not_below_length b = as_long ∙ sym (ap length (unsigned_is b))

  pub below_text : (old : List ℕ) → below_zero z ≡ true → 0 < length old → put_mid 1 (k + 1 - 1) (set old 0 45) digits ≡ over (decimal z) old
  below_text [] b h = absurd (omega arith)
  below_text (x ∷ old) b h =
      let e : k + 1 - 1 ≡ length digits = omega (arith, as_long) in
      rw (e, signed b)

  pub not_below_text : (old : List ℕ) → below_zero z ≡ false → digits ++ post_of 0 k old ≡ over (decimal z) old
  not_below_text old b = rw (as_long, unsigned_is b)

-- those four
pub ruleset printed = (below_length, not_below_length, below_text, not_below_text)
