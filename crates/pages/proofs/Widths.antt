-- How many bytes a field has, and where a text that fits ends. Assumes nothing.
use mathlib.Core.Path.{◌≡◌, refl}
use mathlib.Core.List.{List, [], ◌∷◌}
use Prim.Native.Nat.{ℕ, suc, ◌+◌, ◌*◌, ◌≤◌, ◌<◌}
use native.Mathlib.Omega.{arith}
use lib.IntN.{ℤ, pos}
use lib.ListN.{length, get_or, length-append}
use mir.Syntax.{w64}
use mir.Val.{SFits}
use Rattle.whole.specs.Table.{each}
use Rattle.digits.specs.Digits.{decimal, hexadecimal}
use Rattle.digits.proofs.DecimalDigits.{written}
use Rattle.std.proofs.lemmas.Fmt.{length_signed_le}
use Rattle.pages.specs.Lines.{field, numbers, bits}
use Rattle.pages.specs.Pages.{Puts}

-- a text that fits ends where its bytes end
pub fitting :
    {old new text : List ℕ} {at place : ℕ} → Puts old new at place text → at + length text ≤ length old → place ≡ at + length text
fitting puts h = omega (arith, puts.behind)

-- a whole number of 64 bits has at most 20 bytes, besides the space
pub number_width : (z : ℤ) → SFits w64 z → length (field (decimal z)) ≤ 21
number_width z f = rw (← written z f) (omega (arith, length_signed_le 19 z (omega (arith, f.sfits)) (omega (arith, f.sfits))))

-- every number of a list is one of 64 bits
abbrev pub EachFits : List ℤ → Type 0
EachFits [] = Unit
EachFits (z ∷ list) = SFits w64 z × EachFits list

pub each_fits : (list : List ℤ) → ((k : ℕ) → k < length list → SFits w64 (get_or list k (pos 0))) → EachFits list
each_fits [] h = tt
each_fits (z ∷ list) h = (h 0 (omega arith), each_fits list (λ k p. h (suc k) (omega arith)))

-- a list of such numbers
pub numbers_width : (list : List ℤ) → EachFits list → length (numbers list) ≤ 21 * length list
unfolding numbers each
numbers_width [] h = omega arith
numbers_width (z ∷ list) (first, more) =
    omega (arith, length-append (field (decimal z)) (numbers list), number_width z first, numbers_width list more)

-- the bits of a float
pub bits_width : (x : ℕ) → length (bits x) ≡ 17
unfolding bits hexadecimal
bits_width x = refl
