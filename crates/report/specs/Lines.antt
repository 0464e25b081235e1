-- The fields of a report's lines that are figures. Assumes nothing.
use Rattle.std.specs.Prelude.{List, [], ◌∷◌, ◌++◌, ℕ, ℤ}
use Rattle.std.specs.Float.{binary64}
use Rattle.std.specs.Float.Ieee.{to_bits}
use Rattle.pages.specs.Lines.{ascii, field, numbers, bits}
use Rattle.nearest.specs.Answers.{nearest_bits, nearest_side}
use Rattle.nearest.specs.declared.Side.{Side}
use Rattle.nearest.specs.declared.Side.TheVariants.{Equal, Below, Above}
use Rattle.coefficients.specs.declared.Coefficient.{Coefficient}
use Rattle.coefficients.specs.declared.Coefficient.TheVariants.{Figure, Weightless}

-- which way a float was rounded: whether it is equal to its ratio, below it or above it
abbrev pub sign : Side → List ℕ
sign Equal = ascii "="
sign Below = ascii "<"
sign Above = ascii ">"

-- the bits of a float, and the sign right after them
abbrev pub rounded : ℕ → Side → List ℕ
rounded b side = bits b ++ sign side

-- numerator, divisor and the bits of the nearest float to their ratio with its sign, after some numbers
abbrev pub figure : List ℤ → ℤ → ℤ → List ℕ
figure before p q = numbers (before ++ (p ∷ q ∷ [])) ++ rounded (nearest_bits p q) (nearest_side p q)

-- a coefficient of a class, `-` where there is none, which has no sign
unfoldable pub coefficient : Coefficient → List ℕ
coefficient (Figure x side) = rounded (to_bits binary64 x) side
coefficient Weightless = field (ascii "-")
