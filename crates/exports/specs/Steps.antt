-- What the private functions promise each other. Assumes nothing.
use Rattle.std.specs.Prelude.{List, ℕ, Float, set}
use Rattle.nearest.specs.declared.Side.{Side}
use Rattle.coefficients.specs.declared.Coefficient.{Coefficient}
use Rattle.coefficients.specs.declared.Coefficient.TheVariants.{Figure, Weightless}

-- a list with what a coefficient puts at a place; where there is none, as it was
abbrev pub put_figure : (Float → Side → ℕ) → List ℕ → ℕ → Coefficient → List ℕ
put_figure puts list place (Figure x side) = set list place (puts x side)
put_figure puts list place Weightless = list

-- 1 for a figure, 0 for none
abbrev pub tells : Coefficient → ℕ
tells (Figure x side) = 1
tells Weightless = 0
