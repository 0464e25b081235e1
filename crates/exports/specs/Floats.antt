-- The float calls for other software: floats in lent lists, as their 64 bits, and beside each such list one for the numbers of their sides.
-- Assumes nothing.
use Rattle.std.specs.Prelude.{cond, List, [], ◌∷◌, ℕ, zero, suc, ◌+◌, ◌*◌, Float, ℤ, length, get_or}
use Rattle.std.specs.Float.{binary64}
use Rattle.std.specs.Float.Ieee.{to_bits}
use Rattle.whole.specs.Integer.{is_zero}
use Rattle.whole.specs.Rules.{first_broken, misfits, unless_refused}
use Rattle.whole.specs.Table.{table, table_rows}
use Rattle.nearest.specs.Answers.{nearest_rules, nearest_bits, nearest_side}
use Rattle.nearest.specs.Sides.{side_number}
use Rattle.nearest.specs.declared.Side.{Side}
use Rattle.nearest.specs.declared.Side.TheVariants.{Equal}
use Rattle.account.specs.Refusals.{job_spread}
use Rattle.account.specs.Answers.{job_locals}
use Rattle.account.specs.Classes.{class_rules, class_row_of}
use Rattle.coefficients.specs.Coefficients.{job_pair, class_pair, local_sides as sides_of}
use Rattle.coefficients.specs.FloatReport.{figures_unless}
use Rattle.coefficients.specs.declared.Coefficient.{Coefficient}
use Rattle.coefficients.specs.declared.Coefficient.TheVariants.{Figure, Weightless}
use Rattle.coefficients.specs.declared.Pair.{Pair}

-- ---- dca_nearest: one float is lent, and one side

-- 2, then 18; 0 where no rule is broken
unfoldable pub nearest_number : ℤ → ℤ → List ℕ → List ℕ → ℕ
nearest_number p q out side = first_broken ((misfits ((length out, 1) ∷ (length side, 1) ∷ []), 2) ∷ nearest_rules p q)

-- the bits of the nearest float to p / q after the call
unfoldable pub nearest_after : ℤ → ℤ → List ℕ → List ℕ → List ℕ
nearest_after p q out side = unless_refused (nearest_number p q out side) (nearest_bits p q ∷ []) out

-- and the number of its side
unfoldable pub side_after : ℤ → ℤ → List ℕ → List ℕ → List ℕ
side_after p q out side = unless_refused (nearest_number p q out side) (side_number (nearest_side p q) ∷ []) side

-- the numbers of some sides
unfoldable pub side_numbers : List Side → List ℕ
side_numbers sides = table (λ i. side_number (get_or sides i Equal)) (length sides)

-- ---- pairs of coefficients in a list, Moran and Geary of the first, of the second, ..

-- what a figure puts into a list of floats, and into the one for their sides
abbrev pub bits_put : Float → Side → ℕ
bits_put x side = to_bits binary64 x

abbrev pub side_put : Float → Side → ℕ
side_put x side = side_number side

-- what a coefficient puts; where there is none, what stood there
abbrev pub put_or : (Float → Side → ℕ) → ℕ → Coefficient → ℕ
put_or puts kept (Figure x side) = puts x side
put_or puts kept Weightless = kept

-- Moran and Geary of a pair by their places
abbrev pub coefficient_at : Pair → ℕ → Coefficient
coefficient_at pair zero = pair.moran
coefficient_at pair (suc place) = pair.geary

-- so many pairs over what the list held
unfoldable pub pairs_over : (Float → Side → ℕ) → ℕ → (ℕ → Pair) → List ℕ → List ℕ
pairs_over puts many pair kept = table_rows (λ k place. put_or puts (get_or kept (k * 2 + place) 0) (coefficient_at (pair k) place)) many 2

-- ---- dca_float_report: the job's pair, n local figures, the nine classes' pairs, the sides of each, and whether each class has a pair
module _ (n : ℕ) (values : List ℤ) (weights classes globals global_sides locals local_sides pairs pair_sides has_pair : List ℕ) where
  -- 1 to 7, then 9; 0 where no rule is broken
  unfoldable pub report_number : ℕ
  report_number =
      first_broken
      (class_rules n values weights classes
      ((length globals, 2)
      ∷ (length global_sides, 2)
      ∷ (length locals, n)
      ∷ (length local_sides, n)
      ∷ (length pairs, 18)
      ∷ (length pair_sides, 18)
      ∷ (length has_pair, 9)
      ∷ []))

  -- the global Moran and Geary after the call
  unfoldable pub globals_after : List ℕ
  globals_after = unless_refused report_number (pairs_over bits_put 1 (λ k. job_pair n values weights) globals) globals

  unfoldable pub global_sides_after : List ℕ
  global_sides_after = unless_refused report_number (pairs_over side_put 1 (λ k. job_pair n values weights) global_sides) global_sides

  -- the local Moran of each zone
  unfoldable pub figures_after : List ℕ
  figures_after = figures_unless report_number n values weights locals

  unfoldable pub local_sides_after : List ℕ
  local_sides_after =
      unless_refused report_number (side_numbers (sides_of (job_spread n values weights) (job_locals n values weights))) local_sides

  -- Moran and Geary of each class; a class without weight leaves its two entries as they were, and those for their sides
  unfoldable pub pairs_after : List ℕ
  pairs_after = unless_refused report_number (pairs_over bits_put 9 (class_pair n values weights classes) pairs) pairs

  unfoldable pub pair_sides_after : List ℕ
  pair_sides_after = unless_refused report_number (pairs_over side_put 9 (class_pair n values weights classes) pair_sides) pair_sides

  -- of each class 1 where it has its pair, which is where its W is not 0, else 0
  unfoldable pub has_pair_after : List ℕ
  has_pair_after =
      unless_refused report_number (table (λ k. cond (is_zero (class_row_of n values weights classes k).weight) 0 1) 9) has_pair
