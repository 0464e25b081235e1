-- The bits of every pair of coefficients can be read: a figure is a nearest float, which is no NaN. Assumes nothing.
use mathlib.Core.Path.{◌≡◌, sym, ap, subst}
use mathlib.Core.Bool.{Bool, true, false, cond}
use mathlib.Core.List.{List}
use Prim.Native.Nat.{ℕ, ◌<◌}
use native.Mathlib.Omega.{arith}
use lib.IntN.{ℤ}
use lib.ListN.{length}
use Rattle.whole.specs.Integer.{is_zero}
use Rattle.whole.specs.Table.{table}
use Rattle.whole.proofs.Table.{table_length, table_held}
use Rattle.nearest.specs.Answers.{nearest_float, nearest_side}
use Rattle.nearest.proofs.Theorems.{not_nan}
use Rattle.account.specs.declared.ClassRow.{ClassRow}
use Rattle.coefficients.specs.Coefficients.{coefficient, pair_of, job_pair, class_pair}
use Rattle.coefficients.specs.FloatReport.{no_pair}
use Rattle.coefficients.specs.Steps.{Readable, ReadablePair, ReadablePairs}
use Rattle.coefficients.specs.declared.Coefficient.TheVariants.{Figure, Weightless}
use Rattle.coefficients.specs.declared.Pair.{Pair}

coefficient_readable : (weight p q : ℤ) → Readable (coefficient weight p q)
unfolding coefficient
coefficient_readable weight p q = go (is_zero weight)
  where
    go : (b : Bool) → Readable (cond b Weightless (Figure (nearest_float p q) (nearest_side p q)))
    go true = tt
    go false = not_nan p q

pair_readable : (n : ℕ) (spread : ℤ) (row : ClassRow) → ReadablePair (pair_of n spread row)
unfolding pair_of
pair_readable n spread row = record { of_moran = coefficient_readable _ _ _; of_geary = coefficient_readable _ _ _ }

-- of a job, and of each class
pub job_readable : (n : ℕ) (values : List ℤ) (weights : List ℕ) (pair : Pair) → pair ≡ job_pair n values weights → ReadablePair pair
unfolding job_pair
job_readable n values weights pair e = rw e (pair_readable _ _ _)

pub classes_readable :
    (n : ℕ) (values : List ℤ) (weights classes : List ℕ) (pairs : List Pair) → pairs ≡ table (class_pair n values weights classes) 9 →
    ReadablePairs pairs
unfolding class_pair
classes_readable n values weights classes pairs e k h =
    let f = class_pair n values weights classes in
    let few : k < 9 = omega (arith, ap length e, table_length f 9) in
    subst ReadablePair (sym (table_held f 9 no_pair pairs e k few)) (pair_readable _ _ _)
