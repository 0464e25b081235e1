-- The nine class rows, taken out of the list of their sums. Assumes nothing.
use mathlib.Core.Path.{◌≡◌, ap, ◌∙◌}
use mathlib.Core.List.{List, []}
use Prim.Native.Nat.{ℕ, ◌<◌}
use lib.IntN.{ℤ}
use Rattle.whole.specs.Table.{table}
use Rattle.whole.proofs.Table.{table_held, table_cong}
use Rattle.account.specs.Classes.{row_at}
use Rattle.account.specs.declared.ClassRow.{ClassRow}
use Rattle.coefficients.specs.declared.Pair.{Pair}
use Rattle.coefficients.specs.Coefficients.{pair_of}
use Rattle.coefficients.specs.FloatReport.{no_pair}
use Rattle.coefficients.specs.Steps.{Formable, FormableRows, nth_row}

module _ (n : ℕ) (spread : ℤ) (sums : List ℤ) (rows : List ClassRow) (taken : rows ≡ table (row_at sums) 9) where
  nth : (k : ℕ) → k < 9 → nth_row rows k ≡ row_at sums k
  nth = table_held (row_at sums) 9 (row_at [] 0) rows taken

  pub rows_formable : FormableRows n spread sums → (k : ℕ) → k < 9 → Formable n spread (nth_row rows k)
  rows_formable each k h = rw (nth k h) (each k h)

  pub rows_paired :
      (pairs : List Pair) → pairs ≡ table (λ k. pair_of n spread (nth_row rows k)) 9 →
      pairs ≡ table (λ k. pair_of n spread (row_at sums k)) 9
  rows_paired pairs e = e ∙ table_cong _ _ 9 no_pair (λ k h. ap (pair_of n spread) (nth k h))
