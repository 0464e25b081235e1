-- The class account with its nine rows as structs: what is refused, and what the lent lists hold after the call. Assumes nothing.
use Rattle.std.specs.Prelude.{List, [], ◌∷◌, ℕ, ◌*◌, ℤ, length}
use Rattle.whole.specs.Rules.{first_broken, unless_refused}
use Rattle.whole.specs.Table.{table}
use Rattle.account.specs.Classes.{class_row_of, class_locals_of, class_rules}
use Rattle.account.specs.declared.ClassRow.{ClassRow}

-- the refusal, 0 where no rule is broken: 1 to 7, then 9; the nine rows lie in a list of 9 places, the local numerators in one of 9 × n
unfoldable pub rows_refusal : ℕ → List ℤ → List ℕ → List ℕ → ℕ → ℕ → ℕ
rows_refusal n values weights classes rows locals =
    first_broken (class_rules n values weights classes ((rows, 9) ∷ (locals, 9 * n) ∷ []))

module _ (n : ℕ) (values : List ℤ) (weights classes : List ℕ) where
  -- what the list of rows holds after the call: the rows of class 0, of class 1, ..
  abbrev pub rows_left : List ClassRow → List ℤ → List ClassRow
  rows_left rows locals =
      unless_refused (rows_refusal n values weights classes (length rows) (length locals))
      (table (class_row_of n values weights classes) 9)
      rows

  -- what the list of local numerators holds after a call that is lent so many rows
  abbrev pub locals_left : ℕ → List ℤ → List ℤ
  locals_left rows locals =
      unless_refused (rows_refusal n values weights classes rows (length locals)) (class_locals_of n values weights classes) locals
