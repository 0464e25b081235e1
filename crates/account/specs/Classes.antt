-- The class account: each ordered pair has a class 0 to 8, 0 being unclassed. For each class, W, P, G and L(i) are taken over its pairs
-- only; d and M stay those of the whole job, and all are taken over the zones kept, by the weights that count. Assumes nothing.
use Rattle.std.specs.Prelude.{cond, List, [], ◌∷◌, ℕ, zero, suc, ◌+◌, ◌*◌, eqb, ℤ, length}
use Rattle.whole.specs.Rules.{Rule, first_broken, unless_refused}
use Rattle.whole.specs.Search.{any_above}
use Rattle.whole.specs.Table.{table_rows, at, pair_at}
use Rattle.kept.specs.Kept.{kept_count, kept_values, kept_pairs, put_back}
use Rattle.kept.specs.Returned.{reduced}
use Rattle.account.specs.Measures.{deviation_of, local_of}
use Rattle.account.specs.Answers.{class_row, job_figures, job_locals}
use Rattle.account.specs.Refusals.{call_rules}
use Rattle.account.specs.declared.ClassRow.{ClassRow}

-- the weight that counts in class k: w(i,j) where k is the class of (i,j), and 0 elsewhere
unfoldable pub class_weight : List ℕ → List ℕ → ℕ → ℕ → ℕ → ℕ → ℕ
class_weight weights classes n k i j = cond (eqb (pair_at classes n i j) k) (pair_at weights n i j) 0

-- ---- of n zones, all of which count

-- the class row of class k
unfoldable pub zones_class_row : ℕ → List ℤ → List ℕ → List ℕ → ℕ → ClassRow
zones_class_row n values weights classes k = class_row (class_weight weights classes n k) (at values) n

-- the local numerator L(i) of class k
unfoldable pub zones_class_local : ℕ → List ℤ → List ℕ → List ℕ → ℕ → ℕ → ℤ
zones_class_local n values weights classes k i = local_of (class_weight weights classes n k) (deviation_of (at values) n) n i

-- ---- of a job: what holds of the zones kept
module _ (n : ℕ) (values : List ℤ) (weights classes : List ℕ) where
  -- the weights that count
  abbrev w : List ℕ
  w = reduced n values weights

  -- the class row of class k
  unfoldable pub class_row_of : ℕ → ClassRow
  class_row_of k = zones_class_row (kept_count n w) (kept_values n w values) (kept_pairs n w w) (kept_pairs n w classes) k

  -- the local numerator L(i) of class k, 0 at a zone left out
  unfoldable pub class_local_of : ℕ → ℕ → ℤ
  class_local_of k i =
      put_back n w (zones_class_local (kept_count n w) (kept_values n w values) (kept_pairs n w w) (kept_pairs n w classes) k) i

-- ---- in lists

-- W, P and G of a class row by their places
abbrev pub sum_at : ClassRow → ℕ → ℤ
sum_at row zero = row.weight
sum_at row (suc zero) = row.cross
sum_at row (suc (suc place)) = row.squares

-- the row of class k in a list of class rows, three sums each
abbrev pub row_at : List ℤ → ℕ → ClassRow
row_at rows k = record { weight = at rows (k * 3); cross = at rows (k * 3 + 1); squares = at rows (k * 3 + 2) }

-- the nine class rows in one list
unfoldable pub class_sums : ℕ → List ℤ → List ℕ → List ℕ → List ℤ
class_sums n values weights classes = table_rows (λ k. sum_at (class_row_of n values weights classes k)) 9 3

-- the 9 × n class local numerators, class by class, zones rising
unfoldable pub class_locals_of : ℕ → List ℤ → List ℕ → List ℕ → List ℤ
class_locals_of n values weights classes = table_rows (class_local_of n values weights classes) 9 n

-- ---- what is refused

-- 1 to 7, then 9, of a call on a job with classes; `lent` has the lengths of its further lists, with those that they must have
unfoldable pub class_rules : ℕ → List ℤ → List ℕ → List ℕ → List (ℕ × ℕ) → List Rule
class_rules n values weights classes lent =
    call_rules n values weights ((length classes, n * n) ∷ lent) ((any_above 8 classes, 9) ∷ [])

-- the lengths of the lists that the class account is lent, with those that they must have: for the nine rows, for the local numerators of
-- each class, and for the job's own
abbrev pub class_lengths : ℕ → ℕ → ℕ → ℕ → List (ℕ × ℕ)
class_lengths n rows of_classes own = (rows, 27) ∷ (of_classes, 9 * n) ∷ (own, n) ∷ []

-- ---- the class account: it is lent these three lists
module _ (n : ℕ) (values : List ℤ) (weights classes : List ℕ) (rows of_classes own : List ℤ) where
  -- its refusal, 0 where no rule is broken
  unfoldable pub class_refusal : ℕ
  class_refusal = first_broken (class_rules n values weights classes (class_lengths n (length rows) (length of_classes) (length own)))

  -- the seven figures of the whole job, which the call answers
  unfoldable pub class_account_figures : List ℤ
  class_account_figures = unless_refused class_refusal (job_figures n values weights) []

  -- what the lent lists hold after the call
  unfoldable pub class_account_rows : List ℤ
  class_account_rows = unless_refused class_refusal (class_sums n values weights classes) rows

  unfoldable pub class_account_locals : List ℤ
  class_account_locals = unless_refused class_refusal (class_locals_of n values weights classes) of_classes

  unfoldable pub class_account_own : List ℤ
  class_account_own = unless_refused class_refusal (job_locals n values weights) own
