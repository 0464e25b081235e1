-- What the account answers, and what it leaves in the lent list of local numerators. Every measure of a job is taken over the zones kept, by
-- the weights that count (`reduced`): their own lists are those of a job in which every zone counts. What belongs to a zone is put back at
-- it. Assumes nothing.
use Rattle.std.specs.Prelude.{List, [], ◌∷◌, ◌++◌, ℕ, ℤ, pos, Result, Ok, Err}
use Rattle.whole.specs.Rules.{unless_refused}
use Rattle.whole.specs.Table.{table, at, pair_at}
use Rattle.refusals.specs.declared.Refusal.{Refusal}
use Rattle.kept.specs.Kept.{kept_count, kept_values, kept_pairs, put_back}
use Rattle.kept.specs.Returned.{missing_count, reduced}
use Rattle.account.specs.Measures.{total_of, deviation_of, spread_of, weight_of, cross_of, squares_of, local_of}
use Rattle.account.specs.Refusals.{account_refusal}
use Rattle.account.specs.declared.Sums.{Sums}
use Rattle.account.specs.declared.ClassRow.{ClassRow}

-- ---- what an answer says, by its cases

-- S, M, W, P, G, the number of zones kept and that of values not returned, as the sums hold them
abbrev pub listed : Sums → List ℤ
listed sums =
    sums.total ∷ sums.spread ∷ sums.weight ∷ sums.cross ∷ sums.squares ∷ pos sums.kept ∷ pos sums.missing ∷ []

-- the seven figures, none where the call is refused
unfoldable pub figures_of : Result Sums Refusal → List ℤ
figures_of (Ok sums) = listed sums
figures_of (Err refusal) = []

-- ---- of n zones, all of which count

-- S, M, W, P, G, and the number of zones
unfoldable pub zones_figures : ℕ → List ℤ → List ℕ → List ℤ
zones_figures n values weights =
    total_of (at values) n
    ∷ spread_of (at values) n
    ∷ weight_of (pair_at weights n) n
    ∷ cross_of (pair_at weights n) (deviation_of (at values) n) n
    ∷ squares_of (pair_at weights n) (at values) n
    ∷ pos n
    ∷ []

-- W, P and G of the weights f, with the deviations of all n zones: of a class, or of the whole, the class of all pairs
unfoldable pub class_row : (ℕ → ℕ → ℕ) → (ℕ → ℤ) → ℕ → ClassRow
class_row f x n = record {
  weight = weight_of f n;
  cross = cross_of f (deviation_of x n) n;
  squares = squares_of f x n;
}

-- the local numerator L(i)
unfoldable pub zones_local : ℕ → List ℤ → List ℕ → ℕ → ℤ
zones_local n values weights i = local_of (pair_at weights n) (deviation_of (at values) n) n i

-- ---- of a job: what holds of the zones kept
module _ (n : ℕ) (values : List ℤ) (weights : List ℕ) where
  -- the weights that count
  abbrev w : List ℕ
  w = reduced n values weights

  -- the number of zones kept
  unfoldable pub job_kept : ℕ
  job_kept = kept_count n w

  -- S, M, W, P, G, the number of zones kept, and that of values not returned
  unfoldable pub job_figures : List ℤ
  job_figures = zones_figures (kept_count n w) (kept_values n w values) (kept_pairs n w w) ++ (pos (missing_count values) ∷ [])

  -- W, P and G
  unfoldable pub job_row : ClassRow
  job_row = class_row (pair_at (kept_pairs n w w) (kept_count n w)) (at (kept_values n w values)) (kept_count n w)

  -- L(0), L(1), .., which is 0 at a zone left out
  unfoldable pub job_locals : List ℤ
  job_locals = table (put_back n w (zones_local (kept_count n w) (kept_values n w values) (kept_pairs n w w))) n

-- ---- the account

-- the figures that the call answers
unfoldable pub account_figures : ℕ → List ℤ → List ℕ → List ℤ → List ℤ
account_figures n values weights locals = unless_refused (account_refusal n values weights locals) (job_figures n values weights) []

-- what the lent list holds after the call
unfoldable pub account_locals : ℕ → List ℤ → List ℕ → List ℤ → List ℤ
account_locals n values weights locals = unless_refused (account_refusal n values weights locals) (job_locals n values weights) locals
