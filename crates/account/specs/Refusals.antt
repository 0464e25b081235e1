-- The rules that a job must keep, with their numbers, in the order of document 01's "Causes of refusal". The call is refused with the
-- number of the first that is broken: the least that applies, and once 1 or 2 applies nothing further is judged. Assumes nothing.
use Rattle.std.specs.Prelude.{List, [], ◌∷◌, ◌++◌, ℕ, ◌*◌, ℤ, length}
use Rattle.whole.specs.Integer.{is_zero}
use Rattle.whole.specs.Rules.{Rule, first_broken, size_rules}
use Rattle.whole.specs.Search.{any_above, any_on_diagonal}
use Rattle.whole.specs.Table.{at, pair_at}
use Rattle.judges.specs.Values.{any_value_beyond}
use Rattle.kept.specs.Kept.{kept_count, kept_values}
use Rattle.kept.specs.Returned.{reduced}
use Rattle.account.specs.Measures.{weight_of, spread_of}

-- ---- a job's own rules

-- 3, 4 and 5: the values that are returned, and the weights as they are lent
abbrev pub list_rules : ℕ → List ℤ → List ℕ → List Rule
list_rules n values weights = (any_value_beyond values, 3) ∷ (any_above 9 weights, 4) ∷ (any_on_diagonal n weights, 5) ∷ []

-- the spread M of a job: over the zones kept
unfoldable pub job_spread : ℕ → List ℤ → List ℕ → ℤ
job_spread n values weights =
    let w = reduced n values weights in spread_of (at (kept_values n w values)) (kept_count n w)

-- 6 and 7: W, by the weights that count, and M
abbrev pub sum_rules : ℕ → List ℤ → List ℕ → List Rule
sum_rules n values weights =
    (is_zero (weight_of (pair_at (reduced n values weights) n) n), 6) ∷ (is_zero (job_spread n values weights), 7) ∷ []

-- 3 to 7
unfoldable pub job_rules : ℕ → List ℤ → List ℕ → List Rule
job_rules n values weights = list_rules n values weights ++ sum_rules n values weights

-- ---- a call on a job

-- the lengths of a job's lists and of the further ones that the call is lent, with those that they must have
abbrev pub job_lengths : ℕ → ℕ → ℕ → List (ℕ × ℕ) → List (ℕ × ℕ)
job_lengths n values weights lent = (values, n) ∷ (weights, n * n) ∷ lent

-- 1 to 7, then what the call judges besides
unfoldable pub call_rules : ℕ → List ℤ → List ℕ → List (ℕ × ℕ) → List Rule → List Rule
call_rules n values weights lent besides =
    size_rules n (job_lengths n (length values) (length weights) lent) ++ (job_rules n values weights ++ besides)

-- ---- a job alone, with no further list

-- 1 to 7; the refusal is 0 where no rule is broken
unfoldable pub job_refusal : ℕ → List ℤ → List ℕ → ℕ
job_refusal n values weights = first_broken (call_rules n values weights [] [])

-- ---- the account, and the hot list: each is lent a list of n places, for the local numerators or for the zone numbers

-- 1 to 7
unfoldable pub account_rules : {A : Type 0} → ℕ → List ℤ → List ℕ → List A → List Rule
account_rules n values weights places = call_rules n values weights ((length places, n) ∷ []) []

-- its refusal, 0 where no rule is broken
unfoldable pub account_refusal : {A : Type 0} → ℕ → List ℤ → List ℕ → List A → ℕ
account_refusal n values weights places = first_broken (account_rules n values weights places)
