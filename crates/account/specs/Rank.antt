-- The rank of a job: how many shuffles of its values have a P less than, equal to and greater than its own. The job itself is not counted.
-- A list of shuffles has a row of n zone numbers for each, and a list of desk numbers one for each row: every desk has the counts of its own
-- shuffles. A shuffle acts on the zones kept, by the weights that count: in order they take its kept numbers. Assumes nothing.
use Rattle.std.specs.Prelude.{Bool, ◌&&◌, List, [], ◌∷◌, ◌++◌, ℕ, ◌*◌, eqb, ℤ, length, get_or, Result, Ok, Err}
use Rattle.std.specs.Int.Signed.{lt_z}
use Rattle.whole.specs.Integer.{equal}
use Rattle.whole.specs.Rules.{Rule, first_broken, unless_refused}
use Rattle.whole.specs.Search.{count, any_above}
use Rattle.whole.specs.Table.{table_rows, at, pair_at}
use Rattle.refusals.specs.declared.Refusal.{Refusal}
use Rattle.kept.specs.Kept.{passing, kept_count, kept_values, kept_pairs, kept_shuffles}
use Rattle.kept.specs.Returned.{reduced}
use Rattle.shuffles.specs.Shuffles.{shuffle_count, any_lacking}
use Rattle.account.specs.Measures.{deviation_of, cross_of}
use Rattle.account.specs.Refusals.{call_rules}
use Rattle.account.specs.declared.Counts.{Counts}

-- ---- of n zones, all of which count

-- zone i takes the value of the zone named at place i
abbrev pub shuffled : (ℕ → ℤ) → (ℕ → ℕ) → ℕ → ℤ
shuffled x named i = x (named i)

-- the P of the values x between the zones
unfoldable pub values_cross : ℕ → List ℕ → (ℕ → ℤ) → ℤ
values_cross n weights x = cross_of (pair_at weights n) (deviation_of x n) n

-- the P of the r-th shuffle
unfoldable pub shuffle_cross : ℕ → List ℤ → List ℕ → List ℕ → ℕ → ℤ
shuffle_cross n values weights shuffles r = values_cross n weights (shuffled (at values) (pair_at shuffles n r))

-- less, equal, greater: how many of the first `many` numbers are less than `own`, equal to it, greater than it
unfoldable pub compared : (ℕ → ℤ) → ℤ → ℕ → List ℕ
compared numbers own many =
    count (λ r. lt_z (numbers r) own) many ∷ count (λ r. equal (numbers r) own) many ∷ count (λ r. lt_z own (numbers r)) many ∷ []

-- the same of those alone among them whose place passes the test
unfoldable pub compared_of : (ℕ → Bool) → (ℕ → ℤ) → ℤ → ℕ → List ℕ
compared_of test numbers own many =
    count (λ r. test r && lt_z (numbers r) own) many
    ∷ count (λ r. test r && equal (numbers r) own) many
    ∷ count (λ r. test r && lt_z own (numbers r)) many
    ∷ []

-- shuffle r is of desk k: its desk number is k
abbrev pub of_desk : List ℕ → ℕ → ℕ → Bool
of_desk desks k r = eqb (get_or desks r 0) k

-- so many shuffles counted by their P, beside that of the zones' own values
unfoldable pub zones_rank : ℕ → ℕ → List ℤ → List ℕ → List ℕ → List ℕ
zones_rank rows n values weights shuffles = compared (shuffle_cross n values weights shuffles) (values_cross n weights (at values)) rows

-- those of desk k among them
unfoldable pub zones_desk : ℕ → ℕ → List ℤ → List ℕ → List ℕ → List ℕ → ℕ → List ℕ
zones_desk rows n values weights shuffles desks k =
    compared_of (of_desk desks k) (shuffle_cross n values weights shuffles) (values_cross n weights (at values)) rows

-- ---- of a job: what holds of the zones kept

-- all shuffles counted by their P, beside the job's own
unfoldable pub job_rank : ℕ → List ℤ → List ℕ → List ℕ → List ℕ
job_rank n values weights shuffles =
    let rows = shuffle_count n (length shuffles) in
    let w = reduced n values weights in
    zones_rank rows (kept_count n w) (kept_values n w values) (kept_pairs n w w) (kept_shuffles n w rows shuffles)

-- the shuffles of desk k
unfoldable pub desk_rank : ℕ → List ℤ → List ℕ → List ℕ → List ℕ → ℕ → List ℕ
desk_rank n values weights shuffles desks k =
    let rows = shuffle_count n (length shuffles) in
    let w = reduced n values weights in
    zones_desk rows (kept_count n w) (kept_values n w values) (kept_pairs n w w) (kept_shuffles n w rows shuffles) desks k

-- the rows of the shuffles of desk k alone, in their order
unfoldable pub desk_rows : ℕ → List ℕ → List ℕ → ℕ → List ℕ
desk_rows n shuffles desks k =
    let own = passing (of_desk desks k) (shuffle_count n (length shuffles)) in
    table_rows (λ q. pair_at shuffles n (get_or own q 0)) (length own) n

-- what desk 0, 1, 2 and 3 have, one after another
abbrev pub four : (ℕ → List ℕ) → List ℕ
four of = of 0 ++ (of 1 ++ (of 2 ++ of 3))

-- the counts of the four desks
unfoldable pub desk_ranks : ℕ → List ℤ → List ℕ → List ℕ → List ℕ → List ℕ
desk_ranks n values weights shuffles desks = four (desk_rank n values weights shuffles desks)

-- ---- what is refused

-- 1 to 7, then 13 and 24; the list of shuffles has nothing beside its 0 to 499 whole rows, and there is a desk number for each row
unfoldable pub rank_rules : ℕ → List ℤ → List ℕ → List ℕ → List ℕ → List Rule
rank_rules n values weights shuffles desks =
    let rows = shuffle_count n (length shuffles) in
    call_rules n values weights ((length shuffles, rows * n) ∷ (length desks, rows) ∷ [])
    ((any_lacking n shuffles, 13) ∷ (any_above 3 desks, 24) ∷ [])

-- the rank's refusal, 0 where no rule is broken
unfoldable pub rank_refusal : ℕ → List ℤ → List ℕ → List ℕ → List ℕ → ℕ
rank_refusal n values weights shuffles desks = first_broken (rank_rules n values weights shuffles desks)

-- ---- what is answered

-- less, equal and greater as the counts hold them
abbrev pub three : Counts → List ℕ
three counts = counts.less ∷ counts.equal ∷ counts.greater ∷ []

-- the counts of no shuffle
abbrev pub no_counts : Counts
no_counts = record { less = 0; equal = 0; greater = 0 }

-- the counts of the four desks as a list of them holds them
abbrev pub twelve : List Counts → List ℕ
twelve counts = four (λ k. three (get_or counts k no_counts))

-- those that are answered, none where the call is refused
unfoldable pub counts_of : Result (List Counts) Refusal → List ℕ
counts_of (Ok counts) = twelve counts
counts_of (Err refusal) = []

-- the counts that the call answers
unfoldable pub rank_counts : ℕ → List ℤ → List ℕ → List ℕ → List ℕ → List ℕ
rank_counts n values weights shuffles desks =
    unless_refused (rank_refusal n values weights shuffles desks) (desk_ranks n values weights shuffles desks) []
