-- Shuffles each of which is desk 0's: the rank takes them, and desk 0 has the counts of all. Assumes nothing.
use mathlib.Core.Path.{◌≡◌, ◌∙◌}
use mathlib.Core.Bool.{false}
use mathlib.Core.List.{List}
use Prim.Native.Nat.{ℕ, ◌/◌, ◌<◌}
use native.Mathlib.Omega.{arith}
use lib.IntN.{ℤ}
use lib.ListN.{length, get_or}
use Rattle.std.proofs.Common.{Result, Ok, All}
use Rattle.std.proofs.lemmas.List.Elements.{All-get_or}
use Rattle.whole.specs.Search.{any_above}
use Rattle.whole.proofs.Search.{all_within}
use Rattle.refusals.specs.declared.Refusal.{Refusal}
use Rattle.shuffles.proofs.ShuffleList.{all_rows}
use Rattle.account.specs.Rank.{job_rank, rank_refusal, three, no_counts, counts_of, rank_counts}
use Rattle.account.specs.declared.Counts.{Counts}
use Rattle.account.proofs.DeskTheorems.{one_desk, ranked_counts}
use Rattle.report.specs.Steps.{Rankable}

module _ (desks : List ℕ) (zeros : All (λ desk. desk ≡ 0) desks) where
  zero : (r : ℕ) → r < length desks → get_or desks r 0 ≡ 0
  zero r h = All-get_or (λ desk. desk ≡ 0) desks r 0 h zeros

  none_above_3 : any_above 3 desks ≡ false
  none_above_3 = all_within 3 desks (λ r h. omega (arith, zero r h))

  module _ (n : ℕ) (values : List ℤ) (weights shuffles : List ℕ) (so : Rankable n values weights shuffles)
      (each : length desks ≡ length shuffles / n) where
    pub taken : rank_refusal n values weights shuffles desks ≡ 0
    taken = so.taken desks each none_above_3

    pub counted :
        (r : Result (List Counts) Refusal) → counts_of r ≡ rank_counts n values weights shuffles desks → (counts : List Counts) →
        r ≡ Ok counts → three (get_or counts 0 no_counts) ≡ job_rank n values weights shuffles
    counted r told counts ok =
        ranked_counts n values weights shuffles desks taken r told counts ok 0 (omega arith)
        ∙ one_desk n values weights shuffles desks 0
        (λ r h. zero r (omega (arith, h, each, all_rows n (length shuffles) so.few)))
