-- The calls on values and weights for other software: what the account and the rank answer is put into one more lent list, whose length is
-- judged with the others'; the class account answers its number alone. Every other call is the one of its own crate. Assumes nothing.
use Rattle.std.specs.Prelude.{List, [], ◌∷◌, ℕ, ◌*◌, ℤ, length}
use Rattle.whole.specs.Rules.{first_broken, unless_refused}
use Rattle.whole.specs.Search.{any_above}
use Rattle.shuffles.specs.Shuffles.{shuffle_count, any_lacking}
use Rattle.account.specs.Answers.{job_figures, job_locals}
use Rattle.account.specs.Classes.{class_sums, class_locals_of, class_rules}
use Rattle.account.specs.Rank.{desk_ranks}
use Rattle.account.specs.Refusals.{call_rules}

module _ (n : ℕ) (values : List ℤ) (weights : List ℕ) where
  -- ---- dca_account: n local numerators and the seven sums are lent

  -- 1 to 7; 0 where no rule is broken
  unfoldable pub account_number : List ℤ → List ℤ → ℕ
  account_number locals sums = first_broken (call_rules n values weights ((length locals, n) ∷ (length sums, 7) ∷ []) [])

  -- L(0), L(1), .. and S, M, W, P, G with the number of zones kept and that of values not returned, after the call
  unfoldable pub locals_after : List ℤ → List ℤ → List ℤ
  locals_after locals sums = unless_refused (account_number locals sums) (job_locals n values weights) locals

  unfoldable pub sums_after : List ℤ → List ℤ → List ℤ
  sums_after locals sums = unless_refused (account_number locals sums) (job_figures n values weights) sums

  -- ---- dca_class_account: the 27 sums of the nine rows and the 9 × n local numerators of the classes are lent

  -- 1 to 7, then 9; 0 where no rule is broken
  unfoldable pub class_number : List ℕ → List ℤ → List ℤ → ℕ
  class_number classes rows locals =
      first_broken (class_rules n values weights classes ((length rows, 27) ∷ (length locals, 9 * n) ∷ []))

  -- W, P and G of class 0, of class 1, .. and the local numerators of class 0, of class 1, .. after the call
  unfoldable pub rows_after : List ℕ → List ℤ → List ℤ → List ℤ
  rows_after classes rows locals = unless_refused (class_number classes rows locals) (class_sums n values weights classes) rows

  unfoldable pub class_locals_after : List ℕ → List ℤ → List ℤ → List ℤ
  class_locals_after classes rows locals = unless_refused (class_number classes rows locals) (class_locals_of n values weights classes) locals

  -- ---- dca_rank: twelve counts are lent

  -- 1 to 7, then 13 and 24; 0 where no rule is broken
  unfoldable pub rank_number : List ℕ → List ℕ → List ℕ → ℕ
  rank_number shuffles desks counts =
      let rows = shuffle_count n (length shuffles) in
      first_broken
      (call_rules n values weights ((length shuffles, rows * n) ∷ (length desks, rows) ∷ (length counts, 12) ∷ [])
      ((any_lacking n shuffles, 13) ∷ (any_above 3 desks, 24) ∷ []))

  -- less, equal, greater of desk 0, of desk 1, .. after the call
  unfoldable pub rank_after : List ℕ → List ℕ → List ℕ → List ℕ
  rank_after shuffles desks counts =
      unless_refused (rank_number shuffles desks counts) (desk_ranks n values weights shuffles desks) counts
