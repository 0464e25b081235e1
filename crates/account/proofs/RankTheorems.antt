-- What the buyer asks for of the rank: each shuffle is counted once, and comparing P is comparing Moran's I, since a shuffle leaves S and
-- M as they are. Assumes nothing.
use mathlib.Core.Path.{◌≡◌, refl, sym, ap, ◌∙◌}
use mathlib.Core.Bool.{false}
use mathlib.Core.List.{List, [], ◌∷◌}
use Prim.Native.Nat.{ℕ, ◌+◌, ◌≤◌, ◌<◌}
use native.Mathlib.Nat as N
use borrow.Author.Tests.{eq-eqb}
use lib.IntN.{ℤ, pos, ◌-ℤ◌, ◌*ℤ◌}
use lib.ListN.{length, get_or}
use lib.Signed.{lt_z, ◌≤ℤ◌}
use Rattle.whole.specs.Integer.{square, equal}
use Rattle.whole.specs.Order.{lacks}
use Rattle.whole.specs.Rules.{Applies}
use Rattle.whole.specs.Search.{count}
use Rattle.whole.specs.Sum.{sum}
use Rattle.whole.specs.Table.{at, pair_at}
use Rattle.whole.proofs.Compare.{less_scaled, equal_scaled}
use Rattle.whole.proofs.Pairs.{pairs_sum}
use Rattle.whole.proofs.Permutation.{stands, full, permuted_sum}
use Rattle.whole.proofs.Rules.{first_least, first_applies}
use Rattle.whole.proofs.Size.{one_*}
use Rattle.shuffles.specs.Shuffles.{shuffle_count}
use Rattle.kept.specs.Returned.{reduced}
use Rattle.kept.specs.Kept.{kept_count, kept_values, kept_pairs, kept_shuffles}
use Rattle.kept.proofs.KeptShuffle.{shuffle_full}
use Rattle.account.specs.Measures.{total_of, spread_of}
use Rattle.account.specs.Refusals.{job_spread, job_rules, call_rules, account_rules, account_refusal}
use Rattle.account.specs.Answers.{zones_figures, job_figures, job_row}
use Rattle.account.specs.Rank.{shuffled, values_cross, shuffle_cross, compared, zones_rank, job_rank, rank_rules, rank_refusal}
use Rattle.account.proofs.Accepted.{rank_called, rank_accepted, let_in}
use Rattle.account.proofs.Tallied.{all_counted}
use Rattle.account.proofs.Theorems.{weight_one, spread_one}
-- stated where they are proved: S in a shuffle and its deviations, and that the list of an accepted rank is one that the judge of shuffles
-- takes, so that what holds of such a list holds of it
pub use Rattle.account.proofs.Accepted.{shuffles_accepted}
pub use Rattle.account.proofs.Shuffled.{shuffled_total, shuffled_deviation}

-- ---- a shuffle leaves the spread as it is
pub shuffled_spread : (x : ℕ → ℤ) (row : ℕ → ℕ) (n : ℕ) → lacks row n ≡ false → spread_of (shuffled x row) n ≡ spread_of x n
unfolding spread_of
shuffled_spread x row n all =
    let f = full row n all in
    pairs_sum (shuffled x row) n
    ∙ ap (λ q. pos n *ℤ q -ℤ square (sum (shuffled x row) n)) (permuted_sum row (stands row n) n f (λ k. square (x k)))
    ∙ ap (λ s. pos n *ℤ sum (λ k. square (x k)) n -ℤ square s) (permuted_sum row (stands row n) n f x)
    ∙ sym (pairs_sum x n)

-- ---- of a job, over the zones kept
module _ (n : ℕ) (values : List ℤ) (weights : List ℕ) where
  abbrev counting : List ℕ
  counting = reduced n values weights

  abbrev m : ℕ
  m = kept_count n counting

  abbrev x : List ℤ
  x = kept_values n counting values

  abbrev w : List ℕ
  w = kept_pairs n counting counting

  -- the P that the shuffles are compared with is the one that the account answers
  pub own_of_account : values_cross m w (at x) ≡ at (job_figures n values weights) 3
  unfolding values_cross job_figures zones_figures
  own_of_account = refl

  module _ (shuffles : List ℕ) where
    -- the shuffles by their kept numbers
    abbrev rows : ℕ
    rows = shuffle_count n (length shuffles)

    abbrev s : List ℕ
    s = kept_shuffles n counting rows shuffles

    -- each shuffle is counted once
    pub rank_adds_up :
        let counts = job_rank n values weights shuffles in
        get_or counts 0 0 + get_or counts 1 0 + get_or counts 2 0 ≡ shuffle_count n (length shuffles)
    unfolding job_rank zones_rank compared
    rank_adds_up = all_counted (shuffle_cross m x w s) (values_cross m w (at x)) rows

  -- no rows give 0 0 0
  pub no_rows : job_rank n values weights [] ≡ 0 ∷ 0 ∷ 0 ∷ []
  unfolding job_rank zones_rank compared shuffle_count count
  no_rows = rw (N.zero-div n) refl

  -- ---- where nothing is refused
  module _ (shuffles desks : List ℕ) (taken : rank_refusal n values weights shuffles desks ≡ 0) where
    -- the account refuses nothing either
    pub account_accepts : {A : Type 0} (places : List A) → length places ≡ n → account_refusal n values weights places ≡ 0
    unfolding account_refusal account_rules
    account_accepts places l =
        let_in n values weights _ (rank_called n values weights shuffles desks taken).job ((length places, n) ∷ []) []
        (rw (eq-eqb (length places) n l) refl)
        refl

    module _ (r : ℕ) (h : r < rows shuffles) where
      -- the kept numbers of the r-th shuffle, which are a shuffle of the zones kept
      abbrev row : ℕ → ℕ
      row = pair_at (s shuffles) m r

      pub kept_row_lacks_none : lacks row m ≡ false
      kept_row_lacks_none =
          shuffle_full n counting (rows shuffles) shuffles r h ((rank_accepted n values weights shuffles desks taken).rows.full r h)

      -- S and M are those of the job in every shuffle
      pub shuffle_total : total_of (shuffled (at x) row) m ≡ total_of (at x) m
      shuffle_total = shuffled_total (at x) row m kept_row_lacks_none

      pub shuffle_spread : spread_of (shuffled (at x) row) m ≡ job_spread n values weights
      unfolding job_spread
      shuffle_spread = shuffled_spread (at x) row m kept_row_lacks_none

      -- so I of the shuffle and of the job, P over W × M each, compare as their P do: multiplied out, by the divisors, which are above 0
      abbrev own : ℤ
      own = values_cross m w (at x)

      abbrev its : ℤ
      its = shuffle_cross m x w (s shuffles) r

      abbrev divisor : ℤ
      divisor = (job_row n values weights).weight *ℤ job_spread n values weights

      abbrev its_divisor : ℤ
      its_divisor = (job_row n values weights).weight *ℤ spread_of (shuffled (at x) row) m

      same_divisor : its_divisor ≡ divisor
      same_divisor = ap (λ v. (job_row n values weights).weight *ℤ v) shuffle_spread

      from_one : pos 1 ≤ℤ divisor
      from_one =
          let none = account_accepts values (rank_called n values weights shuffles desks taken).job.sizes.values_fit in
          one_* _ _ (weight_one n values weights values none) (spread_one n values weights values none)

      pub moran_less : lt_z (its *ℤ divisor) (own *ℤ its_divisor) ≡ lt_z its own
      moran_less = ap (λ d. lt_z (its *ℤ divisor) (own *ℤ d)) same_divisor ∙ less_scaled its own divisor from_one

      pub moran_equal : equal (its *ℤ divisor) (own *ℤ its_divisor) ≡ equal its own
      moran_equal = ap (λ d. equal (its *ℤ divisor) (own *ℤ d)) same_divisor ∙ equal_scaled its own divisor from_one

      pub moran_greater : lt_z (own *ℤ its_divisor) (its *ℤ divisor) ≡ lt_z own its
      moran_greater = ap (λ d. lt_z (own *ℤ d) (its *ℤ divisor)) same_divisor ∙ less_scaled own its divisor from_one

-- ---- the refusal is the least number that applies: it applies, and no number below it does
module _ (n : ℕ) (values : List ℤ) (weights shuffles desks : List ℕ) where
  pub rank_refusal_applies :
      (rank_refusal n values weights shuffles desks ≡ 0 → ⊥) →
      Applies (rank_refusal n values weights shuffles desks) (rank_rules n values weights shuffles desks)
  unfolding rank_refusal
  rank_refusal_applies = first_applies (rank_rules n values weights shuffles desks)

  pub rank_refusal_least :
      (number : ℕ) → Applies number (rank_rules n values weights shuffles desks) → rank_refusal n values weights shuffles desks ≤ number
  unfolding rank_refusal rank_rules call_rules job_rules
  rank_refusal_least number =
      first_least 0 number (rank_rules n values weights shuffles desks) (tt, (tt, (tt, (tt, (tt, (tt, (tt, (tt, (tt, tt)))))))))
