-- What a job is like in which no rule is broken. Assumes nothing.
use mathlib.Core.Path.{◌≡◌, refl, sym}
use mathlib.Core.Bool.{Bool, true, false, not, ◌||◌, true≢false}
use mathlib.Core.List.{List, [], ◌∷◌, ◌++◌}
use Prim.Native.Nat.{ℕ, ◌*◌, ◌≤◌, ◌<◌}
use native.Mathlib.Omega.{arith}
use borrow.Author.Tests.{le-ltb, eq-eqb}
use lib.Dec.{eqb}
use lib.IntN.{ℤ, nat_abs}
use lib.ListN.{length, get_or}
use Rattle.whole.specs.Integer.{is_zero}
use Rattle.whole.specs.Rules.{Rule, first_broken, misfits, size_rules}
use Rattle.whole.proofs.Rules.{holds, first_none, both_hold, fits, sizes_hold, sizes_let_in}
use Rattle.whole.proofs.Search.{none_above}
use Rattle.whole.proofs.Size.{some_size}
use Rattle.whole.specs.Table.{pair_at}
use Rattle.whole.specs.Search.{any_above, any_on_diagonal}
use Rattle.judges.specs.Values.{any_value_beyond}
use Rattle.shuffles.specs.Shuffles.{shuffle_count, any_lacking, shuffle_refusal}
use Rattle.shuffles.specs.Steps.{Shuffles}
use Rattle.shuffles.proofs.Theorems.{list_taken}
use Rattle.kept.specs.Kept.{kept_count, kept_values, kept_pairs}
use Rattle.kept.specs.Returned.{reduced}
use Rattle.kept.proofs.Reduced.{reduced_clear}
use Rattle.account.specs.Measures.{weight_of}
use Rattle.account.specs.Refusals.{list_rules, job_spread, sum_rules, job_rules, job_lengths, call_rules, account_rules, account_refusal}
use Rattle.account.specs.Classes.{class_rules, class_lengths}
use Rattle.account.specs.Rank.{rank_rules, rank_refusal}
use Rattle.account.specs.Steps as steps
use Rattle.account.specs.Steps.{Weighted, Job, Lent, Desked}
use Rattle.account.proofs.KeptJob.{clear_of, two_kept, counting_weighted, lent_job}

-- ---- what a rule that holds tells
pub weighted : (weights : List ℕ) (n : ℕ) → n ≤ 64 → length weights ≡ n * n → any_above 9 weights ≡ false → Weighted weights n
weighted weights n zones l e = record { zones = zones; count = l; light = λ k h. none_above 9 weights e k (omega arith) }

-- ---- a call on a job in which 1 and 2 hold: the sizes are good
pub record Fitting (n values weights : ℕ) (lent : List (ℕ × ℕ)) : Type 0 where
  pub two : 2 ≤ n
  pub zones : n ≤ 64
  pub values_fit : values ≡ n
  pub weights_fit : weights ≡ n * n
  pub lent_fit : misfits lent ≡ false

pub fitting :
    (n values weights : ℕ) (lent : List (ℕ × ℕ)) → first_broken (size_rules n (job_lengths n values weights lent)) ≡ 0 →
    Fitting n values weights lent
fitting n values weights lent e =
    let s = sizes_hold n (job_lengths n values weights lent) e in
    let l1 = fits values n ((weights, n * n) ∷ lent) s.fitting in
    let l2 = fits weights (n * n) lent l1.1 in
    record { two = s.two; zones = s.zones; values_fit = l1.0; weights_fit = l2.0; lent_fit = l2.1 }

-- other lists, which fit too
pub fitted :
    (n values weights : ℕ) (lent others : List (ℕ × ℕ)) → Fitting n values weights lent → misfits others ≡ false →
    first_broken (size_rules n (job_lengths n values weights others)) ≡ 0
fitted n values weights lent others f e =
    let lengths = job_lengths n values weights others in
    let all : misfits lengths ≡ false = rw (eq-eqb values n f.values_fit, eq-eqb weights (n * n) f.weights_fit, e) refl in
    sizes_let_in n lengths (record { two = f.two; zones = f.zones; fitting = all })

-- other lists, which do not fit
pub unfitted :
    (n values weights : ℕ) (lent others : List (ℕ × ℕ)) → Fitting n values weights lent → misfits others ≡ true →
    first_broken (size_rules n (job_lengths n values weights others)) ≡ 2
unfitted n values weights lent others f e =
    rw (le-ltb n 2 f.two, le-ltb 64 n f.zones, eq-eqb values n f.values_fit, eq-eqb weights (n * n) f.weights_fit, e) refl

-- where a job's two lists do not fit, they do not with any further lists
pub also_misfits :
    (n values weights : ℕ) (lent : List (ℕ × ℕ)) → misfits (job_lengths n values weights []) ≡ true →
    misfits (job_lengths n values weights lent) ≡ true
also_misfits n values weights lent = go (not (eqb values n)) (not (eqb weights (n * n)))
  where
    go : (first second : Bool) → (first || (second || false)) ≡ true → (first || (second || misfits lent)) ≡ true
    go true second e = refl
    go false true e = refl
    go false false e = absurd (true≢false (sym e))

-- ---- a job in which 3, 4 and 5 hold
pub record Lawful (n : ℕ) (values : List ℤ) (weights : List ℕ) : Type 0 where
  pub lent : Lent values weights n
  pub clear : any_on_diagonal n weights ≡ false

pub lawful :
    (n : ℕ) (values : List ℤ) (weights : List ℕ) → n ≤ 64 → length values ≡ n → length weights ≡ n * n →
    first_broken (list_rules n values weights) ≡ 0 → Lawful n values weights
lawful n values weights zones l m e =
    let e3 = holds (any_value_beyond values) 2 _ e in
    let e4 = holds (any_above 9 weights) 3 _ e3.1 in
    let e5 = holds (any_on_diagonal n weights) 4 0 e4.1 in record {
      lent = record { count = l; near = e3.0; weighted = weighted weights n zones m e4.0 };
      clear = e5.0;
    }

-- ---- a job in which 3 to 7 hold: by the weights that count two zones at least are kept, which are a job that the work takes
pub record Sound (n : ℕ) (values : List ℤ) (weights : List ℕ) : Type 0 where
  pub lent : Lent values weights n
  pub clear : (i : ℕ) → i < n → pair_at (reduced n values weights) n i i ≡ 0
  pub weighty : 1 ≤ nat_abs (weight_of (pair_at (reduced n values weights) n) n)
  pub two_kept : 2 ≤ kept_count n (reduced n values weights)
  pub job :
      Job (kept_values n (reduced n values weights) values) (kept_pairs n (reduced n values weights) (reduced n values weights))
      (kept_count n (reduced n values weights))
  pub varied : 1 ≤ nat_abs (job_spread n values weights)

sound :
    (n : ℕ) (values : List ℤ) (weights : List ℕ) → n ≤ 64 → length values ≡ n → length weights ≡ n * n →
    first_broken (job_rules n values weights) ≡ 0 → Sound n values weights
unfolding job_rules
sound n values weights zones l m e =
    let both = first_none (sum_rules n values weights) 0 (list_rules n values weights) (tt, (tt, (tt, tt))) e in
    let lists = lawful n values weights zones l m both.0 in
    let r = reduced n values weights in
    let clear = reduced_clear n values weights lists.clear in
    let e6 = holds (is_zero (weight_of (pair_at r n) n)) 5 _ both.1 in
    let e7 = holds (is_zero (job_spread n values weights)) 6 0 e6.1 in record {
      lent = lists.lent;
      clear = clear_of r n clear;
      weighty = some_size (weight_of (pair_at r n) n) e6.0;
      two_kept = two_kept n values r (counting_weighted n values weights lists.lent) clear e6.0;
      job = lent_job n values weights lists.lent;
      varied = some_size (job_spread n values weights) e7.0;
    }

-- ---- a call on a job in which 1 to 7 hold
pub record Called (n : ℕ) (values : List ℤ) (weights : List ℕ) (lent : List (ℕ × ℕ)) : Type 0 where
  pub sizes : Fitting n (length values) (length weights) lent
  pub job : first_broken (job_rules n values weights) ≡ 0

module _ (n : ℕ) (values : List ℤ) (weights : List ℕ) (lent : List (ℕ × ℕ)) where
  -- what is judged besides holds too
  pub called :
      (besides : List Rule) → first_broken (call_rules n values weights lent besides) ≡ 0 →
      Called n values weights lent × (first_broken besides ≡ 0)
  unfolding call_rules job_rules
  called besides e =
      let lengths = job_lengths n (length values) (length weights) lent in
      let both = first_none (job_rules n values weights ++ besides) 0 (size_rules n lengths) (tt, (tt, tt)) e in
      let rest = first_none besides 0 (job_rules n values weights) (tt, (tt, (tt, (tt, (tt, tt))))) both.1 in
      (record { sizes = fitting n (length values) (length weights) lent both.0; job = rest.0 }, rest.1)

  module _ (c : Called n values weights lent) where
    pub good : Sound n values weights
    good = let f = c.sizes in sound n values weights f.zones f.values_fit f.weights_fit c.job

    -- another call on the job, where its lists fit and what it judges besides holds
    pub let_in :
        (others : List (ℕ × ℕ)) (besides : List Rule) → misfits others ≡ false → first_broken besides ≡ 0 →
        first_broken (call_rules n values weights others besides) ≡ 0
    unfolding call_rules job_rules
    let_in others besides fit e =
        let lengths = job_lengths n (length values) (length weights) others in
        let sizes = fitted n (length values) (length weights) lent others c.sizes fit in
        let later = both_hold besides 0 (job_rules n values weights) (tt, (tt, (tt, (tt, (tt, tt))))) c.job e in
        both_hold (job_rules n values weights ++ besides) 0 (size_rules n lengths) (tt, (tt, tt)) sizes later

-- ---- of the account and of the hot list
pub record Accepted {A : Type 0} (n : ℕ) (values : List ℤ) (weights : List ℕ) (places : List A) : Type 0 where
  pub two : 2 ≤ n
  pub good : Sound n values weights
  pub room : length places ≡ n

pub account_called :
    {A : Type 0} (n : ℕ) (values : List ℤ) (weights : List ℕ) (places : List A) → account_refusal n values weights places ≡ 0 →
    Called n values weights ((length places, n) ∷ [])
unfolding account_refusal account_rules
account_called n values weights places e = (called n values weights ((length places, n) ∷ []) [] e).0

pub accepted :
    {A : Type 0} (n : ℕ) (values : List ℤ) (weights : List ℕ) (places : List A) → account_refusal n values weights places ≡ 0 →
    Accepted n values weights places
accepted n values weights places e =
    let c = account_called n values weights places e in
    record { two = c.sizes.two; good = good n values weights _ c; room = (fits (length places) n [] c.sizes.lent_fit).0 }

-- ---- of a call on a job with classes, which is lent further lists
pub record Classed (n : ℕ) (values : List ℤ) (weights classes : List ℕ) (lent : List (ℕ × ℕ)) : Type 0 where
  pub two : 2 ≤ n
  pub good : Sound n values weights
  pub classes_fit : length classes ≡ n * n
  pub low : (k : ℕ) → k < n * n → get_or classes k 0 ≤ 8
  pub lent_fit : misfits lent ≡ false

pub class_called :
    (n : ℕ) (values : List ℤ) (weights classes : List ℕ) (lent : List (ℕ × ℕ)) →
    first_broken (class_rules n values weights classes lent) ≡ 0 →
    Called n values weights ((length classes, n * n) ∷ lent) × (any_above 8 classes ≡ false)
unfolding class_rules
class_called n values weights classes lent e =
    let c = called n values weights ((length classes, n * n) ∷ lent) ((any_above 8 classes, 9) ∷ []) e in
    (c.0, (holds (any_above 8 classes) 8 0 c.1).0)

pub classed :
    (n : ℕ) (values : List ℤ) (weights classes : List ℕ) (lent : List (ℕ × ℕ)) →
    first_broken (class_rules n values weights classes lent) ≡ 0 →
    Classed n values weights classes lent
classed n values weights classes lent e =
    let c = class_called n values weights classes lent e in
    let l = fits (length classes) (n * n) lent c.0.sizes.lent_fit in record {
      two = c.0.sizes.two;
      good = good n values weights _ c.0;
      classes_fit = l.0;
      low = λ k h. none_above 8 classes c.1 k (omega (arith, l.0));
      lent_fit = l.1;
    }

-- its work asks for no more
pub class_job :
    {n : ℕ} {values : List ℤ} {weights classes : List ℕ} {lent : List (ℕ × ℕ)} → Classed n values weights classes lent →
    steps.Classed classes n
class_job c = record { count = c.classes_fit; low = c.low }

-- and of the class account's refusal
pub record ClassAccepted (n : ℕ) (values : List ℤ) (weights classes : List ℕ) (rows of_classes own : ℕ) : Type 0 where
  pub whole : Classed n values weights classes (class_lengths n rows of_classes own)
  pub rows_fit : rows ≡ 27
  pub of_classes_fit : of_classes ≡ 9 * n
  pub own_fit : own ≡ n

pub class_accepted :
    (n : ℕ) (values : List ℤ) (weights classes : List ℕ) (rows of_classes own : ℕ) →
    first_broken (class_rules n values weights classes (class_lengths n rows of_classes own)) ≡ 0 →
    ClassAccepted n values weights classes rows of_classes own
class_accepted n values weights classes rows of_classes own e =
    let w = classed n values weights classes (class_lengths n rows of_classes own) e in
    let l1 = fits rows 27 ((of_classes, 9 * n) ∷ (own, n) ∷ []) w.lent_fit in
    let l2 = fits of_classes (9 * n) ((own, n) ∷ []) l1.1 in
    let l3 = fits own n [] l2.1 in
    record { whole = w; rows_fit = l1.0; of_classes_fit = l2.0; own_fit = l3.0 }

-- ---- of a rank: the shuffles are whole rows, none lacks a zone number, and each row has a desk number
pub record RankAccepted (n : ℕ) (values : List ℤ) (weights shuffles desks : List ℕ) : Type 0 where
  pub two : 2 ≤ n
  pub good : Sound n values weights
  pub rows : Shuffles shuffles n (shuffle_count n (length shuffles))
  pub desked : Desked desks (shuffle_count n (length shuffles))

-- the lengths of the two lists, and those that they must have
abbrev pub rank_lengths : ℕ → List ℕ → List ℕ → List (ℕ × ℕ)
rank_lengths n shuffles desks =
    let rows = shuffle_count n (length shuffles) in (length shuffles, rows * n) ∷ (length desks, rows) ∷ []

pub record RankCalled (n : ℕ) (values : List ℤ) (weights shuffles desks : List ℕ) : Type 0 where
  pub job : Called n values weights (rank_lengths n shuffles desks)
  pub all_full : any_lacking n shuffles ≡ false
  pub none_above : any_above 3 desks ≡ false

module _ (n : ℕ) (values : List ℤ) (weights shuffles desks : List ℕ) where
  pub rank_called : rank_refusal n values weights shuffles desks ≡ 0 → RankCalled n values weights shuffles desks
  unfolding rank_refusal rank_rules
  rank_called e =
      let c = called n values weights (rank_lengths n shuffles desks) ((any_lacking n shuffles, 13) ∷ (any_above 3 desks, 24) ∷ []) e in
      let e13 = holds (any_lacking n shuffles) 12 _ c.1 in
      record { job = c.0; all_full = e13.0; none_above = (holds (any_above 3 desks) 23 0 e13.1).0 }

  module _ (taken : rank_refusal n values weights shuffles desks ≡ 0) where
    abbrev given : RankCalled n values weights shuffles desks
    given = rank_called taken

    abbrev rows : ℕ
    rows = shuffle_count n (length shuffles)

    -- the two lists fit
    lists_fit : (length shuffles ≡ rows * n) × (length desks ≡ rows)
    lists_fit =
        let l = fits (length shuffles) (rows * n) ((length desks, rows) ∷ []) given.job.sizes.lent_fit in
        (l.0, (fits (length desks) rows [] l.1).0)

    -- the judge of shuffles refuses nothing either
    pub shuffles_accepted : shuffle_refusal n shuffles ≡ 0
    unfolding shuffle_refusal
    shuffles_accepted =
        let s = given.job.sizes in
        let lengths : List (ℕ × ℕ) = (length shuffles, rows * n) ∷ [] in
        both_hold ((any_lacking n shuffles, 13) ∷ []) 0 (size_rules n lengths) (tt, (tt, tt))
        (sizes_let_in n lengths (record { two = s.two; zones = s.zones; fitting = rw (eq-eqb (length shuffles) (rows * n) lists_fit.0) refl }))
        (rw given.all_full refl)

    pub rank_accepted : RankAccepted n values weights shuffles desks
    rank_accepted = record {
      two = given.job.sizes.two;
      good = good n values weights _ given.job;
      rows = list_taken n shuffles shuffles_accepted;
      desked = record { count = lists_fit.1; low = λ r h. none_above 3 desks given.none_above r (omega (arith, lists_fit.1)) };
    }
