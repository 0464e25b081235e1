-- The number of a call that is lent more lists than the call that it stands on. Assumes nothing.
use mathlib.Core.Path.{◌≡◌, refl, sym, subst}
use mathlib.Core.Bool.{Bool, true, false, not, ◌||◌}
use mathlib.Core.List.{List, [], ◌∷◌, ◌++◌}
use Prim.Native.Nat.{ℕ, ◌*◌, ◌≤◌}
use borrow.Author.Tests.{eq-eqb}
use lib.Dec.{T, eqb}
use lib.IntN.{ℤ}
use lib.ListN.{length}
use Rattle.whole.specs.Rules.{Rule, first_broken, misfits, size_rules}
use Rattle.whole.specs.Search.{any_above}
use Rattle.whole.proofs.Rules.{sizes_hold, sizes_first, fits}
use Rattle.shuffles.specs.Shuffles.{shuffle_count, any_lacking}
use Rattle.account.specs.Classes.{class_rules, class_refusal}
use Rattle.account.specs.Rank.{rank_rules, rank_refusal}
use Rattle.account.specs.Refusals.{job_rules, job_lengths, call_rules, account_rules, account_refusal}
use Rattle.exports.specs.Jobs.{account_number, rank_number, class_number}

-- where a list does not fit, it and another do not
besides : (a b c d : Bool) → (a || (b || (d || false))) ≡ true → (a || (b || (c || (d || false)))) ≡ true
besides true b c d e = refl
besides false true c d e = refl
besides false false true d e = refl
besides false false false d e = e

-- it and two others
behind : (a b c d g : Bool) → (a || (b || (g || false))) ≡ true → (a || (b || (c || (d || (g || false))))) ≡ true
behind true b c d g e = refl
behind false true c d g e = refl
behind false false true d g e = refl
behind false false false true g e = refl
behind false false false false g e = e

-- where a list does not fit, it and others do not
pub among : (a b c g : Bool) (others : Bool) → (a || (b || (g || false))) ≡ true → (a || (b || (c || (g || others)))) ≡ true
among true b c g others e = refl
among false true c g others e = refl
among false false true g others e = refl
among false false false true others e = refl
among false false false false others e = absurd (subst T (sym e) tt)

module _ (n : ℕ) (values : List ℤ) (weights : List ℕ) where
  -- 1 and 2, with the one list that the call below is not lent
  abbrev pub own : ℕ → ℕ → ℕ
  own lent places = first_broken (size_rules n ((length values, n) ∷ (length weights, n * n) ∷ (lent, places) ∷ []))

  pub own_fits : (lent places : ℕ) → own lent places ≡ 0 → ◌≡◌ {A = ℕ} lent places
  own_fits lent places e =
      let one : List (ℕ × ℕ) = (lent, places) ∷ [] in
      let two : List (ℕ × ℕ) = (length weights, n * n) ∷ one in
      let f = fits (length values) n two (sizes_hold n ((length values, n) ∷ two) e).fitting in
      (fits lent places [] (fits (length weights) (n * n) one f.1).1).0

  pub own_zones : (lent places : ℕ) → own lent places ≡ 0 → n ≤ 64
  own_zones lent places e = (sizes_hold n ((length values, n) ∷ (length weights, n * n) ∷ (lent, places) ∷ []) e).zones

  module _ (lent places found wanted : ℕ) (rest : List Rule) where
    -- its number comes first
    pub sizes_number :
        (r : ℕ) → r ≡ own lent places → (r ≡ 0 → ⊥) →
        r ≡ first_broken (call_rules n values weights ((found, wanted) ∷ (lent, places) ∷ []) rest)
    unfolding call_rules
    sizes_number r e f =
        sizes_first n ((length values, n) ∷ (length weights, n * n) ∷ (lent, places) ∷ [])
        (job_lengths n (length values) (length weights) ((found, wanted) ∷ (lent, places) ∷ []))
        (job_rules n values weights ++ rest)
        r
        (besides (not (eqb (length values) n)) (not (eqb (length weights) (n * n))) (not (eqb found wanted)) (not (eqb lent places)))
        e f

    -- and where it fits, the call below decides
    pub then_below :
        own lent places ≡ 0 →
        first_broken (call_rules n values weights ((found, wanted) ∷ (lent, places) ∷ []) rest)
        ≡ first_broken (call_rules n values weights ((found, wanted) ∷ []) rest)
    unfolding call_rules
    then_below e = rw (eq-eqb lent places (own_fits lent places e)) refl

  module _ (locals sums : List ℤ) where
    pub account_sizes : (r : ℕ) → r ≡ own (length sums) 7 → (r ≡ 0 → ⊥) → r ≡ account_number n values weights locals sums
    unfolding account_number
    account_sizes = sizes_number (length sums) 7 (length locals) n []

    pub account_below : own (length sums) 7 ≡ 0 → account_number n values weights locals sums ≡ account_refusal n values weights locals
    unfolding account_number account_refusal account_rules
    account_below = then_below (length sums) 7 (length locals) n []

  module _ (shuffles desks counts : List ℕ) where
    abbrev rows : ℕ
    rows = shuffle_count n (length shuffles)

    pub rank_sizes : (r : ℕ) → r ≡ own (length counts) 12 → (r ≡ 0 → ⊥) → r ≡ rank_number n values weights shuffles desks counts
    unfolding rank_number call_rules
    rank_sizes r e f =
        sizes_first n ((length values, n) ∷ (length weights, n * n) ∷ (length counts, 12) ∷ [])
        (job_lengths n (length values) (length weights) ((length shuffles, rows * n) ∷ (length desks, rows) ∷ (length counts, 12) ∷ []))
        (job_rules n values weights ++ ((any_lacking n shuffles, 13) ∷ (any_above 3 desks, 24) ∷ []))
        r
        (behind (not (eqb (length values) n)) (not (eqb (length weights) (n * n))) (not (eqb (length shuffles) (rows * n)))
        (not (eqb (length desks) rows))
        (not (eqb (length counts) 12)))
        e f

    pub rank_below :
        own (length counts) 12 ≡ 0 → rank_number n values weights shuffles desks counts ≡ rank_refusal n values weights shuffles desks
    unfolding rank_number rank_refusal rank_rules call_rules
    rank_below e = rw (eq-eqb (length counts) 12 (own_fits (length counts) 12 e)) refl

  module _ (classes : List ℕ) (rows locals : List ℤ) where
    pub class_sizes : (r : ℕ) → r ≡ own (length rows) 27 → (r ≡ 0 → ⊥) → r ≡ class_number n values weights classes rows locals
    unfolding class_number class_rules call_rules
    class_sizes r e f =
        sizes_first n ((length values, n) ∷ (length weights, n * n) ∷ (length rows, 27) ∷ [])
        (job_lengths n (length values) (length weights) ((length classes, n * n) ∷ (length rows, 27) ∷ (length locals, 9 * n) ∷ []))
        (job_rules n values weights ++ ((any_above 8 classes, 9) ∷ []))
        r
        (among (not (eqb (length values) n)) (not (eqb (length weights) (n * n))) (not (eqb (length classes) (n * n)))
        (not (eqb (length rows) 27))
        (misfits ((length locals, 9 * n) ∷ [])))
        e f

    -- the job's own local numerators have their places
    pub class_below :
        (places : List ℤ) → length places ≡ n →
        class_number n values weights classes rows locals ≡ class_refusal n values weights classes rows locals places
    unfolding class_number class_refusal class_rules call_rules
    class_below places e = rw (eq-eqb (length places) n e) refl
