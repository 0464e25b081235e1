-- What the buyer asks for of the desks: a desk's counts are the rank of its own shuffles alone, so that rows of another desk have no effect on
-- them, and the counts of the four desks add up to those of all shuffles. Assumes nothing.
use mathlib.Core.Path.{◌≡◌, refl, sym, ap, ◌∙◌}
use mathlib.Core.Bool.{Bool, true, false, cond, ◌&&◌}
use mathlib.Core.List.{List, [], ◌∷◌}
use Prim.Native.Nat.{ℕ, zero, suc, ◌+◌, ◌*◌, ◌/◌, ◌≤◌, ◌<◌}
use native.Mathlib.Omega.{arith}
use native.Mathlib.Nat as N
use borrow.Author.Tests.{eq-eqb, ne_eqb}
use lib.Dec.{eqb}
use lib.IntN.{ℤ, pos, ◌-ℤ◌, ◌*ℤ◌}
use lib.ListN.{length, get_or, take, drop, replicate}
use lib.Signed.{lt_z}
use Rattle.whole.specs.Integer.{equal}
use Rattle.whole.specs.Order.{lacks}
use Rattle.whole.specs.Search.{count}
use Rattle.whole.specs.Table.{table_rows, at, pair_at}
use Rattle.whole.proofs.Counting.{count_cong, count_le}
use Rattle.whole.proofs.Sum.{sum_cong}
use Rattle.whole.proofs.TableRows.{rows_length, rows_at}
use Rattle.shuffles.specs.Shuffles.{shuffle_count}
use Rattle.shuffles.proofs.ShuffleList.{at_most_499, rows_counted, whole_rows}
use Rattle.kept.specs.Returned.{reduced}
use Rattle.kept.specs.Kept.{passing, keeps, kept_count, kept_place, kept_values, kept_pairs, kept_row, kept_shuffles}
use Rattle.kept.proofs.KeptShuffle.{as_many, shuffle_at}
use Rattle.kept.proofs.Passing.{all_pass, passing_length, passing_count, passing_cong, passing_none, nth_stands}
use Rattle.account.specs.Measures.{total_of, deviation_of}
use Rattle.account.specs.Rank.{values_cross, shuffle_cross, compared, compared_of, of_desk, zones_rank, zones_desk, job_rank}
use Rattle.account.specs.Rank.{desk_rows, desk_rank, desk_ranks, four, rank_refusal}
use Rattle.account.specs.Rank.{three, no_counts, twelve, counts_of, rank_counts}
use Rattle.std.specs.Prelude.{IfOk}
use Rattle.std.proofs.Common.{Result, Ok, Err}
use Rattle.std.proofs.lemmas.List.{ext_get_or}
use Rattle.refusals.specs.declared.Refusal.{Refusal}
use Rattle.refusals.specs.Refusals.{number_of}
use Rattle.refusals.proofs.Refusals.{not_refused, cause_unique}
use Rattle.whole.proofs.Rules.{worked_when_taken}
use Rattle.account.specs.declared.Counts.{Counts}
use Rattle.account.proofs.Accepted.{RankAccepted, rank_accepted}
use Rattle.account.proofs.Adding.{cross_alike}
use Rattle.account.proofs.RankTheorems.{rank_adds_up, no_rows}

-- ---- where all pass, those that pass are all
all_compared :
    (test : ℕ → Bool) (numbers : ℕ → ℤ) (own : ℤ) (many : ℕ) → ((r : ℕ) → r < many → test r ≡ true) →
    compared_of test numbers own many ≡ compared numbers own many
unfolding compared_of compared
all_compared test numbers own many h =
    rw (
      count_cong (λ r. test r && lt_z (numbers r) own) (λ r. lt_z (numbers r) own) many (λ r p. rw (h r p) refl),
      count_cong (λ r. test r && equal (numbers r) own) (λ r. equal (numbers r) own) many (λ r p. rw (h r p) refl),
      count_cong (λ r. test r && lt_z own (numbers r)) (λ r. lt_z own (numbers r)) many (λ r p. rw (h r p) refl),
    ) refl

-- where every shuffle is of one desk, that desk has the counts of all of them
pub one_desk :
    (n : ℕ) (values : List ℤ) (weights shuffles desks : List ℕ) (k : ℕ) →
    ((r : ℕ) → r < shuffle_count n (length shuffles) → get_or desks r 0 ≡ k) →
    desk_rank n values weights shuffles desks k ≡ job_rank n values weights shuffles
unfolding desk_rank job_rank zones_desk zones_rank
one_desk n values weights shuffles desks k h =
    let rows = shuffle_count n (length shuffles) in
    let w = reduced n values weights in
    let x = kept_values n w values in
    let kept = kept_pairs n w w in
    let m = kept_count n w in
    all_compared (of_desk desks k) (shuffle_cross m x kept (kept_shuffles n w rows shuffles)) (values_cross m kept (at x)) rows
    (λ r p. eq-eqb (get_or desks r 0) k (h r p))

-- ---- P is that of the values of the zones, whatever the function that gives them
total_cong : (x y : ℕ → ℤ) (n : ℕ) → ((i : ℕ) → i < n → x i ≡ y i) → total_of x n ≡ total_of y n
unfolding total_of
total_cong x y n h = sum_cong x y n h

cross_cong : (n : ℕ) (weights : List ℕ) (x y : ℕ → ℤ) → ((i : ℕ) → i < n → x i ≡ y i) → values_cross n weights x ≡ values_cross n weights y
unfolding values_cross deviation_of
cross_cong n weights x y h =
    cross_alike (pair_at weights n) n (deviation_of x n) (deviation_of y n)
    (λ i p. ap (λ z. pos n *ℤ z -ℤ total_of x n) (h i p) ∙ ap (λ s. pos n *ℤ y i -ℤ s) (total_cong x y n h))

-- the kept numbers of a row are known by its numbers
kept_row_cong :
    (n : ℕ) (weights : List ℕ) (f g : ℕ → ℕ) → ((p : ℕ) → p < n → f p ≡ g p) → lacks g n ≡ false →
    (i : ℕ) → i < kept_count n weights → kept_row n weights f i ≡ kept_row n weights g i
unfolding kept_row kept_count
kept_row_cong n weights f g same all i h =
    let t = keeps n weights in
    let stands = nth_stands (λ p. t (g p)) n i (omega (arith, h, as_many t g n all)) in
    ap (λ l. kept_place n weights (f (get_or l i 0))) (passing_cong (λ p. t (f p)) (λ p. t (g p)) n (λ p q. ap t (same p q)))
    ∙ ap (kept_place n weights) (same _ stands.below)

-- ---- a desk's counts are the rank of its own rows alone
module _ (n : ℕ) (values : List ℤ) (weights shuffles desks : List ℕ) (k : ℕ) where
  abbrev rows : ℕ
  rows = shuffle_count n (length shuffles)

  abbrev test : ℕ → Bool
  test = of_desk desks k

  -- the desk's rows, and how many they are
  abbrev own_rows : List ℕ
  own_rows = desk_rows n shuffles desks k

  abbrev many : ℕ
  many = count test rows

  abbrev nth : ℕ → ℕ
  nth q = get_or (passing test rows) q 0

  many_rows : length (passing test rows) ≡ many
  many_rows = passing_length test rows

  own_length : length own_rows ≡ many * n
  unfolding desk_rows
  own_length =
      rows_length (λ q. pair_at shuffles n (nth q)) (length (passing test rows)) n ∙ ap (λ m. m * n) many_rows

  own_at : (q p : ℕ) → q < many → p < n → pair_at own_rows n q p ≡ pair_at shuffles n (nth q) p
  unfolding desk_rows pair_at
  own_at q p h l = rows_at (λ q. pair_at shuffles n (nth q)) (length (passing test rows)) n q p 0 (omega (arith, h, many_rows)) l

  own_count : 0 < n → shuffle_count n (length own_rows) ≡ many
  own_count h =
      rows_counted n (length own_rows) many h (omega (arith, count_le test rows, at_most_499 n (length shuffles))) own_length

  module _ (taken : rank_refusal n values weights shuffles desks ≡ 0) where
    abbrev good : RankAccepted n values weights shuffles desks
    good = rank_accepted n values weights shuffles desks taken

    abbrev w : List ℕ
    w = reduced n values weights

    abbrev m : ℕ
    m = kept_count n w

    -- the q-th row of the desk, struck to the kept numbers, is the row in all shuffles so struck
    same_numbers :
        (q i : ℕ) → q < many → i < m → pair_at (kept_shuffles n w many own_rows) m q i ≡ pair_at (kept_shuffles n w rows shuffles) m (nth q) i
    same_numbers q i h l =
        let s = nth_stands test rows q h in
        shuffle_at n w many own_rows q i h l
        ∙ kept_row_cong n w (pair_at own_rows n q) (pair_at shuffles n (nth q)) (λ p r. own_at q p h r) (good.rows.full (nth q) s.below) i l
        ∙ sym (shuffle_at n w rows shuffles (nth q) i s.below l)

    abbrev x : List ℤ
    x = kept_values n w values

    abbrev kept : List ℕ
    kept = kept_pairs n w w

    same_cross :
        (q : ℕ) → q < many →
        shuffle_cross m x kept (kept_shuffles n w many own_rows) q ≡ shuffle_cross m x kept (kept_shuffles n w rows shuffles) (nth q)
    unfolding shuffle_cross
    same_cross q h = cross_cong m kept _ _ (λ i l. ap (at x) (same_numbers q i h l))

    -- of all shuffles those that are the desk's and pass a test of their P are as many as of its own
    passing_both :
        (passes : ℤ → Bool) →
        count (λ r. test r && passes (shuffle_cross m x kept (kept_shuffles n w rows shuffles) r)) rows
        ≡ count (λ q. passes (shuffle_cross m x kept (kept_shuffles n w many own_rows) q)) many
    passing_both passes =
        sym (passing_count test (λ r. passes (shuffle_cross m x kept (kept_shuffles n w rows shuffles) r)) rows)
        ∙ sym (count_cong _ _ many (λ q h. ap passes (same_cross q h)))

    pub desk_alone : desk_rank n values weights shuffles desks k ≡ job_rank n values weights own_rows
    unfolding desk_rank job_rank zones_desk zones_rank compared_of compared
    desk_alone =
        let own = values_cross m kept (at x) in
        rw (
          own_count (omega (arith, good.two)),
          passing_both (λ z. lt_z z own),
          passing_both (λ z. equal z own),
          passing_both (lt_z own),
        ) refl

-- ---- rows of another desk have no effect: two calls on one job in which the rows of a desk are the same, in their order, count the same for it
pub other_desks :
    (n : ℕ) (values : List ℤ) (weights shuffles desks shuffles' desks' : List ℕ) (k : ℕ) →
    rank_refusal n values weights shuffles desks ≡ 0 → rank_refusal n values weights shuffles' desks' ≡ 0 →
    desk_rows n shuffles desks k ≡ desk_rows n shuffles' desks' k →
    desk_rank n values weights shuffles desks k ≡ desk_rank n values weights shuffles' desks' k
other_desks n values weights shuffles desks shuffles' desks' k taken too same =
    desk_alone n values weights shuffles desks k taken
    ∙ ap (job_rank n values weights) same
    ∙ sym (desk_alone n values weights shuffles' desks' k too)

-- ---- the four desks' counts add up to those of all shuffles
module _ (desks : List ℕ) (passes : ℕ → Bool) where
  abbrev of : ℕ → ℕ → ℕ
  of k = count (λ r. of_desk desks k r && passes r)

  -- a shuffle that passes is counted under one desk, and one that does not under none
  under_one :
      (desk : ℕ) (b : Bool) → desk ≤ 3 →
      cond (eqb desk 0 && b) 1 0 + cond (eqb desk 1 && b) 1 0 + cond (eqb desk 2 && b) 1 0 + cond (eqb desk 3 && b) 1 0 ≡ cond b 1 0
  under_one zero true h = refl
  under_one zero false h = refl
  under_one (suc zero) true h = refl
  under_one (suc zero) false h = refl
  under_one (suc (suc zero)) true h = refl
  under_one (suc (suc zero)) false h = refl
  under_one (suc (suc (suc zero))) true h = refl
  under_one (suc (suc (suc zero))) false h = refl
  under_one (suc (suc (suc (suc desk)))) b h = let z : ⊥ = omega (arith, h) in absurd z

  four_counts : (rows : ℕ) → ((r : ℕ) → r < rows → get_or desks r 0 ≤ 3) → of 0 rows + of 1 rows + of 2 rows + of 3 rows ≡ count passes rows
  unfolding count
  four_counts zero low = omega arith
  four_counts (suc rows) low =
      omega (arith, four_counts rows (λ r h. low r (omega arith)), under_one (get_or desks rows 0) (passes rows) (low rows (omega arith)))

-- each row names one desk
all_rows_named :
    (desks : List ℕ) (rows : ℕ) → ((r : ℕ) → r < rows → get_or desks r 0 ≤ 3) →
    let of : ℕ → ℕ = λ k. count (of_desk desks k) rows in
    of 0 + of 1 + of 2 + of 3 ≡ rows
all_rows_named desks rows low =
    let every : ℕ → Bool = λ r. true in
    let alone : (k : ℕ) → count (λ r. of_desk desks k r && true) rows ≡ count (of_desk desks k) rows =
    λ k. count_cong (λ r. of_desk desks k r && true) (of_desk desks k) rows (λ r h. and_true (of_desk desks k r)) in
    let four = four_counts desks every rows low in
    omega (arith, four, alone 0, alone 1, alone 2, alone 3, all_pass every rows (λ r h. refl))
  where
    and_true : (b : Bool) → (b && true) ≡ b
    and_true true = refl
    and_true false = refl

module _ (n : ℕ) (values : List ℤ) (weights shuffles desks : List ℕ) (taken : rank_refusal n values weights shuffles desks ≡ 0) where
  -- less for place 0, equal for place 1, greater for place 2
  pub desks_add_up :
      (place : ℕ) → place < 3 →
      let of = desk_rank n values weights shuffles desks in
      get_or (of 0) place 0 + get_or (of 1) place 0 + get_or (of 2) place 0 + get_or (of 3) place 0
      ≡ get_or (job_rank n values weights shuffles) place 0
  unfolding desk_rank job_rank zones_desk zones_rank compared_of compared
  desks_add_up place h = go place h
    where
      rows : ℕ
      rows = shuffle_count n (length shuffles)

      w : List ℕ
      w = reduced n values weights

      own : ℤ
      own = values_cross (kept_count n w) (kept_pairs n w w) (at (kept_values n w values))

      its : ℕ → ℤ
      its = shuffle_cross (kept_count n w) (kept_values n w values) (kept_pairs n w w) (kept_shuffles n w rows shuffles)

      low : (r : ℕ) → r < rows → get_or desks r 0 ≤ 3
      low = (rank_accepted n values weights shuffles desks taken).desked.low

      go :
          (place : ℕ) → place < 3 →
          let of = desk_rank n values weights shuffles desks in
          get_or (of 0) place 0 + get_or (of 1) place 0 + get_or (of 2) place 0 + get_or (of 3) place 0
          ≡ get_or (job_rank n values weights shuffles) place 0
      go zero h = four_counts desks (λ r. lt_z (its r) own) rows low
      go (suc zero) h = four_counts desks (λ r. equal (its r) own) rows low
      go (suc (suc zero)) h = four_counts desks (λ r. lt_z own (its r)) rows low
      go (suc (suc (suc place))) h = let z : ⊥ = omega (arith, h) in absurd z

-- ---- a desk's shuffles are each counted once, and a desk without any has 0 0 0
module _ (n : ℕ) (values : List ℤ) (weights shuffles desks : List ℕ) (k : ℕ) (taken : rank_refusal n values weights shuffles desks ≡ 0) where
  pub desk_adds_up :
      let counts = desk_rank n values weights shuffles desks k in
      get_or counts 0 0 + get_or counts 1 0 + get_or counts 2 0 ≡ count (of_desk desks k) (shuffle_count n (length shuffles))
  desk_adds_up =
      let two = (rank_accepted n values weights shuffles desks taken).two in
      rw (desk_alone n values weights shuffles desks k taken)
      (rank_adds_up n values weights (desk_rows n shuffles desks k) ∙ own_count n values weights shuffles desks k (omega (arith, two)))

  pub desk_without :
      ((r : ℕ) → r < shuffle_count n (length shuffles) → get_or desks r 0 ≡ k → ⊥) →
      desk_rank n values weights shuffles desks k ≡ 0 ∷ 0 ∷ 0 ∷ []
  unfolding desk_rows table_rows
  desk_without none =
      let rows = shuffle_count n (length shuffles) in
      let empty = passing_none (of_desk desks k) rows (λ r h. ne_eqb (get_or desks r 0) k (none r h)) in
      desk_alone n values weights shuffles desks k taken ∙ rw empty (no_rows n values weights)

-- no rows and no desk numbers give twelve zeros
pub no_desks : (n : ℕ) (values : List ℤ) (weights : List ℕ) → desk_ranks n values weights [] [] ≡ replicate 12 0
unfolding desk_ranks desk_rank zones_desk compared_of shuffle_count count
no_desks n values weights = rw (N.zero-div n) refl

-- ---- an answer is known by its number and its counts, so that the contract leaves no second answer open
made : (l e g : ℕ) → Counts
made l e g = record { less = l; equal = e; greater = g }

same : (l e g l' e' g' : ℕ) → l ≡ l' → e ≡ e' → g ≡ g' → made l e g ≡ made l' e' g'
same l e g l' e' g' p q r = cc

three_unique : (a b : Counts) → three a ≡ three b → a ≡ b
unfolding made
three_unique a b e =
    same _ _ _ _ _ _ (ap (λ t. get_or t 0 0) e) (ap (λ t. get_or t 1 0) e) (ap (λ t. get_or t 2 0) e)

twelve_at : (counts : List Counts) (k : ℕ) → k < 4 → take 3 (drop (k * 3) (twelve counts)) ≡ three (get_or counts k no_counts)
twelve_at counts zero h = refl
twelve_at counts (suc zero) h = refl
twelve_at counts (suc (suc zero)) h = refl
twelve_at counts (suc (suc (suc zero))) h = refl
twelve_at counts (suc (suc (suc (suc k)))) h = let z : ⊥ = omega (arith, h) in absurd z

twelve_unique : (a b : List Counts) → length a ≡ 4 → length b ≡ 4 → twelve a ≡ twelve b → a ≡ b
twelve_unique a b l m e =
    ext_get_or no_counts a b (l ∙ sym m)
    (λ k h.
    let low : k < 4 = omega (arith, h, l) in
    three_unique _ _ (sym (twelve_at a k low) ∙ ap (λ t. take 3 (drop (k * 3) t)) e ∙ twelve_at b k low))

pub answer_unique :
    (a b : Result (List Counts) Refusal) → IfOk a (λ counts. length counts ≡ 4) → IfOk b (λ counts. length counts ≡ 4) →
    number_of a ≡ number_of b → counts_of a ≡ counts_of b → a ≡ b
unfolding counts_of
answer_unique (Err i) (Err j) l m e f = ap Err (cause_unique i j e)
answer_unique (Err i) (Ok b) l m e f = absurd (not_refused i e)
answer_unique (Ok a) (Err j) l m e f = absurd (not_refused j (sym e))
answer_unique (Ok a) (Ok b) l m e f = ap Ok (twelve_unique a b l m f)

-- ---- where nothing is refused, the answer is the counts of the desks
module _
    (n : ℕ) (values : List ℤ) (weights shuffles desks : List ℕ) (taken : rank_refusal n values weights shuffles desks ≡ 0)
    (r : Result (List Counts) Refusal) (told : counts_of r ≡ rank_counts n values weights shuffles desks) where
  answered : counts_of r ≡ desk_ranks n values weights shuffles desks
  unfolding rank_counts
  answered = told ∙ worked_when_taken _ _ _ taken

  pub ranked_counts :
      (counts : List Counts) → r ≡ Ok counts → (k : ℕ) → k < 4 →
      three (get_or counts k no_counts) ≡ desk_rank n values weights shuffles desks k
  unfolding counts_of desk_ranks desk_rank zones_desk compared_of
  ranked_counts counts g k h =
      sym (twelve_at counts k h)
      ∙ ap (λ t. take 3 (drop (k * 3) t)) (sym (ap counts_of g) ∙ answered)
      ∙ four_at k h
    where
      four_at :
          (k : ℕ) → k < 4 →
          take 3 (drop (k * 3) (four (desk_rank n values weights shuffles desks))) ≡ desk_rank n values weights shuffles desks k
      four_at zero h = refl
      four_at (suc zero) h = refl
      four_at (suc (suc zero)) h = refl
      four_at (suc (suc (suc zero))) h = refl
      four_at (suc (suc (suc (suc k)))) h = let z : ⊥ = omega (arith, h) in absurd z

  -- the four desks' counts add up to the number of rows
  pub ranked_adds_up :
      (counts : List Counts) → r ≡ Ok counts →
      let of : ℕ → ℕ = λ k. let c = get_or counts k no_counts in c.less + c.equal + c.greater in
      of 0 + of 1 + of 2 + of 3 ≡ length shuffles / n
  ranked_adds_up counts g =
      let good = rank_accepted n values weights shuffles desks taken in
      let rows = shuffle_count n (length shuffles) in
      let of : (k : ℕ) → k < 4 → let c = get_or counts k no_counts in c.less + c.equal + c.greater ≡ count (of_desk desks k) rows =
      λ k h.
      ap (λ t. get_or t 0 0 + get_or t 1 0 + get_or t 2 0) (ranked_counts counts g k h) ∙ desk_adds_up n values weights shuffles desks k taken in
      let all = all_rows_named desks rows good.desked.low in
      let whole = whole_rows n (length shuffles) (omega (arith, good.two)) good.rows.count in
      omega (arith, of 0 (omega arith), of 1 (omega arith), of 2 (omega arith), of 3 (omega arith), all, whole)

  pub never_refused : (k : Refusal) → r ≡ Err k → ⊥
  unfolding counts_of desk_ranks desk_rank zones_desk compared_of
  never_refused k g = let z : ◌≡◌ {A = ℕ} 0 12 = ap length (sym (ap counts_of g) ∙ answered) in omega arith
