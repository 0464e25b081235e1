-- What the buyer asks for of the classes, for every job with classes 0 to 8: limits, and that the classes add up. Assumes nothing.
use mathlib.Core.Path.{◌≡◌, refl, sym, ap, ◌∙◌}
use mathlib.Core.Bool.{false}
use mathlib.Core.List.{List, [], ◌∷◌}
use Prim.Native.Nat.{ℕ, ◌+◌, ◌*◌, ◌≤◌, ◌<◌}
use native.Mathlib.Nat as N
use native.Mathlib.Omega.{arith}
use borrow.Author.Tests.{eq-eqb}
use lib.IntN.{ℤ, pos}
use lib.ListN.{length, get_or}
use Rattle.whole.specs.Rules.{first_broken, Applies, misfits}
use Rattle.whole.specs.Search.{any_above}
use Rattle.whole.specs.Sum.{sum}
use Rattle.whole.specs.Table.{at, pair_at}
use Rattle.whole.proofs.Lists.{within}
use Rattle.whole.proofs.Rules.{first_least, first_applies}
use Rattle.whole.proofs.Search.{all_within}
use Rattle.whole.proofs.TableRows as rows
use Rattle.kept.specs.Kept.{kept_count, kept_values, kept_pairs}
use Rattle.kept.specs.Returned.{reduced}
use Rattle.kept.proofs.KeptZones.{pairs_each, put_back_sum, put_back_cong, put_back_sums}
use Rattle.account.specs.Measures.{deviation_of}
use Rattle.account.specs.Limits.{Limits}
use Rattle.account.specs.Refusals.{job_rules, call_rules, account_rules, account_refusal}
use Rattle.account.specs.Answers.{class_row, zones_local, job_row, job_locals}
use Rattle.account.specs.Classes.{class_weight, zones_class_row, zones_class_local, class_row_of, class_local_of, sum_at, row_at, class_sums, class_locals_of, class_rules}
use Rattle.account.proofs.Accepted.{let_in, account_called, classed, class_called}
use Rattle.account.proofs.Adding.{locals_sum}
use Rattle.account.proofs.ByClass.{class_le}
use Rattle.account.proofs.KeptJob.{kept_clear, job_locals_at}
use Rattle.account.proofs.NineClasses.{weights_together, crosses_together, squares_together, locals_together}
use Rattle.account.proofs.Reading.{weight_le}
use Rattle.account.proofs.Theorems.{Sharp, limits_of, within_sizes}

-- ---- the lists by their places
module _ (n : ℕ) (values : List ℤ) (weights classes : List ℕ) where
  pub class_sums_length : length (class_sums n values weights classes) ≡ 27
  unfolding class_sums
  class_sums_length = rows.rows_length (λ k. sum_at (class_row_of n values weights classes k)) 9 3

  pub class_sums_at :
      (k i : ℕ) → k < 9 → i < 3 → at (class_sums n values weights classes) (k * 3 + i) ≡ sum_at (class_row_of n values weights classes k) i
  unfolding class_sums
  class_sums_at k i h p = rows.rows_at (λ k. sum_at (class_row_of n values weights classes k)) 9 3 k i (pos 0) h p

  pub class_sums_row : (k : ℕ) → k < 9 → row_at (class_sums n values weights classes) k ≡ class_row_of n values weights classes k
  class_sums_row k h =
      let first = ap (at (class_sums n values weights classes)) (sym (N.add-zero (k * 3))) ∙ class_sums_at k 0 h (omega arith) in
      rw (first, class_sums_at k 1 h (omega arith), class_sums_at k 2 h (omega arith)) refl

  pub class_locals_length : length (class_locals_of n values weights classes) ≡ 9 * n
  unfolding class_locals_of
  class_locals_length = rows.rows_length (class_local_of n values weights classes) 9 n

  pub class_locals_at :
      (k i : ℕ) → k < 9 → i < n → at (class_locals_of n values weights classes) (k * n + i) ≡ class_local_of n values weights classes k i
  unfolding class_locals_of
  class_locals_at k i h p = rows.rows_at (class_local_of n values weights classes) 9 n k i (pos 0) h p

  abbrev counting : List ℕ
  counting = reduced n values weights

  abbrev m : ℕ
  m = kept_count n counting

  abbrev x : List ℤ
  x = kept_values n counting values

  abbrev w : List ℕ
  w = kept_pairs n counting counting

  abbrev c : List ℕ
  c = kept_pairs n counting classes

  -- the local numerators of a class add up to its P
  pub class_adds_up : (k : ℕ) → sum (class_local_of n values weights classes k) n ≡ (class_row_of n values weights classes k).cross
  unfolding class_local_of class_row_of zones_class_row zones_class_local class_row
  class_adds_up k =
      put_back_sum n counting (zones_class_local m x w c k) ∙ locals_sum (class_weight w c m k) (deviation_of (at x) m) m

-- ---- where nothing is refused
module _ (n : ℕ) (values : List ℤ) (weights classes : List ℕ) (lent : List (ℕ × ℕ))
    (taken : first_broken (class_rules n values weights classes lent) ≡ 0) where
  -- the account refuses nothing either
  pub account_taken : (locals : List ℤ) → length locals ≡ n → account_refusal n values weights locals ≡ 0
  unfolding account_refusal account_rules
  account_taken locals l =
      let_in n values weights _ (class_called n values weights classes lent taken).0 ((length locals, n) ∷ []) []
      (rw (eq-eqb (length locals) n l) refl)
      refl

  -- n is 2 to 64
  pub zones_in_range : (2 ≤ n) × (n ≤ 64)
  zones_in_range = let a = classed n values weights classes lent taken in (a.two, a.good.lent.weighted.zones)

  -- every further list fits
  pub lent_fits : misfits lent ≡ false
  lent_fits = (classed n values weights classes lent taken).lent_fit

  -- the classes of the pairs of kept zones are 0 to 8 too
  low_kept : (p : ℕ) → p < m n values weights classes * m n values weights classes → get_or (c n values weights classes) p 0 ≤ 8
  unfolding pair_at
  low_kept =
      let a = classed n values weights classes lent taken in
      pairs_each n (reduced n values weights) (λ v. v ≤ 8) classes (λ i j p q. a.low (i * n + j) (within n i j p q))

  -- how large the measures of a class are; so every numerator and divisor is at most 6 × 10^18
  pub class_sizes :
      (k : ℕ) →
      Sharp (class_weight (w n values weights classes) (c n values weights classes) (m n values weights classes) k)
      (at (x n values weights classes))
      (m n values weights classes)
  class_sizes k =
      let good = (classed n values weights classes lent taken).good in
      let weights_kept = w n values weights classes in
      let classes_kept = c n values weights classes in
      let many = m n values weights classes in
      let of_kept = good.job in
      within_sizes (class_weight weights_kept classes_kept many k) (at (x n values weights classes)) many of_kept.valued.zones
      (λ i j p q. class_le weights_kept classes_kept many k i j 9 (weight_le weights_kept many of_kept.weighted i j p q))
      (λ i p. let h = class_le weights_kept classes_kept many k i i 0 (N.le_of_eq (kept_clear n values (reduced n values weights) good.clear i p)) in omega arith)
      of_kept.valued.near.size

  pub class_limits :
      (k : ℕ) →
      Limits (class_weight (w n values weights classes) (c n values weights classes) (m n values weights classes) k)
      (at (x n values weights classes))
      (m n values weights classes)
  class_limits k = limits_of _ _ _ (class_sizes k)

  -- the nine classes, unclassed pairs included, add up to W, P and G, and in each zone to its L
  pub nine_weights : sum (λ k. (class_row_of n values weights classes k).weight) 9 ≡ (job_row n values weights).weight
  unfolding class_row_of job_row class_row
  nine_weights = weights_together _ (x n values weights classes) _ _ low_kept

  pub nine_crosses : sum (λ k. (class_row_of n values weights classes k).cross) 9 ≡ (job_row n values weights).cross
  unfolding class_row_of job_row class_row
  nine_crosses = crosses_together _ (x n values weights classes) _ _ low_kept

  pub nine_squares : sum (λ k. (class_row_of n values weights classes k).squares) 9 ≡ (job_row n values weights).squares
  unfolding class_row_of job_row class_row
  nine_squares = squares_together _ (x n values weights classes) _ _ low_kept

  pub nine_locals : (i : ℕ) → i < n → sum (λ k. class_local_of n values weights classes k i) 9 ≡ at (job_locals n values weights) i
  unfolding class_local_of zones_local
  nine_locals i h =
      put_back_sums n (reduced n values weights) (zones_class_local _ (x n values weights classes) _ (c n values weights classes)) 9 i
      ∙ put_back_cong n (reduced n values weights) _ _ (locals_together _ (x n values weights classes) _ (c n values weights classes) low_kept) i h
      ∙ sym (job_locals_at n values weights i h)

-- ---- where the account refuses nothing, and the classes are 0 to 8 and every further list fits, nothing is refused
pub class_taken :
    (n : ℕ) (values : List ℤ) (weights classes : List ℕ) (locals : List ℤ) (lent : List (ℕ × ℕ)) →
    account_refusal n values weights locals ≡ 0 →
    length classes ≡ n * n → ((p : ℕ) → p < n * n → get_or classes p 0 ≤ 8) → misfits lent ≡ false →
    first_broken (class_rules n values weights classes lent) ≡ 0
unfolding class_rules
class_taken n values weights classes locals lent taken l low fit =
    let_in n values weights _ (account_called n values weights locals taken)
    ((length classes, n * n) ∷ lent) ((any_above 8 classes, 9) ∷ [])
    (rw (eq-eqb (length classes) (n * n) l, fit) refl)
    (rw (all_within 8 classes (λ p h. low p (omega arith))) refl)

-- ---- the refusal is the least number that applies: it applies, and no number below it does
module _ (n : ℕ) (values : List ℤ) (weights classes : List ℕ) (lent : List (ℕ × ℕ)) where
  pub class_refusal_applies :
      (first_broken (class_rules n values weights classes lent) ≡ 0 → ⊥) →
      Applies (first_broken (class_rules n values weights classes lent)) (class_rules n values weights classes lent)
  class_refusal_applies = first_applies (class_rules n values weights classes lent)

  pub class_refusal_least :
      (number : ℕ) → Applies number (class_rules n values weights classes lent) →
      first_broken (class_rules n values weights classes lent) ≤ number
  unfolding class_rules call_rules job_rules
  class_refusal_least number =
      first_least 0 number (class_rules n values weights classes lent) (tt, (tt, (tt, (tt, (tt, (tt, (tt, (tt, tt))))))))
