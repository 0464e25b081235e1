-- What the account promises of an accepted job, as the coefficients are formed from it. Assumes nothing.
use mathlib.Core.Path.{◌≡◌, refl, ap}
use mathlib.Core.List.{List}
use Prim.Native.Nat.{ℕ, ◌*◌, ◌<◌}
use native.Mathlib.Omega.{arith}
use lib.IntN.{ℤ, pos, nat_abs}
use lib.Signed.{◌≤ℤ◌}
use Rattle.whole.specs.Rules.{first_broken}
use Rattle.whole.specs.Table.{at, pair_at}
use Rattle.whole.proofs.TableRows.{rows_each}
use Rattle.kept.specs.Kept.{kept_count, kept_values, kept_pairs}
use Rattle.kept.specs.Returned.{reduced}
use Rattle.kept.proofs.KeptZones.{put_back_each}
use Rattle.account.specs.Measures.{deviation_of, local_of}
use Rattle.account.specs.Limits.{Limits}
use Rattle.account.specs.Answers.{listed, class_row, zones_figures, zones_local, job_kept, job_figures, job_row, job_locals}
use Rattle.account.specs.Classes.{class_weight, zones_class_row, zones_class_local, class_row_of, class_local_of, class_sums, class_locals_of, class_rules}
use Rattle.account.specs.Refusals.{job_spread, account_refusal}
use Rattle.account.specs.declared.Sums.{Sums}
use Rattle.account.proofs.Theorems.{accepted_limits, kept_least, kept_most, spread_one, weight_above}
use Rattle.account.proofs.Theorems.{job_locals_length, job_locals_at}
use Rattle.account.proofs.ClassTheorems.{account_taken, zones_in_range, class_limits}
use Rattle.account.proofs.ClassTheorems.{class_sums_row, class_locals_length}
use Rattle.coefficients.specs.Steps.{Ratio, Formable, FormableRows, Numerators, whole_row, Reportable}
use Rattle.coefficients.proofs.Ratios.{formable_same, rows_same, numerators_same}

-- ---- sums that are a job's
module _ (n : ℕ) (values : List ℤ) (weights : List ℕ) (sums : Sums) (e : listed sums ≡ job_figures n values weights) where
  pub spread_in : sums.spread ≡ job_spread n values weights
  unfolding job_figures zones_figures job_spread
  spread_in = ap (λ (l : List ℤ). at l 1) e

  pub kept_in : sums.kept ≡ job_kept n values weights
  unfolding job_figures zones_figures job_kept
  kept_in = ap (λ (l : List ℤ). nat_abs (at l 5)) e

  pub row_in : whole_row sums ≡ job_row n values weights
  unfolding job_figures zones_figures job_row class_row
  row_in =
      let weight = ap (λ (l : List ℤ). at l 2) e in
      let cross = ap (λ (l : List ℤ). at l 3) e in
      let squares = ap (λ (l : List ℤ). at l 4) e in
      rw (weight, cross, squares) refl

-- ---- what is within the limits
module _ (n : ℕ) (values : List ℤ) (weights classes : List ℕ) (lent : List (ℕ × ℕ))
    (taken : first_broken (class_rules n values weights classes lent) ≡ 0) where
  abbrev counting : List ℕ
  counting = reduced n values weights

  abbrev m : ℕ
  m = kept_count n counting

  abbrev x : List ℤ
  x = kept_values n counting values

  abbrev w : List ℕ
  w = kept_pairs n counting counting

  abbrev c : List ℕ
  c = kept_pairs n counting classes

  -- the account's own refusal
  none : account_refusal n values weights (job_locals n values weights) ≡ 0
  none = account_taken n values weights classes lent taken (job_locals n values weights) (job_locals_length n values weights)

  job_limits : Limits (pair_at w m) (at x) m
  job_limits = accepted_limits n values weights (job_locals n values weights) none

  varied : pos 1 ≤ℤ job_spread n values weights
  varied = spread_one n values weights (job_locals n values weights) none

  within : (f : ℕ → ℕ → ℕ) → Limits f (at x) m → Formable (job_kept n values weights) (job_spread n values weights) (class_row f (at x) m)
  unfolding class_row job_kept job_spread
  within f limits =
      let range = zones_in_range n values weights classes lent taken in record {
        two = kept_least n values weights (job_locals n values weights) none;
        zones = omega (arith, range.1, kept_most n values weights);
        varied = varied;
        spread_limit = limits.local_divisor;
        weight_above = weight_above f m;
        moran_numerator = limits.moran_numerator;
        moran_divisor = limits.moran_divisor;
        geary_numerator = limits.geary_numerator;
        geary_divisor = limits.geary_divisor;
      }

  pub job_formable : Formable (job_kept n values weights) (job_spread n values weights) (job_row n values weights)
  unfolding job_row
  job_formable = within (pair_at w m) job_limits

  pub class_formable : (k : ℕ) → Formable (job_kept n values weights) (job_spread n values weights) (class_row_of n values weights classes k)
  unfolding class_row_of zones_class_row
  class_formable k = within (class_weight w c m k) (class_limits n values weights classes lent taken k)

  class_rows : FormableRows (job_kept n values weights) (job_spread n values weights) (class_sums n values weights classes)
  class_rows k h = rw (class_sums_row n values weights classes k h) (class_formable k)

  -- a local numerator of a zone kept, and the 0 of one left out
  local_within :
      (f : ℕ → ℕ → ℕ) → Limits f (at x) m → (i : ℕ) → i < m → Ratio (local_of f (deviation_of (at x) m) m i) (job_spread n values weights)
  unfolding job_spread
  local_within f limits i h = record { one = varied; divisor = limits.local_divisor; numerator = limits.local_numerator i h }

  zero_ratio : Ratio (pos 0) (job_spread n values weights)
  unfolding job_spread
  zero_ratio = record { one = varied; divisor = job_limits.local_divisor; numerator = omega arith }

  pub local_ratio : (i : ℕ) → i < n → Ratio (at (job_locals n values weights) i) (job_spread n values weights)
  unfolding zones_local
  local_ratio i h =
      rw (job_locals_at n values weights i h)
      (put_back_each n counting (λ (z : ℤ). Ratio z (job_spread n values weights)) (zones_local m x w) zero_ratio
      (local_within (pair_at w m) job_limits)
      i h)

  pub class_local_ratio : (t : ℕ) → t < 9 * n → Ratio (at (class_locals_of n values weights classes) t) (job_spread n values weights)
  unfolding class_locals_of class_local_of zones_class_local
  class_local_ratio t h =
      rows_each (class_local_of n values weights classes) (λ (z : ℤ). Ratio z (job_spread n values weights)) 9 n (pos 0)
      (λ k i p q.
      put_back_each n counting (λ (z : ℤ). Ratio z (job_spread n values weights)) (zones_class_local m x w c k) zero_ratio
      (local_within (class_weight w c m k) (class_limits n values weights classes lent taken k))
      i q)
      t h

  job_numerators : Numerators (job_spread n values weights) (job_locals n values weights)
  job_numerators =
      let l = job_locals_length n values weights in
      let range = zones_in_range n values weights classes lent taken in
      record { few = omega (arith, range.1); each = λ i h. local_ratio i (omega arith) }

  class_numerators : Numerators (job_spread n values weights) (class_locals_of n values weights classes)
  class_numerators =
      let l = class_locals_length n values weights classes in
      let range = zones_in_range n values weights classes lent taken in
      record { few = omega (arith, range.1); each = λ t h. class_local_ratio t (omega arith) }

  -- all that the report's work asks for
  pub reportable :
      (sums : Sums) → listed sums ≡ job_figures n values weights →
      Reportable sums (class_sums n values weights classes) (class_locals_of n values weights classes) (job_locals n values weights)
  reportable sums e =
      let k = kept_in n values weights sums e in
      let m = spread_in n values weights sums e in record {
        whole = rw k (formable_same m (row_in n values weights sums e) job_formable);
        numerators = numerators_same m refl job_numerators;
        class_rows = rw k (rows_same m refl class_rows);
        class_numerators = numerators_same m refl class_numerators;
      }
