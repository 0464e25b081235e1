-- Demand 3, of the figures that the definitions name. Assumes nothing.
use mathlib.Core.Path.{◌≡◌, refl, sym, ap, ◌∙◌}
use mathlib.Core.Bool.{Bool, true, false}
use mathlib.Core.List.{List}
use Prim.Native.Nat.{ℕ, ◌+◌, ◌*◌, ◌-◌, ◌<◌}
use native.Mathlib.Nat as N
use native.Mathlib.Omega.{arith}
use borrow.Author.Tests.{ne_eqb}
use lib.IntN.{ℤ, pos, nat_abs, ◌*ℤ◌}
use lib.ListN.{length, get_or}
use lib.Signed.{◌≤ℤ◌}
use Rattle.whole.specs.Integer.{is_zero}
use Rattle.whole.specs.Rules.{first_broken}
use Rattle.whole.specs.Sum.{sum}
use Rattle.whole.specs.Table.{table, at}
use Rattle.whole.proofs.Size.{some_size, one_some, one_of}
use Rattle.whole.proofs.Sum.{sum_cong}
use Rattle.whole.proofs.Table.{table_at}
use Rattle.nearest.specs.Answers.{nearest_refusal, nearest_bits, nearest_side}
use Rattle.nearest.specs.declared.Side.TheVariants.{Equal}
use Rattle.nearest.proofs.Theorems.{float_nearest}
use Rattle.account.specs.Answers as account
use Rattle.account.specs.Classes.{row_at, class_row_of, class_sums, class_locals_of, class_rules}
use Rattle.account.specs.Refusals.{job_spread, account_refusal}
use Rattle.account.specs.declared.ClassRow.{ClassRow}
use Rattle.account.proofs.Accepted.{accepted}
use Rattle.account.proofs.Marked.{kept_and_missing}
use Rattle.account.proofs.ClassTheorems as classes-promise
use Rattle.account.proofs.Theorems as account-promise
use Rattle.coefficients.specs.Coefficients.{coefficient, pair_of, job_pair, class_pair, local_figures, local_sides}
use Rattle.coefficients.specs.FloatReport.{no_pair}
use Rattle.coefficients.specs.Steps.{Ratio, Formable}
use Rattle.coefficients.proofs.Job as job
use Rattle.coefficients.proofs.Ratios.{ratio_taken, moran_ratio, geary_ratio}
use Rattle.agreement.specs.EveryFigure.{job_sums, job_report, job_answers, job_lists}
use Rattle.agreement.specs.Demand3.{Shows, HasPair, LocalFigure, Demand3}

-- ---- a coefficient and a local figure are the nearest float, and their side is the true one
shown : (weight p q : ℤ) → is_zero weight ≡ false → Ratio p q → Shows p q (coefficient weight p q)
unfolding coefficient nearest_side
shown weight p q e r = rw e (float_nearest p q (ratio_taken p q r), refl)

local_figure :
    (spread : ℤ) (numerators : List ℤ) (i : ℕ) → i < length numerators → Ratio (at numerators i) spread →
    LocalFigure (at numerators i) spread (local_figures spread numerators) (local_sides spread numerators) i
unfolding local_figures local_sides nearest_side
local_figure spread numerators i h r =
    let figure = table_at (λ i. nearest_bits (at numerators i) spread) (length numerators) i 0 h in
    let side = table_at (λ i. nearest_side (at numerators i) spread) (length numerators) i Equal h in
    rw (figure, side) (float_nearest (at numerators i) spread (ratio_taken (at numerators i) spread r), refl)

-- ---- sums have their pair exactly when there is weight, and then 18 does not apply to it
module _ (n : ℕ) (spread : ℤ) (row : ClassRow) (s : Formable n spread row) where
  some : pos 1 ≤ℤ row.weight → is_zero row.weight ≡ false
  some h = let g = one_some row.weight h in ne_eqb (nat_abs row.weight) 0 (λ e. let z : ⊥ = omega arith in z)

  none : (pos 1 ≤ℤ row.weight → ⊥) → is_zero row.weight ≡ true
  none f = go (is_zero row.weight) refl
    where
      go : (b : Bool) → is_zero row.weight ≡ b → b ≡ true
      go true e = refl
      go false e = absurd (f (one_of row.weight s.weight_above (some_size row.weight e)))

  pub never_18 :
      pos 1 ≤ℤ row.weight →
      (nearest_refusal row.cross (row.weight *ℤ spread) ≡ 0)
      × (nearest_refusal (pos ((n - 1) * n) *ℤ row.squares) ((pos 2 *ℤ row.weight) *ℤ spread) ≡ 0)
  never_18 h = (ratio_taken _ _ (moran_ratio n spread row s (some h)), ratio_taken _ _ (geary_ratio n spread row s (some h)))

  has_pair : HasPair n spread row (pair_of n spread row)
  unfolding pair_of coefficient
  has_pair = record {
    moran = λ h. shown row.weight _ _ (some h) (moran_ratio n spread row s (some h));
    geary = λ h. shown row.weight _ _ (some h) (geary_ratio n spread row s (some h));
    none = λ f. rw (none f) refl;
  }

-- ---- of every job that is accepted, with whatever further lists
module _ (n : ℕ) (values : List ℤ) (weights classes : List ℕ) (lent : List (ℕ × ℕ))
    (taken : first_broken (class_rules n values weights classes lent) ≡ 0) where
  abbrev spread : ℤ
  spread = job_spread n values weights

  abbrev kept : ℕ
  kept = account.job_kept n values weights

  abbrev locals : List ℤ
  locals = account.job_locals n values weights

  abbrev of_classes : List ℤ
  of_classes = class_locals_of n values weights classes

  abbrev rows : List ℤ
  rows = class_sums n values weights classes

  -- 18 does not apply to a local figure either, of the job or of a class
  pub local_never_18 : (i : ℕ) → i < n → nearest_refusal (at locals i) spread ≡ 0
  local_never_18 i h = ratio_taken _ _ (job.local_ratio n values weights classes lent taken i h)

  pub class_local_never_18 : (t : ℕ) → t < 9 * n → nearest_refusal (at of_classes t) spread ≡ 0
  class_local_never_18 t h = ratio_taken _ _ (job.class_local_ratio n values weights classes lent taken t h)

  -- each row and each pair by its place
  row_is : (k : ℕ) → k < 9 → row_at rows k ≡ class_row_of n values weights classes k
  row_is = classes-promise.class_sums_row n values weights classes

  class_has : (k : ℕ) → k < 9 → HasPair kept spread (row_at rows k) (get_or (table (class_pair n values weights classes) 9) k no_pair)
  unfolding class_pair
  class_has k h =
      rw (row_is k h, table_at (class_pair n values weights classes) 9 k no_pair h)
      (has_pair kept spread (class_row_of n values weights classes k) (job.class_formable n values weights classes lent taken k))

  -- the local figures
  local_has : (i : ℕ) → i < n → LocalFigure (at locals i) spread (local_figures spread locals) (local_sides spread locals) i
  local_has i h =
      let place : i < length locals = omega (arith, account-promise.job_locals_length n values weights) in
      local_figure spread locals i place (job.local_ratio n values weights classes lent taken i h)

  class_local_has :
      (k i : ℕ) → k < 9 → i < n →
      LocalFigure (at of_classes (k * n + i)) spread (local_figures spread of_classes) (local_sides spread of_classes) (k * n + i)
  class_local_has k i h p =
      let within : k * n + i < 9 * n = omega (arith, N.mul-le-mul_right n h) in
      let place : k * n + i < length of_classes = omega (arith, classes-promise.class_locals_length n values weights classes) in
      local_figure spread of_classes (k * n + i) place (job.class_local_ratio n values weights classes lent taken (k * n + i) within)

  -- how they add up
  class_adds : (k : ℕ) → k < 9 → sum (λ i. at of_classes (k * n + i)) n ≡ (row_at rows k).cross
  class_adds k h =
      sum_cong _ _ n (λ i p. classes-promise.class_locals_at n values weights classes k i h p)
      ∙ classes-promise.class_adds_up n values weights classes k
      ∙ sym (ap (λ (r : ClassRow). r.cross) (row_is k h))

  zone_adds : (i : ℕ) → i < n → sum (λ k. at of_classes (k * n + i)) 9 ≡ at locals i
  zone_adds i p =
      sum_cong _ _ 9 (λ k h. classes-promise.class_locals_at n values weights classes k i h p)
      ∙ classes-promise.nine_locals n values weights classes lent taken i p

  -- a sum over the rows that the list holds is one over the rows of the classes
  over_rows : (one : ClassRow → ℤ) → sum (λ k. one (row_at rows k)) 9 ≡ sum (λ k. one (class_row_of n values weights classes k)) 9
  over_rows one = sum_cong _ _ 9 (λ k h. ap one (row_is k h))

  -- the account refuses nothing either
  none_of_account : account_refusal n values weights locals ≡ 0
  none_of_account =
      classes-promise.account_taken n values weights classes lent taken locals (account-promise.job_locals_length n values weights)

  -- ---- demand 3
  pub demand_3 : Demand3 n (job_answers n values weights classes) (job_lists n values weights classes)
  unfolding job_answers job_report job_sums job_lists job_pair account.class_row account.job_row account.zones_figures account.job_figures job_spread
  demand_3 = record {
    sums = job_sums n values weights;
    pair = job_pair n values weights;
    accounted = refl;
    classed = refl;
    reported = refl;
    kept = (
      account-promise.kept_least n values weights locals none_of_account,
      kept_and_missing n values weights (accepted n values weights locals none_of_account).good.lent.count,
    );
    weight = account-promise.weight_one n values weights locals none_of_account;
    whole = has_pair kept spread (account.job_row n values weights) (job.job_formable n values weights classes lent taken);
    local = local_has;
    class = class_has;
    class_local = class_local_has;
    locals_add_up = account-promise.job_locals_sum n values weights;
    class_locals_add_up = class_adds;
    zone_adds_up = zone_adds;
    weights_add_up = over_rows (λ (r : ClassRow). r.weight) ∙ classes-promise.nine_weights n values weights classes lent taken;
    numerators_add_up = over_rows (λ (r : ClassRow). r.cross) ∙ classes-promise.nine_crosses n values weights classes lent taken;
    squares_add_up = over_rows (λ (r : ClassRow). r.squares) ∙ classes-promise.nine_squares n values weights classes lent taken;
    own = refl;
    plain = refl;
    plain_rows = refl;
    plain_locals = refl;
    plain_figures = refl;
    plain_sides = refl;
  }
