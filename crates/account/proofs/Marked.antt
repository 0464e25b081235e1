-- The zones whose value is not returned, in any job: none of them is kept, so that it has local numerators of 0; and where the account
-- refuses nothing, every value that is worked is one that is returned. Assumes nothing.
use mathlib.Core.Path.{◌≡◌, refl, ap, ◌∙◌}
use mathlib.Core.Bool.{Bool, true, false, not, cond, ◌||◌}
use mathlib.Core.List.{List}
use Prim.Native.Nat.{ℕ, ◌+◌, ◌≤◌, ◌<◌}
use native.Mathlib.Omega.{arith}
use lib.IntN.{ℤ, pos, nat_abs}
use lib.ListN.{length}
use Rattle.whole.specs.Search.{count}
use Rattle.whole.specs.Table.{at}
use Rattle.whole.proofs.Counting.{count_three}
use Rattle.judges.specs.Values.{not_returned, missing}
use Rattle.kept.specs.Kept.{keeps, kept_count, kept_values, put_back}
use Rattle.kept.specs.Returned.{missing_count, reduced}
use Rattle.kept.proofs.Reduced.{never_kept, kept_returned, kept_near}
use Rattle.account.specs.Refusals.{account_refusal}
use Rattle.account.specs.Answers.{job_kept, job_locals}
use Rattle.account.specs.Classes.{class_local_of}
use Rattle.account.proofs.Accepted.{accepted}
use Rattle.account.proofs.KeptJob.{job_locals_at}

module _ (n : ℕ) (values : List ℤ) (weights : List ℕ) where
  abbrev counting : List ℕ
  counting = reduced n values weights

  -- ---- a zone whose value is not returned is left out, and its local numerator is 0
  left_back : (numbers : ℕ → ℤ) (i : ℕ) → keeps n counting i ≡ false → put_back n counting numbers i ≡ pos 0
  unfolding put_back
  left_back numbers i e = rw e refl

  pub marked_left_out :
      (i : ℕ) → i < n → missing values i ≡ true → (keeps n counting i ≡ false) × (at (job_locals n values weights) i ≡ pos 0)
  marked_left_out i h e =
      let left = never_kept n values weights i h e in
      (left, job_locals_at n values weights i h ∙ left_back _ i left)

  -- that of each class too
  pub marked_class_local :
      (classes : List ℕ) (k i : ℕ) → i < n → missing values i ≡ true → class_local_of n values weights classes k i ≡ pos 0
  unfolding class_local_of
  marked_class_local classes k i h e = left_back _ i (never_kept n values weights i h e)

  -- ---- so the zones kept are among those whose value is returned
  one : (i : ℕ) → i < n → cond (keeps n counting i) 1 0 + cond (missing values i) 1 0 + cond (not (keeps n counting i || missing values i)) 1 0 ≡ 1
  one i h = go (keeps n counting i) (missing values i) (kept_returned n values weights i h)
    where
      go : (a b : Bool) → (a ≡ true → b ≡ false) → cond a 1 0 + cond b 1 0 + cond (not (a || b)) 1 0 ≡ 1
      go true b f = rw (f refl) refl
      go false true f = refl
      go false false f = refl

  pub kept_and_missing : length values ≡ n → job_kept n values weights + missing_count values ≤ n
  unfolding job_kept kept_count missing_count
  kept_and_missing fit =
      let all = count_three (keeps n counting) (missing values) (λ i. not (keeps n counting i || missing values i)) n one in
      omega (arith, all, ap (count (missing values)) fit)

  -- ---- every value that is worked of a job that is not refused is returned, and within its limit
  pub kept_values_near :
      {A : Type 0} (places : List A) → account_refusal n values weights places ≡ 0 → (k : ℕ) → k < job_kept n values weights →
      (nat_abs (at (kept_values n counting values) k) ≤ 100000) × (at (kept_values n counting values) k ≡ not_returned → ⊥)
  unfolding job_kept
  kept_values_near places taken k h =
      let lent = (accepted n values weights places taken).good.lent in
      let near = kept_near n values weights lent.near lent.count k h in
      (near, λ e. let z : ⊥ = omega (arith, near, ap nat_abs e) in z)
