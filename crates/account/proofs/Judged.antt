-- A judge of a call on a job that looks at the sizes first, then at the job, then at the rest: which of its numbers is the call's.
-- Assumes nothing.
use mathlib.Core.Path.{◌≡◌, ◌∙◌}
use mathlib.Core.List.{List, ◌++◌}
use Prim.Native.Nat.{ℕ}
use lib.IntN.{ℤ}
use lib.ListN.{length}
use Rattle.whole.specs.Rules.{Rule, first_broken, size_rules}
use Rattle.whole.proofs.Rules.{first_here, first_next}
use Rattle.account.specs.Refusals.{job_rules, job_lengths, call_rules}

module _ (n : ℕ) (values : List ℤ) (weights : List ℕ) (lent : List (ℕ × ℕ)) (besides : List Rule) where
  -- the first two rules
  abbrev pub sizes_of : List Rule
  sizes_of = size_rules n (job_lengths n (length values) (length weights) lent)

  module _ (r : ℕ) where
    pub by_sizes : r ≡ first_broken sizes_of → (r ≡ 0 → ⊥) → r ≡ first_broken (call_rules n values weights lent besides)
    unfolding call_rules
    by_sizes e some = first_here (job_rules n values weights ++ besides) sizes_of r e some

    module _ (sizes_good : first_broken sizes_of ≡ 0) where
      then_job : r ≡ first_broken (job_rules n values weights ++ besides) → r ≡ first_broken (call_rules n values weights lent besides)
      unfolding call_rules
      then_job e = e ∙ first_next (job_rules n values weights ++ besides) 0 sizes_of (tt, (tt, tt)) sizes_good

      pub by_job :
          r ≡ first_broken (job_rules n values weights) → (r ≡ 0 → ⊥) → r ≡ first_broken (call_rules n values weights lent besides)
      by_job e some = then_job (first_here besides (job_rules n values weights) r e some)

      pub by_rest :
          first_broken (job_rules n values weights) ≡ 0 → r ≡ first_broken besides →
          r ≡ first_broken (call_rules n values weights lent besides)
      unfolding job_rules
      by_rest job_good e =
          then_job (e ∙ first_next besides 0 (job_rules n values weights) (tt, (tt, (tt, (tt, (tt, tt))))) job_good)
