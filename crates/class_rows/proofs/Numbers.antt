-- The number of a call that is lent nine rows: by its sizes, and by the class account, which is lent the 27 sums. Assumes nothing.
use mathlib.Core.Path.{◌≡◌, refl, sym}
use mathlib.Core.Bool.{Bool, true, false, not, ◌||◌, true≢false}
use mathlib.Core.List.{List, [], ◌∷◌, ◌++◌}
use Prim.Native.Nat.{ℕ, ◌*◌, ◌≤◌}
use borrow.Author.Tests.{eq-eqb}
use lib.Dec.{eqb}
use lib.IntN.{ℤ}
use lib.ListN.{length}
use Rattle.whole.specs.Rules.{first_broken, size_rules}
use Rattle.whole.specs.Search.{any_above}
use Rattle.whole.proofs.Rules.{beside, fits, sizes_hold, sizes_first}
use Rattle.account.specs.Refusals.{job_rules, job_lengths, call_rules}
use Rattle.account.specs.Classes.{class_rules, class_refusal}
use Rattle.class_rows.specs.ClassRows.{rows_refusal}

-- of five tests, some are passed where some of these three are
more : (a b c d e : Bool) → (a || (b || (d || false))) ≡ true → (a || (b || (c || (d || e)))) ≡ true
more true b c d e p = refl
more false true c d e p = refl
more false false c true e p = beside c true refl
more false false c false e p = absurd (true≢false (sym p))

-- the lengths that are judged first
abbrev pub sized : ℕ → List ℤ → List ℕ → ℕ → List (ℕ × ℕ)
sized n values weights rows = job_lengths n (length values) (length weights) ((rows, 9) ∷ [])

-- where they give no number, there are at most 64 zones, and nine rows are lent
pub sizes_fit :
    (n : ℕ) (values : List ℤ) (weights : List ℕ) (rows : ℕ) → first_broken (size_rules n (sized n values weights rows)) ≡ 0 →
    (n ≤ 64) × (rows ≡ 9)
sizes_fit n values weights rows e =
    let all = sizes_hold n (sized n values weights rows) e in
    let after_values = (fits (length values) n ((length weights, n * n) ∷ (rows, 9) ∷ []) all.fitting).1 in
    (all.zones, (fits rows 9 [] (fits (length weights) (n * n) ((rows, 9) ∷ []) after_values).1).0)

module _ (n : ℕ) (values : List ℤ) (weights classes : List ℕ) (rows : ℕ) where
  -- a number that the lengths give is the call's
  pub by_sizes :
      (locals r : ℕ) → r ≡ first_broken (size_rules n (sized n values weights rows)) → (r ≡ 0 → ⊥) →
      r ≡ rows_refusal n values weights classes rows locals
  unfolding rows_refusal class_rules call_rules
  by_sizes locals r e f =
      let all = job_lengths n (length values) (length weights) ((length classes, n * n) ∷ (rows, 9) ∷ (locals, 9 * n) ∷ []) in
      sizes_first n (sized n values weights rows) all (job_rules n values weights ++ ((any_above 8 classes, 9) ∷ [])) r
      (more (not (eqb (length values) n)) (not (eqb (length weights) (n * n))) (not (eqb (length classes) (n * n))) (not (eqb rows 9)) _)
      e
      f

  -- where nine rows are lent, the call has the class account's number, which is lent 27 sums and a place for each zone
  pub by_account :
      (sums locals own : List ℤ) → length sums ≡ 27 → length own ≡ n → rows ≡ 9 →
      class_refusal n values weights classes sums locals own ≡ rows_refusal n values weights classes rows (length locals)
  unfolding class_refusal rows_refusal class_rules call_rules
  by_account sums locals own s o e = rw (eq-eqb (length sums) 27 s, eq-eqb (length own) n o, eq-eqb rows 9 e) refl
