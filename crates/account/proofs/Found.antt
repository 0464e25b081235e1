-- What the judge of a job finds: the zones kept, which `keep` leaves at the front of a list, and the number of 3 to 7. Assumes nothing.
use mathlib.Core.Path.{◌≡◌, refl, sym, ap, ◌∙◌}
use mathlib.Core.Bool.{Bool}
use Rattle.std.proofs.Common.{Result, Ok, Err}
use mathlib.Core.List.{List, [], ◌∷◌}
use Prim.Native.Nat.{ℕ, ◌*◌, ◌≤◌}
use native.Mathlib.Omega.{arith}
use lib.Dec.{eqb}
use lib.IntN.{ℤ}
use lib.ListN.{length, get_or, take, drop}
use Rattle.whole.specs.Integer.{is_zero}
use Rattle.whole.specs.Rules.{first_broken}
use Rattle.whole.specs.Table.{at, over}
use Rattle.whole.proofs.Lists.{front, front_le}
use Rattle.whole.proofs.Rules.{first_here, first_next, worked_when_taken}
use Rattle.refusals.specs.declared.Refusal.{Refusal}
use Rattle.kept.specs.Kept.{kept_zones, kept_count, kept_values}
use Rattle.kept.specs.Returned.{reduced}
use Rattle.kept.specs.Answers.{many_in, keep_refusal, keep_many, keep_left}
use Rattle.kept.proofs.KeptZones.{zones_length}
use Rattle.kept.proofs.Sized.{let_in}
use Rattle.account.specs.Measures.{spread_of}
use Rattle.account.specs.Refusals.{list_rules, job_spread, sum_rules, job_rules}
use Rattle.account.specs.Steps.{Zones, gathered, Judged}
use Rattle.account.proofs.Accepted.{Lawful}
use Rattle.account.proofs.KeptJob.{six_by_kept}
use Rattle.account.proofs.KeptLists.{zones_are, values_gathered}

-- ---- the zones kept, at the front of a list
pub record Left (n : ℕ) (weights left : List ℕ) (many : ℕ) : Type 0 where
  pub zones : take many left ≡ kept_zones n weights
  pub room : many ≤ length left

-- what `keep` answers and leaves, where it is lent the weights of n zones and 64 places: it refuses nothing
module _
    (n : ℕ) (values : List ℤ) (weights lent : List ℕ) (two : 2 ≤ n) (most : n ≤ 64) (long : length values ≡ n)
    (fit : length weights ≡ n * n) (places : length lent ≡ 64) where
  taken : keep_refusal n values weights lent ≡ 0
  taken =
      let_in n (length values) (length weights) (length lent) 64
      (record { two = two; zones = most; values_fit = long; weights_fit = fit; lent_fit = places })

  module _ (r : Result ℕ Refusal) (e : many_in r ≡ keep_many n values weights lent) where
    counted : many_in r ≡ kept_count n (reduced n values weights) ∷ []
    unfolding keep_many
    counted = e ∙ worked_when_taken _ _ _ taken

    pub never_refused : (refusal : Refusal) → r ≡ Err refusal → ⊥
    unfolding many_in
    never_refused refusal q = let z : ◌≡◌ {A = ℕ} 0 1 = ap length (sym (ap many_in q) ∙ counted) in omega arith

    pub zones_left :
        (left : List ℕ) (many : ℕ) → left ≡ keep_left n values weights lent → r ≡ Ok many → Left n (reduced n values weights) left many
    unfolding many_in keep_left
    zones_left left many l q =
        let counting = reduced n values weights in
        let kept = kept_zones n counting in
        let same : many ≡ kept_count n counting = ap (λ (k : List ℕ). get_or k 0 0) (sym (ap many_in q) ∙ counted) in
        let all : left ≡ over kept lent = l ∙ worked_when_taken _ _ _ taken in
        let long = zones_length n counting ∙ sym same in record {
          zones = ap (take many) all ∙ front kept (drop (length kept) lent) kept many refl long;
          room = omega (arith, ap length all, front_le kept (drop (length kept) lent) kept many refl long);
        }

-- ---- 6 and 7, where it is known whether 6 is broken, of so many values
abbrev pub judged : Bool → List ℤ → ℕ → ℕ
judged six values many = first_broken ((six, 6) ∷ (is_zero (spread_of (at values) many), 7) ∷ [])

-- ---- 3 to 7, from 3, 4, 5 and from 6 and 7 of the zones kept
module _ (n : ℕ) (values : List ℤ) (weights : List ℕ) where
  pub by_lists :
      (r : ℕ) → r ≡ first_broken (list_rules n values weights) → (r ≡ 0 → ⊥) → r ≡ first_broken (job_rules n values weights)
  unfolding job_rules
  by_lists r e some = first_here (sum_rules n values weights) (list_rules n values weights) r e some

  abbrev counting : List ℕ
  counting = reduced n values weights

  module _ (good : Lawful n values weights) (zones : List ℕ) (e : zones ≡ kept_zones n counting) where
    -- what is known of the job and of them
    pub rise : Zones zones n
    rise = rw e (zones_are n counting good.lent.weighted.zones)

    -- what the judge of the sums answers
    sums_are : judged (eqb (length zones) 0) (gathered values zones) (length zones) ≡ first_broken (sum_rules n values weights)
    unfolding job_spread
    sums_are =
        let kept = kept_zones n counting in
        let many = kept_count n counting in
        let six_is = six_by_kept n values weights good.lent good.clear in
        ap (λ (k : List ℕ). judged (eqb (length k) 0) (gathered values k) (length k)) e
        ∙ ap (λ k. judged (eqb k 0) (gathered values kept) k) (zones_length n counting)
        ∙ ap (λ list. judged (eqb many 0) list many) (values_gathered n counting values)
        ∙ ap (λ six. judged six (kept_values n counting values) many) (sym six_is)

    pub by_sums :
        first_broken (list_rules n values weights) ≡ 0 → (r : ℕ) →
        r ≡ judged (eqb (length zones) 0) (gathered values zones) (length zones) → r ≡ first_broken (job_rules n values weights)
    unfolding job_rules
    by_sums none r q =
        q ∙ sums_are ∙ first_next (sum_rules n values weights) 0 (list_rules n values weights) (tt, (tt, (tt, tt))) none

-- ---- what is worked of a job that a judge hands on is worked of the job that it judged
pub as_judged :
    {n m : ℕ} {values x : List ℤ} {weights w : List ℕ} → Judged n values weights m x w → {B : Type 0} (f : ℕ → List ℤ → List ℕ → B) →
    {worked : B} → worked ≡ f m x w → worked ≡ f n values weights
as_judged j f told = rw (sym j.zones, sym j.of_values, sym j.of_weights) told
