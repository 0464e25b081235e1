-- Numbers counted by how they compare with one of their kind: those of the first r that pass a test, one number more, and the sum of the
-- counts. Assumes nothing.
use mathlib.Core.Path.{◌≡◌, refl, sym, ap, ◌∙◌}
use mathlib.Core.Bool.{Bool, true, false, cond, ◌&&◌}
use mathlib.Core.List.{List}
use Prim.Native.Nat.{ℕ, ◌+◌, ◌≤◌, ◌<◌}
use native.Mathlib.Decide.{ℕ_discrete}
use native.Mathlib.Omega.{arith}
use borrow.Author.Tests.{eq-eqb, ne_eqb}
use lib.IntN.{ℤ}
use lib.ListN.{length, get_or, set, replicate, length-set, length-replicate, get_or-replicate}
use lib.Seq.{get_or-set_same, get_or-set_other}
use lib.Signed.{lt_z}
use Rattle.std.specs.Ordering.{int_cmp}
use Rattle.std.proofs.Common.{Ordering, Less, Equal, Greater}
use Rattle.whole.specs.Integer.{equal}
use Rattle.whole.specs.Search.{count}
use Rattle.whole.proofs.Compare.{less_unequal, more_unequal, less_only, else_equal}
use Rattle.whole.proofs.Counting.{count_zero, count_yes, count_no, count_le, count_cong, count_three}
use Rattle.whole.proofs.Rules.{second_fails}
use Rattle.account.specs.Rank.{compared_of, of_desk, three, no_counts, four, twelve}
use Rattle.account.specs.Steps.{more}
use Rattle.account.specs.declared.Counts.{Counts}

-- ---- what the order of two numbers says of the two tests that it is made of
module _ (x y : ℤ) where
  is_less : int_cmp x y ≡ Less → lt_z x y ≡ true
  is_less e = go (lt_z x y) (lt_z y x) e
    where
      go : (a b : Bool) → cond a Less (cond b Greater Equal) ≡ Less → a ≡ true
      go true b e = refl
      go false true e = cc
      go false false e = cc

  is_greater : int_cmp x y ≡ Greater → lt_z y x ≡ true
  is_greater e = go (lt_z x y) (lt_z y x) e
    where
      go : (a b : Bool) → cond a Less (cond b Greater Equal) ≡ Greater → b ≡ true
      go true b e = cc
      go false true e = refl
      go false false e = cc

  is_equal : int_cmp x y ≡ Equal → (lt_z x y ≡ false) × (lt_z y x ≡ false)
  is_equal e = go (lt_z x y) (lt_z y x) e
    where
      go : (a b : Bool) → cond a Less (cond b Greater Equal) ≡ Equal → (a ≡ false) × (b ≡ false)
      go true b e = cc
      go false true e = cc
      go false false e = (refl, refl)

-- ---- the counts of those that pass among the first r numbers
pub record Tallied (test : ℕ → Bool) (numbers : ℕ → ℤ) (own : ℤ) (counts : Counts) (r : ℕ) : Type 0 where
  pub lower : counts.less ≡ count (λ k. test k && lt_z (numbers k) own) r
  pub level : counts.equal ≡ count (λ k. test k && equal (numbers k) own) r
  pub higher : counts.greater ≡ count (λ k. test k && lt_z own (numbers k)) r

module _ (test : ℕ → Bool) (numbers : ℕ → ℤ) (own : ℤ) where
  -- the three tests of those that pass
  abbrev less_too : ℕ → Bool
  less_too k = test k && lt_z (numbers k) own

  abbrev equal_too : ℕ → Bool
  equal_too k = test k && equal (numbers k) own

  abbrev greater_too : ℕ → Bool
  greater_too k = test k && lt_z own (numbers k)

  none_yet : Tallied test numbers own no_counts 0
  none_yet = record { lower = sym (count_zero less_too); level = sym (count_zero equal_too); higher = sym (count_zero greater_too) }

  module _ {counts : Counts} {r : ℕ} (t : Tallied test numbers own counts r) where
    -- one number more, which does not pass
    passed_by : test r ≡ false → Tallied test numbers own counts (r + 1)
    passed_by e = record {
      lower = count_no less_too r counts.less t.lower (rw e refl);
      level = count_no equal_too r counts.equal t.level (rw e refl);
      higher = count_no greater_too r counts.greater t.higher (rw e refl);
    }

    -- and one that does
    module _ (e : test r ≡ true) where
      one_less : lt_z (numbers r) own ≡ true → Tallied test numbers own (more counts Less) (r + 1)
      one_less f = record {
        lower = count_yes less_too r counts.less t.lower (rw (e, f) refl);
        level = count_no equal_too r counts.equal t.level (second_fails _ _ (less_unequal (numbers r) own f));
        higher = count_no greater_too r counts.greater t.higher (second_fails _ _ (less_only (numbers r) own f));
      }

      one_greater : lt_z own (numbers r) ≡ true → Tallied test numbers own (more counts Greater) (r + 1)
      one_greater f = record {
        lower = count_no less_too r counts.less t.lower (second_fails _ _ (less_only own (numbers r) f));
        level = count_no equal_too r counts.equal t.level (second_fails _ _ (more_unequal (numbers r) own f));
        higher = count_yes greater_too r counts.greater t.higher (rw (e, f) refl);
      }

      one_equal : (lt_z (numbers r) own ≡ false) × (lt_z own (numbers r) ≡ false) → Tallied test numbers own (more counts Equal) (r + 1)
      one_equal f = record {
        lower = count_no less_too r counts.less t.lower (second_fails _ _ f.0);
        level = count_yes equal_too r counts.equal t.level (rw (e, else_equal (numbers r) own f.0 f.1) refl);
        higher = count_no greater_too r counts.greater t.higher (second_fails _ _ f.1);
      }

      one_more : (order : Ordering) → int_cmp (numbers r) own ≡ order → Tallied test numbers own (more counts order) (r + 1)
      one_more Less f = one_less (is_less (numbers r) own f)
      one_more Equal f = one_equal (is_equal (numbers r) own f)
      one_more Greater f = one_greater (is_greater (numbers r) own f)

    -- no count exceeds what was counted
    no_more : (counts.less ≤ r) × (counts.equal ≤ r) × (counts.greater ≤ r)
    no_more = (
      omega (arith, t.lower, count_le less_too r),
      omega (arith, t.level, count_le equal_too r),
      omega (arith, t.higher, count_le greater_too r),
    )

    tallied : three counts ≡ compared_of test numbers own r
    unfolding compared_of
    tallied = rw (t.lower, t.level, t.higher) refl

-- ---- the counts of the four desks, of the first r shuffles with these numbers
pub record AllTallied (desks : List ℕ) (numbers : ℕ → ℤ) (own : ℤ) (counts : List Counts) (r : ℕ) : Type 0 where
  pub long : length counts ≡ 4
  pub each : (k : ℕ) → k < 4 → Tallied (of_desk desks k) numbers own (get_or counts k no_counts) r

-- what holds for each desk holds of the four together
pub four_cong : (a b : ℕ → List ℕ) → ((k : ℕ) → k < 4 → a k ≡ b k) → four a ≡ four b
four_cong a b h = rw (h 0 (omega arith), h 1 (omega arith), h 2 (omega arith), h 3 (omega arith)) refl

module _ (desks : List ℕ) (numbers : ℕ → ℤ) (own : ℤ) where
  pub all_none_yet : (counts : List Counts) → counts ≡ replicate 4 no_counts → AllTallied desks numbers own counts 0
  all_none_yet counts e =
      rw e record {
        long = length-replicate 4 no_counts;
        each = λ k h. rw (get_or-replicate 4 k no_counts no_counts h) (none_yet (of_desk desks k) numbers own);
      }

  module _ {counts : List Counts} {r : ℕ} (t : AllTallied desks numbers own counts r) where
    pub all_no_more :
        (k : ℕ) → k < 4 →
        let c = get_or counts k no_counts in
        (c.less ≤ r) × (c.equal ≤ r) × (c.greater ≤ r)
    all_no_more k h = no_more (of_desk desks k) numbers own (t.each k h)

    pub all_tallied : twelve counts ≡ four (λ k. compared_of (of_desk desks k) numbers own r)
    all_tallied = four_cong _ _ (λ k h. tallied (of_desk desks k) numbers own (t.each k h))

    -- one shuffle more, of the desk that it names
    module _ (desk : ℕ) (order : Ordering) (low : desk < 4) (named : get_or desks r 0 ≡ desk) (told : int_cmp (numbers r) own ≡ order) where
      pub all_one_more : AllTallied desks numbers own (set counts desk (more (get_or counts desk no_counts) order)) (r + 1)
      all_one_more = record {
        long = length-set counts desk _ ∙ t.long;
        each = λ k h. pick k h (ℕ_discrete desk k);
      }
        where
          new : List Counts
          new = set counts desk (more (get_or counts desk no_counts) order)

          pick : (k : ℕ) → k < 4 → Dec (desk ≡ k) → Tallied (of_desk desks k) numbers own (get_or new k no_counts) (r + 1)
          pick k h (yes e) =
              rw (← e, get_or-set_same counts desk (more (get_or counts desk no_counts) order) no_counts (omega (arith, t.long)))
              (one_more (of_desk desks desk) numbers own (t.each desk low) (eq-eqb _ _ named) order told)
          pick k h (no e) =
              rw (get_or-set_other counts desk k (more (get_or counts desk no_counts) order) no_counts (λ f. e (sym f)))
              (passed_by (of_desk desks k) numbers own (t.each k h) (ne_eqb _ _ (λ f. e (sym named ∙ f))))

-- ---- each number is counted once
module _ (numbers : ℕ → ℤ) (own : ℤ) where
  abbrev is_below : ℕ → Bool
  is_below k = lt_z (numbers k) own

  abbrev is_level : ℕ → Bool
  is_level k = equal (numbers k) own

  abbrev is_above : ℕ → Bool
  is_above k = lt_z own (numbers k)

  once : (k : ℕ) → cond (is_below k) 1 0 + cond (is_level k) 1 0 + cond (is_above k) 1 0 ≡ 1
  once k = go (is_below k) (is_above k) refl refl
    where
      go : (a b : Bool) → is_below k ≡ a → is_above k ≡ b → cond (is_below k) 1 0 + cond (is_level k) 1 0 + cond (is_above k) 1 0 ≡ 1
      go true b p q = rw (p, less_unequal (numbers k) own p, less_only (numbers k) own p) refl
      go false true p q = rw (p, more_unequal (numbers k) own q, q) refl
      go false false p q = rw (p, else_equal (numbers k) own p q, q) refl

  pub all_counted : (r : ℕ) → count is_below r + count is_level r + count is_above r ≡ r
  all_counted r = count_three is_below is_level is_above r (λ k p. once k)

-- numbers that agree have the same counts
pub compared_cong :
    (test : ℕ → Bool) (a b : ℕ → ℤ) (own other : ℤ) (r : ℕ) → ((k : ℕ) → k < r → a k ≡ b k) → own ≡ other →
    compared_of test a own r ≡ compared_of test b other r
unfolding compared_of
compared_cong test a b own other r h e =
    let less = count_cong (less_too test a own) (less_too test b own) r (λ k p. ap (λ z. test k && lt_z z own) (h k p)) in
    let level = count_cong (equal_too test a own) (equal_too test b own) r (λ k p. ap (λ z. test k && equal z own) (h k p)) in
    let greater = count_cong (greater_too test a own) (greater_too test b own) r (λ k p. ap (λ z. test k && lt_z own z) (h k p)) in
    rw (← e, less, level, greater) refl
