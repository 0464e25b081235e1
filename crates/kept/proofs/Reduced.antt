-- Laws of values not returned: the weights that count are no larger than those that are lent, and the same where every value is
-- returned; a zone whose value is not returned is not kept, so that the values of the kept zones are within the limit and the weights
-- between them are those that are lent. Assumes nothing.
use mathlib.Core.Path.{◌≡◌, refl, sym, ap, ◌∙◌}
use mathlib.Core.Bool.{Bool, true, false, not, cond, ◌&&◌, ◌||◌, false≢true}
use mathlib.Core.List.{List}
use Prim.Native.Nat.{ℕ, zero, suc, ◌+◌, ◌*◌, ◌/◌, ◌%◌, ◌≤◌, ◌<◌}
use native.Mathlib.Omega.{arith}
use borrow.Author.Tests.{ltb-false, le-ltb}
use lib.Dec.{ltb}
use lib.IntN.{ℤ, nat_abs}
use lib.ListN.{length, get_or}
use Rattle.whole.specs.Integer.{beyond}
use Rattle.whole.specs.Search.{some, count, any_beyond, any_above, any_on_diagonal}
use Rattle.whole.specs.Table.{at, pair_at}
use Rattle.whole.proofs.Lists as lists
use Rattle.whole.proofs.Search.{some_none, none_some, none_above, some_cong}
use Rattle.whole.proofs.Counting.{count_le, count_less}
use Rattle.whole.proofs.TableRows.{split, rows_length, rows_at, rows_each, rows_flat, rows_cong}
use Rattle.kept.specs.Kept.{keeps, kept_count, kept_zone, kept_values, kept_pairs}
use Rattle.judges.specs.Values.{missing, any_value_beyond}
use Rattle.kept.specs.Returned.{missing_count, reduced}
use Rattle.kept.proofs.KeptZones.{zone_stands, values_at, keeps_all}

-- ---- how many are missing

-- none is counted where none is met, and none is met where none is counted
none_count : (test : ℕ → Bool) (n : ℕ) → ((i : ℕ) → i < n → test i ≡ false) → count test n ≡ 0
unfolding count
none_count test zero h = refl
none_count test (suc n) h = rw (none_count test n (λ i p. h i (omega arith)), h n (omega arith)) refl

count_none : (test : ℕ → Bool) (n : ℕ) → count test n ≡ 0 → (i : ℕ) → i < n → test i ≡ false
count_none test n e i h = go (test i) refl
  where
    go : (b : Bool) → test i ≡ b → b ≡ false
    go false p = refl
    go true p =
        let more = count_less (λ j. false) test n i (λ j q (r : false ≡ true). absurd (false≢true r)) h refl p in
        let z : ⊥ = omega (arith, more, e) in absurd z

module _ (values : List ℤ) where
  pub none_missing : missing_count values ≡ 0 → (i : ℕ) → i < length values → missing values i ≡ false
  unfolding missing_count
  none_missing e = count_none (missing values) (length values) e

  pub missing_none : ((i : ℕ) → i < length values → missing values i ≡ false) → missing_count values ≡ 0
  unfolding missing_count
  missing_none h = none_count (missing values) (length values) h

  -- no more are than there are values
  pub missing_few : missing_count values ≤ length values
  unfolding missing_count
  missing_few = count_le (missing values) (length values)

  -- ---- rule 3 where it holds: a value that is returned is within the limit
  within : (b : Bool) {c : Bool} → c ≡ false → (not c && b) ≡ false → b ≡ false
  within b e f = sym (rw e refl) ∙ f

  pub returned_near :
      any_value_beyond values ≡ false → (i : ℕ) → i < length values → missing values i ≡ false → nat_abs (at values i) ≤ 100000
  unfolding any_value_beyond
  returned_near e i h r =
      let right = some_none (λ k. not (missing values k) && beyond 100000 (at values k)) (length values) i e h in
      ltb-false 100000 (nat_abs (at values i)) (within (beyond 100000 (at values i)) r right)

  -- where every value is returned, it is document 01's
  pub same_limit :
      ((i : ℕ) → i < length values → missing values i ≡ false) → any_value_beyond values ≡ any_beyond 100000 values
  unfolding any_value_beyond any_beyond
  same_limit none = some_cong _ _ (length values) (λ k h. rw (none k h) refl)

-- ---- the weights that count
module _ (n : ℕ) (values : List ℤ) (weights : List ℕ) where
  abbrev r : List ℕ
  r = reduced n values weights

  -- the weight that counts of a pair
  abbrev counts : ℕ → ℕ → ℕ
  counts i j = cond (missing values i || missing values j) 0 (pair_at weights n i j)

  pub reduced_length : length r ≡ n * n
  unfolding reduced
  reduced_length = rows_length counts n n

  pub reduced_at : (i j : ℕ) → i < n → j < n → pair_at r n i j ≡ counts i j
  unfolding reduced pair_at
  reduced_at i j p q =
      rows_at (λ i j. cond (missing values i || missing values j) 0 (get_or weights (i * n + j) 0)) n n i j 0 p q

  -- no larger than what is lent
  no_more : (b : Bool) (k : ℕ) → cond b 0 k ≤ k
  no_more true k = omega arith
  no_more false k = omega arith

  pub reduced_le : (i j : ℕ) → i < n → j < n → pair_at r n i j ≤ pair_at weights n i j
  reduced_le i j p q = omega (arith, reduced_at i j p q, no_more (missing values i || missing values j) (pair_at weights n i j))

  -- so at every place what is lent bounds them, and the diagonal is clear where it was
  pub reduced_light : (b : ℕ) → ((i j : ℕ) → i < n → j < n → pair_at weights n i j ≤ b) → (t : ℕ) → t < n * n → get_or r t 0 ≤ b
  unfolding reduced
  reduced_light b light =
      rows_each counts (λ v. v ≤ b) n n 0
      (λ i j p q. omega (arith, no_more (missing values i || missing values j) (pair_at weights n i j), light i j p q))

  pub reduced_above : (b : ℕ) → length weights ≡ n * n → any_above b weights ≡ false → any_above b r ≡ false
  unfolding any_above pair_at
  reduced_above b fit e =
      none_some (λ k. ltb b (get_or r k 0)) (length r)
      (λ t h.
      le-ltb b (get_or r t 0)
      (reduced_light b (λ i j p q. none_above b weights e (i * n + j) (omega (arith, lists.within n i j p q, fit))) t (omega (arith, h, reduced_length))))

  pub reduced_clear : any_on_diagonal n weights ≡ false → any_on_diagonal n r ≡ false
  unfolding any_on_diagonal
  reduced_clear e =
      none_some (λ i. ltb 0 (pair_at r n i i)) n
      (λ i h.
      let lent = ltb-false 0 (pair_at weights n i i) (some_none (λ i. ltb 0 (pair_at weights n i i)) n i e h) in
      le-ltb 0 (pair_at r n i i) (omega (arith, lent, reduced_le i i h h)))

  -- ---- nothing of a zone whose value is not returned
  pub reduced_none : (i j : ℕ) → i < n → j < n → missing values i ≡ true → (pair_at r n i j ≡ 0) × (pair_at r n j i ≡ 0)
  reduced_none i j p q e =
      (reduced_at i j p q ∙ rw e refl, reduced_at j i q p ∙ rw e (go (missing values j) (pair_at weights n j i)))
    where
      go : (b : Bool) (k : ℕ) → cond (b || true) 0 k ≡ 0
      go true k = refl
      go false k = refl

  pub never_kept : (i : ℕ) → i < n → missing values i ≡ true → keeps n r i ≡ false
  unfolding keeps
  never_kept i p e =
      none_some (λ j. ltb 0 (pair_at r n i j) || ltb 0 (pair_at r n j i)) n
      (λ j q. let z = reduced_none i j p q e in rw (z.0, z.1) refl)

  -- ---- so the value of a kept zone is returned
  pub kept_returned : (i : ℕ) → i < n → keeps n r i ≡ true → missing values i ≡ false
  kept_returned i h k = go (missing values i) refl
    where
      go : (b : Bool) → missing values i ≡ b → b ≡ false
      go true e = absurd (false≢true (sym (never_kept i h e) ∙ k))
      go false e = refl

  -- and within the limit, where 3 holds
  pub kept_near :
      any_value_beyond values ≡ false → length values ≡ n → (k : ℕ) → k < kept_count n r → nat_abs (at (kept_values n r values) k) ≤ 100000
  kept_near e l k h =
      let s = zone_stands n r k h in
      let i = kept_zone n r k in
      rw (values_at n r values k h) (returned_near values e i (omega (arith, s.below, l)) (kept_returned i s.below s.passes))

  -- the weights between the kept zones are those that are lent
  pub kept_reduced : kept_pairs n r weights ≡ kept_pairs n r r
  unfolding kept_pairs
  kept_reduced =
      rows_cong _ _ (kept_count n r) (kept_count n r) 0
      (λ a b p q.
      let s = zone_stands n r a p in
      let t = zone_stands n r b q in
      sym
      (reduced_at (kept_zone n r a) (kept_zone n r b) s.below t.below
      ∙ rw (kept_returned (kept_zone n r a) s.below s.passes, kept_returned (kept_zone n r b) t.below t.passes) refl))

  -- ---- where every value is returned, the weights that count are those that are lent
  pub all_returned : ((i : ℕ) → i < n → missing values i ≡ false) → length weights ≡ n * n → r ≡ weights
  unfolding reduced pair_at
  all_returned none l =
      sym
      (rows_flat (λ i j. cond (missing values i || missing values j) 0 (get_or weights (i * n + j) 0)) n n 0 weights l
      (λ p h.
      let s = split n n p h in
      ap (λ t. get_or weights t 0) (sym s.whole) ∙ sym (rw (none (p / n) s.row, none (p % n) s.column) refl)))

  -- as where none is found that is not
  pub none_found : some (missing values) (length values) ≡ false → length values ≡ n → length weights ≡ n * n → r ≡ weights
  none_found e l m = all_returned (λ i p. some_none (missing values) (length values) i e (omega (arith, p, l))) m

  -- or none counted
  pub none_counted :
      (many : ℕ) → many ≡ missing_count values → many ≤ 0 → length values ≡ n → length weights ≡ n * n → r ≡ weights
  none_counted many e h l m = all_returned (λ i p. none_missing values (omega (arith, e, h)) i (omega (arith, p, l))) m

  -- and every value is, where every zone is kept
  pub kept_all_returned : kept_count n r ≡ n → (i : ℕ) → i < n → missing values i ≡ false
  kept_all_returned all i h = kept_returned i h (keeps_all n r all i h)
