-- Theorems of the join table: it adds up to W, and like and unlike joins are halves of it. Assumes nothing.
use mathlib.Core.Path.{◌≡◌, refl, sym, ap, ◌∙◌}
use mathlib.Core.Bool.{Bool, true, false, cond, ◌&&◌, ◌||◌, and_comm, or_comm}
use mathlib.Core.List.{List}
use Prim.Native.Nat.{ℕ, ◌+◌, ◌*◌, ◌≤◌, ◌<◌}
use native.Mathlib.Nat as N
use native.Mathlib.Omega.{arith}
use borrow.Author.Tests.{eqb-true}
use lib.Dec.{eqb}
use lib.IntN.{ℤ, pos, ◌+ℤ◌, ◌*ℤ◌}
use lib.ListN.{length}
use Rattle.whole.specs.Rules.{Applies}
use Rattle.whole.specs.Sum.{sum}
use Rattle.whole.specs.Table.{at, pair_at}
use Rattle.whole.proofs.Rules.{first_least, first_applies, kept_when_refused, worked_when_taken}
use Rattle.whole.proofs.Search.{none_above}
use Rattle.whole.proofs.Sum.{sum_cong, sum_+, sum_rows, pairs_twice}
use Rattle.whole.proofs.TableRows.{rows_at}
use Rattle.kept.specs.Returned.{missing_count, reduced}
use Rattle.kept.proofs.Reduced.{none_counted}
use Rattle.account.specs.Measures.{weight_of, pairs_of, row_of}
use Rattle.account.proofs.Adding.{counts_once, weight_parts}
use Rattle.account.specs.Answers.{job_row}
use Rattle.account.proofs.Theorems.{weight_of_all}
use Rattle.joins.specs.Joins.{weight_between, joins_of, like_joins, weight_across, unlike_joins}
use Rattle.joins.specs.Joins.{category_at, join_table, join_rules, join_refusal, joins_left}
use Rattle.joins.proofs.Accepted.{accepted}

-- ---- T adds up to W over all pairs of categories
module _ (f : ℕ → ℕ → ℕ) (c : ℕ → ℕ) (n : ℕ) (low : (i : ℕ) → i < n → c i < 8) where
  -- the weights from category r
  abbrev weight_from : ℕ → ℕ → ℕ → ℕ
  weight_from r i j = cond (eqb (c i) r) (f i j) 0

  -- where i is in r, the weight counts in the category of j alone
  by_second : (a b : Bool) (v : ℕ) → cond (a && b) v 0 ≡ cond b (cond a v 0) 0
  by_second true b v = refl
  by_second false true v = refl
  by_second false false v = refl

  row_adds_up : (r : ℕ) → sum (λ s. joins_of f c n r s) 8 ≡ weight_of (weight_from r) n
  unfolding joins_of weight_between
  row_adds_up r =
      weight_parts (λ s. weight_between f c r s) (weight_from r) 8 n
      (λ z i j p q. sum_cong _ _ 8 (λ s h. ap (λ v. pos v *ℤ z) (by_second (eqb (c i) r) (eqb (c j) s) (f i j)))
      ∙ counts_once (c j) (weight_from r i j) 8 z (low j q))

  pub joins_add_up : sum (λ r. sum (λ s. joins_of f c n r s) 8) 8 ≡ weight_of f n
  joins_add_up =
      sum_cong _ _ 8 (λ r h. row_adds_up r)
      ∙ weight_parts weight_from f 8 n (λ z i j p q. counts_once (c i) (f i j) 8 z (low i p))

-- ---- the sums of document 000's Appendix A: over the ordered pairs with both zones in r, which is T(r,r) as it stands, and over those
-- with one zone in r and the other in s
module _ (f : ℕ → ℕ → ℕ) (c : ℕ → ℕ) (n : ℕ) where
  -- W of any weights by its terms
  terms : (g : ℕ → ℕ → ℕ) → sum (λ i. sum (λ j. pos (g i j)) n) n ≡ weight_of g n
  unfolding weight_of pairs_of row_of
  terms g = sum_cong _ _ n (λ i p. sum_cong _ _ n (λ j q. ap pos (sym (N.mul-one (g i j)))))

  -- what counts from r to s
  abbrev counted : ℕ → ℕ → ℕ → ℕ → ℤ
  counted r s i j = pos (weight_between f c r s i j)

  pub across_is_both : (r s : ℕ) → (r ≡ s → ⊥) → weight_of (weight_across f c r s) n ≡ joins_of f c n r s +ℤ joins_of f c n s r
  unfolding joins_of weight_across weight_between
  across_is_both r s apart =
      sym (terms (weight_across f c r s))
      ∙ sum_cong _ _ n (λ i p. sum_cong _ _ n (λ j q. ap pos (one_way (c i) (c j) (f i j))) ∙ sum_+ (counted r s i) (counted s r i) n)
      ∙ sum_+ (λ i. sum (counted r s i) n) (λ i. sum (counted s r i) n) n
      ∙ cc (terms (weight_between f c r s), terms (weight_between f c s r))
    where
      -- a pair lies one way or the other
      one_way :
          (a b v : ℕ) →
          cond ((eqb a r && eqb b s) || (eqb a s && eqb b r)) v 0 ≡ cond (eqb a r && eqb b s) v 0 + cond (eqb a s && eqb b r) v 0
      one_way a b v = go (eqb a r) refl (eqb a s) refl (eqb b r) (eqb b s)
        where
          go :
              (p : Bool) → eqb a r ≡ p → (q : Bool) → eqb a s ≡ q → (t u : Bool) →
              cond ((p && u) || (q && t)) v 0 ≡ cond (p && u) v 0 + cond (q && t) v 0
          go true e true g t u = absurd (apart (sym (eqb-true a r e) ∙ eqb-true a s g))
          go true e false g t true = sym (N.add-zero v)
          go true e false g t false = refl
          go false e true g true u = sym (N.zero-add v)
          go false e true g false u = refl
          go false e false g t u = refl

  -- ---- like and unlike joins, where the weights are the same both ways and 0 on the diagonal
  module _ (both_ways : (i j : ℕ) → i < n → j < n → f i j ≡ f j i) (diagonal : (i : ℕ) → i < n → f i i ≡ 0) where
    -- nothing counts, whether the test passes or not
    none : (b : Bool) → cond {A = ℕ} b 0 0 ≡ 0
    none true = refl
    none false = refl

    -- twice the like joins of r are T(r,r)
    pub like_doubled : (r : ℕ) → like_joins f c n r +ℤ like_joins f c n r ≡ joins_of f c n r r
    unfolding like_joins joins_of weight_between
    like_doubled r =
        pairs_twice (counted r r) n
        (λ i j p q. ap pos (rw (and_comm (eqb (c i) r) (eqb (c j) r), both_ways i j p q) refl))
        (λ i p. ap pos (rw (diagonal i p) (none (eqb (c i) r && eqb (c i) r))))
        ∙ terms (weight_between f c r r)

    -- twice the unlike joins of r and s are T(r,s) + T(s,r)
    pub unlike_doubled :
        (r s : ℕ) → (r ≡ s → ⊥) → unlike_joins f c n r s +ℤ unlike_joins f c n r s ≡ joins_of f c n r s +ℤ joins_of f c n s r
    unfolding unlike_joins weight_across
    unlike_doubled r s apart =
        pairs_twice (λ i j. pos (weight_across f c r s i j)) n
        (λ i j p q. ap pos (turned (c i) (c j) (f i j) (f j i) (both_ways i j p q)))
        (λ i p. ap pos (rw (diagonal i p) (none ((eqb (c i) r && eqb (c i) s) || (eqb (c i) s && eqb (c i) r)))))
        ∙ terms (weight_across f c r s)
        ∙ across_is_both r s apart
      where
        -- the test is the same both ways
        turned :
            (a b v w : ℕ) → v ≡ w →
            cond ((eqb a r && eqb b s) || (eqb a s && eqb b r)) v 0 ≡ cond ((eqb b r && eqb a s) || (eqb b s && eqb a r)) w 0
        turned a b v w e =
            rw (e, or_comm (eqb a r && eqb b s) (eqb a s && eqb b r), and_comm (eqb a s) (eqb b r), and_comm (eqb a r) (eqb b s)) refl

-- ---- the table by its places
pub join_table_at :
    (n : ℕ) (categories weights : List ℕ) (r s : ℕ) → r < 8 → s < 8 →
    at (join_table n categories weights) (r * 8 + s) ≡ joins_of (pair_at weights n) (category_at categories) n r s
unfolding join_table
join_table_at n categories weights r s h k = rows_at (joins_of (pair_at weights n) (category_at categories) n) 8 8 r s (pos 0) h k

-- where nothing is refused, what the lent list holds adds up to the W of the weights that count
pub joins_left_add_up :
    (n : ℕ) (values : List ℤ) (categories weights : List ℕ) (room : ℕ) → join_refusal n values categories weights room ≡ 0 →
    sum (at (join_table n categories (reduced n values weights))) 64 ≡ weight_of (pair_at (reduced n values weights) n) n
joins_left_add_up n values categories weights room e =
    let g = accepted n values categories weights room e in
    let w = reduced n values weights in
    let f = pair_at w n in
    let c = category_at categories in
    sum_rows (at (join_table n categories w)) 8 8
    ∙ sum_cong _ _ 8 (λ r h. sum_cong _ _ 8 (λ s k. join_table_at n categories w r s h k))
    ∙ joins_add_up f c n (λ i p. let z = none_above 7 categories g.low i (omega (arith, g.categories_fit)) in omega arith)

-- and to the W that the account answers of a job with these values and weights, which is taken over the zones kept: a zone left out has no
-- weight that counts
pub joins_of_job :
    (n : ℕ) (values : List ℤ) (categories weights : List ℕ) (room : ℕ) → join_refusal n values categories weights room ≡ 0 →
    sum (at (join_table n categories (reduced n values weights))) 64 ≡ (job_row n values weights).weight
joins_of_job n values categories weights room e =
    joins_left_add_up n values categories weights room e ∙ sym (weight_of_all n values weights)

-- ---- what the call leaves in the lent list
module _
    (n : ℕ) (values : List ℤ) (categories weights : List ℕ) (lent left : List ℤ) (e : left ≡ joins_left n values categories weights lent) where
  pub table_left :
      join_refusal n values categories weights (length lent) ≡ 0 → left ≡ join_table n categories (reduced n values weights)
  unfolding joins_left
  table_left z = e ∙ worked_when_taken _ _ _ z

  pub table_leaves : (join_refusal n values categories weights (length lent) ≡ 0 → ⊥) → left ≡ lent
  unfolding joins_left
  table_leaves f = e ∙ kept_when_refused _ _ _ f

-- ---- the refusal is the least number that applies
pub join_refusal_least :
    (n : ℕ) (values : List ℤ) (categories weights : List ℕ) (room number : ℕ) →
    Applies number (join_rules n values categories weights room) → join_refusal n values categories weights room ≤ number
unfolding join_refusal join_rules
join_refusal_least n values categories weights room number =
    first_least 0 number (join_rules n values categories weights room) (tt, (tt, (tt, (tt, (tt, (tt, tt))))))

pub join_refusal_applies :
    (n : ℕ) (values : List ℤ) (categories weights : List ℕ) (room : ℕ) → (join_refusal n values categories weights room ≡ 0 → ⊥) →
    Applies (join_refusal n values categories weights room) (join_rules n values categories weights room)
unfolding join_refusal
join_refusal_applies n values categories weights room f = first_applies (join_rules n values categories weights room) f

-- ---- where every value is returned the table is that of the weights lent
pub joins_returned :
    (n : ℕ) (values : List ℤ) (categories weights : List ℕ) → missing_count values ≡ 0 → length values ≡ n → length weights ≡ n * n →
    join_table n categories (reduced n values weights) ≡ join_table n categories weights
joins_returned n values categories weights none v w = ap (join_table n categories) (none_counted n values weights 0 (sym none) (omega arith) v w)
