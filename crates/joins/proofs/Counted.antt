-- Counting the joins of a flat list of weights: what each entry of the table holds after the first p weights, and that after all of them it
-- holds T. Assumes nothing.
use mathlib.Core.Path.{◌≡◌, refl, sym, ap, ◌∙◌}
use mathlib.Core.Bool.{Bool, true, false, cond, ◌&&◌}
use mathlib.Core.List.{List}
use Prim.Native.Nat.{ℕ, ◌+◌, ◌*◌, ◌/◌, ◌%◌, ◌≤◌, ◌<◌}
use native.Mathlib.Nat as N
use native.Mathlib.Decide.{ℕ_discrete}
use native.Mathlib.Omega.{arith}
use borrow.Author.Tests.{eq-eqb, ne_eqb}
use lib.Arith.{digits_div, digits_mod}
use lib.Dec.{eqb}
use lib.IntN.{ℤ, pos, nat_abs, ◌+ℤ◌, ◌*ℤ◌, +ℤ_idr}
use lib.ListN.{length, get_or, set, replicate, length-set}
use lib.Seq.{get_or-set_same, get_or-set_other}
use Rattle.std.proofs.lemmas.List.{length-replicate, get_or-replicate}
use Rattle.whole.specs.Search.{any_above}
use Rattle.whole.specs.Sum.{sum}
use Rattle.whole.specs.Table.{at, pair_at}
use Rattle.whole.proofs.Lists.{few}
use Rattle.whole.proofs.Search.{none_above}
use Rattle.whole.proofs.Sum.{sum_zero, sum_more, sum_cong, sum_rows}
use Rattle.whole.proofs.SumSize.{sum_size}
use Rattle.whole.proofs.TableRows.{split, rows_flat}
use Rattle.account.specs.Measures.{weight_of, pairs_of, row_of}
use Rattle.joins.specs.Joins.{category_at, weight_between, joins_of, join_table}
use Rattle.joins.specs.Steps.{entry_of, adds, Counted}

-- two entries of a table of eight columns are the same where their rows and their columns are
same_entry : (a b r s : ℕ) → b < 8 → s < 8 → eqb (a * 8 + b) (r * 8 + s) ≡ (eqb a r && eqb b s)
same_entry a b r s h k = pick (ℕ_discrete a r) (ℕ_discrete b s)
  where
    pick : Dec (a ≡ r) → Dec (b ≡ s) → eqb (a * 8 + b) (r * 8 + s) ≡ (eqb a r && eqb b s)
    pick (yes p) (yes q) = rw (eq-eqb a r p, eq-eqb b s q) (eq-eqb (a * 8 + b) (r * 8 + s) (omega arith))
    pick (yes p) (no q) = rw (eq-eqb a r p, ne_eqb b s q) (ne_eqb (a * 8 + b) (r * 8 + s) (λ e. q (omega arith)))
    pick (no p) q = rw (ne_eqb a r p) (ne_eqb (a * 8 + b) (r * 8 + s) (λ e. p (omega arith)))

module _ (n : ℕ) (categories weights : List ℕ) where
  abbrev entry : ℕ → ℕ
  entry = entry_of n categories weights

  abbrev adding : ℕ → ℕ → ℤ
  adding = adds n categories weights

  -- before the first
  pub none_counted : (entries : List ℤ) → entries ≡ replicate 64 (pos 0) → Counted n categories weights entries 0
  none_counted entries e = record {
    passed = omega arith;
    count = ap length e ∙ length-replicate 64 (pos 0);
    holds = λ t h. ap (λ l. at l t) e ∙ get_or-replicate 64 t (pos 0) (pos 0) h ∙ sym (sum_zero (adding t));
  }

  -- one more: the entry of its zones' categories is one weight larger
  pub one_counted :
      (entries : List ℤ) (p : ℕ) (v : ℤ) → Counted n categories weights entries p → p < n * n → entry p < 64 →
      v ≡ at entries (entry p) +ℤ pos (get_or weights p 0) → Counted n categories weights (set entries (entry p) v) (p + 1)
  one_counted entries p v c h low e = record {
    passed = omega arith;
    count = length-set entries (entry p) v ∙ c.count;
    holds = λ t k. pick t k (ℕ_discrete t (entry p));
  }
    where
      pick : (t : ℕ) → t < 64 → Dec (t ≡ entry p) → at (set entries (entry p) v) t ≡ sum (adding t) (p + 1)
      pick t k (yes q) =
          rw q
          (get_or-set_same entries (entry p) v (pos 0) (omega (arith, c.count))
          ∙ e
          ∙ ap (λ z. z +ℤ pos (get_or weights p 0)) (c.holds (entry p) low)
          ∙ sym (sum_more (adding (entry p)) p ∙ rw (eq-eqb (entry p) (entry p) refl) refl))
      pick t k (no q) =
          get_or-set_other entries (entry p) t v (pos 0) q
          ∙ c.holds t k
          ∙ sym (sum_more (adding t) p ∙ rw (ne_eqb (entry p) t (λ z. q (sym z))) (+ℤ_idr (sum (adding t) p)))

  -- the sum of what all weights add to an entry is T of its row and its column
  module _ (low : (k : ℕ) → k < n → category_at categories k < 8) where
    all_added :
        (r s : ℕ) → s < 8 → sum (adding (r * 8 + s)) (n * n) ≡ joins_of (pair_at weights n) (category_at categories) n r s
    unfolding joins_of weight_of pairs_of row_of weight_between pair_at
    all_added r s h =
        sum_rows (adding (r * 8 + s)) n n ∙ sum_cong _ _ n (λ i p. sum_cong _ _ n (λ j q. term i j p q))
      where
        term :
            (i j : ℕ) → i < n → j < n →
            adding (r * 8 + s) (i * n + j)
            ≡ pos (cond (eqb (category_at categories i) r && eqb (category_at categories j) s) (get_or weights (i * n + j) 0) 0) *ℤ pos 1
        term i j p q =
            rw (digits_div i {m = n} {r = j} q, digits_mod i {m = n} {r = j} q)
            (rw (same_entry (category_at categories i) (category_at categories j) r s (low j q) h)
            (sym (ap pos (N.mul-one _))))

    -- all of them are counted
    pub all_counted : (entries : List ℤ) → Counted n categories weights entries (n * n) → entries ≡ join_table n categories weights
    unfolding join_table
    all_counted entries c =
        rows_flat (joins_of (pair_at weights n) (category_at categories) n) 8 8 (pos 0) entries c.count
        (λ t h. let s = split 8 8 t h in
        c.holds t h ∙ ap (λ u. sum (adding u) (n * n)) (sym s.whole) ∙ all_added (t / 8) (t % 8) s.column)

  -- no entry is large on the way
  pub entry_size :
      (entries : List ℤ) (p t : ℕ) → any_above 9 weights ≡ false → length weights ≡ n * n → n ≤ 64 → Counted n categories weights entries p → t < 64 →
      nat_abs (at entries t) ≤ 36864
  entry_size entries p t light count zones c h =
      rw (c.holds t h) (omega (arith, sum_size (adding t) p 9 (λ k q. small k (omega (arith, c.passed))), c.passed, few n zones))
    where
      chosen : (b : Bool) (w : ℕ) → w ≤ 9 → nat_abs (pos (cond b w 0)) ≤ 9
      chosen true w k = k
      chosen false w k = omega arith

      small : (k : ℕ) → k < n * n → nat_abs (adding t k) ≤ 9
      small k q = chosen (eqb (entry k) t) (get_or weights k 0) (none_above 9 weights light k (omega arith))
