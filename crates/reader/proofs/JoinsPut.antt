-- The table of joins that rise, one join after another: the stores give what the table means. Assumes nothing.
use mathlib.Core.Path.{◌≡◌, refl, sym, ap, ◌∙◌}
use mathlib.Core.Bool.{cond, ◌&&◌}
use mathlib.Core.List.{List, []}
use Prim.Native.Nat.{ℕ, zero, suc, ◌+◌, ◌*◌, ◌/◌, ◌%◌, ◌<◌}
use native.Mathlib.Decide.{ℕ_discrete}
use native.Mathlib.Numerals.{add-one}
use native.Mathlib.Omega.{arith}
use lib.Dec.{eqb}
use lib.ListN.{get_or, set, replicate, length-set, length-replicate, get_or-replicate}
use lib.Seq.{get_or-set_same, get_or-set_other}
use Rattle.whole.specs.Rules.{first_broken, in_turn}
use Rattle.whole.specs.Table.{table}
use Rattle.whole.proofs.TableRows.{rows_flat}
use Rattle.image.specs.Joins.{Join, join_weight, weights_of, join_rules}
use Rattle.image.proofs.JoinOrder.{fair_rises}
use Rattle.image.proofs.JoinTable.{Sits, Rises, sits_from}
use Rattle.image.proofs.JoinWeight.{place, weight_at, weights_length, weights_at, weight_here, weight_past}

-- ---- before the first
pub put_none : (n : ℕ) (join : ℕ → Join) → replicate (n * n) 0 ≡ weights_of n (table join 0)
unfolding table join_weight
put_none n join =
    rows_flat (join_weight []) n n 0 (replicate (n * n) 0) (length-replicate (n * n) 0) (λ p h. get_or-replicate (n * n) p 0 0 h)

-- ---- the last of some joins that rise
module _ {n end : ℕ} where
  -- it comes after the others
  last_sits : {p : ℕ} (join : ℕ → Join) (k : ℕ) → Rises n end p (table join (suc k)) → Sits n end p (join k)
  unfolding table
  last_sits join zero (Rises.more s r) = s
  last_sits {p} join (suc k) (Rises.more s r) =
      let last = last_sits {p = place n (join 0) + 1} (λ i. join (suc i)) k r in
      sits_from p (omega arith) last

  -- so that no other has its place
  last_here :
      {p : ℕ} (join : ℕ → Join) (k : ℕ) → Rises n end p (table join (suc k)) →
      weight_at n (table join (suc k)) (place n (join k)) ≡ (join k).weight
  unfolding table
  last_here join zero (Rises.more s r) = weight_here n (place n (join 0)) (join 0) [] s.column refl
  last_here {p = p} join (suc k) (Rises.more s r) =
      let last = last_sits {p = place n (join 0) + 1} (λ i. join (suc i)) k r in
      weight_past n (place n (join (suc k))) (join 0) (table (λ i. join (suc i)) (suc k)) (λ e. omega arith)
      ∙ last_here {p = place n (join 0) + 1} (λ i. join (suc i)) k r

-- every other place has what it had
last_past :
    (n p : ℕ) (join : ℕ → Join) (k : ℕ) → (place n (join k) ≡ p → ⊥) → weight_at n (table join (suc k)) p ≡ weight_at n (table join k) p
unfolding table join_weight
last_past n p join zero f = weight_past n p (join 0) [] f
last_past n p join (suc k) f =
    ap (cond (eqb (join 0).from (p / n) && eqb (join 0).to (p % n)) (join 0).weight) (last_past n p (λ i. join (suc i)) k f)

-- its weight is stored
more :
    (n : ℕ) (join : ℕ → Join) (k : ℕ) → Rises n (n * n) 0 (table join (suc k)) →
    set (weights_of n (table join k)) (place n (join k)) (join k).weight ≡ weights_of n (table join (suc k))
more n join k r =
    rows_flat (join_weight (table join (suc k))) n n 0 (set before at (join k).weight)
    (length-set before at (join k).weight ∙ weights_length n (table join k)) (λ p h. pick p h (ℕ_discrete p at))
  where
    before : List ℕ
    before = weights_of n (table join k)

    at : ℕ
    at = place n (join k)

    pick : (p : ℕ) → p < n * n → Dec (p ≡ at) → get_or (set before at (join k).weight) p 0 ≡ weight_at n (table join (suc k)) p
    pick p h (yes e) =
        rw e (get_or-set_same before at (join k).weight 0 (omega (arith, e, weights_length n (table join k))) ∙ sym (last_here join k r))
    pick p h (no f) =
        get_or-set_other before at p (join k).weight 0 f ∙ weights_at n (table join k) p h ∙ sym (last_past n p join k (λ e. f (sym e)))

-- ---- one more of k joins that break no rule
pub put_next :
    (n : ℕ) (join : ℕ → Join) (k i : ℕ) (weights : List ℕ) (at weight : ℕ) → first_broken (in_turn (join_rules n join) k) ≡ 0 → i < k →
    weights ≡ weights_of n (table join i) → at ≡ place n (join i) → weight ≡ (join i).weight →
    set weights at weight ≡ weights_of n (table join (i + 1))
put_next n join k i weights at weight sound h e p w =
    rw (e, p, w, add-one i) (more n join i (fair_rises n join k (suc i) (omega arith) sound))
