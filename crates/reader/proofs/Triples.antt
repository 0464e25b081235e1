-- The joins of a section are its items, three bytes each. Assumes nothing.
use mathlib.Core.Path.{◌≡◌, refl, ap, ◌∙◌}
use mathlib.Core.List.{List, []}
use Prim.Native.Nat.{ℕ, zero, suc, ◌+◌, ◌*◌, ◌/◌, ◌≤◌, ◌<◌}
use native.Mathlib.Omega.{arith}
use lib.ListN.{length, take, drop, get_or}
use lib.Seq.{get_or-take, get_or-drop, drop-drop, length-take-le}
use Rattle.std.specs.Simd.{first_chunks}
use Rattle.whole.specs.Rules.{Rule, in_turn}
use Rattle.whole.specs.Table.{table}
use Rattle.whole.proofs.Table.{table_cong}
use Rattle.image.specs.Joins.{Join, join_rules}
use Rattle.image.specs.Image.{count, items, join_in}
use Rattle.reader.specs.Steps.{join_at, Joins}

-- ---- the k-th three bytes of some bytes

triple : (k i : ℕ) (l : List ℕ) → i < k → get_or (first_chunks 3 k l) i [] ≡ take 3 (drop (3 * i) l)
triple zero i l h = let z : ⊥ = omega arith in absurd z
triple (suc k) zero l h = refl
triple (suc k) (suc i) l h =
    let e : 3 + 3 * i ≡ 3 * suc i = omega arith in
    triple k i (drop 3 l) (omega arith) ∙ ap (take 3) (drop-drop (3 * i) 3 l ∙ ap (λ m. drop m l) e)

join_read : (l : List ℕ) (m i t : ℕ) → t < 3 → 3 * i + t < m → get_or (take 3 (drop (3 * i) (take m l))) t 0 ≡ get_or l (3 * i + t) 0
join_read l m i t h p =
    get_or-take 3 (drop (3 * i) (take m l)) t 0 h ∙ get_or-drop (3 * i) (take m l) t 0 ∙ get_or-take m l (3 * i + t) 0 p

join_there :
    (l : List ℕ) (m k i : ℕ) → i < k → 3 * k ≤ m → join_at (first_chunks 3 k (take m l)) i ≡ join_in l i
join_there l m k i h p =
    let e = triple k i (take m l) h in
    rw (
      e,
      join_read l m i 0 (omega arith) (omega arith) ∙ ap (λ p. get_or l p 0) {x = 3 * i + 0} {y = 3 * i} (omega arith),
      join_read l m i 1 (omega arith) (omega arith),
      join_read l m i 2 (omega arith) (omega arith),
    ) refl

-- ---- the joins that were seen in a section's items
module _ (b cut : List ℕ) (joins : List (List ℕ)) where
  pub joins_seen :
      cut ≡ take (3 * count b) (items b) → 3 * count b ≤ length (items b) → joins ≡ first_chunks 3 (length cut / 3) cut →
      length joins ≡ length cut / 3 → Joins b joins
  joins_seen e h f g =
      let long : length cut ≡ 3 * count b = ap length e ∙ length-take-le (3 * count b) (items b) h in
      let many : length cut / 3 ≡ count b = omega arith in
      record {
        counted = g ∙ many;
        held = λ k p. rw (f, many, e) (join_there (items b) (3 * count b) (count b) k p (omega arith));
      }

-- ---- joins that are the same one by one
in_turn_cong :
    (one other : ℕ → List Rule) (k : ℕ) → ((i : ℕ) → i < k → one i ≡ other i) → in_turn one k ≡ in_turn other k
unfolding in_turn
in_turn_cong one other zero h = refl
in_turn_cong one other (suc k) h =
    rw (in_turn_cong one other k (λ i p. h i (omega arith)), h k (omega arith)) refl

rules_same :
    (n : ℕ) (one other : ℕ → Join) (k : ℕ) → ((i : ℕ) → i < k → one i ≡ other i) → (i : ℕ) → i < k → join_rules n one i ≡ join_rules n other i
unfolding join_rules
rules_same n one other k h zero p = rw (h 0 p) refl
rules_same n one other k h (suc i) p = rw (h (suc i) p, h i (omega arith)) refl

module _ (b : List ℕ) (joins : List (List ℕ)) (seen : Joins b joins) where
  pub joins_judged :
      (n : ℕ) → in_turn (join_rules n (join_at joins)) (length joins) ≡ in_turn (join_rules n (join_in (items b))) (count b)
  joins_judged n =
      ap (in_turn (join_rules n (join_at joins))) seen.counted
      ∙ in_turn_cong _ _ (count b) (rules_same n (join_at joins) (join_in (items b)) (count b) seen.held)

  pub joins_listed : table (join_at joins) (length joins) ≡ table (join_in (items b)) (count b)
  joins_listed =
      ap (table (join_at joins)) seen.counted
      ∙ table_cong (join_at joins) (join_in (items b)) (count b) (record { from = 0; to = 0; weight = 0 }) seen.held
