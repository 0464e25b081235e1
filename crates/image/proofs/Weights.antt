-- What is known of joins and of weights that break no rule, and what decides where 1 to 5 hold. Assumes nothing.
use mathlib.Core.Path.{◌≡◌, refl, sym, ap, ◌∙◌}
use mathlib.Core.Bool.{false, not, ◌&&◌}
use mathlib.Core.List.{List, ◌∷◌}
use Prim.Native.Nat.{ℕ, suc, ◌+◌, ◌*◌, ◌/◌, ◌%◌, ◌≤◌, ◌<◌}
use native.Mathlib.Omega.{arith}
use borrow.Author.Tests.{le-ltb, eq-eqb, ltb-true, ltb-false, eqb-false, lt-ltb, not-false}
use lib.Dec.{eqb, ltb}
use lib.Arith.{digits_div, digits_mod}
use lib.IntN.{ℤ}
use lib.ListN.{length, get_or}
use Rattle.whole.specs.Rules.{first_broken, in_turn, outside}
use Rattle.whole.specs.Search.{any_above, any_on_diagonal}
use Rattle.whole.specs.Table.{table, pair_at}
use Rattle.whole.proofs.InTurn.{Numbered, turn_each}
use Rattle.whole.proofs.Lists.{within}
use Rattle.whole.proofs.Rules.{holds, in_range, both_passed, other_fails, first_fails}
use Rattle.whole.proofs.Search.{none_some, all_within}
use Rattle.whole.proofs.TableRows.{rows_at, rows_each}
use Rattle.judges.specs.Values.{any_value_beyond}
use Rattle.shuffles.specs.Shuffles.{shuffle_count, shuffle_refusal}
use Rattle.shuffles.proofs.ShuffleList.{rows_counted}
use Rattle.account.specs.Refusals.{job_rules, sum_rules, call_rules, job_refusal}
use Rattle.image.specs.Joins.{Join, join_weight, weights_of, not_rising, join_rules, weight_rules}
use Rattle.image.specs.Image.{shuffle_rules}
use Rattle.image.proofs.JoinWeight.{weight_holds, place, weights_length}

-- ---- one join that breaks no rule

pub join_numbered : (n : ℕ) (join : ℕ → Join) (k : ℕ) → Numbered (join_rules n join k)
unfolding join_rules
join_numbered n join k = (tt, (tt, (tt, (tt, tt))))

pub record Fair (n : ℕ) (join : ℕ → Join) (k : ℕ) : Type 0 where
  pub from_in : (join k).from < n
  pub to_in : (join k).to < n
  pub apart : (join k).from ≡ (join k).to → ⊥
  pub risen : not_rising join k ≡ false
  pub heavy : 1 ≤ (join k).weight
  pub light : (join k).weight ≤ 9

pub fair : (n : ℕ) (join : ℕ → Join) (k : ℕ) → first_broken (join_rules n join k) ≡ 0 → Fair n join k
unfolding join_rules
fair n join k e =
    let ends = holds (not (ltb (join k).from n && ltb (join k).to n)) 15 _ e in
    let loop = holds (eqb (join k).from (join k).to) 4 _ ends.1 in
    let order = holds (not_rising join k) 15 _ loop.1 in
    let weight = holds (outside 1 9 (join k).weight) 3 0 order.1 in
    let inside = both_passed (ltb (join k).from n) (ltb (join k).to n) (not-false _ ends.0) in
    let r = in_range 1 9 (join k).weight weight.0 in record {
      from_in = ltb-true (join k).from n inside.0;
      to_in = ltb-true (join k).to n inside.1;
      apart = eqb-false (join k).from (join k).to loop.0;
      risen = order.0;
      heavy = r.0;
      light = r.1;
    }

-- ---- some joins of which none breaks a rule, and the table that they make
module _ (n : ℕ) (join : ℕ → Join) (k : ℕ) (sound : first_broken (in_turn (join_rules n join) k) ≡ 0) where
  pub fair_each : (i : ℕ) → i < k → Fair n join i
  fair_each i h = fair n join i (turn_each (join_rules n join) (join_numbered n join) k i h sound)

  pub joins_inside : (i : ℕ) → i < k → place n (join i) < n * n
  joins_inside i h = let f = fair_each i h in within n (join i).from (join i).to f.from_in f.to_in

  pub joins_light : any_above 9 (weights_of n (table join k)) ≡ false
  joins_light =
      all_within 9 (weights_of n (table join k))
      (λ p q.
      rows_each (join_weight (table join k)) (λ w. w ≤ 9) n n 0
      (λ i j a b. weight_holds (λ w. w ≤ 9) join k i j (omega arith) (λ t h e f. (fair_each t h).light)) p
      (omega (arith, weights_length n (table join k))))

  -- no join goes from a zone to itself
  pub joins_clear : any_on_diagonal n (weights_of n (table join k)) ≡ false
  unfolding any_on_diagonal pair_at
  joins_clear =
      none_some (λ j. ltb 0 (get_or (weights_of n (table join k)) (j * n + j) 0)) n
      (λ j l.
      let none = weight_holds (λ w. w ≡ 0) join k j j refl (λ t h e f. absurd ((fair_each t h).apart (e ∙ sym f))) in
      ap (ltb 0) (rows_at (join_weight (table join k)) n n j j 0 l l ∙ none))

-- ---- a table of weights of which none breaks a rule

pub weight_numbered : (n : ℕ) (weights : List ℕ) (p : ℕ) → Numbered (weight_rules n weights p)
unfolding weight_rules
weight_numbered n weights p = (tt, (tt, tt))

-- the weights from place p on: none on the diagonal, none above 9
unfoldable pub Keeps : ℕ → ℕ → List ℕ → Type 0
Keeps n p weights =
    (i : ℕ) → i < length weights →
    ((ltb 0 (get_or weights i 0) && eqb ((p + i) / n) ((p + i) % n)) ≡ false) × (get_or weights i 0 ≤ 9)

pub keeps_next : (n p w : ℕ) (weights : List ℕ) → Keeps n p (w ∷ weights) → Keeps n (p + 1) weights
unfolding Keeps
keeps_next n p w weights h i l =
    let same : p + suc i ≡ p + 1 + i = omega arith in
    let s = h (suc i) (omega arith) in
    (ap (λ q. ltb 0 (get_or weights i 0) && eqb (q / n) (q % n)) (sym same) ∙ s.0, s.1)

-- the first of them, where it is a weight
pub first_off : (n p w : ℕ) (weights : List ℕ) → Keeps n p (suc w ∷ weights) → eqb (p / n) (p % n) ≡ false
unfolding Keeps
first_off n p w weights h =
    let here : p ≡ p + 0 = omega arith in
    ap (λ q. eqb (q / n) (q % n)) here ∙ other_fails (ltb 0 (suc w)) _ (h 0 (omega arith)).0 (lt-ltb 0 (suc w) (omega arith))

module _ (n : ℕ) (weights : List ℕ) (there : length weights ≡ n * n)
    (sound : first_broken (in_turn (weight_rules n weights) (n * n)) ≡ 0) where
  each : (p : ℕ) → p < n * n → first_broken (weight_rules n weights p) ≡ 0
  each p h = turn_each (weight_rules n weights) (weight_numbered n weights) (n * n) p h sound

  -- what they say of a weight
  off_or_none : (p : ℕ) → p < n * n → (ltb 0 (get_or weights p 0) && eqb (p / n) (p % n)) ≡ false
  unfolding weight_rules
  off_or_none p h = (holds (ltb 0 (get_or weights p 0) && eqb (p / n) (p % n)) 4 _ (each p h)).0

  light_enough : (p : ℕ) → p < n * n → get_or weights p 0 ≤ 9
  unfolding weight_rules
  light_enough p h =
      let first = holds (ltb 0 (get_or weights p 0) && eqb (p / n) (p % n)) 4 _ (each p h) in
      ltb-false 9 (get_or weights p 0) (holds (ltb 9 (get_or weights p 0)) 3 0 first.1).0

  pub weights_light : any_above 9 weights ≡ false
  weights_light = all_within 9 weights (λ p h. light_enough p (omega arith))

  -- on the diagonal row and column are one
  pub weights_clear : any_on_diagonal n weights ≡ false
  unfolding any_on_diagonal pair_at
  weights_clear =
      none_some (λ j. ltb 0 (get_or weights (j * n + j) 0)) n
      (λ j l.
      first_fails _ _ (off_or_none (j * n + j) (within n j j l l)) (eq-eqb _ _ (digits_div j l ∙ sym (digits_mod j l))))

  -- and of all of them, from the first on
  pub keeps_all : Keeps n 0 weights
  unfolding Keeps
  keeps_all i h =
      let here : 0 + i ≡ i = omega arith in (
        ap (λ q. ltb 0 (get_or weights i 0) && eqb (q / n) (q % n)) here ∙ off_or_none i (omega arith),
        light_enough i (omega arith),
      )

-- ---- where 1 to 5 hold, 6 and 7 decide
pub sums_decide :
    (n : ℕ) (values : List ℤ) (weights : List ℕ) → 2 ≤ n → n ≤ 64 → length values ≡ n → length weights ≡ n * n →
    any_value_beyond values ≡ false → any_above 9 weights ≡ false → any_on_diagonal n weights ≡ false →
    job_refusal n values weights ≡ first_broken (sum_rules n values weights)
unfolding job_refusal call_rules job_rules
sums_decide n values weights two zones l m near light clear =
    rw (le-ltb n 2 two, le-ltb 64 n zones, eq-eqb (length values) n l, eq-eqb (length weights) (n * n) m, near, light, clear)

-- ---- where the shuffles are whole rows, 13 decides
pub shuffles_decide :
    (n k : ℕ) (shuffles : List ℕ) → 2 ≤ n → n ≤ 64 → k ≤ 499 → length shuffles ≡ k * n →
    shuffle_refusal n shuffles ≡ first_broken (shuffle_rules n shuffles)
unfolding shuffle_refusal
shuffles_decide n k shuffles two zones few e =
    let whole = e ∙ ap (λ t. t * n) (sym (rows_counted n (length shuffles) k (omega arith) few e)) in
    rw (le-ltb n 2 two, le-ltb 64 n zones, eq-eqb (length shuffles) (shuffle_count n (length shuffles) * n) whole)
