-- A table of weights and its joins: each is had from the other. Assumes nothing.
use mathlib.Core.Path.{◌≡◌, refl, sym, ap, ◌∙◌}
use mathlib.Core.List.{List, [], ◌∷◌}
use Prim.Native.Nat.{ℕ, zero, suc, ◌+◌, ◌*◌, ◌/◌, ◌%◌, ◌≤◌, ◌<◌}
use native.Mathlib.Nat as N
use native.Mathlib.Decide.{ℕ_discrete}
use native.Mathlib.Omega.{arith}
use lib.Arith.{digits_div, digits_mod}
use lib.ListN.{length, get_or}
use Rattle.whole.proofs.TableRows.{rows_flat}
use Rattle.image.specs.Joins.{Join, join_weight, weights_of, joins_from, joins_of}
use Rattle.image.proofs.JoinWeight.{place, weight_at, weights_length, weights_at, weight_here, weight_past}

-- ---- joins that rise

-- a join with a weight, whose ends are zones and whose place is from p on and below `end`
pub record Sits (n end p : ℕ) (join : Join) : Type 0 where
  pub low : p ≤ place n join
  pub high : place n join < end
  pub heavy : 0 < join.weight
  pub column : join.to < n

-- joins that rise from place p on and stay below place `end`
pub data Rises (n end : ℕ) : ℕ → List Join → Type 0 where
  none : {p : ℕ} → Rises n end p []
  more : {p : ℕ} {join : Join} {joins : List Join} → Sits n end p join → Rises n end (place n join + 1) joins → Rises n end p (join ∷ joins)

pub sits_from : {n end p : ℕ} {join : Join} (q : ℕ) → q ≤ place n join → Sits n end p join → Sits n end q join
sits_from q l s = record { low = l; high = s.high; heavy = s.heavy; column = s.column }

rises_from : {n end p : ℕ} (q : ℕ) (joins : List Join) → q ≤ p → Rises n end p joins → Rises n end q joins
rises_from q [] l none = none
rises_from q (join ∷ joins) l (more s r) = more (sits_from q (omega arith) s) r

-- a place before all of them has no weight
before : (n end p : ℕ) (joins : List Join) → Rises n end (p + 1) joins → weight_at n joins p ≡ 0
unfolding join_weight
before n end p [] none = refl
before n end p (join ∷ joins) (more s r) =
    weight_past n p join joins (λ e. omega arith) ∙ before n end p joins (rises_from (p + 1) joins (omega arith) r)

-- ---- weights from place p on: each is what some joins have at its place
abbrev Held : ℕ → ℕ → List Join → List ℕ → Type 0
Held n p joins weights = (t : ℕ) → t < length weights → get_or weights t 0 ≡ weight_at n joins (p + t)

module _ (n p : ℕ) (joins : List Join) (w : ℕ) (weights : List ℕ) where
  -- the first, and those from the next place on
  held_first : Held n p joins (w ∷ weights) → w ≡ weight_at n joins p
  held_first h = h 0 (omega arith) ∙ ap (weight_at n joins) {x = p + 0} {y = p} (omega arith)

  held_next : Held n p joins (w ∷ weights) → Held n (p + 1) joins weights
  held_next h t l = h (suc t) (omega arith) ∙ ap (weight_at n joins) {x = p + suc t} {y = p + 1 + t} (omega arith)

  held_more : w ≡ weight_at n joins p → Held n (p + 1) joins weights → Held n p joins (w ∷ weights)
  held_more e h zero l = e ∙ ap (weight_at n joins) {x = p} {y = p + 0} (omega arith)
  held_more e h (suc t) l = h t (omega arith) ∙ ap (weight_at n joins) {x = p + 1 + t} {y = p + suc t} (omega arith)

-- ---- the joins of the table of some joins

-- no weight at place p
none_more : (n p w : ℕ) (weights : List ℕ) → w ≡ 0 → joins_from n p (w ∷ weights) ≡ joins_from n (p + 1) weights
unfolding joins_from
none_more n p w weights e = rw e

-- the weight at place p is that of a join
one_more :
    (n p w : ℕ) (join : Join) (weights : List ℕ) → 0 < w → join.weight ≡ w → p / n ≡ join.from → p % n ≡ join.to →
    joins_from n p (w ∷ weights) ≡ join ∷ joins_from n (p + 1) weights
unfolding joins_from
one_more n p zero join weights h e f g = let z : ⊥ = omega arith in absurd z
one_more n p (suc w) join weights h e f g =
    let same : ◌≡◌ {A = Join} (record { from = p / n; to = p % n; weight = suc w }) join = rw (f, g, ← e) in
    ap (λ j. j ∷ joins_from n (p + 1) weights) same

back :
    (n end p : ℕ) (weights : List ℕ) (joins : List Join) → p + length weights ≡ end → Rises n end p joins → Held n p joins weights →
    joins_from n p weights ≡ joins
unfolding joins_from join_weight
back n end p [] [] q none h = refl
back n end p [] (join ∷ joins) q (more s r) h = let z : ⊥ = omega arith in absurd z
back n end p (w ∷ weights) [] q none h =
    none_more n p w weights (held_first n p [] w weights h)
    ∙ back n end (p + 1) weights [] (omega arith) none (held_next n p [] w weights h)
back n end p (w ∷ weights) (join ∷ joins) q (more s r) h =
    pick (ℕ_discrete (place n join) p) (back n end (p + 1) weights joins (omega arith))
    (back n end (p + 1) weights (join ∷ joins) (omega arith))
  where
    first : w ≡ weight_at n (join ∷ joins) p
    first = held_first n p (join ∷ joins) w weights h

    next : Held n (p + 1) (join ∷ joins) weights
    next = held_next n p (join ∷ joins) w weights h

    pick :
        Dec (place n join ≡ p) →
        (Rises n end (p + 1) joins → Held n (p + 1) joins weights → joins_from n (p + 1) weights ≡ joins) →
        (Rises n end (p + 1) (join ∷ joins) → Held n (p + 1) (join ∷ joins) weights → joins_from n (p + 1) weights ≡ join ∷ joins) →
        joins_from n p (w ∷ weights) ≡ join ∷ joins
    pick (yes e) f g =
        let weight : w ≡ join.weight = first ∙ weight_here n p join joins s.column e in
        let row : p / n ≡ join.from = ap (λ t. t / n) (sym e) ∙ digits_div join.from s.column in
        let column : p % n ≡ join.to = ap (λ t. t % n) (sym e) ∙ digits_mod join.from s.column in
        one_more n p w join weights (omega (arith, s.heavy)) (sym weight) row column
        ∙ ap (λ l. join ∷ l)
        (f (rises_from (p + 1) joins (omega arith) r) (λ t l. next t l ∙ weight_past n (p + 1 + t) join joins (λ z. omega arith)))
    pick (no e) f g =
        let r' : Rises n end (p + 1) (join ∷ joins) = more (sits_from (p + 1) (omega (arith, s.low)) s) r in
        none_more n p w weights (first ∙ before n end p (join ∷ joins) r') ∙ g r' next

pub joins_back : (n : ℕ) (joins : List Join) → Rises n (n * n) 0 joins → joins_of n (weights_of n joins) ≡ joins
joins_back n joins r =
    back n (n * n) 0 (weights_of n joins) joins (omega (arith, weights_length n joins)) r
    (λ t l. weights_at n joins t (omega (arith, weights_length n joins)) ∙ ap (weight_at n joins) {x = t} {y = 0 + t} (omega arith))

-- ---- the table of the joins of a table

sits_at : (n end p w : ℕ) → 0 < n → p < end → Sits n end p (record { from = p / n; to = p % n; weight = suc w })
sits_at n end p w some h =
    let d = N.div-add-mod' p n in
    record { low = omega arith; high = omega arith; heavy = omega arith; column = N.mod-lt p some }

rises : (n end p : ℕ) (weights : List ℕ) → 0 < n → p + length weights ≡ end → Rises n end p (joins_from n p weights)
unfolding joins_from
rises n end p [] some q = none
rises n end p (zero ∷ weights) some q = rises_from p _ (omega arith) (rises n end (p + 1) weights some (omega arith))
rises n end p (suc w ∷ weights) some q =
    more (sits_at n end p w some (omega arith))
    (rises_from _ _ (omega (arith, N.div-add-mod' p n)) (rises n end (p + 1) weights some (omega arith)))

forth : (n end p : ℕ) (weights : List ℕ) → 0 < n → p + length weights ≡ end → Held n p (joins_from n p weights) weights
unfolding joins_from
forth n end p [] some q = λ t l. let z : ⊥ = omega arith in absurd z
forth n end p (zero ∷ weights) some q =
    let joins = joins_from n (p + 1) weights in
    held_more n p joins 0 weights (sym (before n end p joins (rises n end (p + 1) weights some (omega arith))))
    (forth n end (p + 1) weights some (omega arith))
forth n end p (suc w ∷ weights) some q =
    let joins = joins_from n (p + 1) weights in
    let join : Join = record { from = p / n; to = p % n; weight = suc w } in
    held_more n p (join ∷ joins) (suc w) weights (sym (weight_here n p join joins (N.mod-lt p some) (N.div-add-mod' p n)))
    (λ t l.
    forth n end (p + 1) weights some (omega arith) t l
    ∙ sym (weight_past n (p + 1 + t) join joins (λ e. omega (arith, N.div-add-mod' p n))))

module _ (n : ℕ) (weights : List ℕ) (some : 0 < n) (there : length weights ≡ n * n) where
  pub joins_rise : Rises n (n * n) 0 (joins_of n weights)
  joins_rise = rises n (n * n) 0 weights some (omega arith)

  pub table_back : weights_of n (joins_of n weights) ≡ weights
  table_back =
      sym (rows_flat (join_weight (joins_of n weights)) n n 0 weights there
      (λ p l.
      forth n (n * n) 0 weights some (omega arith) p (omega arith)
      ∙ ap (weight_at n (joins_of n weights)) {x = 0 + p} {y = p} (omega arith)))
