-- A table of at most 64 zones whose weights break no rule has at most 4,032 joins: no weight stands on the diagonal. Assumes nothing.
use mathlib.Core.Path.{◌≡◌, refl, sym, ap, ◌∙◌}
use mathlib.Core.Bool.{Bool, true, false, cond, false≢true}
use mathlib.Core.List.{List, [], ◌∷◌}
use Prim.Native.Nat.{ℕ, zero, suc, ◌+◌, ◌*◌, ◌/◌, ◌%◌, ◌≤◌, ◌<◌}
use native.Mathlib.Nat as N
use native.Mathlib.Omega.{arith}
use borrow.Author.Tests.{eq-eqb}
use lib.Arith.{digits_div, digits_mod}
use lib.Dec.{eqb}
use lib.ListN.{length}
use Rattle.whole.specs.Rules.{first_broken, in_turn}
use Rattle.image.specs.Joins.{joins_from, joins_of, weight_rules}
use Rattle.image.proofs.Weights.{Keeps, keeps_next, first_off, keeps_all}

-- a place on the diagonal
abbrev on_diagonal : ℕ → ℕ → Bool
on_diagonal n p = eqb (p / n) (p % n)

-- how many of the m places from p on are
diagonals : ℕ → ℕ → ℕ → ℕ
diagonals n p zero = 0
diagonals n p (suc m) = cond (on_diagonal n p) 1 0 + diagonals n (p + 1) m

-- so each of these places has a join or is on the diagonal, or neither
few : (n p : ℕ) (weights : List ℕ) → Keeps n p weights → length (joins_from n p weights) + diagonals n p (length weights) ≤ length weights
unfolding joins_from diagonals
few n p [] h = omega arith
few n p (zero ∷ weights) h = go (on_diagonal n p) (few n (p + 1) weights (keeps_next n p zero weights h))
  where
    go :
        (b : Bool) → length (joins_from n (p + 1) weights) + diagonals n (p + 1) (length weights) ≤ length weights →
        length (joins_from n (p + 1) weights) + (cond b 1 0 + diagonals n (p + 1) (length weights)) ≤ suc (length weights)
    go true l = omega arith
    go false l = omega arith
few n p (suc w ∷ weights) h = go (on_diagonal n p) refl (few n (p + 1) weights (keeps_next n p (suc w) weights h))
  where
    go :
        (b : Bool) → on_diagonal n p ≡ b → length (joins_from n (p + 1) weights) + diagonals n (p + 1) (length weights) ≤ length weights →
        suc (length (joins_from n (p + 1) weights)) + (cond b 1 0 + diagonals n (p + 1) (length weights)) ≤ suc (length weights)
    go true e l = absurd (false≢true (sym (first_off n p w weights h) ∙ e))
    go false e l = omega arith

-- ---- every row has a place on the diagonal
split_at : (n p a b : ℕ) → diagonals n p (a + b) ≡ diagonals n p a + diagonals n (p + a) b
unfolding diagonals
split_at n p zero b =
    let e = ap (diagonals n p) {x = 0 + b} {y = b} (omega arith) in
    let f = ap (λ q. diagonals n q b) {x = p} {y = p + 0} (omega arith) in
    omega arith
split_at n p (suc a) b =
    let e = split_at n (p + 1) a b in
    let same : p + 1 + a ≡ p + suc a = omega arith in
    let f = ap (λ q. diagonals n q b) same in
    let g = ap (diagonals n p) {x = suc a + b} {y = suc (a + b)} (omega arith) in
    omega arith

one_there : (n p m i : ℕ) → i < m → on_diagonal n (p + i) ≡ true → 1 ≤ diagonals n p m
unfolding diagonals
one_there n p zero i h e = let z : ⊥ = omega arith in absurd z
one_there n p (suc m) zero h e =
    let here : p ≡ p + 0 = omega arith in
    let first : on_diagonal n p ≡ true = ap (on_diagonal n) here ∙ e in
    rw first (omega arith)
one_there n p (suc m) (suc i) h e =
    let same : p + 1 + i ≡ p + suc i = omega arith in
    let later = one_there n (p + 1) m i (omega arith) (ap (on_diagonal n) same ∙ e) in
    omega arith

rows : (n r : ℕ) → r ≤ n → r ≤ diagonals n 0 (r * n)
unfolding diagonals
rows n zero h = omega arith
rows n (suc r) h =
    let before = rows n r (omega arith) in
    let on : on_diagonal n (r * n + r) ≡ true =
    eq-eqb ((r * n + r) / n) ((r * n + r) % n)
    (digits_div r {m = n} {r = r} (omega arith) ∙ sym (digits_mod r {m = n} {r = r} (omega arith))) in
    let row = one_there n (r * n) n r (omega arith) on in
    let whole : diagonals n 0 (suc r * n) ≡ diagonals n 0 (r * n) + diagonals n (0 + r * n) n =
    ap (diagonals n 0) {x = suc r * n} {y = r * n + n} (omega arith) ∙ split_at n 0 (r * n) n in
    let same = ap (λ q. diagonals n q n) {x = 0 + r * n} {y = r * n} (omega arith) in
    omega arith

-- ---- at most n × (n − 1)
pub joins_few :
    (n : ℕ) (weights : List ℕ) → n ≤ 64 → length weights ≡ n * n → first_broken (in_turn (weight_rules n weights) (n * n)) ≡ 0 →
    length (joins_of n weights) ≤ 4032
joins_few n weights zones there sound =
    let all = few n 0 weights (keeps_all n weights there sound) in
    let diagonal = rows n n (omega arith) in
    let same = ap (diagonals n 0) there in
    at_most n (omega arith) zones (omega arith)
  where
    at_most : (n : ℕ) → n ≤ n → n ≤ 64 → length (joins_of n weights) + n ≤ n * n → length (joins_of n weights) ≤ 4032
    at_most zero l z h = omega arith
    at_most (suc m) l z h =
        let fewer : m ≤ 63 = omega arith in
        let square : m * suc m ≤ 63 * 64 = N.mul-le-mul fewer z in
        omega arith
