-- Laws of finite sums: congruence, addition, scaling, a constant, exchange, one term picked, a flat list of rows. Assumes nothing.
use mathlib.Core.Path.{◌≡◌, refl, sym, ap, ◌∙◌}
use mathlib.Core.Bool.{cond}
use Prim.Native.Nat.{ℕ, zero, suc, ◌+◌, ◌*◌, ◌≤◌, ◌<◌}
use native.Mathlib.Nat as N
use native.Mathlib.Numerals.{add-one}
use native.Mathlib.Decide.{ℕ_discrete}
use native.Mathlib.Omega.{arith}
use borrow.Author.Tests.{eq-eqb, ne_eqb}
use lib.Dec.{eqb}
use lib.IntN.{ℤ, pos, ◌+ℤ◌, ◌*ℤ◌, +ℤ_idl, +ℤ_idr, +ℤ_assoc, zero-*ℤ, *ℤ-zero}
use Rattle.whole.specs.Sum.{sum}
use Rattle.whole.proofs.Integer.{+_swap, *_dist_l, diff_of, diff_pos, diff_+, diff_*, diff_eq}

pub sum_zero : (f : ℕ → ℤ) → sum f 0 ≡ pos 0
unfolding sum
sum_zero f = refl

-- one more term, as a loop adds it
pub sum_more : (f : ℕ → ℤ) (n : ℕ) → sum f (n + 1) ≡ sum f n +ℤ f n
unfolding sum
sum_more f n = ap (sum f) (add-one n)

pub sum_cong : (f g : ℕ → ℤ) (n : ℕ) → ((k : ℕ) → k < n → f k ≡ g k) → sum f n ≡ sum g n
unfolding sum
sum_cong f g zero h = refl
sum_cong f g (suc n) h = ap (λ x. x +ℤ f n) (sum_cong f g n (λ k p. h k (omega arith))) ∙ ap (λ x. sum g n +ℤ x) (h n (omega arith))

pub sum_+ : (f g : ℕ → ℤ) (n : ℕ) → sum (λ k. f k +ℤ g k) n ≡ sum f n +ℤ sum g n
unfolding sum
sum_+ f g zero = refl
sum_+ f g (suc n) = ap (λ x. x +ℤ (f n +ℤ g n)) (sum_+ f g n) ∙ +_swap (sum f n) (sum g n) (f n) (g n)

pub sum_scale : (c : ℤ) (f : ℕ → ℤ) (n : ℕ) → sum (λ k. c *ℤ f k) n ≡ c *ℤ sum f n
unfolding sum
sum_scale c f zero = sym (*ℤ-zero c)
sum_scale c f (suc n) = ap (λ x. x +ℤ c *ℤ f n) (sum_scale c f n) ∙ sym (*_dist_l c (sum f n) (f n))

-- a constant, n times
pub sum_const : (c : ℤ) (n : ℕ) → sum (λ k. c) n ≡ pos n *ℤ c
unfolding sum
sum_const c zero = sym (zero-*ℤ c)
sum_const c (suc n) = ap (λ z. z +ℤ c) (sum_const c n) ∙ more c n
  where
    more : (c : ℤ) (n : ℕ) → pos n *ℤ c +ℤ c ≡ pos (suc n) *ℤ c
    more c n = rw (diff_of c, diff_pos n, diff_pos (suc n)) (simp (diff_+, diff_*) (diff_eq _ _ _ _ (omega arith)))

pub sum_none : (n : ℕ) → sum (λ k. pos 0) n ≡ pos 0
sum_none n = sum_const (pos 0) n ∙ *ℤ-zero (pos n)

-- the two orders of a double sum
pub sum_swap : (f : ℕ → ℕ → ℤ) (m n : ℕ) → sum (λ i. sum (λ j. f i j) n) m ≡ sum (λ j. sum (λ i. f i j) m) n
unfolding sum
sum_swap f zero n = sym (sum_none n)
sum_swap f (suc m) n = ap (λ x. x +ℤ sum (λ j. f m j) n) (sum_swap f m n) ∙ sym (sum_+ (λ j. sum (λ i. f i j) m) (λ j. f m j) n)

-- a double sum of what is the same both ways, and 0 on the diagonal, is twice the sum over the pairs i < j
pub pairs_twice :
    (g : ℕ → ℕ → ℤ) (n : ℕ) → ((i j : ℕ) → i < n → j < n → g i j ≡ g j i) → ((i : ℕ) → i < n → g i i ≡ pos 0) →
    sum (λ j. sum (λ i. g i j) j) n +ℤ sum (λ j. sum (λ i. g i j) j) n ≡ sum (λ i. sum (λ j. g i j) n) n
unfolding sum
pairs_twice g zero both none = refl
pairs_twice g (suc n) both none =
    let before = sum (λ j. sum (λ i. g i j) j) n in
    let column = sum (λ i. g i n) n in
    let row : sum (λ j. g n j) n ≡ column = sum_cong _ _ n (λ j p. both n j (omega arith) (omega arith)) in
    +_swap before column before column
    ∙ ap (λ z. z +ℤ (column +ℤ column)) (pairs_twice g n (λ i j p q. both i j (omega arith) (omega arith)) (λ i p. none i (omega arith)))
    ∙ sym (+ℤ_assoc (sum (λ i. sum (λ j. g i j) n) n) column column)
    ∙ cc (sum_+ (λ i. sum (λ j. g i j) n) (λ i. g i n) n, row, none n (omega arith), +ℤ_idr column)

-- ---- one term picked by its number
sum_miss : (c n : ℕ) (z : ℤ) → n ≤ c → sum (λ k. cond (eqb c k) z (pos 0)) n ≡ pos 0
unfolding sum
sum_miss c zero z h = refl
sum_miss c (suc n) z h = rw (sum_miss c n z (omega arith), ne_eqb c n (λ e. let x : ⊥ = omega arith in x)) refl

pub sum_pick : (c n : ℕ) (z : ℤ) → c < n → sum (λ k. cond (eqb c k) z (pos 0)) n ≡ z
unfolding sum
sum_pick c zero z h = let x : ⊥ = omega arith in absurd x
sum_pick c (suc n) z h = pick (ℕ_discrete c n) (λ (p : c < n). sum_pick c n z p)
  where
    pick :
        Dec (c ≡ n) → (c < n → sum (λ k. cond (eqb c k) z (pos 0)) n ≡ z) →
        sum (λ k. cond (eqb c k) z (pos 0)) n +ℤ cond (eqb c n) z (pos 0) ≡ z
    pick (yes e) g = rw (sum_miss c n z (omega arith), eq-eqb c n e) (+ℤ_idl z)
    pick (no e) g = rw (g (omega arith), ne_eqb c n e) (+ℤ_idr z)

-- ---- a sum in two parts, and one over m rows of n
pub sum_after : (f : ℕ → ℤ) (a b : ℕ) → sum f (a + b) ≡ sum f a +ℤ sum (λ j. f (a + j)) b
unfolding sum
sum_after f a zero = ap (sum f) (N.add-zero a) ∙ sym (+ℤ_idr (sum f a))
sum_after f a (suc b) =
    ap (sum f) (N.add-suc a b) ∙ ap (λ z. z +ℤ f (a + b)) (sum_after f a b) ∙ +ℤ_assoc (sum f a) (sum (λ j. f (a + j)) b) (f (a + b))

pub sum_rows : (f : ℕ → ℤ) (n m : ℕ) → sum f (m * n) ≡ sum (λ i. sum (λ j. f (i * n + j)) n) m
unfolding sum
sum_rows f n zero = ap (sum f) (N.zero-mul n)
sum_rows f n (suc m) = ap (sum f) (next n m) ∙ sum_after f (m * n) n ∙ ap (λ z. z +ℤ sum (λ j. f (m * n + j)) n) (sum_rows f n m)
  where
    next : (n m : ℕ) → suc m * n ≡ m * n + n
    next n m = omega arith
