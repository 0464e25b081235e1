-- Laws of the circle of two zones, and of the weight that the search for a third zone in it comes to. Assumes nothing.
use mathlib.Core.Path.{◌≡◌, refl, sym, ap, ◌∙◌}
use mathlib.Core.Bool.{Bool, true, false, not, cond, ◌&&◌, ◌||◌, or_comm, true≢false}
use Prim.Native.Nat.{ℕ, ◌≤◌, ◌<◌, ◌+◌}
use native.Mathlib.Decide.{ℕ_discrete, dec_lt}
use native.Mathlib.Omega.{arith}
use borrow.Author.Tests.{eqb-true, eqb-false, eq-eqb, ne_eqb, lt-ltb, le-ltb}
use lib.Dec.{eqb, ltb}
use lib.IntN.{ℤ, pos, negsuc, nat_abs, ◌+ℤ◌, ◌-ℤ◌, +ℤ_comm}
use lib.Signed.{lt_z}
use Rattle.whole.specs.Integer.{square, below_zero}
use Rattle.whole.specs.Network.{Network}
use Rattle.whole.specs.Search.{some}
use Rattle.whole.proofs.Integer.{+_swap, diff_of, diff_+, diff_*, diff_neg, diff_eq}
use Rattle.whole.proofs.Rules.{beside, second_fails}
use Rattle.whole.proofs.Search.{some_found, some_cong}
use Rattle.places.specs.Gabriel.{in_circle, any_in_circle, gabriel_weight}

module _ (d : ℕ → ℕ → ℤ) (a b : ℕ) where
  -- ---- c is a third zone and in the circle
  abbrev pub third_in : ℕ → Bool
  third_in c = not (eqb c a || eqb c b) && in_circle d a b c

  -- where c is one of the two
  pub first_passed : (c : ℕ) → c ≡ a → third_in c ≡ false
  first_passed c e = rw (eq-eqb c a e) refl

  pub second_passed : (c : ℕ) → eqb c b ≡ true → third_in c ≡ false
  second_passed c e = rw (beside (eqb c a) (eqb c b) e) refl

  -- where the answer is that c is outside
  pub outside_passed : (c : ℕ) (answer : Bool) → answer ≡ in_circle d a b c → answer ≡ false → third_in c ≡ false
  outside_passed c answer is e = second_fails (not (eqb c a || eqb c b)) (in_circle d a b c) (sym is ∙ e)

  -- of a third zone the circle decides
  pub third_is : (c : ℕ) → (c ≡ a → ⊥) → eqb c b ≡ false → third_in c ≡ in_circle d a b c
  third_is c f e = rw (ne_eqb c a f, e) refl

  -- c is not where it is one of the two or outside the circle
  pub none_in : (c : ℕ) → ((c ≡ a → ⊥) → (c ≡ b → ⊥) → lt_z (d a b) (d a c +ℤ d b c) ≡ true) → third_in c ≡ false
  unfolding in_circle
  none_in c far = go (ℕ_discrete c a) (ℕ_discrete c b)
    where
      go : Dec (c ≡ a) → Dec (c ≡ b) → third_in c ≡ false
      go (yes p) q = first_passed c p
      go (no p) (yes q) = second_passed c (eq-eqb c b q)
      go (no p) (no q) = outside_passed c (in_circle d a b c) refl (ap not (far p q))

  -- ---- the weight of a and b
  module _ (n : ℕ) where
    -- on the diagonal
    pub weight_none : a ≡ b → gabriel_weight d n a b ≡ 0
    unfolding gabriel_weight
    weight_none e = rw (eq-eqb a b e) refl

    -- where the search has found a third zone in the circle
    pub weight_found :
        (c : ℕ) (answer : Bool) → c < n → (c ≡ a → ⊥) → eqb c b ≡ false → answer ≡ in_circle d a b c → answer ≡ true →
        gabriel_weight d n a b ≡ 0
    unfolding gabriel_weight any_in_circle
    weight_found c answer h p q is e =
        let found = some_found third_in n c h (third_is c p q ∙ sym is ∙ e) in
        ap (λ (t : Bool). cond {A = ℕ} t 0 1) (beside (eqb a b) (some third_in n) (sym found))

    -- where it has ended
    pub weight_free : (a ≡ b → ⊥) → some third_in n ≡ false → gabriel_weight d n a b ≡ 1
    unfolding gabriel_weight any_in_circle
    weight_free f e = rw (ne_eqb a b f, e) refl

    -- and where the weight is 1, no third zone is in the circle
    pub free_weight : gabriel_weight d n a b ≡ 1 → some third_in n ≡ false
    unfolding gabriel_weight any_in_circle
    free_weight e = go (eqb a b) (some third_in n) e
      where
        go : (s t : Bool) → cond {A = ℕ} (s || t) 0 1 ≡ 1 → t ≡ false
        go true t h = let z : ⊥ = omega arith in absurd z
        go false true h = let z : ⊥ = omega arith in absurd z
        go false false h = refl

-- ---- the weights are a network, where a distance is the same both ways
eqb_turned : (a b : ℕ) → eqb a b ≡ eqb b a
eqb_turned a b = go (eqb b a) refl
  where
    go : (t : Bool) → eqb b a ≡ t → eqb a b ≡ t
    go true e = eq-eqb a b (sym (eqb-true b a e))
    go false e = ne_eqb a b (λ p. eqb-false b a e (sym p))

module _ (d : ℕ → ℕ → ℤ) (turned : (i j : ℕ) → d i j ≡ d j i) where
  third_turned : (a b c : ℕ) → third_in d a b c ≡ third_in d b a c
  unfolding in_circle
  third_turned a b c = rw (or_comm (eqb c a) (eqb c b), turned a b, +ℤ_comm (d a c) (d b c)) refl

  weight_turned : (n a b : ℕ) → gabriel_weight d n a b ≡ gabriel_weight d n b a
  unfolding gabriel_weight any_in_circle
  weight_turned n a b =
      rw (eqb_turned a b, some_cong (third_in d a b) (third_in d b a) n (λ c p. third_turned a b c)) refl

  weight_at_most_1 : (n a b : ℕ) → gabriel_weight d n a b ≤ 1
  unfolding gabriel_weight
  weight_at_most_1 n a b = go (eqb a b || any_in_circle d n a b)
    where
      go : (t : Bool) → cond {A = ℕ} t 0 1 ≤ 1
      go true = omega arith
      go false = omega arith

  pub weights_network : (n : ℕ) → Network (gabriel_weight d n) n
  weights_network n = record {
    zero_or_one = λ i j h k. weight_at_most_1 n i j;
    both_ways = λ i j h k. weight_turned n i j;
    diagonal = λ i h. weight_none d i i n refl;
  }

-- ---- the circle by its coordinates: c and the midpoint of a and b along one of them, and the two together
pub along :
    (a b c : ℤ) →
    square ((c +ℤ c) -ℤ (a +ℤ b)) +ℤ square (a -ℤ b)
    ≡ (square (a -ℤ c) +ℤ square (b -ℤ c)) +ℤ (square (a -ℤ c) +ℤ square (b -ℤ c))
along a b c = rw (diff_of a, diff_of b, diff_of c) (simp (diff_+, diff_*, diff_neg) (diff_eq _ _ _ _ (omega arith)))

pub twice : (p q r s : ℤ) → ((p +ℤ q) +ℤ (p +ℤ q)) +ℤ ((r +ℤ s) +ℤ (r +ℤ s)) ≡ ((p +ℤ r) +ℤ (q +ℤ s)) +ℤ ((p +ℤ r) +ℤ (q +ℤ s))
twice p q r s = +_swap (p +ℤ q) (p +ℤ q) (r +ℤ s) (r +ℤ s) ∙ ap (λ z. z +ℤ z) (+_swap p q r s)

-- where q + m is 2 s, m is less than s exactly when it is less than q
pub less_halved :
    (m s q : ℤ) → m ≡ pos (nat_abs m) → s ≡ pos (nat_abs s) → q ≡ pos (nat_abs q) → q +ℤ m ≡ s +ℤ s → lt_z m s ≡ lt_z m q
less_halved (pos m) (pos s) (pos q) h k l e = go (ap nat_abs e) (dec_lt m s)
  where
    go : q + m ≡ s + s → Dec (m < s) → ltb m s ≡ ltb m q
    go e (yes p) = lt-ltb m s p ∙ sym (lt-ltb m q (omega arith))
    go e (no p) = le-ltb m s (omega arith) ∙ sym (le-ltb m q (omega arith))
less_halved (negsuc m) s q h k l e = absurd (true≢false (ap below_zero h))
less_halved (pos m) (negsuc s) q h k l e = absurd (true≢false (ap below_zero k))
less_halved (pos m) (pos s) (negsuc q) h k l e = absurd (true≢false (ap below_zero l))
