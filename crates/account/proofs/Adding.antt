-- How the measures add, for any weights: equal deviations give equal sums, the local numerators add up to P, weights that are shared out
-- among parts give sums that add up, and W and M are not below 0. Assumes nothing.
use mathlib.Core.Path.{◌≡◌, refl, sym, ap, ◌∙◌}
use mathlib.Core.Bool.{Bool, true, false, cond}
use Prim.Native.Nat.{ℕ, ◌<◌}
use lib.Dec.{eqb}
use lib.IntN.{ℤ, pos, nat_abs, ◌-ℤ◌, ◌*ℤ◌, zero-*ℤ}
use Rattle.whole.specs.Integer.{square}
use Rattle.whole.specs.Sum.{sum}
use Rattle.whole.proofs.Integer.{*_left_comm}
use Rattle.whole.proofs.Size.{square_above, *_above}
use Rattle.whole.proofs.Sum.{sum_cong, sum_scale, sum_swap, sum_pick}
use Rattle.whole.proofs.SumSize.{sum_above}
use Rattle.account.specs.Measures.{spread_of, row_of, pairs_of, weight_of, cross_of, squares_of, local_of}

-- ---- deviations that agree give the same sums
pub local_alike :
    (f : ℕ → ℕ → ℕ) (n : ℕ) (d e : ℕ → ℤ) → ((i : ℕ) → i < n → d i ≡ e i) → (i : ℕ) → i < n → local_of f d n i ≡ local_of f e n i
unfolding local_of row_of
local_alike f n d e alike i p =
    ap (λ z. z *ℤ sum (λ j. pos (f i j) *ℤ d j) n) (alike i p)
    ∙ ap (λ z. e i *ℤ z) (sum_cong _ _ n (λ j q. ap (λ z. pos (f i j) *ℤ z) (alike j q)))

pub cross_alike : (f : ℕ → ℕ → ℕ) (n : ℕ) (d e : ℕ → ℤ) → ((i : ℕ) → i < n → d i ≡ e i) → cross_of f d n ≡ cross_of f e n
unfolding cross_of pairs_of row_of
cross_alike f n d e alike =
    sum_cong _ _ n
    (λ i p. sum_cong _ _ n (λ j q. ap (λ z. pos (f i j) *ℤ (z *ℤ d j)) (alike i p) ∙ ap (λ z. pos (f i j) *ℤ (e i *ℤ z)) (alike j q)))

-- ---- the local numerators add up to P
pub locals_sum : (f : ℕ → ℕ → ℕ) (d : ℕ → ℤ) (n : ℕ) → sum (λ i. local_of f d n i) n ≡ cross_of f d n
unfolding local_of cross_of pairs_of row_of
locals_sum f d n =
    sum_cong _ _ n
    (λ i p. sym (sum_scale (d i) (λ j. pos (f i j) *ℤ d j) n) ∙ sum_cong _ _ n (λ j q. *_left_comm (d i) (pos (f i j)) (d j)))

-- ---- a weight that counts in the part of its label alone: the m parts add up to it
pub part_of : (b : Bool) (v : ℕ) (z : ℤ) → pos (cond b v 0) *ℤ z ≡ cond b (pos v *ℤ z) (pos 0)
part_of true v z = refl
part_of false v z = zero-*ℤ z

pub counts_once : (label v m : ℕ) (z : ℤ) → label < m → sum (λ k. pos (cond (eqb label k) v 0) *ℤ z) m ≡ pos v *ℤ z
counts_once label v m z h = sum_cong _ _ m (λ k p. part_of (eqb label k) v z) ∙ sum_pick label m (pos v *ℤ z) h

-- ---- where the m parts of each weight add up to it, in what they count, so do the sums
module _ (f : ℕ → ℕ → ℕ → ℕ) (g : ℕ → ℕ → ℕ) (m n : ℕ)
    (shared : (z : ℤ) (i j : ℕ) → i < n → j < n → sum (λ k. pos (f k i j) *ℤ z) m ≡ pos (g i j) *ℤ z) where
  row_parts : (h : ℕ → ℕ → ℤ) (i : ℕ) → i < n → sum (λ k. row_of (f k) h i n) m ≡ row_of g h i n
  unfolding row_of
  row_parts h i p = sum_swap (λ k j. pos (f k i j) *ℤ h i j) m n ∙ sum_cong _ _ n (λ j q. shared (h i j) i j p q)

  pairs_parts : (h : ℕ → ℕ → ℤ) → sum (λ k. pairs_of (f k) h n) m ≡ pairs_of g h n
  unfolding pairs_of
  pairs_parts h = sum_swap (λ k i. row_of (f k) h i n) m n ∙ sum_cong _ _ n (λ i p. row_parts h i p)

  pub weight_parts : sum (λ k. weight_of (f k) n) m ≡ weight_of g n
  unfolding weight_of
  weight_parts = pairs_parts (λ i j. pos 1)

  pub cross_parts : (d : ℕ → ℤ) → sum (λ k. cross_of (f k) d n) m ≡ cross_of g d n
  unfolding cross_of
  cross_parts d = pairs_parts (λ i j. d i *ℤ d j)

  pub squares_parts : (x : ℕ → ℤ) → sum (λ k. squares_of (f k) x n) m ≡ squares_of g x n
  unfolding squares_of
  squares_parts x = pairs_parts (λ i j. square (x i -ℤ x j))

  pub local_parts : (d : ℕ → ℤ) (i : ℕ) → i < n → sum (λ k. local_of (f k) d n i) m ≡ local_of g d n i
  unfolding local_of
  local_parts d i p = sum_scale (d i) (λ k. row_of (f k) (λ i j. d j) i n) m ∙ ap (λ z. d i *ℤ z) (row_parts (λ i j. d j) i p)

-- ---- not below 0
pub spread_above : (x : ℕ → ℤ) (n : ℕ) → spread_of x n ≡ pos (nat_abs (spread_of x n))
unfolding spread_of
spread_above x n = sum_above _ n (λ j p. sum_above _ j (λ i q. square_above (x i -ℤ x j)))

module _ (f : ℕ → ℕ → ℕ) (n : ℕ) where
  pairs_above : (h : ℕ → ℕ → ℤ) → ((i j : ℕ) → h i j ≡ pos (nat_abs (h i j))) → pairs_of f h n ≡ pos (nat_abs (pairs_of f h n))
  unfolding pairs_of row_of
  pairs_above h g = sum_above _ n (λ i p. sum_above _ n (λ j q. *_above (pos (f i j)) (h i j) refl (g i j)))

  pub weight_above : weight_of f n ≡ pos (nat_abs (weight_of f n))
  unfolding weight_of
  weight_above = pairs_above (λ i j. pos 1) (λ i j. refl)
