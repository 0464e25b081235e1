-- Squared differences over the pairs i < j. With s the sum of f and q the sum of its squares, they sum to n q − s s, and the squares of
-- n f(k) − s sum to n times that. Assumes nothing.
use mathlib.Core.Path.{◌≡◌, refl, sym, ap, ◌∙◌}
use Prim.Native.Nat.{ℕ, zero, suc}
use native.Mathlib.Omega.{arith}
use lib.IntN.{ℤ, pos, neg_ℤ, ◌+ℤ◌, ◌-ℤ◌, ◌*ℤ◌}
use Rattle.whole.specs.Integer.{square}
use Rattle.whole.specs.Sum.{sum}
use Rattle.whole.proofs.Integer.{diff_of, diff_pos, diff_+, diff_*, diff_neg, diff_eq, *_assoc}
use Rattle.whole.proofs.Sum.{sum_cong, sum_+, sum_scale, sum_const}

-- ---- identities of integers
square_diff : (a b : ℤ) → square (a -ℤ b) ≡ (square a +ℤ neg_ℤ (b +ℤ b) *ℤ a) +ℤ square b
square_diff a b = rw (diff_of a, diff_of b) (simp (diff_+, diff_*, diff_neg) (diff_eq _ _ _ _ (omega arith)))

square_* : (a b : ℤ) → square (a *ℤ b) ≡ square a *ℤ square b
square_* a b = rw (diff_of a, diff_of b) (simp diff_* (diff_eq _ _ _ _ (omega arith)))

one_more :
    (n : ℕ) (q s b : ℤ) →
    (pos n *ℤ q -ℤ square s) +ℤ ((q +ℤ neg_ℤ (b +ℤ b) *ℤ s) +ℤ pos n *ℤ square b) ≡ pos (suc n) *ℤ (q +ℤ square b) -ℤ square (s +ℤ b)
one_more n q s b =
    rw (diff_of q, diff_of s, diff_of b, diff_pos n, diff_pos (suc n)) (simp (diff_+, diff_*, diff_neg) (diff_eq _ _ _ _ (omega arith)))

collect : (c q s : ℤ) → (square c *ℤ q +ℤ neg_ℤ (s +ℤ s) *ℤ c *ℤ s) +ℤ c *ℤ square s ≡ c *ℤ (c *ℤ q -ℤ square s)
collect c q s = rw (diff_of q, diff_of s, diff_of c) (simp (diff_+, diff_*, diff_neg) (diff_eq _ _ _ _ (omega arith)))

scaled_diff : (c s a : ℤ) → square (c *ℤ a -ℤ s) ≡ (square c *ℤ square a +ℤ neg_ℤ (s +ℤ s) *ℤ c *ℤ a) +ℤ square s
scaled_diff c s a =
    square_diff (c *ℤ a) s
    ∙ ap (λ z. (z +ℤ neg_ℤ (s +ℤ s) *ℤ (c *ℤ a)) +ℤ square s) (square_* c a)
    ∙ ap (λ z. (square c *ℤ square a +ℤ z) +ℤ square s) (sym (*_assoc (neg_ℤ (s +ℤ s)) c a))

module _ (f : ℕ → ℤ) where
  abbrev squares : ℕ → ℤ
  squares n = sum (λ k. square (f k)) n

  -- the sum of a (f k)² + b f k + c
  quadratic : (a b c : ℤ) (n : ℕ) → sum (λ k. (a *ℤ square (f k) +ℤ b *ℤ f k) +ℤ c) n ≡ (a *ℤ squares n +ℤ b *ℤ sum f n) +ℤ pos n *ℤ c
  quadratic a b c n =
      let without_c =
      sum_+ (λ k. a *ℤ square (f k)) (λ k. b *ℤ f k) n
      ∙ ap (λ z. z +ℤ sum (λ k. b *ℤ f k) n) (sum_scale a (λ k. square (f k)) n)
      ∙ ap (λ z. a *ℤ squares n +ℤ z) (sum_scale b f n) in
      sum_+ (λ k. a *ℤ square (f k) +ℤ b *ℤ f k) (λ k. c) n
      ∙ ap (λ z. z +ℤ sum (λ k. c) n) without_c
      ∙ ap (λ z. (a *ℤ squares n +ℤ b *ℤ sum f n) +ℤ z) (sum_const c n)

  one_times : (z : ℤ) → pos 1 *ℤ z ≡ z
  one_times z = rw (diff_of z, diff_pos 1) (simp diff_* (diff_eq _ _ _ _ (omega arith)))

  -- of the differences to one number
  to_one : (b : ℤ) (n : ℕ) → sum (λ k. square (f k -ℤ b)) n ≡ (squares n +ℤ neg_ℤ (b +ℤ b) *ℤ sum f n) +ℤ pos n *ℤ square b
  to_one b n =
      sum_cong _ _ n (λ k p. square_diff (f k) b ∙ ap (λ z. (z +ℤ neg_ℤ (b +ℤ b) *ℤ f k) +ℤ square b) (sym (one_times (square (f k)))))
      ∙ quadratic (pos 1) (neg_ℤ (b +ℤ b)) (square b) n
      ∙ ap (λ z. (z +ℤ neg_ℤ (b +ℤ b) *ℤ sum f n) +ℤ pos n *ℤ square b) (one_times (squares n))

  pub pairs_sum : (n : ℕ) → sum (λ j. sum (λ i. square (f i -ℤ f j)) j) n ≡ pos n *ℤ squares n -ℤ square (sum f n)
  unfolding sum
  pairs_sum zero = refl
  pairs_sum (suc n) =
      ap (λ z. z +ℤ sum (λ i. square (f i -ℤ f n)) n) (pairs_sum n)
      ∙ ap (λ z. (pos n *ℤ squares n -ℤ square (sum f n)) +ℤ z) (to_one (f n) n)
      ∙ one_more n (squares n) (sum f n) (f n)

  pub deviations_squared : (n : ℕ) → sum (λ k. square (pos n *ℤ f k -ℤ sum f n)) n ≡ pos n *ℤ sum (λ j. sum (λ i. square (f i -ℤ f j)) j) n
  deviations_squared n =
      let s = sum f n in
      sum_cong _ _ n (λ k p. scaled_diff (pos n) s (f k))
      ∙ quadratic (square (pos n)) (neg_ℤ (s +ℤ s) *ℤ pos n) (square s) n
      ∙ collect (pos n) (squares n) s
      ∙ ap (λ z. pos n *ℤ z) (sym (pairs_sum n))
