-- Laws of ℤ that lib.IntN lacks: the product over a sum, its associativity and its sign. An identity of ℤ is proved by `omega`:
-- every integer is a difference of two naturals, `diff a b`, and sums, negatives and products of differences are differences, so that
-- the identity comes to one of ℕ, which `omega` multiplies out. Assumes nothing.
use mathlib.Core.Path.{◌≡◌, sym, ap, ◌∙◌}
use Prim.Native.Nat.{ℕ, zero, suc, ◌+◌, ◌*◌}
use native.Mathlib.Nat as N
use native.Mathlib.Omega.{arith}
use lib.IntN.{ℤ, pos, negsuc, neg_ℤ, ◌+ℤ◌, ◌-ℤ◌, ◌*ℤ◌, +ℤ-suc_ℤ, +ℤ-pred_ℤ, -ℤ_one, +ℤ_idl, +ℤ_idr, +ℤ_assoc, +ℤ_comm, +ℤ_invr, +ℤ_invl}
use lib.IntN.{neg_ℤ-+ℤ, neg_ℤ-neg_ℤ, zero-*ℤ, *ℤ_comm, suc_ℤ-*ℤ, pred_ℤ-*ℤ}

-- ---- sums of three and four
+_left_comm : (a b c : ℤ) → a +ℤ (b +ℤ c) ≡ b +ℤ (a +ℤ c)
+_left_comm a b c = sym (+ℤ_assoc a b c) ∙ ap (λ x. x +ℤ c) (+ℤ_comm a b) ∙ +ℤ_assoc b a c

pub +_swap : (a b c d : ℤ) → (a +ℤ b) +ℤ (c +ℤ d) ≡ (a +ℤ c) +ℤ (b +ℤ d)
+_swap a b c d = +ℤ_assoc a b (c +ℤ d) ∙ ap (λ x. a +ℤ x) (+_left_comm b c d) ∙ sym (+ℤ_assoc a c (b +ℤ d))

-- ---- the product over a sum
*_dist_r : (m n k : ℤ) → (m +ℤ n) *ℤ k ≡ m *ℤ k +ℤ n *ℤ k
*_dist_r m (pos zero) k = ap (λ x. x *ℤ k) (+ℤ_idr m) ∙ sym (ap (λ x. m *ℤ k +ℤ x) (zero-*ℤ k) ∙ +ℤ_idr (m *ℤ k))
*_dist_r m (pos (suc n)) k =
    ap (λ x. x *ℤ k) (+ℤ-suc_ℤ m (pos n))
    ∙ suc_ℤ-*ℤ (m +ℤ pos n) k
    ∙ ap (λ x. x +ℤ k) (*_dist_r m (pos n) k)
    ∙ +ℤ_assoc (m *ℤ k) (pos n *ℤ k) k
    ∙ ap (λ x. m *ℤ k +ℤ x) (sym (suc_ℤ-*ℤ (pos n) k))
*_dist_r m (negsuc zero) k =
    ap (λ x. x *ℤ k) (-ℤ_one m)
    ∙ pred_ℤ-*ℤ m k
    ∙ ap (λ x. m *ℤ k +ℤ x) (sym (pred_ℤ-*ℤ (pos zero) k ∙ ap (λ x. x -ℤ k) (zero-*ℤ k) ∙ +ℤ_idl (neg_ℤ k)))
*_dist_r m (negsuc (suc n)) k =
    ap (λ x. x *ℤ k) (+ℤ-pred_ℤ m (negsuc n))
    ∙ pred_ℤ-*ℤ (m +ℤ negsuc n) k
    ∙ ap (λ x. x -ℤ k) (*_dist_r m (negsuc n) k)
    ∙ +ℤ_assoc (m *ℤ k) (negsuc n *ℤ k) (neg_ℤ k)
    ∙ ap (λ x. m *ℤ k +ℤ x) (sym (pred_ℤ-*ℤ (negsuc n) k))

pub *_dist_l : (k m n : ℤ) → k *ℤ (m +ℤ n) ≡ k *ℤ m +ℤ k *ℤ n
*_dist_l k m n = *ℤ_comm k (m +ℤ n) ∙ *_dist_r m n k ∙ ap (λ x. x +ℤ n *ℤ k) (*ℤ_comm m k) ∙ ap (λ x. k *ℤ m +ℤ x) (*ℤ_comm n k)

-- ---- the sign of a product
-- what is added to a and gives 0 is the negative of a
neg_unique : (a b : ℤ) → a +ℤ b ≡ pos zero → b ≡ neg_ℤ a
neg_unique a b h = sym (+ℤ_idl b) ∙ ap (λ x. x +ℤ b) (sym (+ℤ_invl a)) ∙ +ℤ_assoc (neg_ℤ a) a b ∙ ap (λ x. neg_ℤ a +ℤ x) h ∙ +ℤ_idr (neg_ℤ a)

neg_* : (m k : ℤ) → neg_ℤ m *ℤ k ≡ neg_ℤ (m *ℤ k)
neg_* m k = neg_unique (m *ℤ k) (neg_ℤ m *ℤ k) (sym (*_dist_r m (neg_ℤ m) k) ∙ ap (λ x. x *ℤ k) (+ℤ_invr m) ∙ zero-*ℤ k)

*_neg : (m k : ℤ) → m *ℤ neg_ℤ k ≡ neg_ℤ (m *ℤ k)
*_neg m k = *ℤ_comm m (neg_ℤ k) ∙ neg_* k m ∙ ap neg_ℤ (*ℤ_comm k m)

-- ---- a difference of two naturals. It stays shut where an identity is proved, so that `simp` sees only the laws below
unfoldable pub diff : ℕ → ℕ → ℤ
diff a b = pos a -ℤ pos b

-- the two naturals of an integer: its size where it is above 0, and where it is below
unfoldable pub plus_part : ℤ → ℕ
plus_part (pos n) = n
plus_part (negsuc n) = zero

unfoldable pub minus_part : ℤ → ℕ
minus_part (pos n) = zero
minus_part (negsuc n) = suc n

pub diff_of : (z : ℤ) → z ≡ diff (plus_part z) (minus_part z)
unfolding diff plus_part minus_part
diff_of (pos n) = sym (+ℤ_idr (pos n))
diff_of (negsuc n) = sym (+ℤ_idl (negsuc n))

pub diff_pos : (n : ℕ) → pos n ≡ diff n 0
unfolding diff
diff_pos n = sym (+ℤ_idr (pos n))

pub diff_+ : (a b c d : ℕ) → diff a b +ℤ diff c d ≡ diff (a + c) (b + d)
unfolding diff
diff_+ a b c d = +_swap (pos a) (neg_ℤ (pos b)) (pos c) (neg_ℤ (pos d)) ∙ ap (λ x. pos (a + c) +ℤ x) (sym (neg_ℤ-+ℤ (pos b) (pos d)))

pub diff_neg : (a b : ℕ) → neg_ℤ (diff a b) ≡ diff b a
unfolding diff
diff_neg a b = neg_ℤ-+ℤ (pos a) (neg_ℤ (pos b)) ∙ ap (λ x. neg_ℤ (pos a) +ℤ x) (neg_ℤ-neg_ℤ (pos b)) ∙ +ℤ_comm (neg_ℤ (pos a)) (pos b)

pub diff_* : (a b c d : ℕ) → diff a b *ℤ diff c d ≡ diff (a * c + b * d) (a * d + b * c)
unfolding diff
diff_* a b c d =
    let of_a = *_dist_l (pos a) (pos c) (neg_ℤ (pos d)) ∙ ap (λ x. pos (a * c) +ℤ x) (*_neg (pos a) (pos d)) in
    let of_b = *_dist_l (pos b) (pos c) (neg_ℤ (pos d)) ∙ ap (λ x. pos (b * c) +ℤ x) (*_neg (pos b) (pos d)) in
    *_dist_r (pos a) (neg_ℤ (pos b)) (pos c -ℤ pos d)
    ∙ ap (λ x. x +ℤ neg_ℤ (pos b) *ℤ (pos c -ℤ pos d)) of_a
    ∙ ap (λ x. (pos (a * c) -ℤ pos (a * d)) +ℤ x) (neg_* (pos b) (pos c -ℤ pos d) ∙ ap neg_ℤ of_b ∙ diff_neg (b * c) (b * d))
    ∙ diff_+ (a * c) (a * d) (b * d) (b * c)

diff_shift : (a b k : ℕ) → diff (a + k) (b + k) ≡ diff a b
unfolding diff
diff_shift a b k = sym (diff_+ a b k k) ∙ ap (λ x. diff a b +ℤ x) (+ℤ_invr (pos k)) ∙ +ℤ_idr (diff a b)

-- differences are equal where the crossed sums are
pub diff_eq : (a b c d : ℕ) → a + d ≡ c + b → diff a b ≡ diff c d
diff_eq a b c d h = sym (diff_shift a b d) ∙ ap (λ x. diff x (b + d)) h ∙ ap (λ x. diff (c + b) x) (N.add_comm b d) ∙ diff_shift c d b

-- ---- identities, by `omega`
pub *_assoc : (a b c : ℤ) → (a *ℤ b) *ℤ c ≡ a *ℤ (b *ℤ c)
*_assoc a b c = rw (diff_of a, diff_of b, diff_of c) (simp (diff_+, diff_*, diff_neg) (diff_eq _ _ _ _ (omega arith)))

pub *_left_comm : (a b c : ℤ) → a *ℤ (b *ℤ c) ≡ b *ℤ (a *ℤ c)
*_left_comm a b c = rw (diff_of a, diff_of b, diff_of c) (simp diff_* (diff_eq _ _ _ _ (omega arith)))

-- a difference is 0 only between equals
pub equal_of_diff : (a b : ℤ) → a -ℤ b ≡ pos 0 → a ≡ b
equal_of_diff a b e = sym (back a b) ∙ ap (λ x. x +ℤ b) e ∙ +ℤ_idl b
  where
    back : (a b : ℤ) → (a -ℤ b) +ℤ b ≡ a
    back a b = +ℤ_assoc a (neg_ℤ b) b ∙ ap (λ x. a +ℤ x) (+ℤ_invl b) ∙ +ℤ_idr a
