-- Laws of `table`, and of a loop that writes one from the front. Assumes nothing.
use mathlib.Core.Path.{◌≡◌, refl, sym, ap, ◌∙◌}
use mathlib.Core.List.{List, ◌∷◌}
use Prim.Native.Nat.{ℕ, zero, suc, ◌+◌, ◌≤◌, ◌<◌}
use native.Mathlib.Decide.{ℕ_discrete}
use native.Mathlib.Omega.{arith}
use lib.ListN.{length, get_or, set, take}
use lib.Seq.{ext_get_or, get_or-set_same, get_or-set_other}
use Rattle.whole.specs.Table.{table}

module _ {A : Type 0} where
  pub table_length : (f : ℕ → A) (n : ℕ) → length (table f n) ≡ n
  unfolding table
  table_length f zero = refl
  table_length f (suc n) = ap suc (table_length (λ k. f (suc k)) n)

  pub table_at : (f : ℕ → A) (n k : ℕ) (d : A) → k < n → get_or (table f n) k d ≡ f k
  unfolding table
  table_at f zero k d h = let z : ⊥ = omega arith in absurd z
  table_at f (suc n) zero d h = refl
  table_at f (suc n) (suc k) d h = table_at (λ k. f (suc k)) n k d (omega arith)

  -- and what a list that is the table holds
  pub table_held : (f : ℕ → A) (n : ℕ) (d : A) (l : List A) → l ≡ table f n → (k : ℕ) → k < n → get_or l k d ≡ f k
  table_held f n d l e k h = ap (λ t. get_or t k d) e ∙ table_at f n k d h

  -- a list of that length and with those elements is the table
  pub is_table : (f : ℕ → A) (n : ℕ) (d : A) (l : List A) → length l ≡ n → ((k : ℕ) → k < n → get_or l k d ≡ f k) → l ≡ table f n
  is_table f n d l e h =
      ext_get_or d l (table f n) (e ∙ sym (table_length f n)) (λ k p. h k (omega arith) ∙ sym (table_at f n k d (omega arith)))

  pub table_cong : (f g : ℕ → A) (n : ℕ) (d : A) → ((k : ℕ) → k < n → f k ≡ g k) → table f n ≡ table g n
  table_cong f g n d h = is_table g n d (table f n) (table_length f n) (λ k p. table_at f n k d p ∙ h k p)

  -- its first m
  pub table_front : (f : ℕ → A) (m n : ℕ) → m ≤ n → take m (table f n) ≡ table f m
  unfolding table
  table_front f zero n h = refl
  table_front f (suc m) zero h = let z : ⊥ = omega arith in absurd z
  table_front f (suc m) (suc n) h = ap (λ l. f zero ∷ l) (table_front (λ k. f (suc k)) m n (omega arith))

  -- one more store
  pub stored :
      (f : ℕ → A) (d v : A) (l : List A) (i : ℕ) → i < length l → v ≡ f i → ((k : ℕ) → k < i → get_or l k d ≡ f k) → (k : ℕ) → k < i + 1 →
      get_or (set l i v) k d ≡ f k
  stored f d v l i p e h k q = pick (ℕ_discrete k i)
    where
      pick : Dec (k ≡ i) → get_or (set l i v) k d ≡ f k
      pick (yes r) = rw r (get_or-set_same l i v d p ∙ e)
      pick (no r) = get_or-set_other l i k v d r ∙ h k (omega arith)
