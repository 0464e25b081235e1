-- Items of a kind, one after the other, and their bytes: reading the bytes gives the items, and writing what was read gives the bytes.
-- Assumes nothing.
use mathlib.Core.Path.{◌≡◌, refl, sym, ap, ◌∙◌}
use mathlib.Core.List.{List, [], ◌∷◌, ◌++◌, append_assoc}
use Prim.Native.Nat.{ℕ, zero, suc, ◌+◌, ◌*◌, ◌≤◌, ◌<◌}
use native.Mathlib.Nat.{mul-suc, mul-zero, add_comm}
use native.Mathlib.Omega.{arith}
use lib.ListN.{length, get_or, take, drop, length-drop}
use lib.Seq.{drop_at, take-add, get_or-drop}
use Rattle.whole.specs.Table.{table, each}
use Rattle.whole.proofs.Table.{table_cong}

-- every element is a byte
abbrev pub Bytes : List ℕ → Type 0
Bytes b = (k : ℕ) → get_or b k 0 < 256

pub drop_bytes : (n : ℕ) (b : List ℕ) → Bytes b → Bytes (drop n b)
drop_bytes n b h k = rw (get_or-drop n b k 0) (h (n + k))

-- every item of a list
pub data All {A : Type 0} (P : A → Type 0) : List A → Type 0 where
  none : All P []
  more : {x : A} {xs : List A} → P x → All P xs → All P (x ∷ xs)

-- the laws of a kind of item: how it is read at a place, its size, its bytes, and which items have bytes
pub record Kind {A : Type 0} (item : List ℕ → ℕ → A) (size : ℕ) (bytes : A → List ℕ) (Fit : A → Type 0) : Type 0 where
  pub further : (b : List ℕ) (p : ℕ) → item b (size + p) ≡ item (drop size b) p
  pub back : (x : A) (rest : List ℕ) → Fit x → item (bytes x ++ rest) 0 ≡ x
  pub long : (x : A) → length (bytes x) ≡ size
  pub same : (b : List ℕ) → Bytes b → size ≤ length b → bytes (item b 0) ≡ take size b

module _ {A : Type 0} (item : List ℕ → ℕ → A) (size : ℕ) where
  -- the first k items
  abbrev pub listed : ℕ → List ℕ → List A
  listed k b = table (λ i. item b (size * i)) k

module _ {A : Type 0} (item : List ℕ → ℕ → A) (size : ℕ) (bytes : A → List ℕ) (Fit : A → Type 0) (kind : Kind item size bytes Fit) where
  -- one, and those after it
  listed_more : (k : ℕ) (b : List ℕ) → listed item size (suc k) b ≡ item b 0 ∷ listed item size k (drop size b)
  unfolding table
  listed_more k b =
      let next = table_cong (λ i. item b (size * suc i)) (λ i. item (drop size b) (size * i)) k (item b 0)
      (λ i h. ap (item b) (mul-suc size i ∙ add_comm (size * i) size) ∙ kind.further b (size * i)) in
      ap (λ p. item b p ∷ table (λ i. item b (size * suc i)) k) (mul-zero size) ∙ ap (λ l. item b 0 ∷ l) next

  pub listed_back : (xs : List A) (rest : List ℕ) → All Fit xs → listed item size (length xs) (each bytes xs ++ rest) ≡ xs
  unfolding each table
  listed_back [] rest none = refl
  listed_back (x ∷ xs) rest (more o os) =
      listed_more (length xs) ((bytes x ++ each bytes xs) ++ rest)
      ∙ ap (λ b. item b 0 ∷ listed item size (length xs) (drop size b)) (append_assoc (bytes x) (each bytes xs) rest)
      ∙ ap (λ y. y ∷ listed item size (length xs) (drop size (bytes x ++ (each bytes xs ++ rest)))) (kind.back x (each bytes xs ++ rest) o)
      ∙ ap (λ b. x ∷ listed item size (length xs) b) (drop_at (bytes x) (each bytes xs ++ rest) size (kind.long x))
      ∙ ap (λ l. x ∷ l) (listed_back xs rest os)

  pub listed_same : (k : ℕ) (b : List ℕ) → Bytes b → size * k ≤ length b → each bytes (listed item size k b) ≡ take (size * k) b
  unfolding each table
  listed_same zero b h l = rw (mul-zero size)
  listed_same (suc k) b h l =
      let e = mul-suc size k in
      let d = length-drop size b in
      ap (each bytes) (listed_more k b)
      ∙ ap (λ t. t ++ each bytes (listed item size k (drop size b))) (kind.same b h (omega arith))
      ∙ ap (λ t. take size b ++ t) (listed_same k (drop size b) (drop_bytes size b h) (omega arith))
      ∙ sym (take-add size (size * k) b)
      ∙ ap (λ m. take m b) (sym (e ∙ add_comm (size * k) size))
