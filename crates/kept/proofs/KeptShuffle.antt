-- The kept numbers of a shuffle, each by its place among the kept zones, are a shuffle of the kept zones; where all are kept, the same one.
-- Assumes nothing.
use mathlib.Core.Path.{◌≡◌, sym, ap, ◌∙◌}
use mathlib.Core.Bool.{Bool, false, not, cond}
use mathlib.Core.List.{List}
use Prim.Native.Nat.{ℕ, ◌+◌, ◌*◌, ◌/◌, ◌%◌, ◌<◌}
use native.Mathlib.Omega.{arith}
use lib.Dec.{eqb}
use lib.IntN.{pos, nat_abs}
use lib.ListN.{length, get_or}
use Rattle.whole.specs.Order.{lacks}
use Rattle.whole.specs.Search.{count}
use Rattle.whole.specs.Table.{table_rows, pair_at}
use Rattle.whole.proofs.Permutation.{Permutation, stands, distinct, full, none_lacking, permuted_sum}
use Rattle.whole.proofs.Search.{some_cong}
use Rattle.whole.proofs.TableRows.{split, rows_length, rows_at, rows_flat}
use Rattle.kept.specs.Kept.{passing, keeps, kept_count, kept_place, kept_row, kept_shuffles}
use Rattle.kept.proofs.KeptZones.{keeps_all, own_kept_place}
use Rattle.kept.proofs.Passing.{Stands, place_below, nth_place, nth_stands, own_place, count_ones}

-- as many numbers of a row that lacks none pass a test as numbers below n do
pub as_many : (test : ℕ → Bool) (row : ℕ → ℕ) (n : ℕ) → lacks row n ≡ false → count (λ p. test (row p)) n ≡ count test n
as_many test row n e =
    ap nat_abs
    (count_ones (λ p. test (row p)) n
    ∙ permuted_sum row (stands row n) n (full row n e) (λ i. cond (test i) (pos 1) (pos 0))
    ∙ sym (count_ones test n))

module _ (n : ℕ) (weights : List ℕ) (row : ℕ → ℕ) (all : lacks row n ≡ false) where
  abbrev t : ℕ → Bool
  t = keeps n weights

  s : Permutation row (stands row n) n
  s = full row n all

  -- the k-th place whose number is kept
  abbrev place : ℕ → ℕ
  place k = get_or (passing (λ p. t (row p)) n) k 0

  stands_there : (k : ℕ) → k < count t n → Stands (λ p. t (row p)) n k (place k)
  stands_there k h = nth_stands (λ p. t (row p)) n k (omega (arith, as_many t row n all))

  into : (k : ℕ) → k < count t n → count t (row (place k)) < count t n
  into k h =
      let p = stands_there k h in
      place_below t n (row (place k)) (s.into (place k) p.below) p.passes

  apart : (k l : ℕ) → k < count t n → l < count t n → count t (row (place k)) ≡ count t (row (place l)) → k ≡ l
  apart k l h i e =
      let p = stands_there k h in
      let q = stands_there l i in
      let same_number : row (place k) ≡ row (place l) =
      sym (nth_place t n (row (place k)) (s.into (place k) p.below) p.passes)
      ∙ ap (λ c. get_or (passing t n) c 0) e
      ∙ nth_place t n (row (place l)) (s.into (place l) q.below) q.passes in
      let same_place : place k ≡ place l =
      sym (s.there (place k) p.below) ∙ ap (stands row n) same_number ∙ s.there (place l) q.below in
      sym p.before ∙ ap (count (λ p. t (row p))) same_place ∙ q.before

  pub kept_row_full : lacks (kept_row n weights row) (kept_count n weights) ≡ false
  unfolding kept_row kept_count
  kept_row_full =
      let f : ℕ → ℕ = λ k. count t (row (place k)) in
      none_lacking f (stands f (count t n)) (count t n) (distinct f (count t n) into apart)

-- ---- a list of shuffles: each of its rows, struck to the kept numbers, is a shuffle of the kept zones
lacks_cong : (f g : ℕ → ℕ) (n : ℕ) → ((i : ℕ) → i < n → f i ≡ g i) → lacks f n ≡ lacks g n
unfolding lacks
lacks_cong f g n h =
    some_cong _ _ n (λ k p. ap not (some_cong (λ i. eqb (f i) k) (λ i. eqb (g i) k) n (λ i q. ap (λ z. eqb z k) (h i q))))

module _ (n : ℕ) (weights : List ℕ) (rows : ℕ) (shuffles : List ℕ) where
  pub shuffle_at :
      (r k : ℕ) → r < rows → k < kept_count n weights →
      pair_at (kept_shuffles n weights rows shuffles) (kept_count n weights) r k ≡ kept_row n weights (pair_at shuffles n r) k
  unfolding kept_shuffles pair_at
  shuffle_at r k p q = rows_at (λ r. kept_row n weights (pair_at shuffles n r)) rows (kept_count n weights) r k 0 p q

  pub shuffle_full :
      (r : ℕ) → r < rows → lacks (pair_at shuffles n r) n ≡ false →
      lacks (pair_at (kept_shuffles n weights rows shuffles) (kept_count n weights) r) (kept_count n weights) ≡ false
  shuffle_full r p full_row =
      lacks_cong _ (kept_row n weights (pair_at shuffles n r)) (kept_count n weights) (λ k q. shuffle_at r k p q)
      ∙ kept_row_full n weights (pair_at shuffles n r) full_row

  pub shuffles_length : length (kept_shuffles n weights rows shuffles) ≡ rows * kept_count n weights
  unfolding kept_shuffles
  shuffles_length = rows_length (λ r. kept_row n weights (pair_at shuffles n r)) rows (kept_count n weights)

-- ---- where all zones are kept, the shuffles are those that are lent
module _ (n : ℕ) (weights : List ℕ) (all : kept_count n weights ≡ n) where
  same_row : (row : ℕ → ℕ) → ((p : ℕ) → p < n → row p < n) → (k : ℕ) → k < n → kept_row n weights row k ≡ row k
  unfolding kept_row
  same_row row into k h =
      let here = own_place (λ p. keeps n weights (row p)) n (λ p q. keeps_all n weights all (row p) (into p q)) k h in
      ap (λ p. kept_place n weights (row p)) here ∙ own_kept_place n weights all (row k) (omega (arith, into k h))

  pub same_shuffles :
      (rows : ℕ) (shuffles : List ℕ) → length shuffles ≡ rows * n → ((r : ℕ) → r < rows → lacks (pair_at shuffles n r) n ≡ false) →
      kept_shuffles n weights rows shuffles ≡ shuffles
  unfolding kept_shuffles pair_at
  same_shuffles rows shuffles long full_rows =
      ap (table_rows (λ r. kept_row n weights (row r)) rows) all
      ∙ sym
      (rows_flat (λ r. kept_row n weights (row r)) rows n 0 shuffles long
      (λ p h.
      let s = split rows n p h in
      let f = full (row (p / n)) n (full_rows (p / n) s.row) in
      ap (λ t. get_or shuffles t 0) (sym s.whole) ∙ sym (same_row (row (p / n)) f.into (p % n) s.column)))
    where
      row : ℕ → ℕ → ℕ
      row r j = get_or shuffles (r * n + j) 0
