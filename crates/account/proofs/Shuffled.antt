-- A job in a shuffle: S stays, and the deviations, no larger than they were, are shuffled. Assumes nothing.
use mathlib.Core.Path.{◌≡◌, sym, ap, ◌∙◌}
use mathlib.Core.Bool.{false}
use mathlib.Core.List.{List}
use Prim.Native.Nat.{ℕ, ◌+◌, ◌*◌, ◌≤◌, ◌<◌}
use lib.IntN.{ℤ, pos, nat_abs, ◌-ℤ◌, ◌*ℤ◌}
use lib.ListN.{length, get_or, take, drop}
use Rattle.whole.specs.Order.{lacks}
use Rattle.whole.specs.Table.{table, at, pair_at}
use Rattle.whole.proofs.Permutation.{stands, full, permuted_sum}
use Rattle.whole.proofs.Table.{table_held}
use Rattle.shuffles.specs.Steps.{Shuffles}
use Rattle.shuffles.proofs.ShuffleList.{shuffle_there, row_lacks}
use Rattle.account.specs.Measures.{total_of, deviation_of}
use Rattle.account.specs.Rank.{shuffled, values_cross, shuffle_cross}
use Rattle.account.specs.Steps.{Sized, cross_held, cross_moved}
use Rattle.account.proofs.Adding.{cross_alike}
use Rattle.account.proofs.Rows.{part_length, part_at}

-- ---- row r of a list of shuffles, as it was cut out
module _
    (shuffles : List ℕ) (n rows r : ℕ) (w : Shuffles shuffles n rows) (h : r < rows) (row : List ℕ)
    (e : row ≡ take n (drop (r * n) shuffles)) where
  there : r * n + n ≤ length shuffles
  there = (shuffle_there shuffles n rows r w h).row.there

  pub row_long : length row ≡ n
  row_long = part_length shuffles n r there row e

  pub row_names : (i : ℕ) → i < n → get_or row i 0 ≡ pair_at shuffles n r i
  unfolding pair_at
  row_names i p = part_at shuffles n r there row e i 0 p

  pub row_full : lacks (λ i. get_or row i 0) (length row) ≡ false
  row_full =
      ap (λ t. lacks (λ i. get_or t i 0) (length t)) e
      ∙ row_lacks shuffles n r there
      ∙ w.full r h

-- ---- the deviations that the zones take in a shuffle are no larger
pub shuffled_size :
    (d : List ℤ) (row : ℕ → ℕ) (n b : ℕ) → Sized b d n → lacks row n ≡ false → (i : ℕ) → i < n → nat_abs (shuffled (at d) row i) ≤ b
shuffled_size d row n b s all i p = s.size (row i) ((full row n all).into i p)

-- ---- a shuffle of the values x: S stays, and each zone takes the deviation of the zone that it takes the value of
module _ (x : ℕ → ℤ) (row : ℕ → ℕ) (n : ℕ) (all : lacks row n ≡ false) where
  pub shuffled_total : total_of (shuffled x row) n ≡ total_of x n
  unfolding total_of
  shuffled_total = permuted_sum row (stands row n) n (full row n all) x

  pub shuffled_deviation : (i : ℕ) → deviation_of (shuffled x row) n i ≡ shuffled (deviation_of x n) row i
  unfolding deviation_of
  shuffled_deviation i = ap (λ s. pos n *ℤ x (row i) -ℤ s) shuffled_total

-- ---- in the code's list of deviations
module _ (values : List ℤ) (weights : List ℕ) (n : ℕ) (d : List ℤ) (e : d ≡ table (deviation_of (at values) n) n) where
  held : (i : ℕ) → i < n → at d i ≡ deviation_of (at values) n i
  held = table_held (deviation_of (at values) n) n (pos 0) d e

  pub own_cross : cross_held weights n d ≡ values_cross n weights (at values)
  unfolding values_cross
  own_cross = cross_alike (pair_at weights n) n (at d) (deviation_of (at values) n) held

  pub its_cross :
      (shuffles : List ℕ) (r : ℕ) → lacks (pair_at shuffles n r) n ≡ false →
      cross_moved weights n d shuffles r ≡ shuffle_cross n values weights shuffles r
  unfolding shuffle_cross values_cross
  its_cross shuffles r all =
      let row = pair_at shuffles n r in
      cross_alike (pair_at weights n) n (shuffled (at d) row) (deviation_of (shuffled (at values) row) n)
      (λ i p. held (row i) ((full row n all).into i p) ∙ sym (shuffled_deviation (at values) row n all i))
