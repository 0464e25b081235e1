-- What is so of the weights of a network that lie in a list, a row for each zone: 4 and 5 never apply to them. Assumes nothing.
use mathlib.Core.Path.{◌≡◌, sym, ◌∙◌}
use mathlib.Core.Bool.{false}
use Prim.Native.Nat.{ℕ, ◌≤◌, ◌<◌}
use native.Mathlib.Omega.{arith}
use borrow.Author.Tests.{le-ltb}
use lib.Dec.{ltb}
use Rattle.whole.specs.Network.{Network}
use Rattle.whole.specs.Search.{any_above, any_on_diagonal}
use Rattle.whole.specs.Table.{table_rows, pair_at}
use Rattle.whole.proofs.Search.{all_within, none_some}
use Rattle.whole.proofs.TableRows.{rows_length, rows_at, rows_each}

-- what the list of n rows of n holds of the ordered pair (i,j)
pub square_at : (f : ℕ → ℕ → ℕ) (n i j : ℕ) → i < n → j < n → pair_at (table_rows f n n) n i j ≡ f i j
unfolding pair_at
square_at f n i j h k = rows_at f n n i j 0 h k

module _ (f : ℕ → ℕ → ℕ) (n : ℕ) (network : Network f n) where
  -- no weight is above 9
  pub never_4 : any_above 9 (table_rows f n n) ≡ false
  never_4 =
      all_within 9 (table_rows f n n)
      (λ t p. rows_each f (λ w. w ≤ 9) n n 0 (λ i j h k. omega (arith, network.zero_or_one i j h k)) t (omega (arith, rows_length f n n)))

  -- none stands on the diagonal
  pub never_5 : any_on_diagonal n (table_rows f n n) ≡ false
  unfolding any_on_diagonal
  never_5 =
      none_some (λ i. ltb 0 (pair_at (table_rows f n n) n i i)) n
      (λ i h. le-ltb 0 (pair_at (table_rows f n n) n i i) (omega (arith, square_at f n i i h h, network.diagonal i h)))

  -- and the list is the network
  pub network_listed : Network (pair_at (table_rows f n n) n) n
  network_listed = record {
    zero_or_one = λ i j h k. omega (arith, square_at f n i j h k, network.zero_or_one i j h k);
    both_ways = λ i j h k. square_at f n i j h k ∙ network.both_ways i j h k ∙ sym (square_at f n j i k h);
    diagonal = λ i h. square_at f n i i h h ∙ network.diagonal i h;
  }
