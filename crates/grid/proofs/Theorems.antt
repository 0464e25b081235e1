-- Theorems of the grid network. Assumes nothing.
use mathlib.Core.Path.{◌≡◌, refl, ap, ◌∙◌}
use mathlib.Core.Bool.{Bool, true, false, ◌||◌}
use mathlib.Core.List.{List}
use Prim.Native.Nat.{ℕ, ◌+◌, ◌*◌, ◌≤◌, ◌<◌}
use native.Mathlib.Omega.{arith}
use lib.ListN.{length}
use Rattle.whole.specs.Network.{Network}
use Rattle.whole.specs.Rules.{Applies}
use Rattle.whole.specs.Search.{any_above, any_on_diagonal}
use Rattle.whole.specs.Table.{pair_at}
use Rattle.whole.proofs.Network.{square_at, never_4, never_5, network_listed}
use Rattle.whole.proofs.Rules.{first_least, first_applies, kept_when_refused, worked_when_taken}
use Rattle.grid.specs.Grid.{grid_weight, grid_network, grid_rules, grid_refusal, grid_left}
use Rattle.grid.specs.Moves.{rook_steps, bishop_steps, steps_of, any_leads}
use Rattle.grid.specs.declared.Move.{Move}
use Rattle.grid.specs.declared.Move.TheVariants.{Rook, Bishop, Queen}
use Rattle.grid.proofs.Marking.{mark}
use Rattle.grid.proofs.Moves.{queen_leads, move_back, move_away, never_both}

-- a mark is 0 or 1
at_most_1 : (b : Bool) → mark b ≤ 1
at_most_1 true = omega arith
at_most_1 false = omega arith

-- the weights of any n zones are a network
weights_network : (kind : Move) (columns : ℕ) {n : ℕ} → Network (grid_weight kind columns) n
unfolding grid_weight
weights_network kind columns = record {
  zero_or_one = λ i j h k. at_most_1 (any_leads columns i j (steps_of kind));
  both_ways = λ i j h k. ap mark (move_back kind columns i j);
  diagonal = λ i h. ap mark (move_away kind columns i);
}

-- the weights are 0 or 1, the same both ways, and 0 on the diagonal
pub grid_is_network :
    (rows columns : ℕ) (kind : Move) → Network (pair_at (grid_network rows columns kind) (rows * columns)) (rows * columns)
unfolding grid_network
grid_is_network rows columns kind = network_listed (grid_weight kind columns) (rows * columns) (weights_network kind columns)

-- so neither 4 nor 5 applies to them
pub grid_never_4 : (rows columns : ℕ) (kind : Move) → any_above 9 (grid_network rows columns kind) ≡ false
unfolding grid_network
grid_never_4 rows columns kind = never_4 (grid_weight kind columns) (rows * columns) (weights_network kind columns)

pub grid_never_5 : (rows columns : ℕ) (kind : Move) → any_on_diagonal (rows * columns) (grid_network rows columns kind) ≡ false
unfolding grid_network
grid_never_5 rows columns kind = never_5 (grid_weight kind columns) (rows * columns) (weights_network kind columns)

-- what the list holds of two zones
pub grid_at :
    (rows columns : ℕ) (kind : Move) (i j : ℕ) → i < rows * columns → j < rows * columns →
    pair_at (grid_network rows columns kind) (rows * columns) i j ≡ grid_weight kind columns i j
unfolding grid_network
grid_at rows columns kind i j h k = square_at (grid_weight kind columns) (rows * columns) i j h k

-- queen is rook plus bishop
pub queen_is_both : (columns i j : ℕ) → grid_weight Queen columns i j ≡ grid_weight Rook columns i j + grid_weight Bishop columns i j
unfolding grid_weight
queen_is_both columns i j =
    ap mark (queen_leads columns i j)
    ∙ one_of_two (any_leads columns i j rook_steps) (any_leads columns i j bishop_steps) (never_both columns i j)
  where
    -- where two tests do not both pass, the mark of either is the sum
    one_of_two : (a b : Bool) → (a ≡ true → b ≡ true → ⊥) → mark (a || b) ≡ mark a + mark b
    one_of_two true true f = absurd (f refl refl)
    one_of_two true false f = refl
    one_of_two false true f = refl
    one_of_two false false f = refl

-- ---- what the call leaves in the lent list
module _ (rows columns : ℕ) (kind : Move) (weights left : List ℕ) (e : left ≡ grid_left rows columns kind weights) where
  pub network_left : grid_refusal rows columns (length weights) ≡ 0 → left ≡ grid_network rows columns kind
  unfolding grid_left
  network_left z = e ∙ worked_when_taken _ _ _ z

  pub network_leaves : (grid_refusal rows columns (length weights) ≡ 0 → ⊥) → left ≡ weights
  unfolding grid_left
  network_leaves f = e ∙ kept_when_refused _ _ _ f

-- ---- the refusal is the least number that applies

pub grid_refusal_applies :
    (rows columns room : ℕ) → (grid_refusal rows columns room ≡ 0 → ⊥) →
    Applies (grid_refusal rows columns room) (grid_rules rows columns room)
unfolding grid_refusal
grid_refusal_applies rows columns room f = first_applies (grid_rules rows columns room) f

pub grid_refusal_least :
    (rows columns room number : ℕ) → Applies number (grid_rules rows columns room) → grid_refusal rows columns room ≤ number
unfolding grid_refusal
grid_refusal_least rows columns room number = first_least 0 number (grid_rules rows columns room) (tt, (tt, tt))
