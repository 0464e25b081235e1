-- The Gabriel network: zones A and B are joined, weight 1 both ways, exactly when for every third zone C the squared distance AB is less
-- than AC squared plus BC squared. d gives the squared distance of two zones. Assumes nothing.
use Rattle.std.specs.Prelude.{Bool, not, cond, ◌&&◌, ◌||◌, List, [], ℕ, eqb, ℤ, ◌+ℤ◌, length}
use Rattle.std.specs.Int.Signed.{lt_z}
use Rattle.whole.specs.Rules.{first_broken, unless_refused}
use Rattle.whole.specs.Search.{some}
use Rattle.whole.specs.Table.{table_rows}
use Rattle.places.specs.Places.{squared_distance, call_rules}

-- ---- what is worked

-- c is inside or on the circle that has a and b at the ends of a diameter: d(a,b) is not less than d(a,c) + d(b,c)
unfoldable pub in_circle : (ℕ → ℕ → ℤ) → ℕ → ℕ → ℕ → Bool
in_circle d a b c = not (lt_z (d a b) (d a c +ℤ d b c))

-- a third zone of the n is
unfoldable pub any_in_circle : (ℕ → ℕ → ℤ) → ℕ → ℕ → ℕ → Bool
any_in_circle d n a b = some (λ c. not (eqb c a || eqb c b) && in_circle d a b c) n

-- the weight of a and b: 0 on the diagonal and where a third zone is in their circle, else 1
unfoldable pub gabriel_weight : (ℕ → ℕ → ℤ) → ℕ → ℕ → ℕ → ℕ
gabriel_weight d n a b = cond (eqb a b || any_in_circle d n a b) 0 1

-- the network of a list of places: a row of weights for each zone
unfoldable pub gabriel_network : ℕ → List ℤ → List ℕ
gabriel_network n places = table_rows (gabriel_weight (squared_distance places) n) n n

-- ---- what is refused

-- 1, 2, 10 and 11; the refusal is 0 where no rule is broken
unfoldable pub gabriel_refusal : ℕ → List ℤ → ℕ → ℕ
gabriel_refusal n places room = first_broken (call_rules n places room [])

-- what the lent list holds after the call
unfoldable pub gabriel_left : ℕ → List ℤ → List ℕ → List ℕ
gabriel_left n places weights = unless_refused (gabriel_refusal n places (length weights)) (gabriel_network n places) weights
