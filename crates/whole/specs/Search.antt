-- A bounded search: whether a number passes a test, how many do, and which is the first; three searches of a list. Assumes nothing.
use Rattle.std.specs.Prelude.{Bool, false, cond, ◌||◌, List, ℕ, zero, suc, ◌+◌, ltb, ℤ, length, get_or}
use Rattle.whole.specs.Integer.{beyond}
use Rattle.whole.specs.Table.{at, pair_at}

-- whether some number below n passes the test
unfoldable pub some : (ℕ → Bool) → ℕ → Bool
some test zero = false
some test (suc n) = some test n || test n

-- how many numbers below n pass the test
unfoldable pub count : (ℕ → Bool) → ℕ → ℕ
count test zero = 0
count test (suc n) = count test n + cond (test n) 1 0

-- the first number that passes the test, n where none below n does
unfoldable pub first : (ℕ → Bool) → ℕ → ℕ
first test zero = 0
first test (suc n) = cond (test 0) 0 (suc (first (λ k. test (suc k)) n))

-- a number of the list is beyond the limit in size
unfoldable pub any_beyond : ℕ → List ℤ → Bool
any_beyond limit numbers = some (λ k. beyond limit (at numbers k)) (length numbers)

-- a number of the list is above the limit
unfoldable pub any_above : ℕ → List ℕ → Bool
any_above limit numbers = some (λ k. ltb limit (get_or numbers k 0)) (length numbers)

-- a weight stands on the diagonal of a list that has a row of n for each zone
unfoldable pub any_on_diagonal : ℕ → List ℕ → Bool
any_on_diagonal n weights = some (λ i. ltb 0 (pair_at weights n i i)) n
