-- Places: two coordinates for each zone from -30,000 to 30,000, across then up, in one list. Assumes nothing.
use Rattle.std.specs.Prelude.{Bool, ◌&&◌, List, [], ◌∷◌, ◌++◌, ℕ, ◌+◌, ◌*◌, ◌/◌, ℤ, ◌+ℤ◌, ◌-ℤ◌, length}
use Rattle.whole.specs.Integer.{square, equal}
use Rattle.whole.specs.Rules.{Rule, size_rules, in_turn}
use Rattle.whole.specs.Search.{some, any_beyond}
use Rattle.whole.specs.Table.{at}

-- the two coordinates of zone a
unfoldable pub across : List ℤ → ℕ → ℤ
across places a = at places (2 * a)

unfoldable pub up : List ℤ → ℕ → ℤ
up places a = at places (2 * a + 1)

-- the squared distance of zones a and b
unfoldable pub squared_distance : List ℤ → ℕ → ℕ → ℤ
squared_distance places a b = square (across places a -ℤ across places b) +ℤ square (up places a -ℤ up places b)

-- zones a and b are at one place
unfoldable pub at_one_place : List ℤ → ℕ → ℕ → Bool
at_one_place places a b = equal (across places a) (across places b) && equal (up places a) (up places b)

-- two of n zones are at one place
unfoldable pub any_at_one_place : ℕ → List ℤ → Bool
any_at_one_place n places = some (λ a. some (λ b. at_one_place places a b) a) n

-- 10 and 11: a coordinate beyond 30,000 in size, and two zones at one place
unfoldable pub place_rules : ℕ → List ℤ → List Rule
place_rules n places = (any_beyond 30000 places, 10) ∷ (any_at_one_place n places, 11) ∷ []

-- 1, 2, 10 and 11 of a call that is lent places, and `room` entries for the ordered pairs; then what the call judges besides
unfoldable pub call_rules : ℕ → List ℤ → ℕ → List Rule → List Rule
call_rules n places room besides =
    size_rules n ((length places, 2 * n) ∷ (room, n * n) ∷ []) ++ (place_rules n places ++ besides)

-- ---- place by place, as the job image is judged

-- of zone a: 10, then 11 against the earlier places
unfoldable pub place_rules_of : List ℤ → ℕ → List Rule
place_rules_of places a = (any_beyond 30000 (across places a ∷ up places a ∷ []), 10) ∷ (some (at_one_place places a) a, 11) ∷ []

-- of every zone in turn; two coordinates are a zone's
unfoldable pub places_in_turn : List ℤ → List Rule
places_in_turn places = in_turn (place_rules_of places) (length places / 2)
