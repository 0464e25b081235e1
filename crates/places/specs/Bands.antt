-- Bands: 1 to 8 strictly rising squared distances, each 1 to 4,294,967,295. A pair's class is the first band that its squared distance
-- does not exceed, else 0; the diagonal is 0. Assumes nothing.
use Rattle.std.specs.Prelude.{Bool, not, cond, ◌||◌, List, [], ◌∷◌, ℕ, suc, ◌+◌, ◌-◌, eqb, ltb, ℤ, pos, length, get_or}
use Rattle.std.specs.Int.Signed.{lt_z}
use Rattle.whole.specs.Rules.{first_broken, outside, unless_refused}
use Rattle.whole.specs.Search.{some, first}
use Rattle.whole.specs.Table.{table_rows}
use Rattle.places.specs.Places.{squared_distance, call_rules}

-- ---- what is worked

-- band k, the first being band 0
abbrev pub band_at : List ℕ → ℕ → ℕ
band_at bands k = get_or bands k 0

-- a squared distance does not exceed band k
unfoldable pub within_band : List ℕ → ℤ → ℕ → Bool
within_band bands distance k = not (lt_z (pos (band_at bands k)) distance)

-- the class of band k is k + 1; where there is no band, the class is 0
abbrev pub class_of_band : List ℕ → ℕ → ℕ
class_of_band bands k = cond (ltb k (length bands)) (suc k) 0

-- the class of a squared distance: the first band that it does not exceed, else 0
unfoldable pub band_class : List ℕ → ℤ → ℕ
band_class bands distance = class_of_band bands (first (within_band bands distance) (length bands))

-- the class of a pair, where d gives the squared distance of two zones; on the diagonal 0
unfoldable pub pair_class : List ℕ → (ℕ → ℕ → ℤ) → ℕ → ℕ → ℕ
pair_class bands d a b = cond (eqb a b) 0 (band_class bands (d a b))

-- the classes of a list of places: a row for each zone
unfoldable pub band_classes : ℕ → List ℤ → List ℕ → List ℕ
band_classes n places bands = table_rows (pair_class bands (squared_distance places)) n n

-- ---- what is refused

-- a band is 0
unfoldable pub any_empty_band : List ℕ → Bool
any_empty_band bands = some (λ k. eqb (band_at bands k) 0) (length bands)

-- a band is not above the one before it
unfoldable pub any_not_rising : List ℕ → Bool
any_not_rising bands = some (λ k. not (ltb (band_at bands k) (band_at bands (k + 1)))) (length bands - 1)

-- a band of 0, or bands not strictly rising
unfoldable pub any_misplaced : List ℕ → Bool
any_misplaced bands = any_empty_band bands || any_not_rising bands

-- 12: a count outside 1 to 8, a band of 0, or bands not strictly rising
unfoldable pub bands_broken : List ℕ → Bool
bands_broken bands = outside 1 8 (length bands) || any_misplaced bands

-- 1, 2, 10, 11 and 12, the band list having no exact length; the refusal is 0 where no rule is broken
unfoldable pub band_refusal : ℕ → List ℤ → List ℕ → ℕ → ℕ
band_refusal n places bands room = first_broken (call_rules n places room ((bands_broken bands, 12) ∷ []))

-- what the lent list holds after the call
unfoldable pub bands_left : ℕ → List ℤ → List ℕ → List ℕ → List ℕ
bands_left n places bands classes =
    unless_refused (band_refusal n places bands (length classes)) (band_classes n places bands) classes
