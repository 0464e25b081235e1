-- A call on places: which of its judges' numbers is the call's, and what it is like where no rule is broken. Assumes nothing.
use mathlib.Core.Path.{◌≡◌, ap, ◌∙◌}
use mathlib.Core.Bool.{Bool, false, not, ◌||◌, or-true}
use mathlib.Core.List.{List, [], ◌∷◌, ◌++◌}
use Prim.Native.Nat.{ℕ, ◌*◌, ◌/◌, ◌%◌, ◌≤◌}
use native.Mathlib.Decide.{ℕ_discrete}
use native.Mathlib.Omega.{arith}
use borrow.Author.Tests.{eq-eqb, ne_eqb}
use lib.Dec.{eqb}
use lib.IntN.{ℤ}
use lib.ListN.{length}
use Rattle.whole.specs.Rules.{Rule, first_broken, outside, size_rules}
use Rattle.whole.specs.Search.{any_beyond}
use Rattle.whole.proofs.Rules.{holds, first_here, first_next, first_none, neither, in_range, fits, sizes_hold}
use Rattle.places.specs.Places.{any_at_one_place, place_rules, call_rules}
use Rattle.places.specs.Gabriel.{gabriel_refusal}
use Rattle.places.specs.Bands.{bands_broken, band_refusal}

-- ---- a call in which 1 and 2 hold: the sizes are good
pub record Fitting (n places room : ℕ) : Type 0 where
  pub two : 2 ≤ n
  pub zones : n ≤ 64
  pub places_fit : places ≡ 2 * n
  pub room_fit : room ≡ n * n

-- the first two rules, of the two lengths
abbrev pub sizes_of : ℕ → ℕ → ℕ → List Rule
sizes_of n places room = size_rules n ((places, 2 * n) ∷ (room, n * n) ∷ [])

-- a list of two places for each of n zones is as many pairs as zones, and no odd place
halved : (n places : ℕ) (rest : Bool) →
    (not (eqb (places / 2) n) || (not (eqb (places % 2) 0) || rest)) ≡ (not (eqb places (2 * n)) || rest)
halved n places rest = go (ℕ_discrete places (2 * n)) (ℕ_discrete (places / 2) n)
  where
    go : Dec (places ≡ 2 * n) → Dec (places / 2 ≡ n) →
        (not (eqb (places / 2) n) || (not (eqb (places % 2) 0) || rest)) ≡ (not (eqb places (2 * n)) || rest)
    go (yes p) q = rw (eq-eqb places (2 * n) p, eq-eqb (places / 2) n (omega (arith, p)), eq-eqb (places % 2) 0 (omega (arith, p)))
    go (no p) (yes q) = rw (ne_eqb places (2 * n) p, ne_eqb (places % 2) 0 (λ z. p (omega (arith, q, z)))) (or-true _)
    go (no p) (no q) = rw (ne_eqb places (2 * n) p, ne_eqb (places / 2) n q)

pub by_halves : (n places room : ℕ) →
    first_broken (size_rules n ((places / 2, n) ∷ (places % 2, 0) ∷ (room, n * n) ∷ [])) ≡ first_broken (sizes_of n places room)
by_halves n places room =
    ap (λ t. first_broken ((outside 2 64 n, 1) ∷ (t, 2) ∷ [])) (halved n places (not (eqb room (n * n)) || false))

-- what they tell where they hold
pub fitting : (n places room : ℕ) → first_broken (sizes_of n places room) ≡ 0 → Fitting n places room
fitting n places room e =
    let s = sizes_hold n ((places, 2 * n) ∷ (room, n * n) ∷ []) e in
    let l1 = fits places (2 * n) ((room, n * n) ∷ []) s.fitting in
    let l2 = fits room (n * n) [] l1.1 in
    record { two = s.two; zones = s.zones; places_fit = l1.0; room_fit = l2.0 }

-- ---- a call in which 10 and 11 hold besides
pub record Placed (n : ℕ) (places : List ℤ) (room : ℕ) : Type 0 where
  pub sizes : Fitting n (length places) room
  pub near : any_beyond 30000 places ≡ false
  pub apart : any_at_one_place n places ≡ false

-- ---- a call in which no rule is broken
module _ (n : ℕ) (places : List ℤ) (room : ℕ) (besides : List Rule) where
  -- what is judged besides holds too
  pub placed : first_broken (call_rules n places room besides) ≡ 0 → Placed n places room × (first_broken besides ≡ 0)
  unfolding call_rules place_rules
  placed e =
      let both = first_none (place_rules n places ++ besides) 0 (sizes_of n (length places) room) (tt, (tt, tt)) e in
      let e10 = holds (any_beyond 30000 places) 9 _ both.1 in
      let e11 = holds (any_at_one_place n places) 10 _ e10.1 in
      (record { sizes = fitting n (length places) room both.0; near = e10.0; apart = e11.0 }, e11.1)

  -- of which the sizes
  pub accepted : first_broken (call_rules n places room besides) ≡ 0 → Fitting n (length places) room × (first_broken besides ≡ 0)
  accepted e = let p = placed e in (p.0.sizes, p.1)

  module _ (r : ℕ) where
    -- the sizes' number
    pub by_sizes :
        r ≡ first_broken (sizes_of n (length places) room) → (r ≡ 0 → ⊥) → r ≡ first_broken (call_rules n places room besides)
    unfolding call_rules
    by_sizes e some = first_here (place_rules n places ++ besides) (sizes_of n (length places) room) r e some

    -- where they are good, the places' number
    pub then_places :
        first_broken (sizes_of n (length places) room) ≡ 0 → r ≡ first_broken (place_rules n places ++ besides) →
        r ≡ first_broken (call_rules n places room besides)
    unfolding call_rules
    then_places good e = e ∙ first_next (place_rules n places ++ besides) 0 (sizes_of n (length places) room) (tt, (tt, tt)) good

    -- the number of a call that judges nothing besides
    pub by_places : r ≡ first_broken (call_rules n places room []) → (r ≡ 0 → ⊥) → r ≡ first_broken (call_rules n places room besides)
    unfolding call_rules place_rules
    by_places e some = first_here besides (call_rules n places room []) r e some

    -- where it has none, the number of what is judged besides
    pub by_rest :
        first_broken (call_rules n places room []) ≡ 0 → r ≡ first_broken besides → r ≡ first_broken (call_rules n places room besides)
    unfolding call_rules place_rules
    by_rest good e = e ∙ first_next besides 0 (call_rules n places room []) (tt, (tt, (tt, (tt, tt)))) good

-- ---- of the Gabriel network
pub gabriel_accepted : (n : ℕ) (places : List ℤ) (room : ℕ) → gabriel_refusal n places room ≡ 0 → Placed n places room
unfolding gabriel_refusal
gabriel_accepted n places room e = (placed n places room [] e).0

-- ---- of the bands
pub record Banded (n : ℕ) (places : List ℤ) (bands : List ℕ) (room : ℕ) : Type 0 where
  pub good : Placed n places room
  pub few_bands : length bands ≤ 8

pub bands_accepted :
    (n : ℕ) (places : List ℤ) (bands : List ℕ) (room : ℕ) → band_refusal n places bands room ≡ 0 → Banded n places bands room
unfolding band_refusal bands_broken
bands_accepted n places bands room e =
    let p = placed n places room ((bands_broken bands, 12) ∷ []) e in
    let e12 = holds (bands_broken bands) 11 0 p.1 in
    let r = in_range 1 8 (length bands) (neither (outside 1 8 (length bands)) _ e12.0).0 in
    record { good = p.0; few_bands = r.1 }
