-- Laws of zones that are given each by its two coordinates, and of the list of the coordinates. Assumes nothing.
use mathlib.Core.Path.{◌≡◌, refl, sym, ap, ◌∙◌, subst}
use mathlib.Core.Bool.{true, ◌&&◌, and-true}
use mathlib.Core.List.{List, [], ◌∷◌}
use Prim.Native.Nat.{ℕ, zero, suc, ◌+◌, ◌*◌, ◌/◌, ◌≤◌, ◌<◌}
use native.Mathlib.Omega.{arith}
use lib.IntN.{ℤ}
use lib.ListN.{length, get_or, take}
use lib.Pointwise.{pointwise}
use Rattle.std.specs.List.{list_any}
use Rattle.std.specs.Ordering.{int_eq}
use Rattle.std.specs.Simd.{first_chunks}
use Rattle.std.proofs.lemmas.Bool.Decides.{same_from_decides, Decides-int_eq}
use Rattle.whole.specs.Integer.{equal}
use Rattle.whole.specs.Search.{some}
use Rattle.whole.specs.Table.{at}
use Rattle.whole.proofs.Compare.{equal_same, equal_true}
use Rattle.whole.proofs.Search.{some_cong}
use Rattle.places.specs.Places.{across, up, at_one_place}
use Rattle.places.specs.Steps.{coordinates}
use Rattle.whole.proofs.Chains.{any_front}

-- a zone of the list, and no zone past its end
abbrev pub zone_at : List (List ℤ) → ℕ → List ℤ
zone_at zones a = get_or zones a []

-- ---- the two coordinates of zone a
pub across_is : (zones : List (List ℤ)) (a : ℕ) → across (coordinates zones) a ≡ at (zone_at zones a) 0
unfolding across coordinates
across_is [] a = refl
across_is (zone ∷ zones) zero = refl
across_is (zone ∷ zones) (suc a) =
    let e : 2 * suc a ≡ suc (suc (2 * a)) = omega arith in
    rw e (across_is zones a)

pub up_is : (zones : List (List ℤ)) (a : ℕ) → up (coordinates zones) a ≡ at (zone_at zones a) 1
unfolding up coordinates
up_is [] a = refl
up_is (zone ∷ zones) zero = refl
up_is (zone ∷ zones) (suc a) =
    let e : 2 * suc a + 1 ≡ suc (suc (2 * a + 1)) = omega arith in
    rw e (up_is zones a)

pub coordinates_length : (zones : List (List ℤ)) → length (coordinates zones) ≡ 2 * length zones
unfolding coordinates
coordinates_length [] = refl
coordinates_length (zone ∷ zones) = omega (arith, coordinates_length zones)

-- where they are the places of n zones, the zones are n, and what is worked from them is worked from the places
module _ (zones : List (List ℤ)) (places : List ℤ) (n : ℕ) (e : coordinates zones ≡ places) (fits : length places ≡ 2 * n) where
  pub zones_count : length zones ≡ n
  zones_count = omega (arith, coordinates_length zones, ap length e)

  pub worked_from : {A : Type 0} (work : ℕ → List ℤ → A) → work (length zones) (coordinates zones) ≡ work n places
  worked_from work = ap (λ k. work k (coordinates zones)) zones_count ∙ ap (work n) e

-- ---- a list of coordinates taken two by two
pub coordinates_taken : (k : ℕ) (places : List ℤ) → length places ≡ 2 * k → coordinates (first_chunks 2 k places) ≡ places
unfolding coordinates
coordinates_taken zero [] e = refl
coordinates_taken zero (x ∷ places) e = let z : ⊥ = omega arith in absurd z
coordinates_taken (suc k) [] e = let z : ⊥ = omega arith in absurd z
coordinates_taken (suc k) (x ∷ []) e = let z : ⊥ = omega arith in absurd z
coordinates_taken (suc k) (x ∷ y ∷ places) e = ap (λ l. x ∷ y ∷ l) (coordinates_taken k places (omega arith))

-- ---- a zone is its two coordinates
pub zone_whole : (zone : List ℤ) → length zone ≡ 2 → zone ≡ at zone 0 ∷ at zone 1 ∷ []
zone_whole [] e = let z : ⊥ = omega arith in absurd z
zone_whole (x ∷ []) e = let z : ⊥ = omega arith in absurd z
zone_whole (x ∷ y ∷ []) e = refl
zone_whole (x ∷ y ∷ z ∷ rest) e = let z : ⊥ = omega arith in absurd z

-- ---- the zones of a list of coordinates: each is its two coordinates
abbrev pub Zones : List (List ℤ) → List ℤ → Type 0
Zones zones places = (a : ℕ) → a < length zones → zone_at zones a ≡ across places a ∷ up places a ∷ []

pub zones_given : (zones : List (List ℤ)) → ((a : ℕ) → a < length zones → length (zone_at zones a) ≡ 2) → Zones zones (coordinates zones)
zones_given zones two a h = rw (across_is zones a, up_is zones a) (zone_whole (zone_at zones a) (two a h))

pub zones_taken : (k : ℕ) (places : List ℤ) → 2 * k ≤ length places → Zones (first_chunks 2 k places) places
unfolding across up
zones_taken zero places h a p = let z : ⊥ = omega arith in absurd z
zones_taken (suc k) [] h a p = let z : ⊥ = omega arith in absurd z
zones_taken (suc k) (x ∷ []) h a p = let z : ⊥ = omega arith in absurd z
zones_taken (suc k) (x ∷ y ∷ places) h zero p = refl
zones_taken (suc k) (x ∷ y ∷ places) h (suc a) p =
    let e : 2 * suc a ≡ suc (suc (2 * a)) = omega arith in
    let f : suc (suc (2 * a)) + 1 ≡ suc (suc (2 * a + 1)) = omega arith in
    rw (e, f) (zones_taken k places (omega arith) a (omega arith))

-- ---- a zone looked for among the earlier ones
same_number : (x y : ℤ) → int_eq y x ≡ equal x y
same_number x y =
    same_from_decides {P = y ≡ x} (int_eq y x) (equal x y) (Decides-int_eq y x)
    (λ e. sym (equal_true x y e), λ e. subst (λ z. equal x z ≡ true) (sym e) (equal_same x))

pub same_place :
    (zones : List (List ℤ)) (places : List ℤ) → Zones zones places → (a b : ℕ) → a < length zones → b < length zones →
    pointwise int_eq (zone_at zones b) (zone_at zones a) ≡ at_one_place places a b
unfolding at_one_place
same_place zones places read a b h k =
    rw (read a h, read b k, same_number (across places a) (across places b), same_number (up places a) (up places b))
    (ap (λ t. equal (across places a) (across places b) && t) (and-true (equal (up places a) (up places b))))

pub earlier_is :
    (zones : List (List ℤ)) (places : List ℤ) → Zones zones places → (a : ℕ) → a < length zones →
    list_any (λ y. pointwise int_eq y (zone_at zones a)) (take a zones) ≡ some (at_one_place places a) a
earlier_is zones places read a h =
    any_front (λ y. pointwise int_eq y (zone_at zones a)) zones [] a (omega arith)
    ∙ some_cong _ _ a (λ b k. same_place zones places read a b h (omega arith))

-- ---- zones that were taken two by two from a list of coordinates
module _ (zones : List (List ℤ)) (places : List ℤ) (e : zones ≡ first_chunks 2 (length places / 2) places) where
  pub taken : Zones zones places
  taken = subst (λ z. Zones z places) (sym e) (zones_taken (length places / 2) places (omega arith))

  -- of a list of the exact length they are all
  pub taken_all : (n : ℕ) → length places ≡ 2 * n → coordinates zones ≡ places
  taken_all n fits =
      let half : length places / 2 ≡ n = omega arith in
      ap coordinates (e ∙ ap (λ k. first_chunks 2 k places) half) ∙ coordinates_taken n places fits
