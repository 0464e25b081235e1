-- Laws of the class of a squared distance and of a pair of zones. Assumes nothing.
use mathlib.Core.Path.{◌≡◌, refl, sym, ap, ◌∙◌}
use mathlib.Core.Bool.{Bool, true, false, not, cond}
use mathlib.Core.List.{List}
use Prim.Native.Nat.{ℕ, suc, ◌+◌, ◌≤◌, zero-le}
use native.Mathlib.Numerals.{add-one, one-add}
use native.Mathlib.Decide.{ℕ_discrete}
use borrow.Author.Tests.{eq-eqb, ne_eqb, ltb-true}
use lib.Dec.{ltb, eqb}
use lib.IntN.{ℤ, pos}
use lib.ListN.{length}
use lib.Signed.{lt_z}
use Rattle.std.proofs.Common.{Option, Some, None}
use Rattle.std.specs.List.{position, position_or_len}
use Rattle.std.specs.Option.{MatchOption}
use Rattle.std.proofs.lemmas.List.Recursion.{is_position_or_len}
use Rattle.whole.specs.Search.{first}
use Rattle.places.specs.Bands.{band_at, within_band, class_of_band, band_class, pair_class}

-- ---- of a squared distance
module _ (distance : ℤ) where
  -- whether it does not exceed a band
  abbrev pub within : ℕ → Bool
  within band = not (lt_z (pos band) distance)

  -- the first such band, found by its number and found in the list
  first_position : (bands : List ℕ) → first (λ k. within (band_at bands k)) (length bands) ≡ position_or_len within bands
  unfolding first
  first_position =
      is_position_or_len (λ bands. first (λ k. within (band_at bands k)) (length bands)) within refl
      (λ band bands. ap (cond (within band) 0) (sym (one-add (first (λ k. within (band_at bands k)) (length bands)))))

module _ (bands : List ℕ) (distance : ℤ) where
  -- its place gives the class
  pub class_by_place :
      (place : Option ℕ) (v : ℕ) → place ≡ position (within distance) bands → MatchOption place (v ≡ 0) (λ k. v ≡ k + 1) →
      v ≡ band_class bands distance
  unfolding band_class within_band
  class_by_place place v e told =
      go (ltb (position_or_len (within distance) bands) (length bands)) (rw e at told)
      ∙ ap (class_of_band bands) (sym (first_position distance bands))
    where
      go :
          let k = position_or_len (within distance) bands in
          (b : Bool) → MatchOption (cond b (Some k) None) (v ≡ 0) (λ k. v ≡ k + 1) → v ≡ cond b (suc k) 0
      go true h = h ∙ add-one _
      go false h = h

  -- there is a class for each band and 0
  class_most : band_class bands distance ≤ length bands
  unfolding band_class
  class_most =
      let k = first (within_band bands distance) (length bands) in
      go k (ltb k (length bands)) refl
    where
      go : (k : ℕ) (b : Bool) → ltb k (length bands) ≡ b → cond b (suc k) 0 ≤ length bands
      go k true e = ltb-true k (length bands) e
      go k false e = zero-le

-- ---- of a pair
module _ (bands : List ℕ) (d : ℕ → ℕ → ℤ) (a b : ℕ) where
  -- of a zone and itself
  pub pair_itself : a ≡ b → 0 ≡ pair_class bands d a b
  unfolding pair_class
  pair_itself e = rw (eq-eqb a b e) refl

  -- of two zones
  pub pair_apart : (a ≡ b → ⊥) → band_class bands (d a b) ≡ pair_class bands d a b
  unfolding pair_class
  pair_apart f = rw (ne_eqb a b f) refl

  -- it is at most the number of bands
  pub pair_most : pair_class bands d a b ≤ length bands
  unfolding pair_class
  pair_most = go (eqb a b)
    where
      go : (t : Bool) → cond t 0 (band_class bands (d a b)) ≤ length bands
      go true = zero-le
      go false = class_most bands (d a b)

-- the same both ways
pub pair_both_ways :
    (bands : List ℕ) (d : ℕ → ℕ → ℤ) (a b : ℕ) → d a b ≡ d b a → pair_class bands d a b ≡ pair_class bands d b a
pair_both_ways bands d a b e = go (ℕ_discrete a b)
  where
    go : Dec (a ≡ b) → pair_class bands d a b ≡ pair_class bands d b a
    go (yes p) = sym (pair_itself bands d a b p) ∙ pair_itself bands d b a (sym p)
    go (no p) =
        sym (pair_apart bands d a b p)
        ∙ ap (band_class bands) e
        ∙ pair_apart bands d b a (λ q. p (sym q))
