-- The classes of pairs: class 0 everywhere, and those of the bands where there are bands. Assumes nothing.
use mathlib.Core.Path.{◌≡◌, ap, ◌∙◌}
use mathlib.Core.Bool.{false}
use mathlib.Core.List.{List}
use Prim.Native.Nat.{ℕ, ◌*◌, ◌<◌}
use native.Mathlib.Omega.{arith}
use lib.IntN.{ℤ}
use lib.ListN.{length, replicate, length-replicate, get_or-replicate}
use Rattle.whole.specs.Search.{any_above}
use Rattle.whole.proofs.Search.{all_within}
use Rattle.whole.proofs.TableRows.{rows_length}
use Rattle.places.specs.Bands.{pair_class, band_classes, band_refusal, bands_left}
use Rattle.places.specs.Places.{squared_distance}
use Rattle.places.proofs.Accepted.{bands_accepted}
use Rattle.places.proofs.Theorems.{bands_never_9, classes_left}
use Rattle.report.specs.Steps.{Bandable, Classed}

pub band_classes_length : (n : ℕ) (places : List ℤ) (bands : List ℕ) → length (band_classes n places bands) ≡ n * n
unfolding band_classes
band_classes_length n places bands = rows_length (pair_class bands (squared_distance places)) n n

-- `before` is what was lent with every class 0
module _ (n : ℕ) (places : List ℤ) (bands lent before : List ℕ) (so : Bandable n places bands (length lent))
    (zeros : before ≡ replicate (length lent) 0) where
  as_long : length before ≡ n * n
  as_long = ap length zeros ∙ length-replicate (length lent) 0 ∙ so.room_fits

  none_above : any_above 8 before ≡ false
  none_above =
      all_within 8 before
      (λ k h. let inside : k < length lent = omega (arith, h, as_long, so.room_fits) in
      rw zeros (omega (arith, get_or-replicate {A = ℕ} (length lent) k 0 0 inside)))

  -- without bands it stays so
  pub unbanded : length bands ≡ 0 → Classed n places bands before
  unbanded z = record { within = record { classes_fit = as_long; low = none_above }; made = λ f. absurd (f z) }

  -- with bands they are not refused
  pub bands_taken : (length bands ≡ 0 → ⊥) → band_refusal n places bands (length before) ≡ 0
  bands_taken f = ap (band_refusal n places bands) as_long ∙ so.banded f

  -- and make the classes
  module _ (f : length bands ≡ 0 → ⊥) (left : List ℕ) (e : left ≡ bands_left n places bands before) where
    made : left ≡ band_classes n places bands
    made = classes_left n places bands before left e (bands_taken f)

    pub banded : Classed n places bands left
    banded = record {
      within = record {
        classes_fit = ap length made ∙ band_classes_length n places bands;
        low = ap (any_above 8) made ∙ bands_never_9 n places bands (bands_accepted n places bands _ (bands_taken f)).few_bands;
      };
      made = λ g. made;
    }
