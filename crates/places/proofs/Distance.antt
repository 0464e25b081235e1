-- Laws of the squared distance of two zones: its size, what is read of it, and that it is the same both ways. Assumes nothing.
use mathlib.Core.Path.{◌≡◌, ap, ◌∙◌}
use mathlib.Core.Bool.{false}
use mathlib.Core.List.{List}
use Prim.Native.Nat.{ℕ, ◌+◌, ◌*◌, ◌≤◌, ◌<◌}
use native.Mathlib.Omega.{arith}
use lib.IntN.{ℤ, nat_abs, ◌+ℤ◌, ◌-ℤ◌, pos}
use lib.ListN.{length}
use mir.Syntax.{w64}
use Rattle.whole.specs.Integer.{square}
use Rattle.whole.specs.Search.{any_beyond}
use Rattle.whole.proofs.Integer.{diff_of, diff_+, diff_*, diff_neg, diff_eq}
use Rattle.whole.proofs.Machine.{Is, val, told, rd, is_+, is__, is_*, r64}
use Rattle.whole.proofs.Search.{none_beyond}
use Rattle.whole.proofs.Size.{+_above, square_above}
use Rattle.places.specs.Places.{across, up, squared_distance}
use Rattle.places.specs.Steps.{coordinates}
use Rattle.places.proofs.Coordinates.{coordinates_length}

-- ---- the size, of zones none of whose coordinates is beyond 30,000
module _ (zones : List (List ℤ)) (near : any_beyond 30000 (coordinates zones) ≡ false) where
  pub across_near : (a : ℕ) → a < length zones → Is (across (coordinates zones) a) (across (coordinates zones) a) 30000
  unfolding across
  across_near a h =
      let l = coordinates_length zones in
      val (across (coordinates zones) a) 30000 (none_beyond 30000 (coordinates zones) near (2 * a) (omega arith))

  pub up_near : (a : ℕ) → a < length zones → Is (up (coordinates zones) a) (up (coordinates zones) a) 30000
  unfolding up
  up_near a h =
      let l = coordinates_length zones in
      val (up (coordinates zones) a) 30000 (none_beyond 30000 (coordinates zones) near (2 * a + 1) (omega arith))

  module _ (a b : ℕ) (h : a < length zones) (k : b < length zones) where
    distance_size : nat_abs (squared_distance (coordinates zones) a b) ≤ 7200000000
    unfolding squared_distance
    distance_size =
        let x = is__ (across_near a h) (across_near b k) in
        let y = is__ (up_near a h) (up_near b k) in
        (is_+ (is_* x x) (is_* y y)).size

    -- where y was told to be it, it is what is read of y
    pub distance_read :
        (y : ℤ) → y ≡ squared_distance (coordinates zones) a b → Is (r64 y) (squared_distance (coordinates zones) a b) 7200000000
    distance_read y e = rd w64 (told (squared_distance (coordinates zones) a b) 7200000000 e distance_size) tt

-- ---- both ways

square_turned : (x y : ℤ) → square (x -ℤ y) ≡ square (y -ℤ x)
square_turned x y = rw (diff_of x, diff_of y) (simp (diff_+, diff_*, diff_neg) (diff_eq _ _ _ _ (omega arith)))

pub distance_both_ways : (places : List ℤ) (a b : ℕ) → squared_distance places a b ≡ squared_distance places b a
unfolding squared_distance
distance_both_ways places a b =
    ap (λ z. z +ℤ square (up places a -ℤ up places b)) (square_turned (across places a) (across places b))
    ∙ ap (λ z. square (across places b -ℤ across places a) +ℤ z) (square_turned (up places a) (up places b))

-- ---- not below 0

pub squares_above : (x y : ℤ) → square x +ℤ square y ≡ pos (nat_abs (square x +ℤ square y))
squares_above x y = +_above (square x) (square y) (square_above x) (square_above y)

pub distance_above : (places : List ℤ) (a b : ℕ) → squared_distance places a b ≡ pos (nat_abs (squared_distance places a b))
unfolding squared_distance
distance_above places a b = squares_above (across places a -ℤ across places b) (up places a -ℤ up places b)
