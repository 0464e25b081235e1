-- `in_circle` meets its contract: the sum is exact, and the test is that of the circle. Assumes nothing.
use mathlib.Core.Path.{ap, ◌∙◌}
use mathlib.Core.List.{List}
use Prim.Native.Nat.{ℕ}
use lib.IntN.{ℤ, ◌+ℤ◌}
use lib.Signed.{le_z}
use mir.Syntax.{w64}
use Rattle.whole.proofs.Compare.{at_most}
use Rattle.whole.proofs.Machine.{Is, rd, is_+, fit, r64}
use Rattle.places.specs.Places.{squared_distance}
use Rattle.places.specs.Gabriel.{in_circle}
use Rattle.places.specs.Steps.{coordinates}
use Rattle.places.proofs.Distance.{distance_read}
use Rattle.places.proofs.distances.ZonePlaces.in_circle.Goals as goal
use Rattle.places.proofs.distances.ZonePlaces.in_circle.Goals.{After-squared_distance-2}

-- the distance that is given, and the sum of the two that are asked for
module _ (c : After-squared_distance-2) where
  abbrev zones : List (List ℤ)
  zones = c.args.self.now.zones.now

  abbrev d : ℕ → ℕ → ℤ
  d = squared_distance (coordinates zones)

  given : Is (r64 c.args.distance) (d c.args.a c.args.b) 7200000000
  given = distance_read zones c.args.self.now.near _ _ c.requires.a_bound c.requires.b_bound _ c.requires.distance_value

  sum : Is (r64 c.squared_distance.result +ℤ r64 c.squared_distance-2.result) (d c.args.a c.args.c +ℤ d c.args.b c.args.c) 14400000000
  sum =
      let read = distance_read zones c.args.self.now.near in
      is_+
      (read c.args.a c.args.c c.requires.a_bound c.requires.c_bound _ c.squared_distance.ensures)
      (read c.args.b c.args.c c.requires.b_bound c.requires.c_bound _ c.squared_distance-2.ensures)

pub overflow_add-result : goal.overflow_add-result
overflow_add-result c = fit w64 (sum c) tt

pub returns : goal.returns
unfolding in_circle
returns c =
    let a = c.args in
    let d = squared_distance (coordinates a.self.now.zones.now) in
    ap (λ z. le_z z (r64 a.distance)) (rd w64 (sum c) tt).same
    ∙ ap (le_z (d a.a a.c +ℤ d a.b a.c)) (given c).same
    ∙ at_most (d a.a a.c +ℤ d a.b a.c) (d a.a a.b)
