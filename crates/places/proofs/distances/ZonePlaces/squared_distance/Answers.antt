-- `squared_distance` meets its contract: each step is exact. Assumes nothing.
use mathlib.Core.Path.{◌≡◌, sym, ap, ◌∙◌}
use mathlib.Core.List.{List}
use lib.IntN.{ℤ, ◌+ℤ◌, ◌-ℤ◌}
use mir.Syntax.{w32, w64}
use Rattle.whole.specs.Integer.{square}
use Rattle.whole.proofs.Machine.{Is, told, rd, is_+, is__, is_*, fit, r32, r64}
use Rattle.places.specs.Places.{across, up, squared_distance}
use Rattle.places.specs.Steps.{coordinates}
use Rattle.places.proofs.Coordinates.{across_is, up_is}
use Rattle.places.proofs.Distance.{across_near, up_near}
use Rattle.places.proofs.distances.ZonePlaces.squared_distance.Goals as goal
use Rattle.places.proofs.distances.ZonePlaces.squared_distance.Goals.{After-from-4}

-- a coordinate that was read
coordinate : (z held x : ℤ) → z ≡ held → Is z z 30000 → x ≡ r32 held → Is (r64 x) z 30000
coordinate z held x is near e = rd w64 (told z 30000 (e ∙ ap r32 (sym is) ∙ (rd w32 near tt).same) near.size) tt

-- the square of the difference of two
squared : {x y a b : ℤ} → Is x a 30000 → Is y b 30000 → Is (square (r64 (x -ℤ y))) (square (a -ℤ b)) 3600000000
squared h k = let d = rd w64 (is__ h k) tt in is_* d d

-- the four coordinates of the two zones
module _ (c : After-from-4) where
  abbrev zones : List (List ℤ)
  zones = c.args.self.now.zones.now

  abbrev places : List ℤ
  places = coordinates zones

  far_across :
      Is (square (r64 (r64 c.from.result -ℤ r64 c.from-2.result))) (square (across places c.args.a -ℤ across places c.args.b)) 3600000000
  far_across =
      let near = across_near zones c.args.self.now.near in
      squared (coordinate _ _ c.from.result (across_is zones c.args.a) (near c.args.a c.requires.a_bound) c.from.ensures)
      (coordinate _ _ c.from-2.result (across_is zones c.args.b) (near c.args.b c.requires.b_bound) c.from-2.ensures)

  far_up : Is (square (r64 (r64 c.from-3.result -ℤ r64 c.from-4.result))) (square (up places c.args.a -ℤ up places c.args.b)) 3600000000
  far_up =
      let near = up_near zones c.args.self.now.near in
      squared (coordinate _ _ c.from-3.result (up_is zones c.args.a) (near c.args.a c.requires.a_bound) c.from-3.ensures)
      (coordinate _ _ c.from-4.result (up_is zones c.args.b) (near c.args.b c.requires.b_bound) c.from-4.ensures)

  both :
      Is (r64 (square (r64 (r64 c.from.result -ℤ r64 c.from-2.result))) +ℤ r64 (square (r64 (r64 c.from-3.result -ℤ r64 c.from-4.result))))
      (squared_distance places c.args.a c.args.b) 7200000000
  unfolding squared_distance
  both = is_+ (rd w64 far_across tt) (rd w64 far_up tt)

pub overflow_mul-result : goal.overflow_mul-result
overflow_mul-result c = fit w64 (far_across c) tt

pub overflow_mul-result-2 : goal.overflow_mul-result-2
overflow_mul-result-2 c = fit w64 (far_up c) tt

pub overflow_add-result : goal.overflow_add-result
overflow_add-result c = fit w64 (both c) tt

pub returns : goal.returns
returns c = (rd w64 (both c) tt).same
