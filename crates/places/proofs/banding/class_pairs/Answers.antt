-- `class_pairs` meets its contract. The loop's invariant: each place passed holds its pair's class. Assumes nothing.
use mathlib.Core.Path.{◌≡◌, ap, ◌∙◌}
use Prim.Native.Nat.{ℕ, ◌+◌, ◌/◌, ◌%◌}
use native.Mathlib.Omega.{arith}
use lib.IntN.{ℤ}
use lib.ListN.{length, set}
use Rattle.whole.proofs.Machine.{r64}
use Rattle.whole.proofs.TableRows.{split, Filled, filled_next, filled_all}
use Rattle.places.specs.Places.{squared_distance}
use Rattle.places.specs.Steps.{coordinates}
use Rattle.places.specs.Bands.{band_class, pair_class, band_classes}
use Rattle.places.proofs.Classes.{pair_itself, pair_apart}
use Rattle.places.proofs.Distance.{distance_read}
use Rattle.places.proofs.banding.class_pairs.Goals as goal
use Rattle.places.proofs.banding.class_pairs.Goals.{In-loop-p, then-a-b, else-a-b}

-- a turn of the loop, at the pair of a and b
module _ (c : In-loop-p) where
  abbrev n : ℕ
  n = length c.args.zones.now.zones.now

  abbrev d : ℕ → ℕ → ℤ
  d = squared_distance (coordinates c.args.zones.now.zones.now)

  abbrev f : ℕ → ℕ → ℕ
  f = pair_class c.args.bands.now d

  abbrev a : ℕ
  a = c.loop-p.p / n

  abbrev b : ℕ
  b = c.loop-p.p % n

  -- what is answered of two zones
  two_zones : (r : ℤ) (v : ℕ) → r ≡ d a b → v ≡ band_class c.args.bands.now (r64 r) → (a ≡ b → ⊥) → v ≡ f a b
  two_zones r v e told apart =
      let pair = split n n c.loop-p.p (omega arith) in
      told
      ∙ ap (band_class c.args.bands.now) (distance_read _ c.args.zones.now.near a b pair.row pair.column r e).same
      ∙ pair_apart c.args.bands.now d a b apart

  -- v is the pair's class
  entry : (class v : ℕ) → v ≡ f a b → class ≡ v → Filled f n n 0 (set c.loop-p.classes c.loop-p.p class) (c.loop-p.p + 1)
  entry class v e h = filled_next f n n 0 c.loop-p.classes c.loop-p.p class c.loop-p.invariant (omega arith) (h ∙ e)

pub loop-p-preserved : goal.loop-p-preserved
loop-p-preserved c =
    let t = (goal.at.loop-p-preserved c).In-loop-p in
    elim c.if-a-b.branch [
      | then-a-b w ↦ entry t _ _ (pair_itself c.args.bands.now (d t) (a t) (b t) w.if-a-b.true) w.class-is
      | else-a-b w ↦ entry t _ _ (two_zones t _ _ w.squared_distance.ensures w.band_class.ensures w.if-a-b.false) w.class-is
    ]

pub returns : goal.returns
unfolding band_classes
returns c = filled_all _ _ _ 0 _ c.loop-p.p c.loop-p.invariant (omega arith)
