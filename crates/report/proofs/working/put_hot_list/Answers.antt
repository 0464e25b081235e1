-- `put_hot_list` meets its contract: the zones come back in order, and a line is put for each that is kept. Assumes nothing.
use mathlib.Core.Path.{◌≡◌, refl, ap, ◌∙◌}
use mathlib.Core.List.{List, ◌++◌}
use Prim.Native.Nat.{ℕ, ◌*◌, ◌≤◌, ◌<◌}
use native.Mathlib.Omega.{arith}
use lib.IntN.{ℤ}
use lib.ListN.{length, get_or, take}
use lib.Seq.{length-take-le, take-append-le, get_or-take}
use mir.Syntax.{w64}
use mir.ValLaws.{to_z-of_z}
use Rattle.std.specs.Result.{IsOk}
use Rattle.whole.specs.Table.{each}
use Rattle.whole.proofs.Rules.{worked_when_taken}
use Rattle.hot_list.specs.HotList.{in_order, order_refusal, order_left}
use Rattle.hot_list.proofs.Ordered.{order_taken, in_order_length, in_order_below}
use Rattle.nearest.specs.declared.Side.{Side}
use Rattle.report.specs.Steps.{Listed, zone_line}
use Rattle.report.specs.declared.lines.Zones.{Zones}
use Rattle.report.proofs.Puts.{put_as, put_most}
use Rattle.refusals.proofs.Unrefused.{unrefused}
use Rattle.report.proofs.working.put_hot_list.Goals as goal
use Rattle.report.proofs.working.put_hot_list.Goals.{After-order, Start}

-- the first zones of the order, so many, where the order stands at the front of an array
module _ (n : ℕ) (values : List ℤ) (weights : List ℕ) (locals : List ℤ) (many : ℕ) (few : many ≤ n) where
  abbrev shown : List ℕ
  shown = take many (in_order n values weights locals)

  shown_length : length shown ≡ many
  shown_length = length-take-le many (in_order n values weights locals) (omega (arith, few, in_order_length n values weights locals))

  below : (k : ℕ) → k < many → get_or shown k 0 < n
  below k h = rw (get_or-take many (in_order n values weights locals) k 0 h) (in_order_below n values weights locals k (omega (arith, h, few)))

  module _ (zones rest : List ℕ) (e : zones ≡ in_order n values weights locals) where
    front_is : take many (zones ++ rest) ≡ shown
    front_is =
        take-append-le many zones rest (omega (arith, few, ap length e, in_order_length n values weights locals)) ∙ ap (take many) e

    front_length : length (take many (zones ++ rest)) ≡ many
    front_length = ap length front_is ∙ shown_length

    there : {m : ℕ} → m ≡ n → Listed (take many (zones ++ rest)) m
    there l k h = rw front_is (omega (arith, below k (omega (arith, h, front_length)), l))

    -- 129 bytes for each of at most 64 zones
    narrow : n ≤ 64 → 129 * length (take many (zones ++ rest)) ≤ 8256
    narrow h = omega (arith, h, few, front_length)

    -- the lines of those zones, by the spread as it is read
    lines :
        (figures : List ℕ) (sides : List Side) (spread read : ℤ) → read ≡ spread →
        each (zone_line locals figures sides read) (take many (zones ++ rest)) ≡ each (zone_line locals figures sides spread) shown
    lines figures sides spread read f = rw (f, front_is) refl

-- what the order's call has left
module _ (c : After-order) where
  abbrev s : Start
  s = ((goal.at.After-order c).Start)

  abbrev of_zones : Zones
  of_zones = s.args.zones.now

  abbrev n : ℕ
  n = length of_zones.locals.now

  abbrev values : List ℤ
  values = of_zones.values.now

  abbrev weights : List ℕ
  weights = of_zones.weights.now

  abbrev locals : List ℤ
  locals = of_zones.locals.now

  abbrev zones : List ℕ
  zones = c.order.new.zones

  -- with a place for each zone nothing is refused
  taken : (places : ℕ) → places ≡ n → order_refusal n (length values) (length weights) (length locals) places ≡ 0
  taken places p =
      let z = of_zones.zoned in
      order_taken n _ _ _ _
      (record {
        two = z.least;
        most = z.most;
        values_fit = z.values_fit;
        weights_fit = z.weights_fit;
        locals_fit = refl;
        zones_fit = p;
      })

  zones_left : zones ≡ in_order n values weights locals
  unfolding order_left
  zones_left = c.order.ensures.lent ∙ worked_when_taken _ _ _ (taken _ (length-take-le _ _ of_zones.zoned.most))

  ordered : IsOk c.order.result
  ordered = unrefused _ (c.order.ensures.number ∙ taken _ (length-take-le _ _ of_zones.zoned.most))

pub unwrap-requires : goal.unwrap-requires
unwrap-requires c = ordered ((goal.at.unwrap-requires c).After-order)

pub put_zones-requires-clause-listed : goal.put_zones-requires-clause-listed
put_zones-requires-clause-listed c =
    let after_order = (goal.at.put_zones-requires-clause-listed c).After-order in
    there (n after_order) (values after_order) (weights after_order) (locals after_order) _ c.requires.few (zones after_order) _ (zones_left after_order) refl

pub returns : goal.returns
returns c =
    let after_order = (goal.at.returns c).After-order in
    let few = c.requires.few in
    put_as
    (put_most c.put_zones.ensures (narrow (n after_order) (values after_order) (weights after_order) (locals after_order) _ few (zones after_order) _
    (zones_left after_order) (of_zones after_order).zoned.most))
    (lines (n after_order) (values after_order) (weights after_order) (locals after_order) _ few (zones after_order) _ (zones_left after_order) _ _ _ _
    (to_z-of_z w64 c.args.spread (s after_order).ranges.spread))
