-- `keep_row` meets its contract. The loop's invariant: of the numbers passed, the k that have a place are written by it.
-- Assumes nothing.
use mathlib.Core.Path.{◌≡◌, refl, ap, ◌∙◌}
use Prim.Native.Nat.{ℕ, ◌<◌}
use native.Mathlib.Omega.{arith}
use lib.ListN.{length, get_or, set}
use Rattle.whole.proofs.Permutation.{full}
use Rattle.account.proofs.Placing.{taken_none, taken_few, taken_room, taken_yes, taken_no, taken_all}
use Rattle.account.proofs.keeping.keep_row.Goals as goal
use Rattle.account.proofs.keeping.keep_row.Goals.{then-from-out, else-from-out, After-from, After-from-in-loop-zone}

-- the zone at hand
module _ (c : After-from) where
  abbrev p : ℕ
  p = c.loop-zone.zone-index

  abbrev n : ℕ
  n = length c.args.row.now.zones.now

  abbrev row : ℕ → ℕ
  row i = get_or c.args.row.now.zones.now i 0

  before : p < n
  before = omega arith

  -- is one
  below : row p < n
  below = (full row n c.args.row.now.full).into p before

-- and where its place is one, that can be written
module _ (c : After-from-in-loop-zone) where
  abbrev f : After-from
  f = ((goal.at.After-from-in-loop-zone c).After-from)

  place : c.from-in-loop-zone.result ≡ get_or c.args.places.now (row f (p f)) 0
  place = c.from-in-loop-zone.ensures ∙ ap (λ z. get_or c.args.places.now z 0) f.from.ensures

  room : c.from-in-loop-zone.result < length c.loop-zone.out → c.loop-zone.k < length c.loop-zone.out
  room h =
      let l = c.loop-zone in
      let fits =
      taken_room c.args.places.now (length c.args.out.now) (n f) (row f) c.args.row.now.full c.requires.n_value (p f) l.k l.out
      l.invariant (before f) (omega (arith, place)) in
      omega (arith, fits)

pub loop-zone-init : goal.loop-zone-init
loop-zone-init c = taken_none _ _ _ _ c.args.out.now refl

pub bounds-places-from : goal.bounds-places-from
bounds-places-from c =
    let f = (goal.at.bounds-places-from c).After-from in
    omega (arith, c.from.ensures, below f, c.requires.places_len)

pub bounds-out-k : goal.bounds-out-k
bounds-out-k c = room ((goal.at.bounds-out-k c).After-from-in-loop-zone) c.if-from-out.true

pub overflow_add-k : goal.overflow_add-k
overflow_add-k c =
    let l = c.loop-zone in
    omega (arith, taken_few _ _ _ _ l.zone-index l.k l.out l.invariant, l.invariant.passed, c.args.row.now.few)

pub loop-zone-preserved : goal.loop-zone-preserved
loop-zone-preserved c =
    let g = (goal.at.loop-zone-preserved c).After-from-in-loop-zone in
    let f = (goal.at.loop-zone-preserved c).After-from in
    let l = c.loop-zone in
    let a = c.args in
    let j = c.if-from-out.k in
    let new = c.if-from-out.out in
    let with_place =
    taken_yes a.places.now (length a.out.now) (n f) (row f) a.row.now.full c.requires.n_value (p f) l.k l.out l.invariant (before f) j
    new in
    let without =
    taken_no a.places.now (length a.out.now) (n f) (row f) a.row.now.full c.requires.n_value (p f) l.k l.out l.invariant (before f) j
    new in
    elim c.if-from-out.branch [
      | then-from-out w ↦
          with_place (omega (arith, w.if-from-out.true, place g))
          (w.out-is ∙ ap (λ z. set l.out l.k (get_or a.places.now z 0)) f.from.ensures) w.k-is
      | else-from-out w ↦ without (omega (arith, w.if-from-out.false, place g)) w.out-is w.k-is
    ]

pub returns : goal.returns
returns c =
    let l = c.loop-zone in
    let a = c.args in
    let zones = a.row.now.zones.now in
    taken_all a.places.now (length a.out.now) (length zones) (λ i. get_or zones i 0) a.row.now.full c.requires.n_value l.zone-index
    l.k l.out l.invariant (omega arith)
