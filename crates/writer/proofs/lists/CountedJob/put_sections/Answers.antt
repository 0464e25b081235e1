-- `put_sections` meets its contract: each section is put right behind those before it, and there is room for all. Assumes nothing.
use mathlib.Core.Path.{◌≡◌, refl}
use mathlib.Core.List.{List}
use Prim.Native.Nat.{ℕ}
use native.Mathlib.Omega.{arith}
use Rattle.image.specs.Image.{job_bytes}
use Rattle.image.specs.Reader.{Buffers}
use Rattle.image.specs.Writer.{listed, lent_job}
use Rattle.image.specs.declared.Given.{Given}
use Rattle.writer.specs.Steps.{Room, Puts, Storable}
use Rattle.writer.specs.declared.putting.Out.{Out}
use Rattle.writer.proofs.Behind.{puts_next, puts_room}
use Rattle.writer.proofs.Lengths as L
use Rattle.writer.proofs.lists.CountedJob.put_sections.Goals as goal
use Rattle.writer.proofs.lists.CountedJob.put_sections.Goals.{Start, After-put_section, After-put_section-2, After-put_joins_section, After-put_section-3, After-put_section-4, After-put_section-5}

-- what is known at the start
module _ (s : Start) where
  abbrev given : Given
  given = s.args.self.now.job.given

  abbrev lent : Buffers
  lent = listed s.args.self.now.job.lists

  abbrev out : Out
  out = s.args.out.now

  abbrev joins : ℕ
  joins = s.args.self.now.joins

  -- sections of the image
  abbrev part : (Given → Buffers → ℕ → List ℕ) → List ℕ
  part sections = sections given lent joins

  parts : Storable given lent joins
  parts = s.args.self.now.storable

  all_there : job_bytes given (lent_job given lent) ≡ part L.sections
  all_there = L.all_sections given lent joins parts.joins

  grown : L.Grown given lent joins
  grown = L.grown given lent joins

  room : Room out (part L.sections)
  room = rw (all_there) at s.requires

-- what is put after each call
values_put :
    (c : After-put_section) → let s = (goal.at.After-put_section c).Start in Puts (out s) (part s L.values_section) c.put_section.new.self
values_put c = rw c.values.ensures at c.put_section.ensures

categories_put :
    (c : After-put_section-2) → let s = (goal.at.After-put_section-2 c).Start in Puts (out s) (part s L.to_joins) c.put_section-2.new.self
categories_put c =
    let s = (goal.at.After-put_section-2 c).Start in
    let before = values_put ((goal.at.After-put_section-2 c).After-put_section) in
    puts_next (part s L.categories_section) before (rw c.categories.ensures at c.put_section-2.ensures) refl

joins_put :
    (c : After-put_joins_section) → let s = (goal.at.After-put_joins_section c).Start in
    Puts (out s) (part s L.to_places) c.put_joins_section.new.out
joins_put c =
    let s = (goal.at.After-put_joins_section c).Start in
    let before = categories_put ((goal.at.After-put_joins_section c).After-put_section-2) in
    puts_next (part s L.joins_section) before c.put_joins_section.ensures refl

places_put :
    (c : After-put_section-3) → let s = (goal.at.After-put_section-3 c).Start in Puts (out s) (part s L.to_bands) c.put_section-3.new.self
places_put c =
    let s = (goal.at.After-put_section-3 c).Start in
    let before = joins_put ((goal.at.After-put_section-3 c).After-put_joins_section) in
    puts_next (part s L.places_section) before (rw c.places.ensures at c.put_section-3.ensures) refl

bands_put :
    (c : After-put_section-4) → let s = (goal.at.After-put_section-4 c).Start in Puts (out s) (part s L.to_shuffles) c.put_section-4.new.self
bands_put c =
    let s = (goal.at.After-put_section-4 c).Start in
    let before = places_put ((goal.at.After-put_section-4 c).After-put_section-3) in
    puts_next (part s L.bands_section) before (rw c.bands.ensures at c.put_section-4.ensures) refl

shuffles_put :
    (c : After-put_section-5) → let s = (goal.at.After-put_section-5 c).Start in Puts (out s) (part s L.sections) c.put_section-5.new.self
shuffles_put c =
    let s = (goal.at.After-put_section-5 c).Start in
    let before = bands_put ((goal.at.After-put_section-5 c).After-put_section-4) in
    puts_next (part s L.shuffles_section) before (rw c.shuffles.ensures at c.put_section-5.ensures) refl

-- each has room
pub put_section-requires-clause-room : goal.put_section-requires-clause-room
put_section-requires-clause-room c =
    let s = (goal.at.put_section-requires-clause-room c).Start in
    let g = grown s in rw c.values.ensures (omega (arith, room s))

pub put_section-requires-2-clause-room : goal.put_section-requires-2-clause-room
put_section-requires-2-clause-room c =
    let s = (goal.at.put_section-requires-2-clause-room c).Start in
    let before = values_put ((goal.at.put_section-requires-2-clause-room c).After-put_section) in
    let g = grown s in rw c.categories.ensures (puts_room (part s L.categories_section) (part s L.sections) before (omega arith) (room s))

pub put_joins_section-requires : goal.put_joins_section-requires
put_joins_section-requires c =
    let s = (goal.at.put_joins_section-requires c).Start in
    let before = categories_put ((goal.at.put_joins_section-requires c).After-put_section-2) in
    let g = grown s in puts_room (part s L.joins_section) (part s L.sections) before (omega arith) (room s)

pub put_section-requires-3-clause-room : goal.put_section-requires-3-clause-room
put_section-requires-3-clause-room c =
    let s = (goal.at.put_section-requires-3-clause-room c).Start in
    let before = joins_put ((goal.at.put_section-requires-3-clause-room c).After-put_joins_section) in
    let g = grown s in rw c.places.ensures (puts_room (part s L.places_section) (part s L.sections) before (omega arith) (room s))

pub put_section-requires-4-clause-room : goal.put_section-requires-4-clause-room
put_section-requires-4-clause-room c =
    let s = (goal.at.put_section-requires-4-clause-room c).Start in
    let before = places_put ((goal.at.put_section-requires-4-clause-room c).After-put_section-3) in
    let g = grown s in rw c.bands.ensures (puts_room (part s L.bands_section) (part s L.sections) before (omega arith) (room s))

pub put_section-requires-5-clause-room : goal.put_section-requires-5-clause-room
put_section-requires-5-clause-room c =
    let s = (goal.at.put_section-requires-5-clause-room c).Start in
    let before = bands_put ((goal.at.put_section-requires-5-clause-room c).After-put_section-4) in
    let g = grown s in rw c.shuffles.ensures (puts_room (part s L.shuffles_section) (part s L.sections) before (omega arith) (room s))

pub returns : goal.returns
returns c =
    let s = (goal.at.returns c).Start in
    rw (all_there s) (shuffles_put ((goal.at.returns c).After-put_section-5))
