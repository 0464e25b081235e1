-- Buffers of their exact lengths. Assumes nothing.
use mathlib.Core.Path.{◌≡◌}
use mathlib.Core.Bool.{Bool, false, not, ◌||◌}
use Prim.Native.Nat.{ℕ}
use borrow.Author.Tests.{eq-eqb, eqb-true, not-false}
use lib.Dec.{eqb}
use lib.ListN.{length}
use Rattle.whole.specs.Rules.{misfits}
use Rattle.whole.proofs.Rules.{neither}
use Rattle.image.specs.Reader.{Buffers, buffer_lengths}

pub record Exact (lent : Buffers) : Type 0 where
  pub values : length lent.values ≡ 64
  pub categories : length lent.categories ≡ 64
  pub weights : length lent.weights ≡ 4096
  pub places : length lent.places ≡ 128
  pub bands : length lent.bands ≡ 8
  pub shuffles : length lent.shuffles ≡ 31936

-- the first of some lengths is as it must be, and the others fit
first_fits : (found wanted : ℕ) (others : Bool) → (not (eqb found wanted) || others) ≡ false → (found ≡ wanted) × (others ≡ false)
first_fits found wanted others e =
    let f = neither (not (eqb found wanted)) others e in
    (eqb-true found wanted (not-false (eqb found wanted) f.0), f.1)

pub exact : (lent : Buffers) → misfits (buffer_lengths lent) ≡ false → Exact lent
exact lent e =
    let a = first_fits (length lent.values) 64 _ e in
    let b = first_fits (length lent.categories) 64 _ a.1 in
    let c = first_fits (length lent.weights) 4096 _ b.1 in
    let d = first_fits (length lent.places) 128 _ c.1 in
    let f = first_fits (length lent.bands) 8 _ d.1 in
    let g = first_fits (length lent.shuffles) 31936 _ f.1 in
    record { values = a.0; categories = b.0; weights = c.0; places = d.0; bands = f.0; shuffles = g.0 }

pub exactly : (lent : Buffers) → Exact lent → misfits (buffer_lengths lent) ≡ false
exactly lent x =
    rw (
      eq-eqb (length lent.values) 64 x.values,
      eq-eqb (length lent.categories) 64 x.categories,
      eq-eqb (length lent.weights) 4096 x.weights,
      eq-eqb (length lent.places) 128 x.places,
      eq-eqb (length lent.bands) 8 x.bands,
      eq-eqb (length lent.shuffles) 31936 x.shuffles,
    )
