-- `store` meets its contract: each buffer has room for its section, and each store leaves the job's list over it. Assumes nothing.
use mathlib.Core.Path.{◌≡◌, refl, sym, ap, ◌∙◌}
use Prim.Native.Nat.{◌*◌}
use native.Mathlib.Nat as N
use native.Mathlib.Omega.{arith}
use lib.ListN.{length, take}
use lib.Seq.{take-length}
use mir.Syntax.{w32}
use mir.Val.{to_z}
use Rattle.whole.specs.Table.{table}
use Rattle.words.specs.Words.{word_at}
use Rattle.image.specs.Reader.{buffers, filled}
use Rattle.image.proofs.Buffers.{exact}
use Rattle.image.proofs.JoinWeight.{weights_length}
use Rattle.reader.specs.Steps.{join_at}
use Rattle.reader.proofs.Fronts.{front_over, bytes_over, table_over}
use Rattle.reader.proofs.storing.store.Goals as goal

pub returns : goal.returns
unfolding filled
returns c =
    let a = c.args in
    let j = a.job.now in
    let n = j.values.count in
    let fits = c.requires.fitting in
    let x = exact (buffers a.values.now a.categories.now a.weights.now a.places.now a.bands.now a.shuffles.now) c.requires.lengths in
    let joins = table (join_at j.joins.now) (length j.joins.now) in
    let v = table_over (λ i. to_z w32 (word_at j.values.items.now (4 * i))) n _ a.values.now (omega (arith, fits.joins.zones, x.values)) c.entries_in.ensures in
    let k = bytes_over j.categories.count j.categories.items.now _ a.categories.now (omega (arith, x.categories)) fits.categories c.entries_in-2.ensures in
    let w = front_over (n * n) _ _ a.weights.now (weights_length n joins) c.put_joins.ensures in
    let p = table_over (λ i. to_z w32 (word_at j.places.items.now (4 * i))) (2 * j.places.count) _ a.places.now (omega (arith, fits.places, x.places)) c.entries_in-3.ensures in
    let b = table_over (λ i. word_at j.bands.items.now (4 * i)) j.bands.count _ a.bands.now (omega (arith, fits.bands, x.bands)) c.entries_in-4.ensures in
    let all : take (n * j.shuffles.count) j.shuffles.items.now ≡ j.shuffles.items.now = ap (λ m. take m j.shuffles.items.now) (sym fits.shuffles) ∙ take-length j.shuffles.items.now in
    let s = bytes_over (n * j.shuffles.count) j.shuffles.items.now _ a.shuffles.now (omega (arith, N.mul-le-mul fits.joins.zones fits.few_shuffles, x.shuffles)) fits.shuffles (rw (all) at c.entries_in-5.ensures) in
    rw (v, k, w, p, b, s) refl
