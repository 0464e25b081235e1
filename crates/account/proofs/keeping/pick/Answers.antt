-- `pick` meets its contract. The loop's invariant: what is held at the numbers passed is written. Assumes nothing.
use mathlib.Core.Path.{◌≡◌, refl, sym, ap, ◌∙◌}
use mathlib.Core.List.{List}
use Rattle.std.proofs.Common.{Some}
use Prim.Native.Nat.{ℕ, ◌+◌, ◌<◌}
use native.Mathlib.Decide.{ℕ_discrete}
use native.Mathlib.Omega.{arith}
use lib.ListN.{length, get_or, set, length-set}
use lib.Seq.{get_or-set_same, get_or-set_other}
use Rattle.std.specs.List.{slice_get}
use Rattle.std.proofs.lemmas.Option.{slice_get-get_or, slice_get_read}
use Rattle.account.proofs.keeping.pick.Goals as goal

-- one place more is written, with what stands at another list's place
one_more :
    {A : Type 0} (list out : List A) (zone : ℕ → ℕ) (k : ℕ) (x : A) → k < length out → slice_get list (zone k) ≡ Some x →
    ((q : ℕ) → q < k → slice_get out q ≡ slice_get list (zone q)) → (q : ℕ) → q < k + 1 →
    slice_get (set out k x) q ≡ slice_get list (zone q)
one_more list out zone k x room read so q h = pick (ℕ_discrete q k)
  where
    long : length (set out k x) ≡ length out
    long = length-set out k x

    pick : Dec (q ≡ k) → slice_get (set out k x) q ≡ slice_get list (zone q)
    pick (yes e) =
        rw e (slice_get_read (set out k x) (length out) k x (sym long) room (sym (get_or-set_same out k x x room)) ∙ sym read)
    pick (no e) =
        slice_get-get_or (set out k x) q x (omega (arith, long))
        ∙ ap (λ y. Some y) (get_or-set_other out k q x x e)
        ∙ sym (slice_get-get_or out q x (omega arith))
        ∙ so q (omega arith)

pub loop-k-preserved : goal.loop-k-preserved
loop-k-preserved g c =
    let numbers = c.args.numbers.now in
    let k = c.loop-k.k in
    let list = c.args.list.now in
    let below = c.requires.below k (omega arith) in
    let read = slice_get_read list (length list) c.from-number.result c.index-list-number.result refl (omega arith) c.index-list-number.is in
    one_more list c.loop-k.out (λ q. get_or numbers q 0) k _ (omega arith) (rw (sym c.from-number.ensures) read) c.loop-k.invariant
