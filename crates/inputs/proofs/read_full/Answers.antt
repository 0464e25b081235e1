-- `read_full` meets its contract: each read goes on where the one before it ended. Assumes nothing.
use Rattle.std.proofs.Common.{◌≡◌, ℕ, ◌+◌, ◌-◌, ◌≤◌, List, ◌++◌, length, take, sym, ap, ◌∙◌, subst, arith, rules}
use Rattle.std.proofs.lemmas.List.{take-append-le, length-take-le}
use Rattle.std.proofs.Math.Seq.{take-append-add}
use Rattle.std.proofs.KnownBytes.{Consumes-trans}
use Rattle.std.specs.Io.KnownBytes.{Consumes}
use borrow.Rule.Slice.PartMut.{put_mid, post_of}
use Rattle.inputs.proofs.read_full.Goals as goal

-- after a read of `more` bytes into the room from `end` on
read_on : (end most more : ℕ) (room part : List ℕ) → end ≤ length room → more ≤ length part →
    take (end + more) (put_mid end most room part) ≡ take end room ++ take more part
read_on end most more room part within fits =
    ap (λ k. take (k + more) (put_mid end most room part)) (sym (length-take-le end room within))
    ∙ take-append-add (take end room) (part ++ post_of end most room) more
    ∙ ap (λ l. take end room ++ l) (take-append-le more part (post_of end most room) fits)

pub loop-end-preserved : goal.loop-end-preserved
loop-end-preserved g c =
    let before = c.loop-end.invariant in
    let read = c.in_ok-more.ensures in
    let joined = read_on c.loop-end.end (length c.loop-end.room - c.loop-end.end) c.in_ok-more.more c.loop-end.room c.read.new.buf (omega arith) (omega (arith, read.bound)) in
    record {
      in_room = search rules;
      same_room = search rules;
      read = subst (Consumes _ _) (sym joined) (Consumes-trans _ _ _ _ _ before.read read.bytes.0);
    }
