-- `put_bytes` meets its contract. Assumes nothing.
use mathlib.Core.Path.{refl, ap, ◌∙◌}
use Prim.Native.Nat.{◌+◌, ◌-◌}
use borrow.Rule.Slice.PartMut.{put_mid}
use lib.ListN.{length}
use Rattle.writer.proofs.Behind.{part_stored}
use Rattle.writer.proofs.putting.Out.put_bytes.Goals as goal

pub returns : goal.returns
returns c =
    let out = c.args.self.now in
    let bytes = c.args.bytes.now in
    let stored = part_stored bytes out.bytes.now out.at c.requires in record {
      same = refl;
      place = refl;
      after = ap (put_mid out.at (out.at + length bytes - out.at) out.bytes.now) c.copy_from_slice.ensures.after ∙ stored;
    }
