-- The loop of `read_full`: what was read so far stands at the front of the room, in the reader's order. Assumes nothing.
use Rattle.std.proofs.Common.{◌≡◌, ◌-◌, ◌≤◌, length, take}
use Rattle.std.specs.Io.KnownBytes.{Consumes}
use Rattle.inputs.proofs.read_full.Given as goal

abbrev pub invariant-loop-end : goal.invariant-loop-end
invariant-loop-end g l = record {
  in_room : l.end ≤ length l.initial.room;
  same_room : length l.room ≡ length l.initial.room;
  read : Consumes (g.R.Read.remaining l.initial.reader) (g.R.Read.remaining l.reader) (take l.end l.room);
}

abbrev pub decreases-loop-end : goal.decreases-loop-end
decreases-loop-end g l = length l.initial.room - l.end
