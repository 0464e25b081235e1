use mathlib.Core.Path.{◌≡◌}
use Rattle.whole.specs.Search.{count}
use Rattle.whole.proofs.Stores.{Stored}
use Rattle.kept.specs.Kept.{passing, keeps}
use Rattle.kept.proofs.keeping.put_kept.Given as goal

-- the kept zones passed are counted and stand at the front
abbrev pub invariant-loop-i : goal.invariant-loop-i
invariant-loop-i l = record {
  counted : l.many ≡ count (keeps l.weights.n l.weights.rows.now) l.i;
  stored : Stored l.initial.zones 0 (passing (keeps l.weights.n l.weights.rows.now) l.i) l.zones;
}
