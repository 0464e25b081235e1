use mathlib.Core.Path.{◌≡◌}
use Prim.Native.Nat.{◌*◌}
use lib.ListN.{length, get_or, take}
use Rattle.whole.specs.Table.{table_rows}
use Rattle.account.specs.Steps.{gathered_pair}
use Rattle.account.proofs.keeping.KeptLists.gather_pairs.Given as goal

abbrev pub invariant-loop-k : goal.invariant-loop-k
invariant-loop-k l =
    let zones = l.self.zones.now in
    take (l.k * length zones) l.out
    ≡ table_rows (λ k'. gathered_pair l.self.job.n l.pairs zones (get_or zones k' 0)) l.k (length zones)
