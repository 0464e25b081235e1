use lib.ListN.{length, get_or}
use Rattle.account.proofs.Placing.{Taken}
use Rattle.account.proofs.keeping.keep_row.Given as goal

abbrev pub invariant-loop-zone : goal.invariant-loop-zone
invariant-loop-zone l =
    Taken l.places (length l.initial.out) (length l.fn.row.zones.now) (λ i. get_or l.fn.row.zones.now i 0) l.zone-index l.k l.out
