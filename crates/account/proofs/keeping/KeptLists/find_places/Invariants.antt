use Rattle.account.proofs.Placing.{Placed}
use Rattle.account.proofs.keeping.KeptLists.find_places.Given as goal

abbrev pub invariant-loop-k : goal.invariant-loop-k
invariant-loop-k l = Placed l.self.zones.now l.self.job.n l.k l.places
