use Rattle.std.proofs.Common.{◌≡◌}
use lib.ListN.{drop}
use Rattle.whole.specs.Rules.{misfits}
use Rattle.judges.specs.Sizes.{lengths_for}
use Rattle.judges.proofs.sizes.judge_lent.Given as goal

-- the lists not seen yet decide
abbrev pub invariant-loop-length : goal.invariant-loop-length
invariant-loop-length l = misfits (lengths_for l.fn.n l.fn.lists) ≡ misfits (lengths_for l.fn.n (drop l.length-index l.fn.lists))
