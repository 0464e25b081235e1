-- `shuffle_deviations` meets its contract: what is picked by the numbers of a shuffle is a table. Assumes nothing.
use mathlib.Core.Path.{◌∙◌}
use native.Mathlib.Omega.{arith}
use lib.IntN.{pos}
use lib.ListN.{length, get_or}
use Rattle.whole.proofs.Permutation.{full}
use Rattle.account.proofs.KeptLists.{gathered_by}
use Rattle.account.proofs.shuffling.shuffle_deviations.Goals as goal

pub pick-requires-clause-below : goal.pick-requires-clause-below
pick-requires-clause-below c k h =
    let r = c.args.row.now in
    omega (arith, (full (λ i. get_or r.zones.now i 0) (length r.zones.now) r.full).into k h, c.requires.d_len)

pub returns : goal.returns
returns c =
    gathered_by (pos 0) c.args.d.now c.pick.new.out c.args.row.now.zones.now (c.pick.auto.out ∙ c.requires.moved_len) c.pick.ensures
