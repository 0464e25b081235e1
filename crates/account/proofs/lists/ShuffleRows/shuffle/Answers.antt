-- `shuffle` meets its contract. Assumes nothing.
use native.Mathlib.Omega.{arith}
use Rattle.account.proofs.Shuffled.{row_long, row_full}
use Rattle.account.proofs.lists.ShuffleRows.shuffle.Goals as goal

pub invariant_of-result : goal.invariant_of-result
invariant_of-result c =
    let s = c.args.self.now in record {
      few = omega (arith, row_long s.shuffles.now s.n s.rows c.args.r s.good c.requires _ c.row.ensures, s.good.zones);
      full = row_full s.shuffles.now s.n s.rows c.args.r s.good c.requires _ c.row.ensures;
    }
