-- `all` meets its contract: nine rows, by calls that leave the closure as it is. Assumes nothing.
use Rattle.std.proofs.Common.{rules}
use Rattle.whole.proofs.Called.{table_given}
use Rattle.account.specs.Classes.{row_at}
use Rattle.account.proofs.ClassRow.all.Goals as goal

pub returns : goal.returns
returns c =
    let rows = c.args.sums.now in
    table_given _ _ (row_at rows) c.from_fn.result 9 (λ k y q h r. search rules) (row_at rows 0) c.from_fn.ensures.items
