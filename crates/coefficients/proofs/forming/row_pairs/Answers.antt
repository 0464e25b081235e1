-- `row_pairs` meets its contract: nine pairs, by calls that leave the closure as it is. Assumes nothing.
use Rattle.std.proofs.Common.{rules}
use Rattle.whole.proofs.Called.{table_given}
use Rattle.coefficients.specs.Coefficients.{pair_of}
use Rattle.coefficients.specs.FloatReport.{no_pair}
use Rattle.coefficients.specs.Steps.{nth_row}
use Rattle.coefficients.proofs.forming.row_pairs.Goals as goal

pub returns : goal.returns
returns c =
    let rows = c.args.rows.now in
    table_given _ _ (λ k. pair_of c.args.n c.args.spread (nth_row rows k)) c.from_fn.result 9 (λ k y q h r. search rules) no_pair c.from_fn.ensures.items
