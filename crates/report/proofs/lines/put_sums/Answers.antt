-- `put_sums` meets its contract: two lines, one behind the other. Assumes nothing.
use borrow.Author.Rules.{rules}
use Rattle.report.proofs.Puts.{put_as, put_then}
use Rattle.report.proofs.LineLaws.{read, sum_text}
use Rattle.report.proofs.lines.put_sums.Goals as goal

pub returns : goal.returns
returns c =
    let sums = c.args.sums in
    let reads = read sums (search rules) (search rules) (search rules) (search rules) (search rules) in
    put_as (put_then c.put_line-place.ensures c.put_line.ensures) (sum_text sums reads c.requires.kept_bound)
