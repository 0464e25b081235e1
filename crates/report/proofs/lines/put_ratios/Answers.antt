-- `put_ratios` meets its contract: three lines, one behind the other, of products that fit. Assumes nothing.
use borrow.Author.Rules.{rules}
use mir.Syntax.{w64}
use Rattle.whole.proofs.Machine.{fit}
use Rattle.report.proofs.Puts.{put_as, put_then}
use Rattle.report.proofs.LineLaws.{Read, read, ratio_text, twice_is, geary_divisor_is}
use Rattle.report.proofs.lines.put_ratios.Goals as goal
use Rattle.report.proofs.lines.put_ratios.Goals.{Start}

-- the sums are read back as they are
reads : (c : Start) → Read c.args.whole.sums
reads c = read c.args.whole.sums (search rules) (search rules) (search rules) (search rules) (search rules)

pub overflow_mul-of_geary-3 : goal.overflow_mul-of_geary-3
overflow_mul-of_geary-3 c =
    fit w64 (twice_is c.args.whole.sums (reads ((goal.at.overflow_mul-of_geary-3 c).Start)) c.requires.within) tt

pub overflow_mul-of_geary-4 : goal.overflow_mul-of_geary-4
overflow_mul-of_geary-4 c =
    fit w64 (geary_divisor_is c.args.whole.sums (reads ((goal.at.overflow_mul-of_geary-4 c).Start)) c.requires.within) tt

pub returns : goal.returns
returns c =
    put_as (put_then c.put_field_line-place.ensures (put_then c.put_field_line-end.ensures c.put_line.ensures))
    (ratio_text c.args.whole.sums (reads ((goal.at.returns c).Start)) c.requires.within c.args.whole.pair)
