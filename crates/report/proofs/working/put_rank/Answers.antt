-- `put_rank` meets its contract: nothing without shuffles, else the line of the counts. Assumes nothing.
use mathlib.Core.Path.{sym, ◌∙◌}
use Prim.Native.Nat.{◌+◌, ◌≤◌}
use native.Mathlib.Omega.{arith}
use borrow.Author.Rules.{rules}
use mir.Syntax.{w64}
use Rattle.whole.proofs.Machine.{fits_le}
use Rattle.report.proofs.Listed.{given, few_counted, counted_line}
use Rattle.report.proofs.Puts.{put_as}
use Rattle.report.proofs.working.put_rank.Goals as goal
use Rattle.report.proofs.working.put_rank.Goals.{After-rank_all-counts}

few : (c : After-rank_all-counts) → let t = c.rank_all-counts.result in t.less + t.equal + t.greater ≤ 499
few c = few_counted _ _ _ _ _ c.rank_all-counts.ensures

pub overflow_cast-line : goal.overflow_cast-line
overflow_cast-line c = fits_le w64 _ 499 (omega (arith, few ((goal.at.overflow_cast-line c).After-rank_all-counts))) tt

pub overflow_cast-line-2 : goal.overflow_cast-line-2
overflow_cast-line-2 c = fits_le w64 _ 499 (omega (arith, few ((goal.at.overflow_cast-line-2 c).After-rank_all-counts))) tt

pub overflow_cast-line-3 : goal.overflow_cast-line-3
overflow_cast-line-3 c = fits_le w64 _ 499 (omega (arith, few ((goal.at.overflow_cast-line-3 c).After-rank_all-counts))) tt

pub returns : goal.returns
returns c =
    put_as c.put_line.ensures
    (counted_line _ _ _ _ _ ((goal.at.returns c).After-rank_all-counts).rank_all-counts.ensures ∙ sym (given c.args.shuffles.now _ (search rules)))
