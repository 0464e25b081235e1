-- `refusal` meets its contract: a page of another length is left, in a whole one the line is put. Assumes nothing.
use Rattle.std.proofs.lemmas.Option.{MatchOption-at_none, MatchOption-at_some}
use Rattle.std.proofs.lemmas.Result.{err_from_is_err_and}
use Rattle.report.specs.Text.{refusal_line}
use Rattle.report.proofs.LineLaws.{read_back}
use Rattle.report.proofs.Puts.{put_as}
use Rattle.report.proofs.Printing.{line_by_page, line_by_text, untaken}
use Rattle.report.proofs.refusal.Goals as goal

pub returns-in_err-page : goal.returns-in_err-page
returns-in_err-page c =
    let p = err_from_is_err_and c.from_residual.result c.from_residual.ensures.1 in
    let none = c.in_err-page.ensures.ok_part in
    let all = line_by_page c.args.number c.args.page.now (MatchOption-at_none _ _ none c.as_mut_array.ensures.cases) in
    rw (p.1, p.2, untaken _ none c.in_err-page.ensures.value) (record { number = all.0; length = all.1.0; page = all.1.1 })

pub returns : goal.returns
unfolding refusal_line
returns c =
    let whole = MatchOption-at_some _ _ _ c.in_ok-page.ensures.ok_part c.as_mut_array.ensures.cases in
    let all =
    line_by_text c.args.number c.args.page.now whole.long whole.same
    (put_as c.put_line.ensures (rw (read_back c.from.type_inv c.from.ensures))) in
    record { number = all.0; length = all.1.0; page = all.1.1 }
