-- `report` meets its contract: a page of another length is left, in a whole one the image's text is put. Assumes nothing.
use Rattle.std.proofs.lemmas.Option.{MatchOption-at_none, MatchOption-at_some}
use Rattle.std.proofs.lemmas.Result.{err_from_is_err_and}
use Rattle.report.proofs.Printing.{by_page, by_image, untaken}
use Rattle.report.proofs.report.Goals as goal

pub returns-in_err-page : goal.returns-in_err-page
returns-in_err-page c =
    let p = err_from_is_err_and c.from_residual.result c.from_residual.ensures.1 in
    let none = c.in_err-page.ensures.ok_part in
    let all = by_page c.args.image.now c.args.page.now (MatchOption-at_none _ _ none c.as_mut_array.ensures.cases) in
    rw (p.1, p.2, untaken _ none c.in_err-page.ensures.value) (record { number = all.0; length = all.1.0; page = all.1.1 })

pub returns : goal.returns
returns c =
    let whole = MatchOption-at_some _ _ _ c.in_ok-page.ensures.ok_part c.as_mut_array.ensures.cases in
    let all = by_image c.args.image.now c.args.page.now whole.long _ _ _ whole.same c.put_report.ensures in
    record { number = all.0; length = all.1.0; page = all.1.1 }
