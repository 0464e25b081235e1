-- `print_refusal` meets its contract: the page fits, so that the line is put. Assumes nothing.
use Rattle.report.proofs.Printing.{line_printed, line_unrefused}
use Rattle.print_report.proofs.print_refusal.Goals as goal

pub unwrap-requires : goal.unwrap-requires
unwrap-requires c =
    let said = c.refusal.ensures in
    line_unrefused _ c.args.page.now c.told-page _ _ said.number said.length said.page

pub returns : goal.returns
returns c =
    let said = c.refusal.ensures in
    let p = line_printed _ c.args.page.now c.told-page _ _ said.number said.length said.page c.unwrap.ensures in
    rw (← c.number_by.ensures) (record { upper_bound = p.1; page_after = p.0 })
