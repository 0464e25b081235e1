-- `print_text` meets its contract: the text of an accepted image, or the line of its refusal. Assumes nothing.
use mathlib.Core.Path.{◌∙◌}
use Rattle.report.proofs.Printing.{printed, refused}
use Rattle.print_report.proofs.print_text.Goals as goal

pub returns-in-Ok : goal.returns-in-Ok
returns-in-Ok c =
    let said = c.report.ensures in
    let p = printed c.args.image.now c.args.page.now c.told-page _ _ said.number said.length said.page c.in-Ok.is in
    record { upper_bound = p.1; page_after = p.0 }

pub returns-in-Err : goal.returns-in-Err
returns-in-Err c =
    let said = c.report.ensures in
    let r = refused c.args.image.now c.args.page.now c.told-page _ _ said.number said.length said.page c.in-Err.is in
    record { upper_bound = c.print_refusal.ensures.upper_bound; page_after = c.print_refusal.ensures.page_after ∙ r.0 }
