-- The input has room for as many bytes as decide a report. Assumes nothing.
use Rattle.report.proofs.FirstBytes.{first_44909}
use Rattle.print_report.proofs.input_room.Goals as goal

pub returns-clause-decides : goal.returns-clause-decides
returns-clause-decides c = rw c.room.ensures.size first_44909
