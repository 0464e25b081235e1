-- `put_read` meets its contract. Assumes nothing.
use mathlib.Core.Path.{◌≡◌}
use lib.ListN.{length, take}
use lib.Seq.{length-take-le}
use Rattle.image.specs.Writer.{lent_job}
use Rattle.report.proofs.reading.put_read.Goals as goal
use Rattle.report.proofs.reading.put_read.Goals.{Start}

-- the values that are handed on are as many as the counts say
many_values : (c : Start) → length (take c.args.counts.values c.args.held.now.values.now) ≡ c.args.counts.values
many_values c = length-take-le c.args.counts.values c.args.held.now.values.now c.requires.values_in

pub put_job-requires : goal.put_job-requires
unfolding lent_job
put_job-requires c =
    rw (many_values ((goal.at.put_job-requires c).Start)) c.requires.sound

pub returns : goal.returns
unfolding lent_job
returns c = rw (many_values ((goal.at.returns c).Start)) at c.put_job.ensures
