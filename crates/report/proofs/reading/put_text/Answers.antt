-- `put_text` meets its contract. Assumes nothing.
use borrow.Author.Rules.{rules}
use Rattle.std.specs.Prelude.{Ok}
use Rattle.std.proofs.lemmas.Result.{err_from_is_err_and}
use Rattle.image.specs.Reader.{Buffers, buffers}
use Rattle.report.proofs.Puts.{put_as}
use Rattle.report.proofs.ReadJob.{Told, read_held, read_text, read_prints, refused_prints}
use Rattle.report.proofs.reading.put_text.Goals as goal
use Rattle.report.proofs.reading.put_text.Goals.{In_ok-counts}

-- what the reader told and left, where it refused nothing
module _ (c : In_ok-counts) where
  abbrev lent : Buffers
  lent =
      buffers c.args.values.now c.args.categories.now c.args.weights.now
      c.args.places.now c.args.bands.now c.args.shuffles.now

  abbrev held : Buffers
  held = let l = c.read.new in buffers l.values l.categories l.weights l.places l.bands l.shuffles

  told : Told c.args.image.now lent (Ok c.in_ok-counts.counts) held
  told = let e = c.in_ok-counts.ensures in record { number = e.number; counted = e.counts; left = e.lent }

pub returns-in_err-counts : goal.returns-in_err-counts
returns-in_err-counts c =
    let p = err_from_is_err_and c.from_residual.result c.from_residual.ensures.1 in
    rw (p.1, p.2) (refused_prints _ _ _ c.in_err-counts.ensures.number c.requires)

pub put_read-requires : goal.put_read-requires
put_read-requires c = read_held (told ((goal.at.put_read-requires c).In_ok-counts))

pub returns : goal.returns
returns c =
    let t = told ((goal.at.returns c).In_ok-counts) in
    read_prints t (put_as c.put_read.ensures (read_text t)) (search rules)
