-- `gathered_locals` meets its contract: what is worked of the zones kept is put back. Assumes nothing.
use mathlib.Core.Path.{sym, ◌∙◌}
use Rattle.kept.specs.Returned.{reduced}
use Rattle.account.proofs.KeptWork.{places_long, locals_back}
use Rattle.account.proofs.kept_zones.gathered_locals.Goals as goal

pub put_back-requires : goal.put_back-requires
put_back-requires c =
    let k = c.args.kept.now in
    let job = k.job in
    let counting = reduced job.n job.values.now job.weights.now in
    c.requires ∙ sym (places_long job.n counting k.zones.now k.kept _ c.gather-gathered.ensures.places)

pub returns : goal.returns
returns c =
    let k = c.args.kept.now in
    let job = k.job in
    let g = c.gather-gathered.ensures in
    let s = c.summed.ensures in
    locals_back job.n job.values.now job.weights.now k.zones.now k.kept _ _ g.values g.weights _ _ _
    (rw (sym g.n, sym s.n_value, sym s.values_value) c.zone_locals.ensures) g.places c.put_back.ensures
