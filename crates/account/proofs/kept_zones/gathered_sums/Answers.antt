-- `gathered_sums` meets its contract: what is worked of the zones kept is put back. Assumes nothing.
use mathlib.Core.Path.{sym, ◌∙◌}
use Rattle.kept.specs.Returned.{reduced}
use Rattle.account.proofs.KeptWork.{places_long, figures_kept, locals_back}
use Rattle.account.proofs.kept_zones.gathered_sums.Goals as goal

pub put_back-requires : goal.put_back-requires
put_back-requires c =
    let k = c.args.kept.now in
    let job = k.job in
    let counting = reduced job.n job.values.now job.weights.now in
    c.requires ∙ sym (places_long job.n counting k.zones.now k.kept _ c.gather-gathered.ensures.places)

pub returns : goal.returns
returns c =
    let k = c.args.kept.now in
    let job = k.job in
    let g = c.gather-gathered.ensures in
    let told = c.zone_sums-sums.ensures in record {
      result_value = figures_kept job.n job.values.now job.weights.now k.zones.now k.kept _ _ g.values g.weights _
          c.count_missing-missing.ensures _ (rw (sym g.n) told.result_value);
      locals_after = locals_back job.n job.values.now job.weights.now k.zones.now k.kept _ _ g.values g.weights _ _ _
          (rw (sym g.n) told.locals_after) g.places c.put_back.ensures;
    }
