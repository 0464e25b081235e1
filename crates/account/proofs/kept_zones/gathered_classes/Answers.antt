-- `gathered_classes` meets its contract: the classes of the pairs kept are gathered too, and what belongs to a zone is put back at it.
-- Assumes nothing.
use mathlib.Core.Path.{◌≡◌, sym, ap, ◌∙◌}
use Prim.Native.Nat.{◌*◌}
use native.Mathlib.Omega.{arith}
use lib.ListN.{length}
use Rattle.kept.specs.Returned.{reduced}
use Rattle.account.proofs.KeptClasses.{Gathers, gathers, gathered_job, figures_kept, sums_kept, locals_back, class_locals_back}
use Rattle.account.proofs.KeptWork.{places_long}
use Rattle.account.proofs.kept_zones.gathered_classes.Goals as goal
use Rattle.account.proofs.kept_zones.gathered_classes.Goals.{After-gather-gathered, After-gather_pairs}

-- there is a place for each zone
placed : (c : After-gather-gathered) → length c.gather-gathered.result.places.now ≡ c.args.kept.now.job.n
placed c =
    let k = c.args.kept.now in
    let counting = reduced k.job.n k.job.values.now k.job.weights.now in
    places_long k.job.n counting k.zones.now k.kept _ c.gather-gathered.ensures.places

-- what was gathered
kept :
    (c : After-gather_pairs) →
    let k = c.args.kept.now in
    let g = c.gather-gathered.result.job in
    Gathers k.job.n k.job.values.now k.job.weights.now c.args.classes.now g.n g.values.now g.weights.now c.gather_pairs.new.out
kept c =
    let k = c.args.kept.now in
    let g = c.gather-gathered.ensures in
    rw g.n
    (gathers k.job.n k.job.values.now k.job.weights.now c.args.classes.now k.zones.now k.kept g.values g.weights c.gather_pairs.ensures)

pub invariant_of-lists : goal.invariant_of-lists
invariant_of-lists c =
    let k = c.args.kept.now in record {
      good = gathered_job k.job.n k.job.values.now k.job.weights.now c.args.classes.now
          (kept ((goal.at.invariant_of-lists c).After-gather_pairs)) k.job.good c.requires.classed;
    }

pub put_back_rows-requires-clause-places_len_bound : goal.put_back_rows-requires-clause-places_len_bound
put_back_rows-requires-clause-places_len_bound c =
    omega (arith, placed ((goal.at.put_back_rows-requires-clause-places_len_bound c).After-gather-gathered), c.args.kept.now.job.good.weighted.zones)

pub put_back_rows-requires-clause-out_len : goal.put_back_rows-requires-clause-out_len
put_back_rows-requires-clause-out_len c =
    c.requires.class_locals_len
    ∙ ap (λ t. 9 * t) (sym (placed ((goal.at.put_back_rows-requires-clause-out_len c).After-gather-gathered)))

pub put_back-requires : goal.put_back-requires
put_back-requires c = c.requires.locals_len ∙ sym (placed ((goal.at.put_back-requires c).After-gather-gathered))

pub returns : goal.returns
returns c =
    let k = c.args.kept.now in
    let job = k.job in
    let e = c.gather-gathered.ensures.places in
    let g = kept ((goal.at.returns c).After-gather_pairs) in
    let told = c.zone_classes-sums.ensures in
    let classes = c.args.classes.now in record {
      result_value = figures_kept job.n job.values.now job.weights.now classes g c.count_missing-missing.ensures told.result_value;
      rows_after = sums_kept job.n job.values.now job.weights.now classes g told.rows_after;
      class_locals_after = class_locals_back job.n job.values.now job.weights.now classes g k.zones.now k.kept _ e told.class_locals_after
          c.put_back_rows.ensures;
      locals_after = locals_back job.n job.values.now job.weights.now classes g k.zones.now k.kept _ e told.locals_after c.put_back.ensures;
    }
