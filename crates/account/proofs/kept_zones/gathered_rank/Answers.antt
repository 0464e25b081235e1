-- `gathered_rank` meets its contract: the shuffles' kept numbers are gathered too, and ranked. Assumes nothing.
use mathlib.Core.Path.{◌≡◌, sym, ◌∙◌}
use mathlib.Core.List.{List}
use Prim.Native.Nat.{ℕ}
use lib.Dec.{ltb}
use lib.ListN.{get_or}
use Rattle.whole.specs.Search.{count}
use Rattle.kept.specs.Returned.{reduced}
use Rattle.account.specs.declared.lists.LentLists.{LentLists}
use Rattle.account.proofs.KeptWork.{of_zones, places_long, places_count, gathered_shuffles, rank_kept}
use Rattle.account.proofs.kept_zones.gathered_rank.Goals as goal
use Rattle.account.proofs.kept_zones.gathered_rank.Goals.{After-gather-gathered}

-- the weights that count
abbrev counting : LentLists → List ℕ
counting job = reduced job.n job.values.now job.weights.now

-- as many zones have a place among those kept as are kept
counted :
    (c : After-gather-gathered) →
    let g = c.gather-gathered.result in
    count (λ i. ltb (get_or g.places.now i 0) g.job.n) c.args.shuffles.now.n ≡ g.job.n
counted c =
    let k = c.args.kept.now in
    let s = c.args.shuffles.now in
    let all = of_zones c.requires s.good in
    rw (c.gather-gathered.ensures.n, c.requires)
    (places_count k.job.n (counting k.job) k.zones.now k.kept s.rows s.shuffles.now all _ c.gather-gathered.ensures.places)

pub keep_rows-requires-clause-places_len : goal.keep_rows-requires-clause-places_len
keep_rows-requires-clause-places_len c =
    let k = c.args.kept.now in places_long k.job.n (counting k.job) k.zones.now k.kept _ c.gather-gathered.ensures.places ∙ sym c.requires

pub keep_rows-requires-clause-n_value : goal.keep_rows-requires-clause-n_value
keep_rows-requires-clause-n_value c = counted ((goal.at.keep_rows-requires-clause-n_value c).After-gather-gathered)

pub invariant_of-kept_rows : goal.invariant_of-kept_rows
invariant_of-kept_rows c =
    let k = c.args.kept.now in
    let s = c.args.shuffles.now in
    let g = c.gather-gathered.ensures in record {
      good = rw g.n
          (gathered_shuffles k.job.n (counting k.job) k.zones.now k.kept s.rows s.shuffles.now (of_zones c.requires s.good) _ g.places _
          (rw (sym g.n, sym c.requires) c.keep_rows.ensures));
      desked = s.desked;
    }

pub returns : goal.returns
returns c =
    let k = c.args.kept.now in
    let s = c.args.shuffles.now in
    let g = c.gather-gathered.ensures in
    rank_kept k.job.n k.job.values.now k.job.weights.now k.zones.now k.kept _ _ g.values g.weights s.rows s.shuffles.now
    (of_zones c.requires s.good) _ g.places c.keep_rows.new.out (rw (sym g.n, sym c.requires) c.keep_rows.ensures) s.desks.now _
    (rw (sym g.n) c.zone_rank.ensures)
