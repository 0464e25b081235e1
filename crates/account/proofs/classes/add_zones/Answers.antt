-- `add_zones` meets its contract: the deviations are worked into a local array, whose first n places are lent. The loop's invariant: the
-- zones passed are in the rows and in the local numerators, those of the classes and the job's own. Assumes nothing.
use mathlib.Core.Path.{◌≡◌, refl, ap, ◌∙◌}
use native.Mathlib.Omega.{arith}
use lib.IntN.{pos}
use lib.ListN.{replicate}
use Rattle.whole.specs.Table.{table, table_rows, at, pair_at}
use Rattle.whole.proofs.Table.{is_table}
use Rattle.account.specs.Measures.{deviation_of, local_of}
use Rattle.account.specs.Answers.{zones_local}
use Rattle.account.specs.Steps.{zones_locals}
use Rattle.account.proofs.ZoneByZone.{no_zones, all_zones}
use Rattle.account.proofs.classes.add_zones.Goals as goal
use Rattle.account.proofs.classes.add_zones.Goals.{After-loop-i}

zeros : replicate 27 (pos 0) ≡ table_rows (λ k place. pos 0) 9 3
unfolding table table_rows
zeros = refl

pub loop-i-init : goal.loop-i-init
loop-i-init c = (
  no_zones _ _ _ _ _ c.args.class_locals.now
      (c.fill.ensures.after (λ y e. e) ∙ ap (λ m. replicate m (pos 0)) c.told-rows ∙ zeros) c.requires.class_locals_len,
  record { count = c.requires.locals_len; numerators = λ i p. let x : ⊥ = omega arith in absurd x },
)

pub returns : goal.returns
unfolding zones_locals zones_local
returns c =
    let g = c.args in
    let b = c.loop-i in
    let all : b.i ≡ g.work.now.lists.job.n = omega arith in
    let classes = all_zones g.work.now.lists.job.n g.work.now.lists.job.values.now g.work.now.lists.job.weights.now g.work.now.lists.classes.now b.i b.rows b.class_locals all b.invariant.0 in
    let f = local_of (pair_at g.work.now.lists.job.weights.now g.work.now.lists.job.n) (deviation_of (at g.work.now.lists.job.values.now) g.work.now.lists.job.n) g.work.now.lists.job.n in record {
      rows_after = classes.0;
      class_locals_after = classes.1;
      locals_after = is_table f g.work.now.lists.job.n (pos 0) b.locals b.invariant.1.count (λ k p. b.invariant.1.numerators k (omega (arith, all)));
    }
