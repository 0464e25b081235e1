-- `put_job` meets its contract: no call refuses the job, and the lines of each are put one after the other. Assumes nothing.
use mathlib.Core.Path.{◌≡◌, refl, sym, ap, ◌∙◌}
use mathlib.Core.Bool.{cond}
use mathlib.Core.List.{List, [], ◌++◌}
use Prim.Native.Nat.{ℕ, ◌*◌}
use native.Mathlib.Omega.{arith}
use lib.Dec.{eqb}
use lib.IntN.{ℤ}
use lib.ListN.{length}
use lib.Seq.{length-take-le}
use Rattle.account.proofs.Theorems.{job_locals_length, kept_most}
use Rattle.coefficients.proofs.Job.{spread_in, kept_in}
use Rattle.coefficients.proofs.Readable.{job_readable, classes_readable}
use Rattle.std.specs.Result.{IsOk}
use Rattle.image.specs.Image.{Job}
use Rattle.report.specs.Steps.{Sound, Classed, job_in}
use Rattle.report.proofs.Puts.{put_as, put_then}
use Rattle.report.proofs.Listed.{class_lines_are as class-rows-are}
use Rattle.report.proofs.JobText.{figures_length, sides_length, zones_are, sums_within, job_lines_are}
use Rattle.report.proofs.JobText.{Reports, plain_taken, reports, class_lines_are, job_text_is}
use Rattle.refusals.proofs.Unrefused.{unrefused}
use Rattle.report.proofs.working.put_job.Goals as goal
use Rattle.report.proofs.working.put_job.Goals.{After-class_pairs, After-plain_report, After-unwrap-report, Start}

-- texts that are the same by their parts
both_same : {a b a' b' : List ℕ} → a ≡ a' → b ≡ b' → a ++ b ≡ a' ++ b'
both_same e f = rw (e, f) refl

counted_same : (count : ℕ) {a b : List ℕ} → a ≡ b → cond (eqb count 0) [] a ≡ cond (eqb count 0) [] b
counted_same count e = ap (cond (eqb count 0) []) e

-- what the plain report is called with, and that it refuses nothing
module _ (c : After-plain_report) where
  abbrev pairs_classed : After-class_pairs
  pairs_classed = ((goal.at.After-plain_report c).After-class_pairs)

  abbrev start : Start
  start = ((goal.at.After-class_pairs pairs_classed).Start)

  abbrev job : Job
  job = job_in start.args.lists.now

  abbrev n : ℕ
  n = length job.values

  abbrev values : List ℤ
  values = job.values

  abbrev weights : List ℕ
  weights = job.weights

  abbrev classes : List ℕ
  classes = pairs_classed.class_pairs.new.classes

  sound : Sound n values weights
  sound = start.requires.weighted

  classed : Classed n job.places job.bands classes
  classed = pairs_classed.class_pairs.ensures

  answered : IsOk c.plain_report.result
  answered =
      unrefused _
      (c.plain_report.ensures.number
      ∙ plain_taken sound classed.within _ _ _ _ refl (length-take-le _ _ sound.zones) (length-take-le _ _ sound.zones) (length-take-le _ _ sound.zones))

-- what it has answered and left
module _ (c : After-unwrap-report) where
  abbrev before : After-plain_report
  before = ((goal.at.After-unwrap-report c).After-plain_report)

  said :
      Reports (n before) (values before) (weights before) (classes before) c.unwrap-report.result
      before.plain_report.new.rows before.plain_report.new.locals before.plain_report.new.figures before.plain_report.new.sides
  said =
      let told = before.plain_report.ensures in
      reports (sound before) (classed before).within _ _ _ _ refl (length-take-le _ _ (sound before).zones)
      (length-take-le _ _ (sound before).zones) (length-take-le _ _ (sound before).zones) c.unwrap-report.ensures told.sums told.whole
      told.pairs told.rows
      told.locals told.figures told.sides

pub unwrap-report-requires : goal.unwrap-report-requires
unwrap-report-requires c = answered ((goal.at.unwrap-report-requires c).After-plain_report)

pub put_account-at_pairs-requires-clause-within : goal.put_account-at_pairs-requires-clause-within
put_account-at_pairs-requires-clause-within c =
    let u = (goal.at.put_account-at_pairs-requires-clause-within c).After-unwrap-report in
    let b = before u in
    sums_within (n b) (values b) (weights b) (sound b) _ (said u).sums

pub put_account-at_pairs-requires-clause-readable_pair : goal.put_account-at_pairs-requires-clause-readable_pair
put_account-at_pairs-requires-clause-readable_pair c =
    let u = (goal.at.put_account-at_pairs-requires-clause-readable_pair c).After-unwrap-report in
    let b = before u in
    job_readable (n b) (values b) (weights b) _ (said u).of_job

pub put_account-at_pairs-requires-clause-few : goal.put_account-at_pairs-requires-clause-few
put_account-at_pairs-requires-clause-few c =
    let u = (goal.at.put_account-at_pairs-requires-clause-few c).After-unwrap-report in
    let b = before u in
    let locals_fit = ap length (said u).in_locals ∙ job_locals_length (n b) (values b) (weights b) in
    omega (arith, kept_in (n b) (values b) (weights b) _ (said u).sums, kept_most (n b) (values b) (weights b), locals_fit)

pub invariant_of-zones : goal.invariant_of-zones
invariant_of-zones c =
    let u = (goal.at.invariant_of-zones c).After-unwrap-report in
    let b = before u in
    let locals_fit = ap length (said u).in_locals ∙ job_locals_length (n b) (values b) (weights b) in record {
      zoned = record {
        least = omega (arith, (sound b).two, locals_fit);
        most = omega (arith, (sound b).zones, locals_fit);
        values_fit = (sound b).values_fit ∙ sym locals_fit;
        weights_fit = (sound b).weights_fit ∙ ap (λ m. m * m) (sym locals_fit);
        figures_fit = ap length (said u).of_zones ∙ figures_length (n b) (values b) (weights b) ∙ ap length (sym (said u).in_locals);
        sides_fit = ap length (said u).of_sides ∙ sides_length (n b) (values b) (weights b) ∙ ap length (sym (said u).in_locals);
      };
    }

pub put_classes-at_rank-requires-clause-readable_pairs : goal.put_classes-at_rank-requires-clause-readable_pairs
put_classes-at_rank-requires-clause-readable_pairs c =
    let u = (goal.at.put_classes-at_rank-requires-clause-readable_pairs c).After-unwrap-report in
    let b = before u in
    classes_readable (n b) (values b) (weights b) (classes b) _ (said u).of_classes

pub returns : goal.returns
returns c =
    let u = (goal.at.returns c).After-unwrap-report in
    let b = before u in
    let j = job b in
    let bands = length j.bands in
    let sums = u.unwrap-report.result.whole.sums in
    let zones =
    zones_are (n b) (values b) (weights b) (said u).in_locals (said u).of_zones (said u).of_sides
    (spread_in (n b) (values b) (weights b) sums (said u).sums)
    (kept_in (n b) (values b) (weights b) sums (said u).sums) in
    let lines = job_lines_are (n b) (values b) (weights b) (sound b) sums (said u).sums _ (said u).of_job in
    let first = put_as c.put_account-at_pairs.ensures (both_same lines zones) in
    let rows =
    counted_same bands
    (class-rows-are (n b) (values b) (weights b) (classes b) _ (said u).of_classes _ bands (said u).in_rows c.requires.few_bands) in
    let third =
    put_as c.put_classes-at_rank.ensures
    (rows ∙ class_lines_are (n b) (values b) (weights b) j.places j.bands _ (classed b)) in
    put_as (put_then (put_then (put_then first c.put_pairs-at_classes.ensures) third) c.put_rank.ensures)
    (job_text_is (n b) j)
