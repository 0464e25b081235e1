-- `judge_job` meets its contract: the lists' number where there is one; else `keep` finds the zones, refusing nothing, and the
-- number of the sums is the job's. Assumes nothing.
use Rattle.std.proofs.Common.{◌≡◌, refl, sym, arith, List, ℕ, eqb, ℤ, length, take, Ok, Err}
use Rattle.std.proofs.lemmas.Result.{err_from_is_err_and}
use Rattle.refusals.proofs.Refusals.{not_refused}
use Rattle.refusals.specs.declared.Refusal.{Refusal}
use Rattle.whole.specs.Rules.{first_broken}
use Rattle.kept.specs.Kept.{kept_zones}
use Rattle.kept.specs.Returned.{reduced}
use Rattle.account.specs.Refusals.{job_rules}
use Rattle.account.specs.Steps.{Zones, gathered}
use Rattle.account.proofs.Accepted.{Lawful, lawful}
use Rattle.account.proofs.Found.{Left, judged, never_refused, zones_left, by_lists, rise, by_sums}
use Rattle.account.proofs.judging.judge_job.Goals as goal
use Rattle.account.proofs.judging.judge_job.Goals.{After-keep, In_ok-many, Start}

-- the lists are good, and `keep` has answered
module _ (c : After-keep) where
  abbrev a : Start
  a = ((goal.at.After-keep c).Start)

  abbrev n : ℕ
  n = a.args.n

  abbrev values : List ℤ
  values = a.args.values.now

  abbrev weights : List ℕ
  weights = a.args.weights.now

  abbrev left : List ℕ
  left = c.keep.new.zones

  good : Lawful n values weights
  good =
      lawful n values weights a.requires.n_bound a.requires.values_len a.requires.weights_len
      (sym c.in_ok-judge_lists.ensures)

  never : (refusal : Refusal) → c.keep.result ≡ Err refusal → ⊥
  never =
      never_refused n values weights a.args.zones.now a.requires.le_n a.requires.n_bound a.requires.values_len a.requires.weights_len a.told-zones _
      c.keep.ensures.many

  kept : (many : ℕ) → c.keep.result ≡ Ok many → Left n (reduced n values weights) left many
  kept many q =
      zones_left n values weights a.args.zones.now a.requires.le_n a.requires.n_bound a.requires.values_len a.requires.weights_len a.told-zones _
      c.keep.ensures.many left many c.keep.ensures.lent q

-- the zones that the sums are judged of
abbrev asked : In_ok-many → After-keep
asked c = ((goal.at.In_ok-many c).After-keep)

lying : (c : In_ok-many) → Left (n (asked c)) (reduced (n (asked c)) (values (asked c)) (weights (asked c))) (left (asked c)) c.in_ok-many.many
lying c = kept (asked c) _ c.in_ok-many.was

-- the job with them
module _ (q : In_ok-many) where
  abbrev zones : List ℕ
  zones = take q.in_ok-many.many (left (asked q))

  stands : zones ≡ kept_zones (n (asked q)) (reduced (n (asked q)) (values (asked q)) (weights (asked q)))
  stands = (lying q).zones

  rising : Zones zones (n (asked q))
  rising = rise (n (asked q)) (values (asked q)) (weights (asked q)) (good (asked q)) zones stands

  -- its number
  number :
      (r : ℕ) → r ≡ judged (eqb (length zones) 0) (gathered (values (asked q)) zones) (length zones) →
      r ≡ first_broken (job_rules (n (asked q)) (values (asked q)) (weights (asked q)))
  number =
      by_sums (n (asked q)) (values (asked q)) (weights (asked q)) (good (asked q)) zones stands (sym (asked q).in_ok-judge_lists.ensures)

pub returns-in_err-judge_lists : goal.returns-in_err-judge_lists
returns-in_err-judge_lists c =
    let g = c.args in
    let p = err_from_is_err_and c.from_residual.result c.from_residual.ensures.1 in
    rw (p.1, p.2) (record {
      number = by_lists g.n g.values.now g.weights.now _ c.in_err-judge_lists.ensures (not_refused _);
      job = tt;
    })

pub returns-in_err-many : goal.returns-in_err-many
returns-in_err-many c = absurd (never ((goal.at.returns-in_err-many c).After-keep) _ c.in_err-many.was)

pub shared_ref_as_front-kept : goal.shared_ref_as_front-kept
shared_ref_as_front-kept c =
    let q = (goal.at.shared_ref_as_front-kept c).In_ok-many in
    let k = asked q in omega (arith, (lying q).room, k.keep.auto.zones, (a k).told-zones)

pub invariant_of-kept : goal.invariant_of-kept
invariant_of-kept c = record { good = (good (asked ((goal.at.invariant_of-kept c).In_ok-many))).lent }

pub invariant_of-kept-2 : goal.invariant_of-kept-2
invariant_of-kept-2 c =
    let q = (goal.at.invariant_of-kept-2 c).In_ok-many in
    record { kept = stands q; rising = rising q }

pub returns-in_err-judge_sums : goal.returns-in_err-judge_sums
returns-in_err-judge_sums c =
    let q = (goal.at.returns-in_err-judge_sums c).In_ok-many in
    let p = err_from_is_err_and c.from_residual-in_err-judge_sums.result c.from_residual-in_err-judge_sums.ensures.1 in
    rw (p.1, p.2) (record { number = number q _ c.in_err-judge_sums.ensures; job = tt })

pub returns : goal.returns
returns c = record {
  number = number ((goal.at.returns c).In_ok-many) _ c.in_ok-judge_sums.ensures;
  job = record { zones = refl; of_values = refl; of_weights = refl };
}
