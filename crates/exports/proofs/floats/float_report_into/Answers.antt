-- `float_report_into` meets its contract: the sizes are judged with the lists that the float report is not lent, then it judges and works,
-- and its pairs are put. Assumes nothing.
use Rattle.std.proofs.Common.{refl, sym, ap, ◌∙◌}
use lib.Seq.{length-take-le}
use Rattle.std.proofs.lemmas.Result.{err_from_is_err_and}
use Rattle.refusals.proofs.Refusals.{not_refused, left_by, worked_by}
use Rattle.coefficients.specs.FloatReport.{plain_figures, plain_sides}
use Rattle.exports.specs.Floats.{side_numbers, globals_after, global_sides_after, figures_after, local_sides_after, pairs_after, pair_sides_after, has_pair_after}
use Rattle.exports.proofs.FloatAnswers.{Judged, report_by_sizes, report_judged, report_below, pair_readable, pairs_readable, globals_put, global_sides_put, pairs_put, pair_sides_put, having_put}
use Rattle.exports.proofs.floats.float_report_into.Goals as goal
use Rattle.exports.proofs.floats.float_report_into.Goals.{In_ok-judge_lent, In_ok-report}

-- n and the lists are good
fit :
    (c : In_ok-judge_lent) →
    let a = c.args in Judged a.n a.values.now a.weights.now a.classes.now a.globals.now a.global_sides.now a.locals.now a.local_sides.now a.pairs.now
    a.pair_sides.now a.has_pair.now
fit c =
    let a = c.args in
    report_judged a.n a.values.now a.weights.now a.classes.now a.globals.now a.global_sides.now a.locals.now a.local_sides.now a.pairs.now
    a.pair_sides.now a.has_pair.now
    c.in_ok-judge_lent.ensures

pub returns-in_err-judge_lent : goal.returns-in_err-judge_lent
unfolding globals_after global_sides_after figures_after local_sides_after pairs_after pair_sides_after has_pair_after
returns-in_err-judge_lent c =
    let a = c.args in
    let p = err_from_is_err_and c.from_residual.result c.from_residual.ensures.1 in
    let e =
    report_by_sizes a.n a.values.now a.weights.now a.classes.now a.globals.now a.global_sides.now a.locals.now a.local_sides.now a.pairs.now
    a.pair_sides.now a.has_pair.now
    _ c.in_err-judge_lent.ensures (not_refused _) in
    rw (p.1, p.2) (record {
      number = e;
      globals = sym (left_by _ _ _ _ e);
      global_sides = sym (left_by _ _ _ _ e);
      figures = sym (left_by _ _ _ _ e);
      local_sides = sym (left_by _ _ _ _ e);
      pairs = sym (left_by _ _ _ _ e);
      pair_sides = sym (left_by _ _ _ _ e);
      having = sym (left_by _ _ _ _ e);
    })

pub returns-in_err-report : goal.returns-in_err-report
unfolding plain_figures plain_sides globals_after global_sides_after figures_after local_sides_after pairs_after pair_sides_after has_pair_after
returns-in_err-report c =
    let f = fit ((goal.at.returns-in_err-report c).In_ok-judge_lent) in
    let p = err_from_is_err_and c.from_residual-in_err-report.result c.from_residual-in_err-report.ensures.1 in
    let own = c.in_err-report.ensures in
    let e = own.number ∙ report_below _ _ _ _ _ _ _ _ _ _ _ f _ _ _ refl (length-take-le _ _ f.zones) (length-take-le _ _ f.zones) in
    rw (p.1, p.2) (record {
      number = e;
      globals = sym (left_by _ _ _ _ e);
      global_sides = sym (left_by _ _ _ _ e);
      figures = own.figures ∙ left_by _ _ _ _ own.number ∙ sym (left_by _ _ _ _ e);
      local_sides = sym (left_by _ _ _ _ e);
      pairs = sym (left_by _ _ _ _ e);
      pair_sides = sym (left_by _ _ _ _ e);
      having = sym (left_by _ _ _ _ e);
    })

pub put_pair-requires-clause-readable_pair : goal.put_pair-requires-clause-readable_pair
put_pair-requires-clause-readable_pair c =
    let f = fit ((goal.at.put_pair-requires-clause-readable_pair c).In_ok-judge_lent) in
    let own = c.in_ok-report.ensures in
    pair_readable _ _ _ _ _ _ _ _ _ _ _ f _ _ _ _ own.number own.whole own.pairs

pub put_pairs-requires-clause-readable_pairs : goal.put_pairs-requires-clause-readable_pairs
put_pairs-requires-clause-readable_pairs c =
    let f = fit ((goal.at.put_pairs-requires-clause-readable_pairs c).In_ok-judge_lent) in
    let own = c.in_ok-report.ensures in
    pairs_readable _ _ _ _ _ _ _ _ _ _ _ f _ _ _ _ own.number own.whole own.pairs

pub returns : goal.returns
unfolding plain_figures plain_sides figures_after local_sides_after
returns c =
    let f = fit ((goal.at.returns c).In_ok-judge_lent) in
    let own = c.in_ok-report.ensures in
    let z = own.number ∙ report_below _ _ _ _ _ _ _ _ _ _ _ f _ _ _ refl (length-take-le _ _ f.zones) (length-take-le _ _ f.zones) in
    record {
      number = z;
      globals = c.put_pair.ensures.figures ∙ globals_put _ _ _ _ _ _ _ _ _ _ _ f _ _ _ _ own.number own.whole own.pairs z;
      global_sides = c.put_pair.ensures.sides ∙ global_sides_put _ _ _ _ _ _ _ _ _ _ _ f _ _ _ _ own.number own.whole own.pairs z;
      figures = own.figures ∙ worked_by _ _ _ own.number ∙ sym (worked_by _ _ _ z);
      local_sides = c.put_sides.ensures ∙ ap side_numbers (own.sides ∙ worked_by _ _ _ own.number) ∙ sym (worked_by _ _ _ z);
      pairs = c.put_pairs.ensures.figures ∙ pairs_put _ _ _ _ _ _ _ _ _ _ _ f _ _ _ _ own.number own.whole own.pairs z;
      pair_sides = c.put_pairs.ensures.sides ∙ pair_sides_put _ _ _ _ _ _ _ _ _ _ _ f _ _ _ _ own.number own.whole own.pairs z;
      having = c.put_having.ensures ∙ having_put _ _ _ _ _ _ _ _ _ _ _ f _ _ _ _ own.number own.whole own.pairs z;
    }
