-- `judge_parts` meets its contract: a part is judged where those before it break no rule, and the lists are as long as each judge asks.
-- Assumes nothing.
use mathlib.Core.Path.{◌≡◌, sym, ap, ◌∙◌}
use mathlib.Core.List.{List}
use borrow.Author.Rules.{rules}
use Rattle.whole.specs.Rules.{Rule, first_broken}
use Rattle.refusals.specs.Refusals.{number_by, number_of}
use Rattle.image.specs.Image.{Job, value_rules}
use Rattle.image.specs.Reader.{Buffers}
use Rattle.image.specs.Writer.{listed, lent_job, part_rules}
use Rattle.image.specs.declared.Given.{Given}
use Rattle.image.proofs.Accepted.{places_numbered}
use Rattle.image.proofs.Parts as parts
use Rattle.image.proofs.Parts.{weights_numbered}
use Rattle.writer.proofs.Judged.{stops, passes}
use Rattle.writer.proofs.judging.judge_parts.Goals as goal
use Rattle.writer.proofs.judging.judge_parts.Goals.{Start, In_ok-judge_values, In_ok-judge_categories, After-table, In_ok-judge_weights, In_ok-judge_places, In_ok-judge_bands}

-- what is known at the start
module _ (s : Start) where
  abbrev given : Given
  given = s.args.job.now.given

  abbrev lent : Buffers
  lent = listed s.args.job.now.lists

  abbrev job : Job
  job = lent_job given lent

  abbrev rules_of : (Given → Job → List Rule) → List Rule
  rules_of part = part given job

-- the rules after a part decide where it breaks none
past_values :
    (c : In_ok-judge_values) → let s = (goal.at.In_ok-judge_values c).Start in
    first_broken (part_rules (given s) (job s)) ≡ first_broken (rules_of s parts.after_values)
unfolding lent_job part_rules
past_values c =
    let s = (goal.at.In_ok-judge_values c).Start in
    passes (value_rules (job s).values) (rules_of s parts.after_values) (tt, tt) (c.in_ok-judge_values.ensures ∙ ap (λ l. first_broken (value_rules l)) c.values.ensures)

past_categories :
    (c : In_ok-judge_categories) → let s = (goal.at.In_ok-judge_categories c).Start in
    first_broken (part_rules (given s) (job s)) ≡ first_broken (rules_of s parts.after_categories)
unfolding lent_job
past_categories c =
    let s = (goal.at.In_ok-judge_categories c).Start in
    past_values ((goal.at.In_ok-judge_categories c).In_ok-judge_values)
    ∙ passes (rules_of s parts.of_categories) (rules_of s parts.after_categories) (tt, (tt, tt)) c.in_ok-judge_categories.ensures

past_weights :
    (c : In_ok-judge_weights) → let s = (goal.at.In_ok-judge_weights c).Start in
    first_broken (part_rules (given s) (job s)) ≡ first_broken (rules_of s parts.after_weights)
unfolding lent_job
past_weights c =
    let s = (goal.at.In_ok-judge_weights c).Start in
    let t = (goal.at.In_ok-judge_weights c).After-table.table.ensures in
    past_categories ((goal.at.In_ok-judge_weights c).In_ok-judge_categories)
    ∙ passes (rules_of s parts.of_weights) (rules_of s parts.after_weights) (weights_numbered (given s) (job s))
    (rw (t.n, t.weights) at c.in_ok-judge_weights.ensures)

past_places :
    (c : In_ok-judge_places) → let s = (goal.at.In_ok-judge_places c).Start in
    first_broken (part_rules (given s) (job s)) ≡ first_broken (rules_of s parts.after_places)
unfolding lent_job
past_places c =
    let s = (goal.at.In_ok-judge_places c).Start in
    past_weights ((goal.at.In_ok-judge_places c).In_ok-judge_weights)
    ∙ passes (rules_of s parts.of_places) (rules_of s parts.after_places) (tt, places_numbered (job s).places) c.in_ok-judge_places.ensures

past_bands :
    (c : In_ok-judge_bands) → let s = (goal.at.In_ok-judge_bands c).Start in
    first_broken (part_rules (given s) (job s)) ≡ first_broken (rules_of s parts.of_shuffles)
unfolding lent_job
past_bands c =
    let s = (goal.at.In_ok-judge_bands c).Start in
    past_places ((goal.at.In_ok-judge_bands c).In_ok-judge_places)
    ∙ passes (rules_of s parts.of_bands) (rules_of s parts.of_shuffles) (tt, (tt, tt)) c.in_ok-judge_bands.ensures

pub returns-in_err-judge_values : goal.returns-in_err-judge_values
unfolding lent_job part_rules
returns-in_err-judge_values c =
    let s = (goal.at.returns-in_err-judge_values c).Start in
    let e = c.in_err-judge_values in
    let same : number_of c.from_residual.result ≡ number_by e.field-0.0 = search rules in
    same ∙ stops (value_rules (job s).values) (rules_of s parts.after_values) e.field-0.0 (e.ensures ∙ ap (λ l. first_broken (value_rules l)) c.values.ensures)

pub returns-in_err-judge_categories : goal.returns-in_err-judge_categories
unfolding lent_job
returns-in_err-judge_categories c =
    let s = (goal.at.returns-in_err-judge_categories c).Start in
    let e = c.in_err-judge_categories in
    let same : number_of c.from_residual-in_err-judge_categories.result ≡ number_by e.field-0.0 = search rules in
    same
    ∙ stops (rules_of s parts.of_categories) (rules_of s parts.after_categories) e.field-0.0 e.ensures
    ∙ sym (past_values ((goal.at.returns-in_err-judge_categories c).In_ok-judge_values))

pub returns-in_err-judge_weights : goal.returns-in_err-judge_weights
unfolding lent_job
returns-in_err-judge_weights c =
    let s = (goal.at.returns-in_err-judge_weights c).Start in
    let e = c.in_err-judge_weights in
    let t = (goal.at.returns-in_err-judge_weights c).After-table.table.ensures in
    let same : number_of c.from_residual-in_err-judge_weights.result ≡ number_by e.field-0.0 = search rules in
    same
    ∙ stops (rules_of s parts.of_weights) (rules_of s parts.after_weights) e.field-0.0 (rw (t.n, t.weights) at e.ensures)
    ∙ sym (past_categories ((goal.at.returns-in_err-judge_weights c).In_ok-judge_categories))

pub returns-in_err-judge_places : goal.returns-in_err-judge_places
unfolding lent_job
returns-in_err-judge_places c =
    let s = (goal.at.returns-in_err-judge_places c).Start in
    let e = c.in_err-judge_places in
    let same : number_of c.from_residual-in_err-judge_places.result ≡ number_by e.field-0.0 = search rules in
    same
    ∙ stops (rules_of s parts.of_places) (rules_of s parts.after_places) e.field-0.0 e.ensures
    ∙ sym (past_weights ((goal.at.returns-in_err-judge_places c).In_ok-judge_weights))

pub returns-in_err-judge_bands : goal.returns-in_err-judge_bands
unfolding lent_job
returns-in_err-judge_bands c =
    let s = (goal.at.returns-in_err-judge_bands c).Start in
    let e = c.in_err-judge_bands in
    let same : number_of c.from_residual-in_err-judge_bands.result ≡ number_by e.field-0.0 = search rules in
    same
    ∙ stops (rules_of s parts.of_bands) (rules_of s parts.of_shuffles) e.field-0.0 e.ensures
    ∙ sym (past_places ((goal.at.returns-in_err-judge_bands c).In_ok-judge_places))

pub returns : goal.returns
unfolding lent_job
returns c = c.judge_shuffles.ensures ∙ sym (past_bands ((goal.at.returns c).In_ok-judge_bands))
