-- `judge` meets its contract: 1, then 2, then the parts, then 6 and 7, each judged where those before it break no rule. Assumes nothing.
use mathlib.Core.Path.{◌≡◌, sym, ◌∙◌}
use mathlib.Core.List.{List, [], ◌∷◌, ◌++◌}
use borrow.Author.Rules.{rules}
use Rattle.whole.specs.Rules.{Rule, first_broken, misfits}
use Rattle.whole.proofs.Rules.{sizes_hold}
use Rattle.refusals.specs.Refusals.{number_by, number_of}
use Rattle.account.specs.Refusals.{sum_rules}
use Rattle.image.specs.Image.{Job, zone_count_rule}
use Rattle.image.specs.Reader.{Buffers, buffer_lengths}
use Rattle.image.specs.Writer.{listed, lent_job, part_rules}
use Rattle.image.specs.declared.Given.{Given}
use Rattle.image.proofs.Parts.{parts_numbered}
use Rattle.writer.specs.Steps.{Sized, judged_rules}
use Rattle.writer.proofs.Judged.{stops, passes}
use Rattle.writer.proofs.Parts.{sums_last}
use Rattle.writer.proofs.judging.judge.Goals as goal
use Rattle.writer.proofs.judging.judge.Goals.{Start, In_ok-judge_lengths}

module _ (s : Start) where
  abbrev given : Given
  given = s.args.given

  abbrev lent : Buffers
  lent = listed s.args.lists

  abbrev job : Job
  job = lent_job given lent

  abbrev fitting : List Rule
  fitting = (misfits (buffer_lengths lent), 2) ∷ []

  abbrev sums : List Rule
  sums = sum_rules given.values job.values job.weights

module _ (c : In_ok-judge_lengths) where
  abbrev s : Start
  s = (goal.at.In_ok-judge_lengths c).Start

  past_count : (rest : List Rule) → first_broken (zone_count_rule (given s).values ∷ rest) ≡ first_broken rest
  past_count rest = passes (zone_count_rule (given s).values ∷ []) rest (tt, tt) c.in_ok-judge_zone_count.ensures

  sized : Sized (given s) (lent s)
  sized =
      let z = sizes_hold (given s).values (buffer_lengths (lent s)) (past_count (fitting s) ∙ sym c.in_ok-judge_lengths.ensures) in
      record { two = z.two; zones = z.zones; fits = z.fitting }

  past_sizes : first_broken (judged_rules (given s) (lent s)) ≡ first_broken (part_rules (given s) (job s) ++ sums s)
  past_sizes =
      let rest = part_rules (given s) (job s) ++ sums s in
      past_count (fitting s ++ rest) ∙ passes (fitting s) rest (tt, tt) c.in_ok-judge_lengths.ensures

pub returns-in_err-judge_parts : goal.returns-in_err-judge_parts
returns-in_err-judge_parts c =
    let l = (goal.at.returns-in_err-judge_parts c).In_ok-judge_lengths in
    let e = c.in_err-judge_parts in
    let same : number_of c.from_residual-in_err-judge_parts.result ≡ number_by e.field-0.0 = search rules in
    same ∙ stops (part_rules (given (s l)) (job (s l))) (sums (s l)) e.field-0.0 e.ensures ∙ sym (past_sizes l)

pub returns : goal.returns
unfolding lent_job
returns c =
    let l = (goal.at.returns c).In_ok-judge_lengths in
    let parts = part_rules (given (s l)) (job (s l)) in
    let sound = c.in_ok-judge_parts.ensures in
    (rw (c.values.ensures, c.table.ensures.weights) at c.judge.ensures)
    ∙ sums_last (given (s l)) (lent (s l)) (sized l) (sym sound)
    ∙ sym (past_sizes l ∙ passes parts (sums (s l)) (parts_numbered (given (s l)) (job (s l))) sound)
