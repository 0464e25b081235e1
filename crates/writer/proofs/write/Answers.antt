-- `write` meets its contract: the judge's refusal, or 19 by the job's length, or the job's bytes and their length. Assumes nothing.
use mathlib.Core.Path.{◌≡◌, sym, ap, ◌∙◌}
use mathlib.Core.List.{List, [], ◌∷◌}
use Prim.Native.Nat.{ℕ, ◌≤◌, ◌<◌}
use native.Mathlib.Omega.{arith}
use borrow.Author.Rules.{rules}
use lib.ListN.{length}
use Rattle.std.specs.Prelude.{Err}
use Rattle.whole.specs.Rules.{first_broken}
use Rattle.refusals.specs.declared.Refusal.TheVariants.{Output}
use Rattle.refusals.specs.Refusals.{number_of}
use Rattle.image.specs.Image.{job_bytes}
use Rattle.image.specs.Reader.{Buffers}
use Rattle.image.specs.Writer.{listed, lent_job, part_rules}
use Rattle.image.specs.declared.Given.{Given}
use Rattle.writer.specs.Steps.{Sized, Storable, judged_rules}
use Rattle.writer.specs.Answers.{length_of}
use Rattle.writer.proofs.Parts.{storable}
use Rattle.writer.proofs.Lengths.{all_length}
use Rattle.writer.proofs.Answered as A
use Rattle.writer.proofs.write.Goals as goal
use Rattle.writer.proofs.write.Goals.{Start, In_ok-judge, After-count_joins-joins, After-image_length-length}

-- what is lent
module _ (s : Start) where
  abbrev given : Given
  given = s.args.given

  abbrev lent : Buffers
  lent = listed s.args.lists

  abbrev out : List ℕ
  out = s.args.out.now

-- the judge refuses nothing
sound : (c : In_ok-judge) → let s = (goal.at.In_ok-judge c).Start in first_broken (judged_rules (given s) (lent s)) ≡ 0
sound c = sym c.in_ok-judge.ensures

-- the joins are counted
module _ (c : After-count_joins-joins) where
  abbrev s : Start
  s = (goal.at.After-count_joins-joins c).Start

  abbrev passed : In_ok-judge
  passed = (goal.at.After-count_joins-joins c).In_ok-judge

  sized : Sized (given s) (lent s)
  sized = A.sized (given s) (lent s) (sound passed)

  parts_sound : first_broken (part_rules (given s) (lent_job (given s) (lent s))) ≡ 0
  parts_sound = A.parts_sound (given s) (lent s) (sound passed)

  parts : Storable (given s) (lent s) c.count_joins-joins.result
  unfolding lent_job
  parts =
      storable (given s) (lent s) c.count_joins-joins.result sized parts_sound
      (rw (c.table.ensures.n, c.table.ensures.weights) at c.count_joins-joins.ensures)

-- and their image has its length
measured :
    (c : After-image_length-length) → let s = (goal.at.After-image_length-length c).Start in
    c.image_length-length.result ≡ length (job_bytes (given s) (lent_job (given s) (lent s)))
measured c =
    let s = (goal.at.After-image_length-length c).Start in
    let counted = parts ((goal.at.After-image_length-length c).After-count_joins-joins) in
    c.image_length-length.ensures ∙ sym (all_length (given s) (lent s) c.count_joins-joins.result counted)

pub returns-in_err-judge : goal.returns-in_err-judge
unfolding length_of
returns-in_err-judge c =
    let s = (goal.at.returns-in_err-judge c).Start in
    let e = c.in_err-judge in
    let same : c.from_residual.result ≡ Err e.field-0.0 = search rules in
    let number = A.refused (given s) (lent s) (length (out s)) e.field-0.0 e.ensures in
    let kept = A.kept (given s) (lent s) (out s) e.field-0.0 number in
    record { number = ap number_of same ∙ number; length = ap length_of same ∙ kept.length; lent = kept.left }

pub invariant_of-counted : goal.invariant_of-counted
invariant_of-counted c = record { storable = parts ((goal.at.invariant_of-counted c).After-count_joins-joins) }

pub returns-then-out-length : goal.returns-then-out-length
unfolding length_of
returns-then-out-length c =
    let s = (goal.at.returns-then-out-length c).Start in
    let e = sound ((goal.at.returns-then-out-length c).In_ok-judge) in
    let short : length (out s) < length (job_bytes (given s) (lent_job (given s) (lent s))) =
    omega (arith, measured ((goal.at.returns-then-out-length c).After-image_length-length), c.if-out-length.true) in
    let number = A.no_room (given s) (lent s) e (length (out s)) short in
    let kept = A.kept (given s) (lent s) (out s) Output number in
    record { number = number; length = kept.length; lent = kept.left }

pub store-requires : goal.store-requires
unfolding lent_job
store-requires c =
    omega (arith, measured ((goal.at.store-requires c).After-image_length-length), c.if-out-length.false)

pub returns : goal.returns
unfolding length_of
returns c =
    let s = (goal.at.returns c).Start in
    let measure = measured ((goal.at.returns c).After-image_length-length) in
    let room : length (job_bytes (given s) (lent_job (given s) (lent s))) ≤ length (out s) =
    omega (arith, measure, c.if-out-length.false) in
    let number = A.taken (given s) (lent s) (sound ((goal.at.returns c).In_ok-judge)) (length (out s)) room in
    let answer = A.worked (given s) (lent s) (out s) number in record {
      number = sym number;
      length = ap (λ m. m ∷ []) measure ∙ answer.length;
      lent = c.store.ensures ∙ answer.left;
    }
