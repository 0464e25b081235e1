-- What the writer answers and leaves, by the refusal of its judge, who judges all but 19. Assumes nothing.
use mathlib.Core.Path.{◌≡◌, sym, ap, ◌∙◌}
use mathlib.Core.List.{List, [], ◌∷◌, ◌++◌, append_assoc}
use Prim.Native.Nat.{ℕ, ◌≤◌, ◌<◌}
use borrow.Author.Tests.{lt-ltb, le-ltb}
use lib.Dec.{ltb}
use lib.ListN.{length}
use Rattle.whole.specs.Rules.{Rule, first_broken, size_rules}
use Rattle.whole.proofs.InTurn.{Numbered, second_decides, none_of_both, numbered_both}
use Rattle.whole.proofs.Rules.{sizes_hold, worked_when_taken}
use Rattle.whole.specs.Table.{over}
use Rattle.refusals.specs.declared.Refusal.{Refusal}
use Rattle.refusals.specs.Refusals.{number_by}
use Rattle.refusals.proofs.Refusals.{left_by}
use Rattle.account.specs.Refusals.{sum_rules}
use Rattle.image.specs.Image.{Job, job_bytes}
use Rattle.image.specs.Reader.{Buffers, buffer_lengths}
use Rattle.image.specs.Writer.{lent_job, part_rules, write_rules, write_refusal, write_length, write_left}
use Rattle.image.specs.declared.Given.{Given}
use Rattle.image.proofs.Parts.{parts_numbered}
use Rattle.writer.specs.Steps.{Sized, judged_rules}
use Rattle.writer.proofs.Judged.{stops}

-- what a refused call answers and leaves, and one that is not refused
pub record Kept (given : Given) (lent : Buffers) (out : List ℕ) : Type 0 where
  pub length : [] ≡ write_length given lent (length out)
  pub left : out ≡ write_left given lent out

pub record Worked (given : Given) (lent : Buffers) (out : List ℕ) : Type 0 where
  pub length : length (job_bytes given (lent_job given lent)) ∷ [] ≡ write_length given lent (length out)
  pub left : over (job_bytes given (lent_job given lent)) out ≡ write_left given lent out

module _ (given : Given) (lent : Buffers) where
  abbrev job : Job
  job = lent_job given lent

  abbrev bytes : List ℕ
  bytes = job_bytes given job

  abbrev parts : List Rule
  parts = part_rules given job

  abbrev sums : List Rule
  sums = sum_rules given.values job.values job.weights

  abbrev sizes : List Rule
  sizes = size_rules given.values (buffer_lengths lent)

  -- 19
  abbrev last : ℕ → List Rule
  last room = (ltb room (length bytes), 19) ∷ []

  numbered : Numbered (judged_rules given lent)
  numbered = (tt, (tt, numbered_both parts sums (parts_numbered given job) (tt, (tt, tt))))

  both : (room : ℕ) → write_refusal given lent room ≡ first_broken (judged_rules given lent ++ last room)
  unfolding write_refusal write_rules
  both room = ap (λ rules. first_broken (sizes ++ rules)) (sym (append_assoc parts sums (last room)))

  pub refused : (room : ℕ) (e : Refusal) → number_by e ≡ first_broken (judged_rules given lent) → number_by e ≡ write_refusal given lent room
  refused room e h = stops (judged_rules given lent) (last room) e h ∙ sym (both room)

  module _ (sound : first_broken (judged_rules given lent) ≡ 0) where
    pub no_room : (room : ℕ) → room < length bytes → 19 ≡ write_refusal given lent room
    no_room room h =
        sym (both room ∙ second_decides (last room) (judged_rules given lent) numbered sound ∙ rw (lt-ltb room (length bytes) h))

    pub taken : (room : ℕ) → length bytes ≤ room → write_refusal given lent room ≡ 0
    taken room h = both room ∙ second_decides (last room) (judged_rules given lent) numbered sound ∙ rw (le-ltb room (length bytes) h)

    -- what the judge has shown
    pub sized : Sized given lent
    sized =
        let z = sizes_hold given.values (buffer_lengths lent) (none_of_both (parts ++ sums) sizes (tt, (tt, tt)) sound).0 in
        record { two = z.two; zones = z.zones; fits = z.fitting }

    pub parts_sound : first_broken parts ≡ 0
    parts_sound =
        let z = none_of_both (parts ++ sums) sizes (tt, (tt, tt)) sound in (none_of_both sums parts (parts_numbered given job) z.1).0

  module _ (out : List ℕ) where
    abbrev number : ℕ
    number = write_refusal given lent (length out)

    pub kept : (e : Refusal) → number_by e ≡ number → Kept given lent out
    unfolding write_length write_left
    kept e h = record {
      length = sym (left_by number (length bytes ∷ []) [] e h);
      left = sym (left_by number (over bytes out) out e h);
    }

    pub worked : number ≡ 0 → Worked given lent out
    unfolding write_length write_left
    worked e = record {
      length = sym (worked_when_taken number (length bytes ∷ []) [] e);
      left = sym (worked_when_taken number (over bytes out) out e);
    }
