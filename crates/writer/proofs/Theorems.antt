-- What the buyer asks for of the writer's answer. That what it writes is read back is a theorem of the image. Assumes nothing.
use mathlib.Core.Path.{◌≡◌, sym, ap, ◌∙◌}
use mathlib.Core.List.{[], ◌∷◌}
use Prim.Native.Nat.{ℕ}
use native.Mathlib.Omega.{arith}
use lib.ListN.{length}
use Rattle.std.specs.Prelude.{Result, Ok, Err}
use Rattle.whole.proofs.Rules.{worked_when_taken}
use Rattle.refusals.specs.declared.Refusal.{Refusal}
use Rattle.refusals.specs.Refusals.{number_of}
use Rattle.refusals.proofs.Refusals.{not_refused, cause_unique}
use Rattle.image.specs.Image.{job_bytes}
use Rattle.image.specs.Reader.{Buffers}
use Rattle.image.specs.Writer.{lent_job, write_refusal, write_length}
use Rattle.image.specs.declared.Given.{Given}
use Rattle.writer.specs.Answers.{length_of}

-- ---- an answer is known by its number and its length, so that the contract leaves no second answer open
pub answer_unique : (a b : Result ℕ Refusal) → number_of a ≡ number_of b → length_of a ≡ length_of b → a ≡ b
unfolding length_of
answer_unique (Err k) (Err l) e f = ap Err (cause_unique k l e)
answer_unique (Err k) (Ok m) e f = absurd (not_refused k e)
answer_unique (Ok k) (Err l) e f = absurd (not_refused l (sym e))
answer_unique (Ok k) (Ok l) e f = ap Ok (cc)

-- ---- where nothing is refused, the answer is the length of the job's image
module _ (given : Given) (lent : Buffers) (room : ℕ) (taken : write_refusal given lent room ≡ 0) (r : Result ℕ Refusal)
    (told : length_of r ≡ write_length given lent room) where
  answered : length_of r ≡ length (job_bytes given (lent_job given lent)) ∷ []
  unfolding write_length
  answered = told ∙ worked_when_taken _ _ _ taken

  pub written_length : (k : ℕ) → r ≡ Ok k → k ≡ length (job_bytes given (lent_job given lent))
  unfolding length_of
  written_length k g = let e = sym (ap length_of g) ∙ answered in cc

  pub never_refused : (e : Refusal) → r ≡ Err e → ⊥
  unfolding length_of
  never_refused e g = let z : ◌≡◌ {A = ℕ} 0 1 = ap length (sym (ap length_of g) ∙ answered) in omega arith
