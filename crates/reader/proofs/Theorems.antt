-- What the buyer asks for of the reader's answer. That a written image is read back, and what the buffers hold, are theorems of the image.
-- Assumes nothing.
use mathlib.Core.Path.{◌≡◌, sym, ap, ◌∙◌}
use mathlib.Core.List.{List}
use Prim.Native.Nat.{ℕ}
use native.Mathlib.Omega.{arith}
use lib.ListN.{length}
use Rattle.whole.proofs.Rules.{worked_when_taken}
use Rattle.image.specs.Reader.{Buffers, counts_in, read_refusal, read_counts}
use Rattle.std.proofs.Common.{Result, Ok, Err}
use Rattle.refusals.specs.declared.Refusal.{Refusal}
use Rattle.refusals.specs.Refusals.{number_of}
use Rattle.refusals.proofs.Refusals.{cause_unique}
use Rattle.reader.specs.Answers.{six, counts_of}
use Rattle.reader.specs.declared.Counts.{Counts}

-- ---- an answer is known by its number and its counts, so that the contract leaves no second answer open
made : (v c j p b s : ℕ) → Counts
made v c j p b s = record { values = v; categories = c; joins = j; places = p; bands = b; shuffles = s }

same :
    {v c j p b s v' c' j' p' b' s' : ℕ} → v ≡ v' → c ≡ c' → j ≡ j' → p ≡ p' → b ≡ b' → s ≡ s' →
    made v c j p b s ≡ made v' c' j' p' b' s'
same e1 e2 e3 e4 e5 e6 = cc

pub answer_unique : (a b : Result Counts Refusal) → number_of a ≡ number_of b → counts_of a ≡ counts_of b → a ≡ b
unfolding counts_of made
answer_unique (Err k) (Err l) e f = ap Err (cause_unique k l e)
answer_unique (Err k) (Ok t) e f = let z : ◌≡◌ {A = ℕ} 0 6 = ap length f in absurd (omega arith)
answer_unique (Ok s) (Err l) e f = let z : ◌≡◌ {A = ℕ} 6 0 = ap length f in absurd (omega arith)
answer_unique (Ok s) (Ok t) e f = ap Ok (same (cc) (cc) (cc) (cc) (cc) (cc))

-- ---- where nothing is refused, the answer is the counts of the image
module _ (image : List ℕ) (lent : Buffers) (taken : read_refusal image lent ≡ 0) (r : Result Counts Refusal)
    (told : counts_of r ≡ read_counts image lent) where
  answered : counts_of r ≡ counts_in image
  unfolding read_counts
  answered = told ∙ worked_when_taken _ _ _ taken

  pub read_answers : (counts : Counts) → r ≡ Ok counts → six counts ≡ counts_in image
  unfolding counts_of
  read_answers counts g = sym (ap counts_of g) ∙ answered

  pub never_refused : (k : Refusal) → r ≡ Err k → ⊥
  unfolding counts_of counts_in
  never_refused k g = let z : ◌≡◌ {A = ℕ} 0 6 = ap length (sym (ap counts_of g) ∙ answered) in omega arith
