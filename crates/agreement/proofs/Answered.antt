-- The answers of the calls to an accepted job are known by what their contracts say of them. Assumes nothing.
use mathlib.Core.Path.{◌≡◌, refl, sym, ap}
use mathlib.Core.List.{List, [], ◌∷◌}
use Prim.Native.Nat.{ℕ}
use lib.IntN.{ℤ, nat_abs}
use Rattle.std.proofs.Common.{Result, Ok, Err}
use Rattle.whole.specs.Table.{table, at}
use Rattle.refusals.specs.declared.Refusal.{Refusal}
use Rattle.refusals.specs.Refusals.{number_of}
use Rattle.refusals.proofs.Refusals.{not_refused, cause_unique}
use Rattle.account.specs.Answers as account
use Rattle.account.specs.declared.Sums.{Sums}
use Rattle.account.proofs.Theorems as account-promise
use Rattle.coefficients.specs.Coefficients.{job_pair, class_pair}
use Rattle.coefficients.specs.FloatReport.{sums_in, pair_in, pairs_in}
use Rattle.coefficients.specs.declared.Pair.{Pair}
use Rattle.coefficients.specs.declared.Report.{Report}
use Rattle.coefficients.specs.declared.Whole.{Whole}
use Rattle.agreement.specs.EveryFigure.{answer_in, job_sums, job_report, job_answers}
use Rattle.agreement.specs.declared.Every.{Every}

-- ---- sums are known by their list
members_same :
    {s m w p g s' m' w' p' g' : ℤ} {k l k' l' : ℕ} → s ≡ s' → m ≡ m' → w ≡ w' → p ≡ p' → g ≡ g' → k ≡ k' → l ≡ l' →
    ◌≡◌ {A = Sums} (record { total = s; spread = m; weight = w; cross = p; squares = g; kept = k; missing = l })
    (record { total = s'; spread = m'; weight = w'; cross = p'; squares = g'; kept = k'; missing = l' })
members_same a b c d e f g = rw (a, b, c, d, e, f, g) refl

sums_same : (s t : Sums) → account.listed s ≡ account.listed t → s ≡ t
sums_same s t e =
    let place : (k : ℕ) → at (account.listed s) k ≡ at (account.listed t) k = λ k. ap (λ (l : List ℤ). at l k) e in
    members_same (place 0) (place 1) (place 2) (place 3) (place 4) (ap nat_abs (place 5)) (ap nat_abs (place 6))

-- ---- an answer of the report is known by its number, its sums, its pair and those of its classes
whole_same : {s t : Sums} {p q : Pair} → s ≡ t → p ≡ q → ◌≡◌ {A = Whole} (record { sums = s; pair = p }) (record { sums = t; pair = q })
whole_same e f = rw (e, f) refl

report_same :
    {v w : Whole} {p q : List Pair} → v ≡ w → p ≡ q →
    ◌≡◌ {A = Report} (record { whole = v; classes = p }) (record { whole = w; classes = q })
report_same e f = rw (e, f) refl

pub answer_unique :
    (a b : Result Report Refusal) → number_of a ≡ number_of b → sums_in a ≡ sums_in b → pair_in a ≡ pair_in b → pairs_in a ≡ pairs_in b →
    a ≡ b
unfolding sums_in pair_in pairs_in
answer_unique (Err k) (Err l) e f g h = ap Err (cause_unique k l e)
answer_unique (Err k) (Ok w) e f g h = absurd (not_refused k e)
answer_unique (Ok v) (Err l) e f g h = absurd (not_refused l (sym e))
answer_unique (Ok v) (Ok w) e f g h = ap Ok (report_same (whole_same (sums_same v.whole.sums w.whole.sums f) (cc)) h)

-- what it says of the whole job is known without its classes
abbrev pub whole_in : Result Report Refusal → Result Whole Refusal
whole_in (Ok report) = Ok report.whole
whole_in (Err refusal) = Err refusal

pub whole_unique :
    (a b : Result Report Refusal) → number_of a ≡ number_of b → sums_in a ≡ sums_in b → pair_in a ≡ pair_in b → whole_in a ≡ whole_in b
unfolding sums_in pair_in
whole_unique (Err k) (Err l) e f g = ap Err (cause_unique k l e)
whole_unique (Err k) (Ok w) e f g = absurd (not_refused k e)
whole_unique (Ok v) (Err l) e f g = absurd (not_refused l (sym e))
whole_unique (Ok v) (Ok w) e f g = ap Ok (whole_same (sums_same v.whole.sums w.whole.sums f) (cc))

-- ---- and the four answers by their number and their value
pub every_unique : (a b : Result Every Refusal) → number_of a ≡ number_of b → answer_in a ≡ answer_in b → a ≡ b
unfolding answer_in
every_unique (Err k) (Err l) e f = ap Err (cause_unique k l e)
every_unique (Err k) (Ok w) e f = absurd (not_refused k e)
every_unique (Ok v) (Err l) e f = absurd (not_refused l (sym e))
every_unique (Ok v) (Ok w) e f = ap Ok (cc)

-- ---- of an accepted job
module _ (n : ℕ) (values : List ℤ) (weights classes : List ℕ) where
  pub sums_known : (sums : Sums) → account.listed sums ≡ account.job_figures n values weights → sums ≡ job_sums n values weights
  unfolding account.zones_figures account.job_figures account.job_kept job_sums
  sums_known sums e = sums_same sums (job_sums n values weights) e

  pub accounted :
      (r : Result Sums Refusal) → number_of r ≡ 0 → account.figures_of r ≡ account.job_figures n values weights →
      r ≡ Ok (job_sums n values weights)
  unfolding account.figures_of account.zones_figures account.job_figures account.job_kept job_sums
  accounted r e f = account-promise.answer_unique r (Ok (job_sums n values weights)) e f

  pub reported :
      (r : Result Report Refusal) → number_of r ≡ 0 → sums_in r ≡ account.job_figures n values weights →
      pair_in r ≡ job_pair n values weights ∷ [] → pairs_in r ≡ table (class_pair n values weights classes) 9 →
      r ≡ Ok (job_report n values weights classes)
  unfolding sums_in pair_in pairs_in account.zones_figures account.job_figures account.job_kept job_sums job_report
  reported r e f g h = answer_unique r (Ok (job_report n values weights classes)) e f g h

  pub answers_are :
      {whole sums : Sums} {report plain : Report} → whole ≡ job_sums n values weights → sums ≡ job_sums n values weights →
      report ≡ job_report n values weights classes → plain ≡ job_report n values weights classes →
      ◌≡◌ {A = Every} (record { account = whole; classes = sums; report = report; plain = plain })
      (job_answers n values weights classes)
  unfolding job_answers
  answers_are e f g h = rw (e, f, g, h) refl
