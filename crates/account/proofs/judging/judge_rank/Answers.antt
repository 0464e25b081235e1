-- `judge_rank` meets its contract: the number of n and of the job's own lists, then 2 of the shuffles and of the desk numbers, then the
-- job's number, then what is left of the two lists, 13, 24 or none. Assumes nothing.
use Rattle.std.proofs.Common.{◌≡◌, refl, sym, ◌∙◌, List, [], ◌∷◌, ◌++◌, ◌||◌, ℕ, ◌*◌, ◌/◌, length, Bool, true, false, arith}
use Rattle.std.proofs.lemmas.Result.{err_from_is_err_and}
use borrow.Author.Tests.{eq-eqb, ne_eqb}
use Rattle.refusals.proofs.Refusals.{not_refused}
use Rattle.whole.specs.Rules.{Rule, first_broken, misfits}
use Rattle.whole.specs.Search.{any_above}
use Rattle.whole.proofs.Rules.{sizes_first, first_here, holds, fits}
use Rattle.shuffles.specs.Shuffles.{shuffle_count, any_lacking, shuffle_refusal}
use Rattle.shuffles.proofs.ShuffleList.{whole_rows}
use Rattle.shuffles.proofs.Theorems.{rows_refused_by_2, rows_taken, then_13}
use Rattle.account.specs.Refusals.{job_rules, job_lengths, call_rules}
use Rattle.account.specs.Rank.{rank_rules, rank_refusal}
use Rattle.account.proofs.Accepted.{Fitting, fitting, fitted, unfitted, also_misfits, rank_lengths}
use Rattle.account.proofs.Judged.{sizes_of, by_sizes, by_job, by_rest}
use Rattle.account.proofs.judging.judge_rank.Goals as goal
use Rattle.account.proofs.judging.judge_rank.Goals.{In_ok-judge_lent, In_ok-judge_rows, Else-desks-shuffles, Start}

-- where one list does not fit, the two do not
second_true : (a : Bool) → (a || true) ≡ true
second_true true = refl
second_true false = refl

also : (a b : Bool) → (a || false) ≡ true → (a || (b || false)) ≡ true
also true b e = refl
also false b e = cc

-- the lengths that the two lists must have, and the last rules
module _ (s : Start) where
  abbrev lent : List (ℕ × ℕ)
  lent = rank_lengths s.args.n s.args.shuffles.now s.args.desks.now

  abbrev last : List Rule
  last = (any_lacking s.args.n s.args.shuffles.now, 13) ∷ (any_above 3 s.args.desks.now, 24) ∷ []

  abbrev rows : ℕ
  rows = shuffle_count s.args.n (length s.args.shuffles.now)

  fitting_both : length s.args.shuffles.now ≡ rows * s.args.n → length s.args.desks.now ≡ rows → misfits lent ≡ false
  fitting_both e f = rw (eq-eqb _ _ e, eq-eqb _ _ f) refl

  unfitting : (length s.args.desks.now ≡ rows → ⊥) → misfits lent ≡ true
  unfitting e = rw (ne_eqb _ _ e) (second_true _)

-- n is good, and so are the job's own lists
sized : (c : In_ok-judge_lent) → Fitting c.args.n (length c.args.values.now) (length c.args.weights.now) []
sized c = fitting _ _ _ _ (sym c.in_ok-judge_lent.ensures)

-- the shuffles fit too
module _ (c : In_ok-judge_rows) where
  abbrev s : Start
  s = (goal.at.In_ok-judge_rows c).Start

  abbrev f : Fitting c.args.n (length c.args.values.now) (length c.args.weights.now) []
  f = sized ((goal.at.In_ok-judge_rows c).In_ok-judge_lent)

  fit : misfits ((length c.args.shuffles.now, shuffle_count c.args.n (length c.args.shuffles.now) * c.args.n) ∷ []) ≡ false
  fit = rows_taken c.args.n c.args.shuffles.now f.two f.zones c.in_ok-judge_rows.ensures

  -- the rows are those that the code counts
  counted : shuffle_count c.args.n (length c.args.shuffles.now) ≡ length c.args.shuffles.now / c.args.n
  counted =
      whole_rows c.args.n (length c.args.shuffles.now) (omega (arith, f.two)) (fits (length c.args.shuffles.now) _ [] fit).0

-- and the desk numbers
module _ (c : Else-desks-shuffles) where
  abbrev o : In_ok-judge_rows
  o = (goal.at.Else-desks-shuffles c).In_ok-judge_rows

  both : misfits (lent (s o)) ≡ false
  both = fitting_both (s o) (fits (length c.args.shuffles.now) _ [] (fit o)).0 (c.if-desks-shuffles.false ∙ sym (counted o))

  sizes_good :
      let a = c.args in first_broken (sizes_of a.n a.values.now a.weights.now (lent (s o)) (last (s o))) ≡ 0
  sizes_good = fitted _ _ _ _ (lent (s o)) (f o) both

  -- what is left of the shuffles
  listed : shuffle_refusal c.args.n c.args.shuffles.now ≡ first_broken ((any_lacking c.args.n c.args.shuffles.now, 13) ∷ [])
  listed = then_13 c.args.n c.args.shuffles.now (f o).two (f o).zones (fit o)

  -- none of them lacks a number
  module _ (e : 0 ≡ shuffle_refusal c.args.n c.args.shuffles.now) where
    all_full : any_lacking c.args.n c.args.shuffles.now ≡ false
    all_full = (holds (any_lacking c.args.n c.args.shuffles.now) 12 0 (sym listed ∙ sym e)).0

pub returns-in_err-judge_lent : goal.returns-in_err-judge_lent
unfolding rank_refusal rank_rules call_rules
returns-in_err-judge_lent c =
    let s = (goal.at.returns-in_err-judge_lent c).Start in
    let p = err_from_is_err_and c.from_residual.result c.from_residual.ensures.1 in
    let a = c.args in
    let lengths = job_lengths a.n (length a.values.now) (length a.weights.now) in
    rw (p.1, p.2) (record {
      number = sizes_first a.n (lengths []) (lengths (lent s)) (job_rules a.n a.values.now a.weights.now ++ last s) _
          (also_misfits a.n (length a.values.now) (length a.weights.now) (lent s))
          c.in_err-judge_lent.ensures (not_refused _);
      job = tt;
    })

pub returns-in_err-judge_rows : goal.returns-in_err-judge_rows
unfolding rank_refusal rank_rules
returns-in_err-judge_rows c =
    let s = (goal.at.returns-in_err-judge_rows c).Start in
    let f = sized ((goal.at.returns-in_err-judge_rows c).In_ok-judge_lent) in
    let a = c.args in
    let r = rows_refused_by_2 a.n a.shuffles.now f.two f.zones _ c.in_err-judge_rows.ensures (not_refused _) in
    let p = err_from_is_err_and c.from_residual-in_err-judge_rows.result c.from_residual-in_err-judge_rows.ensures.1 in
    rw (p.1, p.2) (record {
      number = by_sizes _ _ _ (lent s) (last s) _ (r.0 ∙ sym (unfitted _ _ _ _ (lent s) f (also _ _ r.1))) (not_refused _);
      job = tt;
    })

pub returns-then-desks-shuffles : goal.returns-then-desks-shuffles
unfolding rank_refusal rank_rules
returns-then-desks-shuffles c =
    let o = (goal.at.returns-then-desks-shuffles c).In_ok-judge_rows in record {
      number = by_sizes _ _ _ (lent (s o)) (last (s o)) _ (sym (unfitted _ _ _ _ (lent (s o)) (f o) (unfitting (s o) (λ e. c.if-desks-shuffles.true (e ∙ counted o))))) (λ z. omega (arith, z));
      job = tt;
    }

pub returns-in_err-kept : goal.returns-in_err-kept
unfolding rank_refusal rank_rules
returns-in_err-kept c =
    let e = (goal.at.returns-in_err-kept c).Else-desks-shuffles in
    let p = err_from_is_err_and c.from_residual-in_err-kept.result c.from_residual-in_err-kept.ensures.1 in
    rw (p.1, p.2) (record {
      number = by_job _ _ _ (lent (s (o e))) (last (s (o e))) _ (sizes_good e) c.in_err-kept.ensures.number (not_refused _);
      job = tt;
    })

pub returns-in_err-judge_shuffles : goal.returns-in_err-judge_shuffles
unfolding rank_refusal rank_rules
returns-in_err-judge_shuffles c =
    let e = (goal.at.returns-in_err-judge_shuffles c).Else-desks-shuffles in
    let p = err_from_is_err_and c.from_residual-in_err-judge_shuffles.result c.from_residual-in_err-judge_shuffles.ensures.1 in
    let first = first_here ((any_above 3 c.args.desks.now, 24) ∷ []) ((any_lacking c.args.n c.args.shuffles.now, 13) ∷ []) _
    (c.in_err-judge_shuffles.ensures ∙ listed e) (not_refused _) in
    rw (p.1, p.2) (record {
      number = by_rest _ _ _ (lent (s (o e))) (last (s (o e))) _ (sizes_good e) (sym c.in_ok-kept.ensures.number) first;
      job = tt;
    })

pub returns-then-any_above : goal.returns-then-any_above
unfolding rank_refusal rank_rules
returns-then-any_above c =
    let e = (goal.at.returns-then-any_above c).Else-desks-shuffles in record {
      number = by_rest _ _ _ (lent (s (o e))) (last (s (o e))) _ (sizes_good e) (sym c.in_ok-kept.ensures.number)
          (rw (all_full e c.in_ok-judge_shuffles.ensures, sym c.any_above.ensures ∙ c.if-any_above.true) refl);
      job = tt;
    }

pub returns : goal.returns
unfolding rank_refusal rank_rules
returns c =
    let e = (goal.at.returns c).Else-desks-shuffles in record {
      number = by_rest _ _ _ (lent (s (o e))) (last (s (o e))) _ (sizes_good e) (sym c.in_ok-kept.ensures.number)
          (rw (all_full e c.in_ok-judge_shuffles.ensures, sym c.any_above.ensures ∙ c.if-any_above.false) refl);
      job = c.in_ok-kept.ensures.job;
    }
