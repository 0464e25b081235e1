-- `every_figure` meets its contract: the lists are judged, the class account judges the rest, and then no other call refuses anything.
-- Assumes nothing.
use mathlib.Core.Path.{◌≡◌, refl, sym, ◌∙◌}
use mathlib.Core.List.{List, []}
use Prim.Native.Nat.{ℕ}
use lib.IntN.{ℤ}
use Rattle.std.proofs.lemmas.Result.{err_from_is_err_and}
use Rattle.whole.specs.Rules.{first_broken}
use Rattle.whole.proofs.Rules.{sizes_hold}
use Rattle.refusals.specs.declared.Refusal.{Refusal}
use Rattle.refusals.specs.Refusals.{number_by}
use Rattle.refusals.proofs.Refusals.{not_refused, left_by, worked_by}
use Rattle.account.specs.Answers.{job_locals}
use Rattle.account.specs.Classes.{class_sums, class_locals_of, class_rules, class_refusal}
use Rattle.account.specs.Classes.{class_account_rows, class_account_locals, class_account_own}
use Rattle.account.proofs.ClassAnswered.{class_accounted}
use Rattle.coefficients.proofs.Answered.{lent_misfits, sizes_number}
use Rattle.agreement.specs.EveryFigure.{Lent, lists, lent_lengths, job_sums, job_lists, every_refusal}
use Rattle.agreement.proofs.Answered.{sums_known}
use Rattle.agreement.proofs.Fitting.{AllFit, all_fit, fit_alike}
use Rattle.agreement.proofs.Outcome.{lists_same, refused, worked}
use Rattle.agreement.proofs.every_figure.Goals as goal
use Rattle.agreement.proofs.every_figure.Goals.{After-class_account, In_ok-judge_lent, In_ok-sums, Start}

-- ---- what is lent, and the number of the call
module _ (s : Start) where
  abbrev n : ℕ
  n = s.args.n

  abbrev values : List ℤ
  values = s.args.values.now

  abbrev weights : List ℕ
  weights = s.args.weights.now

  abbrev classes : List ℕ
  classes = s.args.classes.now

  abbrev lent : Lent
  lent =
      lists s.args.locals.now s.args.rows.now s.args.class_locals.now s.args.own.now s.args.figures.now s.args.sides.now
      s.args.parts.now s.args.part_sides.now s.args.plain_rows.now s.args.plain_locals.now s.args.plain_figures.now
      s.args.plain_sides.now

  abbrev refusal : ℕ
  refusal = every_refusal n values weights classes lent

pub returns-in_err-judge_lent : goal.returns-in_err-judge_lent
unfolding every_refusal
returns-in_err-judge_lent c =
    let p = err_from_is_err_and c.from_residual.result c.from_residual.ensures.1 in
    let s = (goal.at.returns-in_err-judge_lent c).Start in
    let lengths = lent_lengths (n s) (lent s) in
    let few = lent_misfits (n s) (values s) (weights s) (classes s) lengths in
    let number = sizes_number (n s) (values s) (weights s) (classes s) lengths lengths _ few c.in_err-judge_lent.ensures (not_refused _) in
    let all = refused (n s) (values s) (weights s) (classes s) (lent s) _ (lent s) number refl in
    rw (p.1, p.2) (record { number = all.number; answer = all.answer; lent = all.left; demand3 = all.demand3 })

-- where there is no number, the lists fit
fit : (c : In_ok-judge_lent) → AllFit (lent_lengths c.args.n (lent ((goal.at.In_ok-judge_lent c).Start)))
fit c =
    let l = lent_lengths c.args.n (lent ((goal.at.In_ok-judge_lent c).Start)) in
    all_fit l (sizes_hold c.args.n l (sym c.in_ok-judge_lent.ensures)).fitting

-- ---- what the class account answered
module _ (c : After-class_account) where
  abbrev b : Start
  b = (goal.at.After-class_account c).Start

  abbrev class_number : ℕ
  class_number = class_refusal (n b) (values b) (weights b) (classes b) (lent b).rows (lent b).class_locals (lent b).own

  all_fit_here : AllFit (lent_lengths (n b) (lent b))
  all_fit_here = fit ((goal.at.After-class_account c).In_ok-judge_lent)

  -- its number is the call's
  rest_is : class_number ≡ refusal b
  unfolding class_refusal every_refusal
  rest_is =
      let f = all_fit_here in
      fit_alike (n b) (values b) (weights b) (classes b) _ (lent_lengths (n b) (lent b)) (f.1.0, (f.1.1.0, (f.1.1.1.0, tt))) f

  -- what it left where it refused
  lists_kept :
      (k : Refusal) → number_by k ≡ class_number →
      lists (lent b).locals c.class_account.new.rows c.class_account.new.class_locals
      c.class_account.new.locals (lent b).figures (lent b).sides (lent b).parts (lent b).part_sides (lent b).plain_rows
      (lent b).plain_locals (lent b).plain_figures (lent b).plain_sides
      ≡ lent b
  unfolding class_account_rows class_account_locals class_account_own
  lists_kept k e =
      let said = c.class_account.ensures in
      lists_same refl (said.rows ∙ left_by _ _ _ k e) (said.numerators ∙ left_by _ _ _ k e) (said.own ∙ left_by _ _ _ k e) refl refl
      refl refl refl refl refl refl

pub returns-in_err-sums : goal.returns-in_err-sums
returns-in_err-sums c =
    let p = err_from_is_err_and c.from_residual-in_err-sums.result c.from_residual-in_err-sums.ensures.1 in
    let d = (goal.at.returns-in_err-sums c).After-class_account in
    let s = b d in
    let e = c.in_err-sums.ensures.number in
    let all = refused (n s) (values s) (weights s) (classes s) (lent s) _ _ (e ∙ rest_is d) (lists_kept d _ e) in
    rw (p.1, p.2) (record { number = all.number; answer = all.answer; lent = all.left; demand3 = all.demand3 })

-- where it did not, its sums and what it left are the job's
module _ (c : In_ok-sums) where
  abbrev d : After-class_account
  d = (goal.at.In_ok-sums c).After-class_account

  none : 0 ≡ class_number d
  none = c.in_ok-sums.ensures.number

  taken : 0 ≡ refusal (b d)
  taken = none ∙ rest_is d

  accepted : first_broken (class_rules (n (b d)) (values (b d)) (weights (b d)) (classes (b d)) (lent_lengths (n (b d)) (lent (b d)))) ≡ 0
  unfolding every_refusal
  accepted = sym taken

  sums_are : c.in_ok-sums.sums ≡ job_sums (n (b d)) (values (b d)) (weights (b d))
  sums_are =
      sums_known (n (b d)) (values (b d)) (weights (b d)) (classes (b d)) _
      (class_accounted _ _ _ _ _ _ _ _ c.class_account.ensures.number c.class_account.ensures.figures _ c.in_ok-sums.was).1

  rows_left : c.class_account.new.rows ≡ class_sums (n (b d)) (values (b d)) (weights (b d)) (classes (b d))
  unfolding class_account_rows
  rows_left = c.class_account.ensures.rows ∙ worked_by _ _ _ none

  numerators_left : c.class_account.new.class_locals ≡ class_locals_of (n (b d)) (values (b d)) (weights (b d)) (classes (b d))
  unfolding class_account_locals
  numerators_left = c.class_account.ensures.numerators ∙ worked_by _ _ _ none

  own_left : c.class_account.new.locals ≡ job_locals (n (b d)) (values (b d)) (weights (b d))
  unfolding class_account_own
  own_left = c.class_account.ensures.own ∙ worked_by _ _ _ none

pub work_others-requires : goal.work_others-requires
work_others-requires c =
    let t = (goal.at.work_others-requires c).In_ok-sums in
    let s = b (d t) in
    let f = all_fit_here (d t) in
    record {
      callable = record {
        accepted = fit_alike (n s) (values s) (weights s) (classes s) [] (lent_lengths (n s) (lent s)) tt f ∙ accepted t;
        locals_fit = f.0;
        figures_fit = f.1.1.1.1.0;
        sides_fit = f.1.1.1.1.1.0;
        parts_fit = f.1.1.1.1.1.1.0;
        part_sides_fit = f.1.1.1.1.1.1.1.0;
        plain_rows_fit = f.1.1.1.1.1.1.1.1.0;
        plain_locals_fit = f.1.1.1.1.1.1.1.1.1.0;
        plain_figures_fit = f.1.1.1.1.1.1.1.1.1.1.0;
        plain_sides_fit = f.1.1.1.1.1.1.1.1.1.1.1.0;
      };
      sums_value = sums_are t;
    }

pub returns : goal.returns
unfolding job_lists
returns c =
    let t = (goal.at.returns c).In_ok-sums in
    let s = b (d t) in
    let others = c.work_others.ensures.others_left in
    let all = worked (n s) (values s) (weights s) (classes s) (lent s) _ _ (taken t) c.work_others.ensures.value
    (lists_same others.in_locals (rows_left t) (numerators_left t) (own_left t) others.in_figures others.in_sides others.in_parts
    others.in_part_sides others.in_plain_rows others.in_plain_locals others.in_plain_figures others.in_plain_sides) in
    record { number = all.number; answer = all.answer; lent = all.left; demand3 = all.demand3 }
