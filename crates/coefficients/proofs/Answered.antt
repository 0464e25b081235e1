-- The report's two ways out, and what a call promises of each; the numbers on the way. Assumes nothing.
use mathlib.Core.Path.{◌≡◌, refl, sym, ap, ◌∙◌}
use mathlib.Core.Bool.{true, false, not}
use mathlib.Core.List.{List, [], ◌∷◌, ◌++◌}
use Prim.Native.Nat.{ℕ, ◌*◌}
use borrow.Author.Tests.{eq-eqb}
use lib.Dec.{eqb}
use lib.IntN.{ℤ}
use lib.ListN.{length, take}
use Rattle.std.proofs.Common.{Result, Ok, Err}
use Rattle.whole.specs.Rules.{first_broken, misfits, size_rules}
use Rattle.whole.specs.Search.{any_above}
use Rattle.whole.specs.Table.{table}
use Rattle.whole.proofs.Table.{table_cong}
use Rattle.whole.proofs.Rules.{worked_when_taken, beside, sizes_first}
use Rattle.refusals.specs.declared.Refusal.{Refusal}
use Rattle.refusals.specs.Refusals.{number_by}
use Rattle.refusals.proofs.Refusals.{left_by}
use Rattle.account.specs.Answers.{listed, job_kept, job_figures, job_row, job_locals}
use Rattle.account.specs.Classes.{row_at, class_sums, class_locals_of, class_rules, class_lengths, class_refusal}
use Rattle.account.specs.Refusals.{job_spread, job_rules, job_lengths, call_rules}
use Rattle.nearest.specs.declared.Side.{Side}
use Rattle.account.specs.declared.ClassRow.{ClassRow}
use Rattle.account.specs.declared.Sums.{Sums}
use Rattle.account.proofs.ClassTheorems.{class_sums_row}
use Rattle.coefficients.specs.Coefficients.{pair_of, job_pair, class_pair, local_figures, local_sides}
use Rattle.coefficients.specs.FloatReport.{sums_in, pair_in, pairs_in, no_pair}
use Rattle.coefficients.specs.Steps.{whole_row, rest_refusal, Reports}
use Rattle.coefficients.specs.declared.Report.{Report}
use Rattle.coefficients.proofs.Job.{spread_in, kept_in, row_in}

-- ---- what is formed of the sums, the rows and the local numerators is the job's and the classes'
module _ (n : ℕ) (values : List ℤ) (weights classes : List ℕ) {kept : ℕ} {spread : ℤ} (k : kept ≡ job_kept n values weights)
    (m : spread ≡ job_spread n values weights) where
  pair_is : {row : ClassRow} → row ≡ job_row n values weights → pair_of kept spread row ≡ job_pair n values weights
  unfolding job_pair
  pair_is e = rw (k, m, e) refl

  pairs_are :
      {l : List ℤ} → l ≡ class_sums n values weights classes →
      table (λ i. pair_of kept spread (row_at l i)) 9 ≡ table (class_pair n values weights classes) 9
  unfolding class_pair
  pairs_are e =
      rw (k, m, e)
      (table_cong _ _ 9 no_pair
      (λ i p. ap (pair_of (job_kept n values weights) (job_spread n values weights)) (class_sums_row n values weights classes i p)))

  figures_are : {l held : List ℤ} → l ≡ held → local_figures spread l ≡ local_figures (job_spread n values weights) held
  figures_are e = rw (m, e) refl

  sides_are : {l held : List ℤ} → l ≡ held → local_sides spread l ≡ local_sides (job_spread n values weights) held
  sides_are e = rw (m, e) refl

module _ (refusal n : ℕ) (values : List ℤ) (weights classes : List ℕ) (rows locals : List ℤ) (figures : List ℕ) (sides : List Side)
    (parts : List ℕ) (part_sides : List Side) where
  -- a refusal, and the lists as they were
  pub refused :
      (k : Refusal) (rows_left locals_left : List ℤ) → number_by k ≡ refusal → rows_left ≡ rows → locals_left ≡ locals →
      Reports refusal n values weights classes rows locals figures sides parts part_sides (Err k) rows_left locals_left figures sides parts part_sides
  unfolding sums_in pair_in pairs_in
  refused k rows_left locals_left e in_rows in_locals = record {
    number = e;
    sums = sym (left_by _ _ _ k e);
    whole = sym (left_by _ _ _ k e);
    pairs = sym (left_by _ _ _ k e);
    in_rows = in_rows ∙ sym (left_by _ _ _ k e);
    in_locals = in_locals ∙ sym (left_by _ _ _ k e);
    in_figures = sym (left_by _ _ _ k e);
    in_sides = sym (left_by _ _ _ k e);
    in_parts = sym (left_by _ _ _ k e);
    in_part_sides = sym (left_by _ _ _ k e);
  }

  -- the sums, the pairs and the figures that are formed of what the class account answered and left
  pub reported :
      (r : Report) (sums : Sums) (rows_left of_classes locals_left : List ℤ) (figures_left : List ℕ) (sides_left : List Side) (parts_left : List ℕ)
      (part_sides_left : List Side) →
      refusal ≡ 0 → listed sums ≡ job_figures n values weights →
      rows_left ≡ class_sums n values weights classes → of_classes ≡ class_locals_of n values weights classes →
      locals_left ≡ job_locals n values weights →
      r
      ≡ record {
        whole = record { sums = sums; pair = pair_of sums.kept sums.spread (whole_row sums) };
        classes = table (λ k. pair_of sums.kept sums.spread (row_at rows_left k)) 9;
      } →
      figures_left ≡ local_figures sums.spread locals_left → sides_left ≡ local_sides sums.spread locals_left →
      parts_left ≡ local_figures sums.spread (take (length parts) of_classes) →
      part_sides_left ≡ local_sides sums.spread (take (length parts) of_classes) →
      Reports refusal n values weights classes rows locals figures sides parts part_sides (Ok r) rows_left locals_left figures_left sides_left
      parts_left part_sides_left
  unfolding sums_in pair_in pairs_in
  reported r sums rows_left of_classes locals_left figures_left sides_left parts_left part_sides_left z s in_rows in_classes in_locals e f f' g g' =
      let k = kept_in n values weights sums s in
      let m = spread_in n values weights sums s in record {
        number = sym z;
        sums = ap (λ (v : Report). listed v.whole.sums) e ∙ s ∙ sym (worked_when_taken _ _ _ z);
        whole = ap (λ (v : Report). v.whole.pair ∷ []) e ∙ ap (λ v. v ∷ []) (pair_is n values weights classes k m (row_in n values weights sums s)) ∙ sym (worked_when_taken _ _ _ z);
        pairs = ap (λ (v : Report). v.classes) e ∙ pairs_are n values weights classes k m in_rows ∙ sym (worked_when_taken _ _ _ z);
        in_rows = in_rows ∙ sym (worked_when_taken _ _ _ z);
        in_locals = in_locals ∙ sym (worked_when_taken _ _ _ z);
        in_figures = f ∙ figures_are n values weights classes k m in_locals ∙ sym (worked_when_taken _ _ _ z);
        in_sides = f' ∙ sides_are n values weights classes k m in_locals ∙ sym (worked_when_taken _ _ _ z);
        in_parts = g ∙ figures_are n values weights classes k m (ap (take (length parts)) in_classes) ∙ sym (worked_when_taken _ _ _ z);
        in_part_sides = g' ∙ sides_are n values weights classes k m (ap (take (length parts)) in_classes) ∙ sym (worked_when_taken _ _ _ z);
      }

-- the same by another name of the number
pub reports_same :
    {refusal other n : ℕ} {values : List ℤ} {weights classes : List ℕ} {rows locals : List ℤ} {figures : List ℕ}
    {sides : List Side} {parts : List ℕ} {part_sides : List Side}
    {r : Result Report Refusal} {rows_left locals_left : List ℤ} {figures_left : List ℕ} {sides_left : List Side} {parts_left : List ℕ}
    {part_sides_left : List Side} → refusal ≡ other →
    Reports refusal n values weights classes rows locals figures sides parts part_sides r rows_left locals_left figures_left sides_left
    parts_left part_sides_left →
    Reports other n values weights classes rows locals figures sides parts part_sides r rows_left locals_left figures_left sides_left parts_left
    part_sides_left
reports_same e p = rw (← e) p

-- ---- the numbers on the way
module _ (n : ℕ) (values : List ℤ) (weights classes : List ℕ) (lent : List (ℕ × ℕ)) where
  -- the lengths of all lists of a call that is lent these further ones
  abbrev all_lengths : List (ℕ × ℕ)
  all_lengths = job_lengths n (length values) (length weights) ((length classes, n * n) ∷ lent)

  -- where a further list does not fit, not all fit
  pub lent_misfits : misfits lent ≡ true → misfits all_lengths ≡ true
  lent_misfits g =
      let last = beside (not (eqb (length classes) (n * n))) _ g in
      beside (not (eqb (length values) n)) _ (beside (not (eqb (length weights) (n * n))) _ last)

  -- a number that n or some of its lists give is the call's
  pub sizes_number :
      (some : List (ℕ × ℕ)) (r : ℕ) → (misfits some ≡ true → misfits all_lengths ≡ true) → r ≡ first_broken (size_rules n some) →
      (r ≡ 0 → ⊥) → r ≡ first_broken (class_rules n values weights classes lent)
  unfolding class_rules call_rules
  sizes_number some r too e f = sizes_first n some all_lengths (job_rules n values weights ++ ((any_above 8 classes, 9) ∷ [])) r too e f

  -- two calls whose further lists fit alike are refused alike
  pub alike :
      (other : List (ℕ × ℕ)) → misfits lent ≡ misfits other →
      first_broken (class_rules n values weights classes lent) ≡ first_broken (class_rules n values weights classes other)
  unfolding class_rules call_rules
  alike other e = rw e refl

-- so the class account, whose own lists fit, refuses what is left to judge
pub account_number :
    (n : ℕ) (values : List ℤ) (weights classes : List ℕ) (rows of_classes own : List ℤ) →
    length rows ≡ 27 → length of_classes ≡ 9 * n → length own ≡ n →
    class_refusal n values weights classes rows of_classes own ≡ rest_refusal n values weights classes
unfolding class_refusal
account_number n values weights classes rows of_classes own e f g =
    alike n values weights classes (class_lengths n (length rows) (length of_classes) (length own)) []
    (rw (eq-eqb (length rows) 27 e, eq-eqb (length of_classes) (9 * n) f, eq-eqb (length own) n g) refl)

-- and a call whose n and lists have no number is refused by that number
pub rest_number :
    (n : ℕ) (values : List ℤ) (weights classes : List ℕ) (lent : List (ℕ × ℕ)) → misfits lent ≡ false →
    rest_refusal n values weights classes ≡ first_broken (class_rules n values weights classes lent)
rest_number n values weights classes lent e = alike n values weights classes [] lent (sym e)
