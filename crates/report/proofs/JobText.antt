-- The lines of a job are those that its account, its pair and its hot list give. Assumes nothing.
use mathlib.Core.Path.{◌≡◌, refl, sym, ap, ap₂, ◌∙◌}
use mathlib.Core.Bool.{Bool, false, cond}
use mathlib.Core.List.{List, [], ◌∷◌, ◌++◌, append_assoc}
use Prim.Native.Nat.{ℕ, zero, suc, ◌<◌}
use native.Mathlib.Omega.{arith}
use borrow.Author.Tests.{eq-eqb, ne_eqb}
use lib.Dec.{eqb, ltb, leb-zero, leb-suc-zero, leb-suc-suc}
use lib.IntN.{ℤ, pos, nat_abs}
use lib.ListN.{length, get_or, take}
use lib.Seq.{take-nil}
use Rattle.std.specs.Prelude.{Result, Ok}
use Rattle.whole.specs.Integer.{is_zero}
use Rattle.whole.specs.Table.{table, at, pair_at, each}
use Rattle.whole.proofs.Rules.{worked_when_taken}
use Rattle.whole.proofs.Size.{one_some}
use Rattle.whole.proofs.Stores.{each_same}
use Rattle.whole.proofs.Table.{table_length, table_at}
use Rattle.refusals.specs.declared.Refusal.{Refusal}
use Rattle.nearest.specs.Answers.{nearest_bits, nearest_side}
use Rattle.nearest.specs.declared.Side.{Side}
use Rattle.nearest.specs.declared.Side.TheVariants.{Equal}
use Rattle.report.specs.Lines.{rounded}
use Rattle.pages.specs.Lines.{line, numbers}
use Rattle.kept.specs.Kept.{keeps, kept_count, kept_values, kept_pairs}
use Rattle.kept.specs.Returned.{reduced}
use Rattle.account.specs.Measures.{total_of, deviation_of, spread_of, weight_of, cross_of, squares_of}
use Rattle.account.specs.Answers.{listed, class_row, zones_figures, job_kept, job_figures, job_row, job_locals}
use Rattle.account.specs.Classes.{class_sums}
use Rattle.account.specs.Refusals.{job_spread, account_refusal}
use Rattle.account.specs.declared.Sums.{Sums}
use Rattle.account.proofs.Theorems.{accepted_limits, kept_least, kept_most, weight_one, spread_one, job_locals_length}
use Rattle.hot_list.specs.HotList.{in_order, hot_list}
use Rattle.hot_list.proofs.HotTheorems.{hot_list_length, hot_list_each, hot_list_kept_first}
use Rattle.coefficients.specs.Coefficients.{pair_of, job_pair, class_pair, local_figures, local_sides}
use Rattle.coefficients.specs.Coefficients as coefficients
use Rattle.coefficients.specs.FloatReport.{sums_in, pair_in, pairs_in, no_pair, plain_refusal, plain_sums, plain_whole, plain_classes}
use Rattle.coefficients.specs.FloatReport.{plain_rows, plain_locals, plain_figures, plain_sides}
use Rattle.coefficients.specs.declared.Pair.{Pair}
use Rattle.coefficients.specs.declared.Report.{Report}
use Rattle.coefficients.proofs.Job.{spread_in, kept_in}
use Rattle.image.specs.Image.{Job}
use Rattle.report.specs.Lines.{coefficient}
use Rattle.report.specs.Text.{whole_lines, job_lines, local_line, local_lines, pair_lines, rank_line, class_lines}
use Rattle.report.specs.Text.{numbered, where_given, job_text}
use Rattle.report.specs.Steps.{Within, Sound, Low, Classed}
use Rattle.report.specs.Steps.{sum_lines, ratio_lines, zone_line}
use Rattle.report.proofs.Listed.{class_text}

-- ---- items of which those that pass a test stand first: only they have a text
first_only :
    (test : ℕ → Bool) (text : ℕ → List ℕ) (items : List ℕ) (many : ℕ) →
    ((p : ℕ) → p < length items → test (get_or items p 0) ≡ ltb p many) →
    each (λ x. cond (test x) (text x) []) items ≡ each text (take many items)
unfolding each
first_only test text [] many h = ap (each text) (sym (take-nil many))
first_only test text (x ∷ items) zero h =
    rw (h 0 (omega arith) ∙ leb-suc-zero 0)
    (first_only test text items zero (λ p q. h (suc p) (omega arith) ∙ leb-suc-zero (suc p) ∙ sym (leb-suc-zero p)))
first_only test text (x ∷ items) (suc many) h =
    rw (h 0 (omega arith) ∙ leb-suc-suc 0 many ∙ leb-zero many)
    (ap (λ l. text x ++ l) (first_only test text items many (λ p q. h (suc p) (omega arith) ∙ leb-suc-suc (suc p) many)))

-- ---- the zones kept, in hot-list order
module _ (n : ℕ) (values : List ℤ) (weights : List ℕ) where
  -- the weights that count
  abbrev counting : List ℕ
  counting = reduced n values weights

  abbrev M : ℤ
  M = job_spread n values weights

  abbrev locals : List ℤ
  locals = job_locals n values weights

  abbrev figures : List ℕ
  figures = local_figures M locals

  pub figures_length : length figures ≡ length locals
  unfolding local_figures
  figures_length = table_length (λ i. nearest_bits (at locals i) M) (length locals)

  figure_at : (i : ℕ) → i < length locals → get_or figures i 0 ≡ nearest_bits (at locals i) M
  unfolding local_figures
  figure_at i h = table_at (λ i. nearest_bits (at locals i) M) (length locals) i 0 h

  abbrev sides : List Side
  sides = local_sides M locals

  pub sides_length : length sides ≡ length locals
  unfolding local_sides
  sides_length = table_length (λ i. nearest_side (at locals i) M) (length locals)

  side_at : (i : ℕ) → i < length locals → get_or sides i Equal ≡ nearest_side (at locals i) M
  unfolding local_sides
  side_at i h = table_at (λ i. nearest_side (at locals i) M) (length locals) i Equal h

  one_zone : (zone : ℕ) → zone < length locals → zone_line locals figures sides M zone ≡ local_line locals M zone
  unfolding zone_line local_line
  one_zone zone h =
      ap (λ x. line "local" (numbers (pos zone ∷ at locals zone ∷ M ∷ []) ++ x))
      (ap₂ rounded (figure_at zone h) (side_at zone h))

  below : (k : ℕ) → k < length (hot_list n values weights) → get_or (hot_list n values weights) k 0 < length locals
  below k h =
      let into = (hot_list_each n values weights).into k (omega (arith, hot_list_length n values weights)) in
      omega (arith, job_locals_length n values weights)

  all_lines :
      each (zone_line locals figures sides M) (take (job_kept n values weights) (in_order n values weights locals)) ≡ local_lines n values weights
  unfolding local_lines hot_list
  all_lines =
      sym
      (first_only (keeps n counting) (zone_line locals figures sides M) (hot_list n values weights) (job_kept n values weights)
      (λ p h. hot_list_kept_first n values weights p (omega (arith, hot_list_length n values weights))))
      ∙ each_same (λ zone. cond (keeps n counting zone) (zone_line locals figures sides M zone) [])
      (λ zone. cond (keeps n counting zone) (local_line locals M zone) [])
      0 (hot_list n values weights)
      (λ k h. ap (λ l. cond (keeps n counting (get_or (hot_list n values weights) k 0)) l []) (one_zone _ (below k h)))

  -- as the lists, the spread and the number of zones kept that were handed out hold them
  pub zones_are :
      {held : List ℤ} {floats : List ℕ} {of_floats : List Side} {spread : ℤ} {many : ℕ} → held ≡ locals → floats ≡ figures → of_floats ≡ sides → spread ≡ M →
      many ≡ job_kept n values weights →
      each (zone_line held floats of_floats spread) (take many (in_order (length held) values weights held)) ≡ local_lines n values weights
  zones_are g h s f k = rw (f, g, h, s, k, job_locals_length n values weights) all_lines

-- ---- the sums that the account answers
module _ (n : ℕ) (values : List ℤ) (weights : List ℕ) (sound : Sound n values weights) where
  abbrev by_counting : List ℕ
  by_counting = reduced n values weights

  -- the zones kept
  abbrev m : ℕ
  m = kept_count n by_counting

  abbrev x : ℕ → ℤ
  x = at (kept_values n by_counting values)

  abbrev w : ℕ → ℕ → ℕ
  w = pair_at (kept_pairs n by_counting by_counting) m

  taken : account_refusal n values weights (job_locals n values weights) ≡ 0
  taken = sound.taken (job_locals n values weights) (job_locals_length n values weights)

  -- W is not 0, so that the pair has its figures
  weighty : is_zero (weight_of w m) ≡ false
  unfolding job_row class_row
  weighty =
      let some = one_some (weight_of w m) (weight_one n values weights (job_locals n values weights) taken) in
      ne_eqb (nat_abs (weight_of w m)) 0 (λ e. let z : ⊥ = omega arith in z)

  module _ (sums : Sums) (e : listed sums ≡ job_figures n values weights) where
    total_is : sums.total ≡ total_of x m
    unfolding job_figures zones_figures
    total_is = ap (λ l. at l 0) e

    spread_is : sums.spread ≡ spread_of x m
    unfolding job_spread
    spread_is = spread_in n values weights sums e

    weight_is : sums.weight ≡ weight_of w m
    unfolding job_figures zones_figures
    weight_is = ap (λ l. at l 2) e

    cross_is : sums.cross ≡ cross_of w (deviation_of x m) m
    unfolding job_figures zones_figures
    cross_is = ap (λ l. at l 3) e

    squares_is : sums.squares ≡ squares_of w x m
    unfolding job_figures zones_figures
    squares_is = ap (λ l. at l 4) e

    kept_is : sums.kept ≡ m
    unfolding job_kept
    kept_is = kept_in n values weights sums e

    pub sums_within : Within sums
    unfolding job_kept job_spread
    sums_within =
        let limits = accepted_limits n values weights (job_locals n values weights) taken in record {
          two = rw kept_is (kept_least n values weights (job_locals n values weights) taken);
          zones = omega (arith, kept_is, kept_most n values weights, sound.zones);
          varied = rw spread_is (spread_one n values weights (job_locals n values weights) taken);
          moran_divisor = rw (weight_is, spread_is) limits.moran_divisor;
          geary_numerator = rw (kept_is, squares_is) limits.geary_numerator;
          geary_divisor = rw (weight_is, spread_is) limits.geary_divisor;
        }

    with_pair : sum_lines sums ++ ratio_lines sums (job_pair n values weights) ≡ job_lines n values weights
    unfolding sum_lines ratio_lines job_lines whole_lines job_pair job_kept job_spread job_row pair_of class_row coefficient
        coefficients.coefficient
    with_pair =
        let zones = line "zones" (numbers (pos m ∷ total_of x m ∷ spread_of x m ∷ [])) in
        let joins = line "joins" (numbers (weight_of w m ∷ cross_of w (deviation_of x m) m ∷ squares_of w x m ∷ [])) in
        rw (total_is, spread_is, weight_is, cross_is, squares_is, kept_is, weighty) (append_assoc zones joins _)

    pub job_lines_are :
        (pair : Pair) → pair ≡ job_pair n values weights → sum_lines sums ++ ratio_lines sums pair ≡ job_lines n values weights
    job_lines_are pair f = ap (λ p. sum_lines sums ++ ratio_lines sums p) f ∙ with_pair

-- ---- the plain report refuses nothing

-- it answers the sums and the pair of the job and the pairs of the classes, and leaves the rows, the local numerators and the figures with their sides
pub record Reports (n : ℕ) (values : List ℤ) (weights classes : List ℕ) (report : Report) (rows locals : List ℤ)
    (figures : List ℕ) (sides : List Side) : Type 0 where
  pub sums : listed report.whole.sums ≡ job_figures n values weights
  pub of_job : report.whole.pair ≡ job_pair n values weights
  pub of_classes : report.classes ≡ table (class_pair n values weights classes) 9
  pub in_rows : rows ≡ class_sums n values weights classes
  pub in_locals : locals ≡ job_locals n values weights
  pub of_zones : figures ≡ local_figures (job_spread n values weights) (job_locals n values weights)
  pub of_sides : sides ≡ local_sides (job_spread n values weights) (job_locals n values weights)

module _ {n : ℕ} {values : List ℤ} {weights classes : List ℕ} (sound : Sound n values weights) (low : Low n classes)
    (rows locals : List ℤ) (figures : List ℕ) (sides : List Side) (rows_fit : length rows ≡ 27) (locals_fit : length locals ≡ n)
    (figures_fit : length figures ≡ n) (sides_fit : length sides ≡ n) where
  pub plain_taken : plain_refusal n values weights classes rows locals figures sides ≡ 0
  unfolding plain_refusal
  plain_taken =
      sound.classed classes ((length rows, 27) ∷ (length locals, n) ∷ (length figures, n) ∷ (length sides, n) ∷ []) low.classes_fit low.low
      (rw (
        eq-eqb (length rows) 27 rows_fit,
        eq-eqb (length locals) n locals_fit,
        eq-eqb (length figures) n figures_fit,
        eq-eqb (length sides) n sides_fit,
      ) refl)

  pub reports :
      {r : Result Report Refusal} {report : Report} {in_rows in_locals : List ℤ} {in_figures : List ℕ} {in_sides : List Side} → r ≡ Ok report →
      sums_in r ≡ plain_sums n values weights classes rows locals figures sides →
      pair_in r ≡ plain_whole n values weights classes rows locals figures sides →
      pairs_in r ≡ plain_classes n values weights classes rows locals figures sides →
      in_rows ≡ plain_rows n values weights classes rows locals figures sides →
      in_locals ≡ plain_locals n values weights classes rows locals figures sides →
      in_figures ≡ plain_figures n values weights classes rows locals figures sides →
      in_sides ≡ plain_sides n values weights classes rows locals figures sides →
      Reports n values weights classes report in_rows in_locals in_figures in_sides
  unfolding sums_in pair_in pairs_in plain_sums plain_whole plain_classes plain_rows plain_locals plain_figures plain_sides
  reports told sums whole pairs e f g h = record {
    sums = sym (ap sums_in told) ∙ sums ∙ worked_when_taken _ _ _ plain_taken;
    of_job = ap (λ l. get_or l 0 no_pair) (sym (ap pair_in told) ∙ whole ∙ worked_when_taken _ _ _ plain_taken);
    of_classes = sym (ap pairs_in told) ∙ pairs ∙ worked_when_taken _ _ _ plain_taken;
    in_rows = e ∙ worked_when_taken _ _ _ plain_taken;
    in_locals = f ∙ worked_when_taken _ _ _ plain_taken;
    of_zones = g ∙ worked_when_taken _ _ _ plain_taken;
    of_sides = h ∙ worked_when_taken _ _ _ plain_taken;
  }

-- ---- the class lines, where there are bands
pub class_lines_are :
    (n : ℕ) (values : List ℤ) (weights : List ℕ) (places : List ℤ) (bands classes : List ℕ) → Classed n places bands classes →
    cond (eqb (length bands) 0) [] (each (class_text n values weights classes) (numbered (suc (length bands))))
    ≡ where_given bands (class_lines n values weights places bands)
unfolding class_lines
class_lines_are n values weights places [] classes c = refl
class_lines_are n values weights places (band ∷ bands) classes c =
    let some : length (band ∷ bands) ≡ 0 → ⊥ = λ e. let z : ⊥ = omega arith in z in
    rw (ne_eqb (length (band ∷ bands)) 0 some)
    (ap (λ l. each (class_text n values weights l) (numbered (suc (length (band ∷ bands))))) (c.made some))

-- ---- the parts of the text, put one after the other
five_parts : (a b c d e : List ℕ) → (((a ++ b) ++ c) ++ d) ++ e ≡ a ++ (b ++ (c ++ (d ++ e)))
five_parts a b c d e =
    append_assoc ((a ++ b) ++ c) d e ∙ append_assoc (a ++ b) c (d ++ e) ∙ append_assoc a b (c ++ (d ++ e))

pub job_text_is :
    (n : ℕ) (job : Job) →
    (((job_lines n job.values job.weights ++ local_lines n job.values job.weights)
    ++ where_given job.categories (pair_lines n job.categories (reduced n job.values job.weights)))
    ++ where_given job.bands (class_lines n job.values job.weights job.places job.bands))
    ++ where_given job.shuffles (rank_line n job.values job.weights job.shuffles)
    ≡ job_text n job
unfolding job_text
job_text_is n job =
    five_parts (job_lines n job.values job.weights) (local_lines n job.values job.weights)
    (where_given job.categories (pair_lines n job.categories (reduced n job.values job.weights)))
    (where_given job.bands (class_lines n job.values job.weights job.places job.bands))
    (where_given job.shuffles (rank_line n job.values job.weights job.shuffles))
