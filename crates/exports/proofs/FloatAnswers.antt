-- The ways out of the float calls: the number of each, and what an answer below puts into the lent lists. Assumes nothing.
use mathlib.Core.Path.{◌≡◌, refl, sym, ap, ◌∙◌}
use mathlib.Core.Logic.{◌⊎◌, inl, inr}
use mathlib.Core.Bool.{Bool, true, false, not, cond, ◌||◌}
use mathlib.Core.List.{List, [], ◌∷◌}
use Prim.Native.Nat.{ℕ, ◌*◌, ◌≤◌, ◌<◌}
use native.Mathlib.Omega.{arith}
use borrow.Author.Tests.{eq-eqb, ne_eqb}
use lib.Dec.{eqb}
use lib.Ieee.{Float, binary64, to_bits}
use lib.IntN.{ℤ}
use lib.ListN.{length, get_or, set}
use Rattle.std.specs.Prelude.{Ok}
use Rattle.whole.specs.Integer.{is_zero}
use Rattle.whole.specs.Rules.{first_broken, size_rules, unless_refused}
use Rattle.whole.specs.Table.{table}
use Rattle.whole.proofs.Rules.{beside, fits, sizes_hold}
use Rattle.whole.proofs.Table.{table_cong, table_held}
use Rattle.refusals.proofs.Refusals.{worked_by}
use Rattle.nearest.specs.Answers.{figures_of, nearest_refusal, nearest_rounded, nearest_figures}
use Rattle.nearest.specs.Sides.{side_number}
use Rattle.nearest.specs.declared.Rounded.{Rounded}
use Rattle.nearest.specs.declared.Side.{Side}
use Rattle.account.specs.Classes.{class_row_of}
use Rattle.account.specs.Refusals.{job_lengths}
use Rattle.coefficients.specs.Coefficients.{coefficient, pair_of, job_pair, class_pair}
use Rattle.coefficients.specs.FloatReport.{no_pair, pair_in, pairs_in, plain_refusal, plain_whole, plain_classes}
use Rattle.coefficients.specs.Steps.{ReadablePair, ReadablePairs}
use Rattle.coefficients.specs.declared.Coefficient.TheVariants.{Figure, Weightless}
use Rattle.coefficients.specs.declared.Pair.{Pair}
use Rattle.coefficients.specs.declared.Report.{Report}
use Rattle.coefficients.proofs.Answered.{alike, sizes_number}
use Rattle.coefficients.proofs.Readable.{job_readable, classes_readable}
use Rattle.exports.specs.Floats.{nearest_number, nearest_after, side_after, bits_put, side_put, pairs_over}
use Rattle.exports.specs.Floats.{report_number, globals_after, global_sides_after, pairs_after, pair_sides_after, has_pair_after}
use Rattle.exports.specs.Steps.{put_figure, tells}
use Rattle.exports.proofs.PairList.{one_pair, pairs_same}

-- ---- the nearest float

-- a store into the only place
sole : (l : List ℕ) (v : ℕ) → length l ≡ 1 → set l 0 v ≡ v ∷ []
sole [] v e = let z : ⊥ = omega (arith, e) in absurd z
sole (x ∷ []) v e = refl
sole (x ∷ y ∷ l) v e = let z : ⊥ = omega (arith, e) in absurd z

module _ (p q : ℤ) (out side : List ℕ) where
  -- where one of the two has another length
  pub nearest_by_length : (length out ≡ 1 → ⊥) ⊎ ((length out ≡ 1) × (length side ≡ 1 → ⊥)) → 2 ≡ nearest_number p q out side
  unfolding nearest_number
  nearest_by_length (inl f) = rw (ne_eqb (length out) 1 f) refl
  nearest_by_length (inr e) = rw (eq-eqb (length out) 1 e.0, ne_eqb (length side) 1 e.1) refl

  module _ (fit : length out ≡ 1) (side_fit : length side ≡ 1) where
    pub nearest_below : nearest_refusal p q ≡ nearest_number p q out side
    unfolding nearest_number nearest_refusal
    nearest_below = rw (eq-eqb (length out) 1 fit, eq-eqb (length side) 1 side_fit) refl

    -- what is promised below of an answer that is the float x with its side
    module _ (x : Rounded) (taken : 0 ≡ nearest_refusal p q) (figures : figures_of (Ok x) ≡ nearest_figures p q) where
      is_nearest : x ≡ nearest_rounded p q
      unfolding figures_of nearest_figures
      is_nearest = let f : x ∷ [] ≡ nearest_rounded p q ∷ [] = figures ∙ worked_by _ _ _ taken in cc

      pub nearest_put : set out 0 (to_bits binary64 x.float) ≡ nearest_after p q out side
      unfolding nearest_after
      nearest_put =
          sole out (to_bits binary64 x.float) fit
          ∙ ap (λ (v : Rounded). to_bits binary64 v.float ∷ []) is_nearest
          ∙ sym (worked_by _ _ _ (taken ∙ nearest_below))

      pub side_put_too : set side 0 (side_number x.side) ≡ side_after p q out side
      unfolding side_after
      side_put_too =
          sole side (side_number x.side) side_fit
          ∙ ap (λ (v : Rounded). side_number v.side ∷ []) is_nearest
          ∙ sym (worked_by _ _ _ (taken ∙ nearest_below))

-- ---- the float report

-- whether a class has its pair is whether it has weight
tells_weight : (b : Bool) (x : Float) (side : Side) → tells (cond b Weightless (Figure x side)) ≡ cond b 0 1
tells_weight true x side = refl
tells_weight false x side = refl

-- where some lists do not fit, they and two others do not
among :
    (a b c d e f others : Bool) → (a || (b || (d || (e || others)))) ≡ true → (a || (b || (c || (d || (e || (f || others)))))) ≡ true
among true b c d e f others h = refl
among false true c d e f others h = refl
among false false c true e f others h = beside c true refl
among false false c false true f others h = beside c true refl
among false false c false false f others h = beside c (f || others) (beside f others h)

module _ (n : ℕ) (values : List ℤ) (weights classes globals global_sides locals local_sides pairs pair_sides has_pair : List ℕ) where
  -- the lists that the call is lent
  abbrev lent : List (ℕ × ℕ)
  lent =
      (length globals, 2)
      ∷ (length global_sides, 2)
      ∷ (length locals, n)
      ∷ (length local_sides, n)
      ∷ (length pairs, 18)
      ∷ (length pair_sides, 18)
      ∷ (length has_pair, 9)
      ∷ []

  -- those that are judged first
  abbrev from_local_sides : List (ℕ × ℕ)
  from_local_sides = (length local_sides, n) ∷ (length pairs, 18) ∷ (length pair_sides, 18) ∷ (length has_pair, 9) ∷ []

  abbrev judged : List (ℕ × ℕ)
  judged = job_lengths n (length values) (length weights) ((length globals, 2) ∷ (length global_sides, 2) ∷ from_local_sides)

  abbrev said : ℕ
  said = report_number n values weights classes globals global_sides locals local_sides pairs pair_sides has_pair

  pub report_by_sizes : (r : ℕ) → r ≡ first_broken (size_rules n judged) → (r ≡ 0 → ⊥) → r ≡ said
  unfolding report_number
  report_by_sizes r =
      sizes_number n values weights classes lent judged r
      (among (not (eqb (length values) n)) (not (eqb (length weights) (n * n))) (not (eqb (length classes) (n * n)))
      (not (eqb (length globals) 2)) (not (eqb (length global_sides) 2)) (not (eqb (length locals) n)) _)

  -- where those have no number, there are at most 64 zones, and the lists fit
  pub record Judged : Type 0 where
    pub zones : n ≤ 64
    pub globals_fit : length globals ≡ 2
    pub global_sides_fit : length global_sides ≡ 2
    pub local_sides_fit : length local_sides ≡ n
    pub pairs_fit : length pairs ≡ 18
    pub pair_sides_fit : length pair_sides ≡ 18
    pub has_fit : length has_pair ≡ 9

  pub report_judged : 0 ≡ first_broken (size_rules n judged) → Judged
  report_judged e =
      let all = sizes_hold n judged (sym e) in
      let from_has : List (ℕ × ℕ) = (length has_pair, 9) ∷ [] in
      let from_pair_sides : List (ℕ × ℕ) = (length pair_sides, 18) ∷ from_has in
      let from_pairs : List (ℕ × ℕ) = (length pairs, 18) ∷ from_pair_sides in
      let from_global_sides : List (ℕ × ℕ) = (length global_sides, 2) ∷ from_local_sides in
      let from_globals : List (ℕ × ℕ) = (length globals, 2) ∷ from_global_sides in
      let of_values = fits (length values) n ((length weights, n * n) ∷ from_globals) all.fitting in
      let of_globals = fits (length globals) 2 from_global_sides (fits (length weights) (n * n) from_globals of_values.1).1 in
      let of_global_sides = fits (length global_sides) 2 from_local_sides of_globals.1 in
      let of_local_sides = fits (length local_sides) n from_pairs of_global_sides.1 in
      let of_pairs = fits (length pairs) 18 from_pair_sides of_local_sides.1 in
      let of_pair_sides = fits (length pair_sides) 18 from_has of_pairs.1 in
      record {
        zones = all.zones;
        globals_fit = of_globals.0;
        global_sides_fit = of_global_sides.0;
        local_sides_fit = of_local_sides.0;
        pairs_fit = of_pairs.0;
        pair_sides_fit = of_pair_sides.0;
        has_fit = (fits (length has_pair) 9 [] of_pair_sides.1).0;
      }

  module _ (fit : Judged) where
    -- and the plain report, whose own lists fit, has the call's number
    pub report_below :
        (rows own : List ℤ) (sides : List Side) → length rows ≡ 27 → length own ≡ n → length sides ≡ n →
        plain_refusal n values weights classes rows own locals sides ≡ said
    unfolding report_number plain_refusal
    report_below rows own sides r o s =
        alike n values weights classes ((length rows, 27) ∷ (length own, n) ∷ (length locals, n) ∷ (length sides, n) ∷ []) lent
        (rw (
          eq-eqb (length rows) 27 r,
          eq-eqb (length own) n o,
          eq-eqb (length sides) n s,
          eq-eqb (length globals) 2 fit.globals_fit,
          eq-eqb (length global_sides) 2 fit.global_sides_fit,
          eq-eqb (length local_sides) n fit.local_sides_fit,
          eq-eqb (length pairs) 18 fit.pairs_fit,
          eq-eqb (length pair_sides) 18 fit.pair_sides_fit,
          eq-eqb (length has_pair) 9 fit.has_fit,
        ) refl)

    -- its report is that of the job
    module _
        (report : Report) (rows own : List ℤ) (sides : List Side)
        (taken : 0 ≡ plain_refusal n values weights classes rows own locals sides)
        (whole : pair_in (Ok report) ≡ plain_whole n values weights classes rows own locals sides)
        (in_classes : pairs_in (Ok report) ≡ plain_classes n values weights classes rows own locals sides) where
      pair_is : report.whole.pair ≡ job_pair n values weights
      unfolding pair_in plain_whole
      pair_is =
          let f : report.whole.pair ∷ [] ≡ job_pair n values weights ∷ [] = whole ∙ worked_by _ _ _ taken in cc

      classes_are : report.classes ≡ table (class_pair n values weights classes) 9
      unfolding pairs_in plain_classes
      classes_are = in_classes ∙ worked_by _ _ _ taken

      class_is : (k : ℕ) → k < 9 → get_or report.classes k no_pair ≡ class_pair n values weights classes k
      class_is = table_held (class_pair n values weights classes) 9 no_pair report.classes classes_are

      pub pair_readable : ReadablePair report.whole.pair
      pair_readable = job_readable n values weights report.whole.pair pair_is

      pub pairs_readable : ReadablePairs report.classes
      pairs_readable = classes_readable n values weights classes report.classes classes_are

      weight_told :
          (k : ℕ) →
          tells (class_pair n values weights classes k).moran ≡ cond (is_zero (class_row_of n values weights classes k).weight) 0 1
      unfolding class_pair pair_of coefficient
      weight_told k = tells_weight (is_zero (class_row_of n values weights classes k).weight) _ _

      -- and is put into the lent lists
      module _ (none : 0 ≡ said) where
        -- the pair of the job over two places, and those of the classes over eighteen
        pair_put :
            (puts : Float → Side → ℕ) (held : List ℕ) → length held ≡ 2 →
            put_figure puts (put_figure puts held 0 report.whole.pair.moran) 1 report.whole.pair.geary
            ≡ unless_refused said (pairs_over puts 1 (λ k. job_pair n values weights) held) held
        pair_put puts held e =
            one_pair puts report.whole.pair held e
            ∙ ap (λ (v : Pair). pairs_over puts 1 (λ k. v) held) pair_is
            ∙ sym (worked_by _ _ _ none)

        nine_put :
            (puts : Float → Side → ℕ) (held : List ℕ) →
            pairs_over puts 9 (λ k. get_or report.classes k no_pair) held
            ≡ unless_refused said (pairs_over puts 9 (class_pair n values weights classes) held) held
        nine_put puts held = pairs_same puts 9 _ _ held class_is ∙ sym (worked_by _ _ _ none)

        pub globals_put :
            put_figure bits_put (put_figure bits_put globals 0 report.whole.pair.moran) 1 report.whole.pair.geary
            ≡ globals_after n values weights classes globals global_sides locals local_sides pairs pair_sides has_pair
        unfolding globals_after
        globals_put = pair_put bits_put globals fit.globals_fit

        pub global_sides_put :
            put_figure side_put (put_figure side_put global_sides 0 report.whole.pair.moran) 1 report.whole.pair.geary
            ≡ global_sides_after n values weights classes globals global_sides locals local_sides pairs pair_sides has_pair
        unfolding global_sides_after
        global_sides_put = pair_put side_put global_sides fit.global_sides_fit

        pub pairs_put :
            pairs_over bits_put 9 (λ k. get_or report.classes k no_pair) pairs
            ≡ pairs_after n values weights classes globals global_sides locals local_sides pairs pair_sides has_pair
        unfolding pairs_after
        pairs_put = nine_put bits_put pairs

        pub pair_sides_put :
            pairs_over side_put 9 (λ k. get_or report.classes k no_pair) pair_sides
            ≡ pair_sides_after n values weights classes globals global_sides locals local_sides pairs pair_sides has_pair
        unfolding pair_sides_after
        pair_sides_put = nine_put side_put pair_sides

        pub having_put :
            table (λ k. tells (get_or report.classes k no_pair).moran) 9
            ≡ has_pair_after n values weights classes globals global_sides locals local_sides pairs pair_sides has_pair
        unfolding has_pair_after
        having_put =
            table_cong _ _ 9 0 (λ k p. ap (λ (v : Pair). tells v.moran) (class_is k p) ∙ weight_told k)
            ∙ sym (worked_by _ _ _ none)
