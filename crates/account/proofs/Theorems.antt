-- What the buyer asks for by name, over the definitions of Measures, Limits, Refusals and Answers. Assumes nothing.
use mathlib.Core.Path.{◌≡◌, sym, ap, ◌∙◌}
use mathlib.Core.Bool.{true}
use mathlib.Core.List.{List, [], ◌∷◌}
use Prim.Native.Nat.{ℕ, ◌*◌, ◌-◌, ◌≤◌, ◌<◌}
use native.Mathlib.Nat as N
use native.Mathlib.Decide.{dec_lt, ℕ_discrete}
use native.Mathlib.Omega.{arith}
use borrow.Author.Tests.{eq-eqb}
use lib.IntN.{ℤ, pos, nat_abs, ◌-ℤ◌, ◌*ℤ◌, +ℤ_invr}
use lib.ListN.{length}
use lib.Signed.{◌≤ℤ◌}
use Rattle.whole.specs.Integer.{square}
use Rattle.whole.specs.Rules.{Applies, first_broken, size_rules}
use Rattle.whole.specs.Sum.{sum}
use Rattle.whole.proofs.Integer.{equal_of_diff}
use Rattle.whole.proofs.Pairs.{deviations_squared}
use Rattle.whole.proofs.Rules.{first_least, first_applies, worked_when_taken, fits}
use Rattle.whole.proofs.Size.{size_*_le, square_zero, square_above, one_of}
use Rattle.whole.proofs.Sum.{sum_cong, sum_none}
use Rattle.whole.proofs.SumSize.{sum_above, terms_zero}
use Rattle.whole.specs.Table.{at, pair_at}
use Rattle.account.specs.Measures.{total_of, deviation_of, spread_of, weight_of, cross_of, squares_of, local_of}
use Rattle.account.specs.Limits.{Limits}
use Rattle.kept.specs.Kept.{keeps, kept_count, kept_zone, kept_place, kept_values, kept_pairs}
use Rattle.kept.specs.Returned.{reduced}
use Rattle.kept.proofs.Reduced.{missing_few}
use Rattle.kept.proofs.KeptZones.{kept_few, zone_stands, zone_at_place, place_within, values_at}
use Rattle.account.specs.Refusals.{job_spread, job_rules, job_lengths, call_rules, account_rules, account_refusal}
use Rattle.account.specs.Answers.{listed, zones_figures, figures_of, job_kept, job_figures, job_row, job_locals}
use Rattle.account.specs.Answers.{class_row, account_figures, account_locals}
use Rattle.std.proofs.Common.{Result, Ok, Err}
use Rattle.refusals.specs.declared.Refusal.{Refusal}
use Rattle.refusals.specs.Refusals.{number_of}
use Rattle.refusals.proofs.Refusals.{not_refused, cause_unique}
use Rattle.account.specs.declared.Sums.{Sums}
use Rattle.account.proofs.Accepted.{Sound, fitting, accepted}
use Rattle.account.proofs.Adding as adding
use Rattle.account.proofs.Judged.{by_sizes}
use Rattle.account.proofs.KeptJob.{deviation, kept_clear, weight_all, cross_all, squares_all}
use Rattle.account.proofs.Reading.{weight_le}
use Rattle.account.proofs.Sizes.{deviation_size, spread_of_size, weight_sharp, squares_sharp, local_sharp, cross_sharp}
-- stated where they are proved: W is not below 0, whatever the weights; what stands at each place of the list of local numerators, and
-- that together they are P
pub use Rattle.account.proofs.Adding.{weight_above}
pub use Rattle.account.proofs.KeptJob.{job_locals_length, job_locals_at, job_locals_sum}

-- ---- the squares of d sum to n × M
pub deviations_squared_sum : (x : ℕ → ℤ) (n : ℕ) → sum (λ i. square (deviation_of x n i)) n ≡ pos n *ℤ spread_of x n
unfolding deviation_of total_of spread_of
deviations_squared_sum x n = deviations_squared x n

-- ---- the local numerators add up to P, whatever the weights
pub locals_add_up : (f : ℕ → ℕ → ℕ) (x : ℕ → ℤ) (n : ℕ) → sum (λ i. local_of f (deviation_of x n) n i) n ≡ cross_of f (deviation_of x n) n
locals_add_up f x n = adding.locals_sum f (deviation_of x n) n

-- and those that the account leaves in the lent list to the P that it answers
pub account_adds_up :
    (n : ℕ) (values : List ℤ) (weights : List ℕ) (locals : List ℤ) →
    account_refusal n values weights locals ≡ 0 →
    sum (at (account_locals n values weights locals)) n ≡ at (account_figures n values weights locals) 3
unfolding account_locals account_figures job_figures zones_figures
account_adds_up n values weights locals z =
    rw (eq-eqb (account_refusal n values weights locals) 0 z) (job_locals_sum n values weights)

-- ---- M is 0 exactly when all values are equal
module _ (x : ℕ → ℤ) (n : ℕ) where
  earlier : spread_of x n ≡ pos 0 → (i j : ℕ) → i < j → j < n → x i ≡ x j
  unfolding spread_of
  earlier e i j h k =
      let row = terms_zero (λ j. sum (λ i. square (x i -ℤ x j)) j) n (λ j p. sum_above _ j (λ i q. square_above (x i -ℤ x j))) e j k in
      let term = terms_zero (λ i. square (x i -ℤ x j)) j (λ i q. square_above (x i -ℤ x j)) row i h in
      equal_of_diff (x i) (x j) (square_zero (x i -ℤ x j) term)

  pub equal_when_zero : spread_of x n ≡ pos 0 → (i j : ℕ) → i < n → j < n → x i ≡ x j
  equal_when_zero e i j h k = pick (dec_lt i j) (ℕ_discrete i j)
    where
      pick : Dec (i < j) → Dec (i ≡ j) → x i ≡ x j
      pick (yes p) q = earlier e i j p k
      pick (no p) (yes q) = ap x q
      pick (no p) (no q) = sym (earlier e j i (omega arith) h)

  pub zero_when_equal : ((i j : ℕ) → i < n → j < n → x i ≡ x j) → spread_of x n ≡ pos 0
  unfolding spread_of
  zero_when_equal same =
      let none : (i j : ℕ) → i < n → j < n → square (x i -ℤ x j) ≡ pos 0 =
      λ i j p q. ap (λ z. square (z -ℤ x j)) (same i j p q) ∙ ap (λ z. z *ℤ z) (+ℤ_invr (x j)) in
      sum_cong _ _ n (λ j p. sum_cong _ _ j (λ i q. none i j (omega arith) p) ∙ sum_none j)
      ∙ sum_none n

-- ---- of every job, over the zones kept by the weights that count
module _ (n : ℕ) (values : List ℤ) (weights : List ℕ) where
  abbrev counting : List ℕ
  counting = reduced n values weights

  -- their deviations: the squares of d sum to the number kept times M
  pub kept_squared_sum :
      sum (λ k. square (deviation_of (at (kept_values n counting values)) (kept_count n counting) k)) (kept_count n counting)
      ≡ pos (job_kept n values weights) *ℤ job_spread n values weights
  unfolding job_kept job_spread
  kept_squared_sum = deviations_squared_sum (at (kept_values n counting values)) (kept_count n counting)

  -- M is 0 exactly when all values of the zones kept are equal
  pub equal_kept :
      job_spread n values weights ≡ pos 0 → (i j : ℕ) → i < n → j < n → keeps n counting i ≡ true → keeps n counting j ≡ true →
      at values i ≡ at values j
  unfolding job_spread
  equal_kept e i j p q f g =
      let a = kept_place n counting i in
      let b = kept_place n counting j in
      let stands : (k : ℕ) → k < n → keeps n counting k ≡ true →
      at (kept_values n counting values) (kept_place n counting k) ≡ at values k =
      λ k h l. values_at n counting values (kept_place n counting k) (place_within n counting k h l) ∙ ap (at values) (zone_at_place n counting k h l) in
      sym (stands i p f)
      ∙ equal_when_zero (at (kept_values n counting values)) (kept_count n counting) e a b (place_within n counting i p f)
      (place_within n counting j q g)
      ∙ stands j q g

  pub zero_kept :
      ((i j : ℕ) → i < n → j < n → keeps n counting i ≡ true → keeps n counting j ≡ true → at values i ≡ at values j) →
      job_spread n values weights ≡ pos 0
  unfolding job_spread
  zero_kept same =
      zero_when_equal (at (kept_values n counting values)) (kept_count n counting)
      (λ a b p q.
      let s = zone_stands n counting a p in
      let t = zone_stands n counting b q in
      values_at n counting values a p
      ∙ same (kept_zone n counting a) (kept_zone n counting b) s.below t.below s.passes t.passes
      ∙ sym (values_at n counting values b q))

  -- no more zones are kept than there are
  pub kept_most : job_kept n values weights ≤ n
  unfolding job_kept
  kept_most = kept_few n counting

  -- W, P and G are sums over all zones too, d(i) being the number kept times x(i), less S
  pub weight_of_all : (job_row n values weights).weight ≡ weight_of (pair_at counting n) n
  unfolding job_row class_row
  weight_of_all = weight_all n values counting

  pub cross_of_all : (job_row n values weights).cross ≡ cross_of (pair_at counting n) (deviation n values counting) n
  unfolding job_row class_row
  cross_of_all = cross_all n values counting

  pub squares_of_all : (job_row n values weights).squares ≡ squares_of (pair_at counting n) (at values) n
  unfolding job_row class_row
  squares_of_all = squares_all n values counting

-- ---- how large the measures are, whatever weights of at most 9 are counted off the diagonal
pub record Sharp (f : ℕ → ℕ → ℕ) (x : ℕ → ℤ) (n : ℕ) : Type 0 where
  pub zones : n ≤ 64
  pub spread : nat_abs (spread_of x n) ≤ 80640000000000
  pub weight : nat_abs (weight_of f n) ≤ 36288
  pub cross : nat_abs (cross_of f (deviation_of x n) n) ≤ 5945425920000000000
  pub squares : nat_abs (squares_of f x n) ≤ 1451520000000000
  pub local : (i : ℕ) → i < n → nat_abs (local_of f (deviation_of x n) n i) ≤ 92897280000000000

-- so every numerator and divisor is at most 6 × 10^18
pub limits_of : (f : ℕ → ℕ → ℕ) (x : ℕ → ℤ) (n : ℕ) → Sharp f x n → Limits f x n
limits_of f x n s =
    let m = s.spread in
    let pairs : (n - 1) * n ≤ 4032 = N.mul-le-mul {n₂ = 63} {m₂ = 64} (omega (arith, s.zones)) s.zones in
    let twice = size_*_le (pos 2) (weight_of f n) 2 36288 (N.le_refl 2) s.weight in
    record {
      moran_numerator = omega (arith, s.cross);
      moran_divisor = omega (arith, size_*_le (weight_of f n) (spread_of x n) 36288 80640000000000 s.weight m);
      geary_numerator = omega (arith, size_*_le (pos ((n - 1) * n)) (squares_of f x n) 4032 1451520000000000 pairs s.squares);
      geary_divisor = omega (arith, size_*_le (pos 2 *ℤ weight_of f n) (spread_of x n) 72576 80640000000000 twice m);
      local_numerator = λ i h. omega (arith, s.local i h);
      local_divisor = omega arith;
    }

module _ (f : ℕ → ℕ → ℕ) (x : ℕ → ℤ) (n : ℕ) (zones : n ≤ 64) (light : (i j : ℕ) → i < n → j < n → f i j ≤ 9)
    (clear : (i : ℕ) → i < n → f i i ≡ 0) (near : (k : ℕ) → k < n → nat_abs (x k) ≤ 100000) where
  pub within_sizes : Sharp f x n
  within_sizes =
      let d = deviation_size x n zones near in record {
        zones = zones;
        spread = spread_of_size x n zones near;
        weight = weight_sharp f n zones light clear;
        cross = cross_sharp f n zones light clear (deviation_of x n) d;
        squares = squares_sharp f n zones light clear x near;
        local = local_sharp f n zones light clear (deviation_of x n) d;
      }

  pub within_limits : Limits f x n
  within_limits = limits_of f x n within_sizes

-- ---- of every accepted job: at least two zones are kept, the sizes and limits, W and M are at least 1
module _ (n : ℕ) (values : List ℤ) (weights : List ℕ) (locals : List ℤ) (taken : account_refusal n values weights locals ≡ 0) where
  abbrev taken_by : List ℕ
  taken_by = reduced n values weights

  abbrev good : Sound n values weights
  good = (accepted n values weights locals taken).good

  pub kept_least : 2 ≤ job_kept n values weights
  unfolding job_kept
  kept_least = good.two_kept

  pub accepted_sizes :
      Sharp (pair_at (kept_pairs n taken_by taken_by) (kept_count n taken_by)) (at (kept_values n taken_by values)) (kept_count n taken_by)
  accepted_sizes =
      let of_kept = good.job in
      let m = kept_count n taken_by in
      within_sizes (pair_at (kept_pairs n taken_by taken_by) m) (at (kept_values n taken_by values)) m
      of_kept.valued.zones
      (weight_le (kept_pairs n taken_by taken_by) m of_kept.weighted)
      (kept_clear n values taken_by good.clear)
      of_kept.valued.near.size

  pub accepted_limits :
      Limits (pair_at (kept_pairs n taken_by taken_by) (kept_count n taken_by)) (at (kept_values n taken_by values)) (kept_count n taken_by)
  accepted_limits = limits_of _ _ _ accepted_sizes

  pub weight_one : pos 1 ≤ℤ (job_row n values weights).weight
  weight_one =
      rw (weight_of_all n values weights) (one_of _ (adding.weight_above (pair_at taken_by n) n) good.weighty)

  pub spread_one : pos 1 ≤ℤ job_spread n values weights
  unfolding job_spread
  spread_one = one_of _ (adding.spread_above (at (kept_values n taken_by values)) (kept_count n taken_by)) good.varied

-- ---- the refusal is the least number that applies: it applies, and no number below it does
module _ {A : Type 0} (n : ℕ) (values : List ℤ) (weights : List ℕ) (locals : List A) where
  pub refusal_applies :
      (account_refusal n values weights locals ≡ 0 → ⊥) →
      Applies (account_refusal n values weights locals) (account_rules n values weights locals)
  unfolding account_refusal
  refusal_applies = first_applies (account_rules n values weights locals)

  pub refusal_least :
      (number : ℕ) → Applies number (account_rules n values weights locals) → account_refusal n values weights locals ≤ number
  unfolding account_refusal account_rules call_rules job_rules
  refusal_least number = first_least 0 number (account_rules n values weights locals) (tt, (tt, (tt, (tt, (tt, (tt, (tt, tt)))))))

  -- it is that of the sizes where they have one
  abbrev pub sizes_refusal : ℕ
  sizes_refusal = first_broken (size_rules n (job_lengths n (length values) (length weights) ((length locals, n) ∷ [])))

  pub refusal_by_sizes : (r : ℕ) → r ≡ sizes_refusal → (r ≡ 0 → ⊥) → r ≡ account_refusal n values weights locals
  unfolding account_refusal account_rules
  refusal_by_sizes = by_sizes n values weights ((length locals, n) ∷ []) []

  -- and what they are where they have none
  pub sizes_fit : sizes_refusal ≡ 0 → (n ≤ 64) × (length locals ≡ n)
  sizes_fit e =
      let f = fitting n (length values) (length weights) ((length locals, n) ∷ []) e in
      (f.zones, (fits (length locals) n [] f.lent_fit).0)

-- of what the lent list holds nothing is judged: the refusal is the same with another of its length
pub refusal_same :
    {A B : Type 0} (n : ℕ) (values : List ℤ) (weights : List ℕ) (locals : List A) (others : List B) → length locals ≡ length others →
    account_refusal n values weights locals ≡ account_refusal n values weights others
unfolding account_refusal account_rules
refusal_same n values weights locals others e = ap (λ k. first_broken (call_rules n values weights ((k, n) ∷ []) [])) e

-- ---- an answer is known by its number and its figures, so that the contract leaves no second answer open
made : (s m w p g : ℤ) (k l : ℕ) → Sums
made s m w p g k l = record { total = s; spread = m; weight = w; cross = p; squares = g; kept = k; missing = l }

same :
    (s m w p g : ℤ) (k l : ℕ) (s' m' w' p' g' : ℤ) (k' l' : ℕ) → s ≡ s' → m ≡ m' → w ≡ w' → p ≡ p' → g ≡ g' → k ≡ k' → l ≡ l' →
    made s m w p g k l ≡ made s' m' w' p' g' k' l'
same s m w p g k l s' m' w' p' g' k' l' e1 e2 e3 e4 e5 e6 e7 = cc

pub answer_unique : (a b : Result Sums Refusal) → number_of a ≡ number_of b → figures_of a ≡ figures_of b → a ≡ b
unfolding figures_of made
answer_unique (Err k) (Err l) e f = ap Err (cause_unique k l e)
answer_unique (Err k) (Ok t) e f = absurd (not_refused k e)
answer_unique (Ok s) (Err l) e f = absurd (not_refused l (sym e))
answer_unique (Ok s) (Ok t) e f =
    ap Ok (same _ _ _ _ _ _ _ _ _ _ _ _ _ _ (cc) (cc) (cc) (cc) (cc) (ap nat_abs (ap (λ l. at l 5) f)) (ap nat_abs (ap (λ l. at l 6) f)))

-- ---- where nothing is refused, the answer is the sums of the job, and the lent list holds its local numerators
module _ (n : ℕ) (values : List ℤ) (weights : List ℕ) (locals : List ℤ) (taken : account_refusal n values weights locals ≡ 0) where
  answered : (r : Result Sums Refusal) → figures_of r ≡ account_figures n values weights locals → figures_of r ≡ job_figures n values weights
  unfolding account_figures
  answered r e = e ∙ worked_when_taken _ _ _ taken

  pub accounted_sums :
      (r : Result Sums Refusal) (sums : Sums) → figures_of r ≡ account_figures n values weights locals → r ≡ Ok sums →
      listed sums ≡ job_figures n values weights
  unfolding figures_of
  accounted_sums r sums e g = sym (ap figures_of g) ∙ answered r e

  -- which no more zones are counted in than there are
  pub accounted_kept :
      (r : Result Sums Refusal) (sums : Sums) → figures_of r ≡ account_figures n values weights locals → r ≡ Ok sums → sums.kept ≤ n
  unfolding job_figures zones_figures
  accounted_kept r sums e g =
      let same = ap (λ (l : List ℤ). nat_abs (at l 5)) (accounted_sums r sums e g) in omega (arith, same, kept_few n (reduced n values weights))

  -- and of whose values no more are not returned
  pub accounted_missing :
      (r : Result Sums Refusal) (sums : Sums) → figures_of r ≡ account_figures n values weights locals → r ≡ Ok sums → sums.missing ≤ n
  unfolding job_figures zones_figures
  accounted_missing r sums e g =
      let same = ap (λ (l : List ℤ). nat_abs (at l 6)) (accounted_sums r sums e g) in
      omega (arith, same, missing_few values, (accepted n values weights locals taken).good.lent.count)

  pub never_refused : (r : Result Sums Refusal) (k : Refusal) → figures_of r ≡ account_figures n values weights locals → r ≡ Err k → ⊥
  unfolding figures_of job_figures zones_figures
  never_refused r k e g = let z : ◌≡◌ {A = ℕ} 0 7 = ap length (sym (ap figures_of g) ∙ answered r e) in omega arith

  pub locals_left : (left : List ℤ) → left ≡ account_locals n values weights locals → left ≡ job_locals n values weights
  unfolding account_locals
  locals_left left e = e ∙ worked_when_taken _ _ _ taken
