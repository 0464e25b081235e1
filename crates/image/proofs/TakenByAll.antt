-- The job of an accepted image is one that the other calls take. Assumes nothing.
use mathlib.Core.Path.{◌≡◌, refl, sym, ap, ◌∙◌}
use mathlib.Core.Bool.{true, false, ◌&&◌, false≢true}
use mathlib.Core.List.{List, [], ◌∷◌}
use Prim.Native.Nat.{ℕ, zero, suc, ◌*◌, ◌≤◌, ◌<◌}
use native.Mathlib.Omega.{arith}
use borrow.Author.Tests.{le-ltb, lt-ltb, eq-eqb}
use lib.Dec.{eqb, ltb}
use lib.ListN.{length}
use Rattle.whole.specs.Rules.{Rule, first_broken, misfits}
use Rattle.whole.specs.Search.{any_above, any_on_diagonal}
use Rattle.whole.proofs.Rules.{holds, neither}
use Rattle.judges.specs.Values.{any_value_beyond}
use Rattle.shuffles.specs.Shuffles.{shuffle_count, any_lacking}
use Rattle.shuffles.proofs.ShuffleList.{rows_counted}
use Rattle.account.specs.Refusals.{call_rules, job_refusal, account_rules, account_refusal}
use Rattle.account.specs.Classes.{class_rules}
use Rattle.account.specs.Rank.{rank_refusal, rank_rules}
use Rattle.account.proofs.Accepted.{Called, called, let_in}
use Rattle.joins.specs.Joins.{join_refusal, join_rules}
use Rattle.places.specs.Places.{place_rules}
use Rattle.places.specs.Places as places
use Rattle.places.specs.Gabriel.{gabriel_refusal}
use Rattle.places.specs.Bands.{any_misplaced, bands_broken, band_refusal}
use Rattle.image.specs.Image.{Job, count, items, join_in, from_categories, from_joins, from_places, from_bands, from_shuffles, job_of}
use Rattle.image.specs.RoundTrip.{given_in, TakenByAll}
use Rattle.image.proofs.Accepted.{Accepted, Counted, counted, all_of_them}
use Rattle.image.proofs.BytesBack.{within_counts}
use Rattle.image.proofs.Limits.{places_near, places_apart}
use Rattle.image.proofs.Weights.{joins_light, joins_clear, sums_decide}

module _ (image : List ℕ) (a : Accepted image) where
  abbrev n : ℕ
  n = count image

  abbrev job : Job
  job = job_of image

  c : Counted image
  c = counted image a

  values_fit : length job.values ≡ n
  unfolding given_in
  values_fit = (within_counts image a).values

  weights_fit : length job.weights ≡ n * n
  unfolding given_in
  weights_fit = (within_counts image a).weights

  light : any_above 9 job.weights ≡ false
  unfolding job_of
  light = let b = from_joins image in joins_light n (join_in (items b)) (count b) a.joins.listed

  clear : any_on_diagonal n job.weights ≡ false
  unfolding job_of
  clear = let b = from_joins image in joins_clear n (join_in (items b)) (count b) a.joins.listed

  near : any_value_beyond job.values ≡ false
  unfolding job_of
  near = (holds (any_value_beyond job.values) 2 0 a.values.listed).0

  -- 1 to 7 hold
  job_taken : Called n job.values job.weights []
  unfolding job_refusal
  job_taken =
      (called n job.values job.weights [] []
      (sums_decide n job.values job.weights c.two c.zones values_fit weights_fit near light clear ∙ a.sums)
      ).0

  -- so does every call on the job, where its further lists fit and what it judges besides holds
  pub call_taken :
      (lent : List (ℕ × ℕ)) (besides : List Rule) → misfits lent ≡ false → first_broken besides ≡ 0 →
      first_broken (call_rules n job.values job.weights lent besides) ≡ 0
  call_taken lent besides fit hold = let_in n job.values job.weights [] job_taken lent besides fit hold

  account_taken : {A : Type 0} (lent : List A) → length lent ≡ n → account_refusal n job.values job.weights lent ≡ 0
  unfolding account_refusal account_rules
  account_taken lent e = call_taken ((length lent, n) ∷ []) [] (rw (eq-eqb (length lent) n e)) refl

  -- of the class account and the report, under classes 0 to 8
  pub classes_taken :
      (classes : List ℕ) (lent : List (ℕ × ℕ)) → length classes ≡ n * n → any_above 8 classes ≡ false → misfits lent ≡ false →
      first_broken (class_rules n job.values job.weights classes lent) ≡ 0
  unfolding class_rules
  classes_taken classes lent e low fit =
      call_taken ((length classes, n * n) ∷ lent) ((any_above 8 classes, 9) ∷ []) (rw (eq-eqb (length classes) (n * n) e) fit) (rw low)

  -- of the rank, under any desk numbers 0 to 3, one for each shuffle
  rank_taken :
      (desks : List ℕ) → length desks ≡ count (from_shuffles image) → any_above 3 desks ≡ false →
      rank_refusal n job.values job.weights job.shuffles desks ≡ 0
  unfolding rank_refusal rank_rules job_of given_in
  rank_taken desks each low =
      let long = (within_counts image a).shuffles in
      let k = c.two in
      let many = shuffle_count n (length job.shuffles) in
      let rows = rows_counted n (length job.shuffles) (count (from_shuffles image)) (omega arith) c.shuffles long in
      let whole = long ∙ ap (λ m. m * n) (sym rows) in
      let full = (holds (any_lacking n job.shuffles) 12 0 a.shuffles.listed).0 in
      call_taken ((length job.shuffles, many * n) ∷ (length desks, many) ∷ []) ((any_lacking n job.shuffles, 13) ∷ (any_above 3 desks, 24) ∷ [])
      (rw (eq-eqb (length job.shuffles) (many * n) whole, eq-eqb (length desks) many (each ∙ sym rows)))
      (rw (full, low))

  joins_taken : (count (from_categories image) ≡ 0 → ⊥) → join_refusal n job.values job.categories job.weights 64 ≡ 0
  unfolding join_refusal join_rules job_of given_in
  joins_taken f =
      let long = (within_counts image a).categories ∙ all_of_them n (count (from_categories image)) a.categories.counted f in
      let low = (holds (any_above 7 job.categories) 7 0 a.categories.listed).0 in
      rw (
        le-ltb n 2 c.two,
        le-ltb 64 n c.zones,
        eq-eqb (length job.values) n values_fit,
        eq-eqb (length job.categories) n long,
        eq-eqb (length job.weights) (n * n) weights_fit,
        near,
        light,
        clear,
        low,
      )

  -- the places of all n zones
  module _ (f : count (from_places image) ≡ 0 → ⊥) where
    all_placed : count (from_places image) ≡ n
    all_placed = all_of_them n (count (from_places image)) a.places.counted f

    places_fit : length job.places ≡ 2 * n
    unfolding given_in
    places_fit = (within_counts image a).places ∙ ap (λ m. 2 * m) all_placed

    places_taken : (besides : List Rule) → first_broken besides ≡ 0 → first_broken (places.call_rules n job.places (n * n) besides) ≡ 0
    unfolding places.call_rules place_rules job_of
    places_taken besides e =
        rw (
          le-ltb n 2 c.two,
          le-ltb 64 n c.zones,
          eq-eqb (length job.places) (2 * n) places_fit,
          eq-eqb (n * n) (n * n) refl,
          places_near job.places a.places.listed n places_fit,
          places_apart job.places a.places.listed n places_fit,
        ) e

  -- where there are bands there are places
  some_placed : (count (from_bands image) ≡ 0 → ⊥) → count (from_places image) ≡ 0 → ⊥
  some_placed f e =
      let b = count (from_bands image) in
      let rule = (neither (ltb 8 b) (ltb 0 b && eqb (count (from_places image)) 0) a.bands.counted).1 in
      let both : (ltb 0 b && eqb (count (from_places image)) 0) ≡ true =
      rw (lt-ltb 0 b (some b f), eq-eqb (count (from_places image)) 0 e) in
      false≢true (sym rule ∙ both)
    where
      some : (b : ℕ) → (b ≡ 0 → ⊥) → 0 < b
      some zero f = absurd (f refl)
      some (suc b) f = omega arith

  bands_taken : (count (from_bands image) ≡ 0 → ⊥) → band_refusal n job.places job.bands (n * n) ≡ 0
  unfolding band_refusal bands_broken job_of given_in
  bands_taken f =
      let long = (within_counts image a).bands in
      let placed = (holds (any_misplaced job.bands) 11 0 a.bands.listed).0 in
      let some : 1 ≤ length job.bands = one (count (from_bands image)) f long in
      let few : length job.bands ≤ 8 = let k = c.bands in omega arith in
      places_taken (some_placed f) _ (rw (le-ltb (length job.bands) 1 some, le-ltb 8 (length job.bands) few, placed))
    where
      one : (b : ℕ) → (b ≡ 0 → ⊥) → length job.bands ≡ b → 1 ≤ length job.bands
      one zero f e = absurd (f refl)
      one (suc b) f e = omega arith

  pub all_take : TakenByAll image
  unfolding gabriel_refusal
  all_take = record {
    account = account_taken;
    hot_list = account_taken;
    rank = rank_taken;
    join_table = joins_taken;
    gabriel = λ f. places_taken f [] refl;
    bands = bands_taken;
  }
