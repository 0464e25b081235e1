-- A territory in which every value is returned and every zone touches another: its report leaves nothing out, and is the one of document 01 with
-- its zones in hot-list order; where equal numerators have equal row sums that is document 01's own order. Assumes nothing.
use mathlib.Core.Path.{◌≡◌, refl, sym, ap, ◌∙◌}
use mathlib.Core.Bool.{false, cond}
use mathlib.Core.List.{List, [], ◌++◌}
use Prim.Native.Nat.{ℕ, suc, ◌*◌, ◌<◌}
use native.Mathlib.Omega.{arith}
use lib.Dec.{ltb}
use lib.IntN.{ℤ}
use lib.ListN.{length, get_or}
use Rattle.whole.specs.Order.{lacks, ordered}
use Rattle.whole.specs.Table.{table, at, pair_at, each}
use Rattle.whole.proofs.Stores.{each_same}
use Rattle.kept.specs.Kept.{keeps, kept_count}
use Rattle.kept.specs.Returned.{reduced}
use Rattle.kept.proofs.KeptZones.{keeps_all, same_values, same_pairs}
use Rattle.shuffles.specs.Shuffles.{shuffle_count}
use Rattle.shuffles.specs.Steps.{Shuffles}
use Rattle.shuffles.proofs.Theorems.{list_taken}
use Rattle.account.specs.Measures.{spread_of}
use Rattle.account.specs.Refusals.{job_spread}
use Rattle.account.specs.Answers.{zones_local, job_kept, job_locals}
use Rattle.account.specs.Classes.{zones_class_row}
use Rattle.account.specs.Rank.{zones_rank}
use Rattle.account.specs.Steps.{zones_locals}
use Rattle.account.specs.declared.ClassRow.{ClassRow}
use Rattle.account.proofs.AllKept.{nothing_reduced, all_kept, all_spread, all_locals, all_class_row, all_rank}
use Rattle.hot_list.specs.HotList.{falling, hot_list}
use Rattle.hot_list.proofs.HotTheorems.{hot_list_length, hot_list_each, Level, hot_list_of_level}
use Rattle.places.specs.Bands.{band_classes}
use Rattle.coefficients.specs.Coefficients.{pair_of, class_pair}
use Rattle.image.specs.Image.{Job, count, from_shuffles, job_of, image_refusal}
use Rattle.image.specs.RoundTrip.{given_in}
use Rattle.image.proofs.Accepted.{Accepted, accepted, counted}
use Rattle.image.proofs.BytesBack.{within_counts}
use Rattle.image.proofs.Weights.{shuffles_decide}
use Rattle.report.specs.Text.{numbered, whole_lines, local_line, class_line, counts_line, where_given}
use Rattle.report.specs.Text.{job_lines, local_lines, pair_lines, rank_line, class_lines, job_text, image_text}
use Rattle.report.specs.DocumentOne.{base_order, base_text}
use Rattle.report.proofs.Classing.{band_classes_length}
use Rattle.report.proofs.Listed.{class_text}

module _ (n : ℕ) (values : List ℤ) (weights : List ℕ) (all : kept_count n (reduced n values weights) ≡ n) (values_fit : length values ≡ n)
    (weights_fit : length weights ≡ n * n) where
  abbrev counting : List ℕ
  counting = reduced n values weights

  -- the weights that count are those lent
  as_lent : counting ≡ weights
  as_lent = nothing_reduced n values weights all values_fit weights_fit

  every : kept_count n weights ≡ n
  every = ap (kept_count n) (sym as_lent) ∙ all

  -- the lines of the whole job
  whole_same : job_lines n values weights ≡ whole_lines n (at values) (pair_at weights n)
  unfolding job_lines
  whole_same =
      rw (as_lent, same_values n weights every values values_fit, same_pairs n weights every weights weights_fit, every) refl

  -- those of its zones: each has one
  abbrev own : List ℤ
  own = job_locals n values weights

  abbrev M : ℤ
  M = job_spread n values weights

  none_out : local_lines n values weights ≡ each (local_line own M) (hot_list n values weights)
  unfolding local_lines
  none_out =
      each_same (λ zone. cond (keeps n counting zone) (local_line own M zone) []) (local_line own M) 0 (hot_list n values weights)
      (λ k h.
      let below = (hot_list_each n values weights).into k (omega (arith, hot_list_length n values weights)) in
      ap (λ b. cond b (local_line own M (get_or (hot_list n values weights) k 0)) []) (keeps_all n counting all _ below))

  numerators_same : own ≡ table (zones_local n values weights) n
  unfolding zones_locals
  numerators_same = all_locals n values weights all values_fit weights_fit

  locals_same :
      local_lines n values weights
      ≡ each (local_line (table (zones_local n values weights) n) (spread_of (at values) n)) (hot_list n values weights)
  locals_same = none_out ∙ rw (numerators_same, all_spread n values weights all values_fit weights_fit) refl

  -- the order of the zones is document 01's where of equal numerators the row sums are equal
  order_same : Level n values weights → hot_list n values weights ≡ ordered (falling (at (table (zones_local n values weights) n)) ltb) n
  order_same level = hot_list_of_level n values weights all level ∙ ap (λ l. ordered (falling (at l) ltb) n) numerators_same

  -- those of its classes
  module _ (places : List ℤ) (bands : List ℕ) where
    abbrev classes : List ℕ
    classes = band_classes n places bands

    abbrev row : ℕ → ClassRow
    row = zones_class_row n values weights classes

    abbrev base_line : ℕ → List ℕ
    base_line k = class_line (row k) (pair_of n (spread_of (at values) n) (row k)) k

    class_same : (k : ℕ) → class_text n values weights classes k ≡ base_line k
    unfolding class_pair
    class_same k =
        rw (
          all_class_row n values weights all values_fit weights_fit classes (band_classes_length n places bands) k,
          all_kept n values weights all values_fit weights_fit,
          all_spread n values weights all values_fit weights_fit,
        ) refl

    classes_same : class_lines n values weights places bands ≡ each base_line (numbered (suc (length bands)))
    unfolding class_lines
    classes_same =
        each_same (class_text n values weights classes) base_line 0 (numbered (suc (length bands))) (λ k h. class_same _)

  -- and that of its rank
  rank_same :
      (shuffles : List ℕ) → length shuffles ≡ shuffle_count n (length shuffles) * n →
      ((r : ℕ) → r < shuffle_count n (length shuffles) → lacks (pair_at shuffles n r) n ≡ false) →
      rank_line n values weights shuffles ≡ counts_line (zones_rank (shuffle_count n (length shuffles)) n values weights shuffles)
  unfolding rank_line
  rank_same shuffles long full = ap counts_line (all_rank n values weights all values_fit weights_fit shuffles long full)

-- ---- the whole text

parts_same :
    {a b d e a' b' d' e' : List ℕ} (c : List ℕ) → a ≡ a' → b ≡ b' → d ≡ d' → e ≡ e' →
    a ++ (b ++ (c ++ (d ++ e))) ≡ a' ++ (b' ++ (c ++ (d' ++ e')))
parts_same c p q r s = rw (p, q, r, s) refl

-- of a job whose shuffles are whole rows, none of which lacks a zone number
pub all_kept_text :
    (n : ℕ) (job : Job) → job_kept n job.values job.weights ≡ n → length job.values ≡ n → length job.weights ≡ n * n →
    length job.shuffles ≡ shuffle_count n (length job.shuffles) * n →
    ((r : ℕ) → r < shuffle_count n (length job.shuffles) → lacks (pair_at job.shuffles n r) n ≡ false) →
    job_text n job ≡ base_text n job (hot_list n job.values job.weights)
unfolding job_text base_text job_kept
all_kept_text n job all v w long full =
    ap
    (λ counting.
    job_lines n job.values job.weights
    ++ (local_lines n job.values job.weights
    ++ (where_given job.categories (pair_lines n job.categories counting)
    ++ (where_given job.bands (class_lines n job.values job.weights job.places job.bands)
    ++ where_given job.shuffles (rank_line n job.values job.weights job.shuffles)))))
    (nothing_reduced n job.values job.weights all v w)
    ∙ parts_same (where_given job.categories (pair_lines n job.categories job.weights))
    (whole_same n job.values job.weights all v w)
    (locals_same n job.values job.weights all v w)
    (ap (where_given job.bands) (classes_same n job.values job.weights all v w job.places job.bands))
    (ap (where_given job.shuffles) (rank_same n job.values job.weights all v w job.shuffles long full))

-- the shuffles of an accepted image
its_shuffles :
    (image : List ℕ) → Accepted image →
    Shuffles (job_of image).shuffles (count image) (shuffle_count (count image) (length (job_of image).shuffles))
unfolding given_in job_of
its_shuffles image a =
    let c = counted image a in
    let shuffles = (job_of image).shuffles in
    let long = (within_counts image a).shuffles in
    list_taken (count image) shuffles
    (shuffles_decide (count image) (count (from_shuffles image)) shuffles c.two c.zones c.shuffles long ∙ a.shuffles.listed)

-- of an accepted image
pub all_kept_report :
    (image : List ℕ) → image_refusal image ≡ 0 → job_kept (count image) (job_of image).values (job_of image).weights ≡ count image →
    image_text image ≡ base_text (count image) (job_of image) (hot_list (count image) (job_of image).values (job_of image).weights)
unfolding image_text given_in
all_kept_report image e all =
    let a = accepted image e in
    let fit = within_counts image a in
    let shuffled = its_shuffles image a in
    all_kept_text (count image) (job_of image) all fit.values fit.weights shuffled.count shuffled.full

-- and where of equal numerators the row sums are equal it is document 01's byte for byte
pub all_level_report :
    (image : List ℕ) → image_refusal image ≡ 0 → job_kept (count image) (job_of image).values (job_of image).weights ≡ count image →
    Level (count image) (job_of image).values (job_of image).weights →
    image_text image ≡ base_text (count image) (job_of image) (base_order (count image) (job_of image))
unfolding base_order given_in job_kept
all_level_report image e all level =
    let fit = within_counts image (accepted image e) in
    let job = job_of image in
    all_kept_report image e all
    ∙ ap (base_text (count image) job) (order_same (count image) job.values job.weights all fit.values fit.weights level)
