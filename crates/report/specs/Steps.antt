-- What the private functions of the report promise each other. Assumes nothing.
use Rattle.std.specs.Prelude.{◌≡◌, false, cond, List, [], ◌∷◌, ◌++◌, ℕ, ◌+◌, ◌*◌, ◌/◌, ◌-◌, ◌≤◌, ◌<◌, ℤ, pos, negsuc, nat_abs, ◌*ℤ◌, length, get_or, ◌≤ℤ◌, Result}
use Rattle.std.proofs.lemmas.List.Edits.{sets}
use Rattle.std.specs.Int.Signed.{lt_z}
use Rattle.whole.specs.Rules.{first_broken, misfits, unless_refused, ratio_limit}
use Rattle.whole.specs.Search.{any_above}
use Rattle.whole.specs.Table.{at, over}
use Rattle.refusals.specs.declared.Refusal.{Refusal}
use Rattle.nearest.specs.declared.Side.{Side}
use Rattle.nearest.specs.declared.Side.TheVariants.{Equal}
use Rattle.refusals.specs.Refusals.{number_of}
use Rattle.account.specs.Refusals.{account_refusal}
use Rattle.account.specs.Classes.{class_rules, row_at}
use Rattle.account.specs.Rank.{rank_refusal}
use Rattle.account.specs.declared.Sums.{Sums}
use Rattle.joins.specs.Joins.{join_refusal}
use Rattle.places.specs.Bands.{band_classes, band_refusal}
use Rattle.coefficients.specs.FloatReport.{no_pair}
use Rattle.coefficients.specs.declared.Pair.{Pair}
use Rattle.image.specs.Image.{Job, image_refusal}
use Rattle.image.specs.Reader.{Buffers, buffer_lengths}
use Rattle.image.specs.Writer.{lent_job}
use Rattle.image.specs.declared.Given.{Given}
use Rattle.image.specs.declared.Lists.{Lists}
use Rattle.reader.specs.declared.Counts.{Counts}
use Rattle.pages.specs.Lines.{line, numbers}
use Rattle.report.specs.Lines.{rounded, coefficient}
use Rattle.report.specs.Text.{image_text, length_in}

-- ---- what a call has put into a page

-- `text`, at most `most` bytes of it, from place `at` on; what is answered is the place behind it
pub record Put (old new : List ℕ) (at place most : ℕ) (text : List ℕ) : Type 0 where
  pub same : new ≡ sets old at text
  pub behind : place ≡ at + length text
  pub few : place ≤ at + most

-- there is room for so many bytes from place `at` on
abbrev pub Room : List ℕ → ℕ → ℕ → Type 0
Room page at most = at + most ≤ length page

-- what is answered of an image, and what its page then holds
pub record Prints (image old new : List ℕ) (r : Result ℕ Refusal) : Type 0 where
  pub number : number_of r ≡ image_refusal image
  pub long : length_in r ≡ unless_refused (image_refusal image) (length (image_text image) ∷ []) []
  pub page : new ≡ unless_refused (image_refusal image) (over (image_text image) old) old

-- ---- what can be printed

-- sums of 2 to 64 zones whose values vary and whose numerators and divisors are within the limit
pub record Within (sums : Sums) : Type 0 where
  pub two : 2 ≤ sums.kept
  pub zones : sums.kept ≤ 64
  pub varied : pos 1 ≤ℤ sums.spread
  pub moran_divisor : nat_abs (sums.weight *ℤ sums.spread) ≤ ratio_limit
  pub geary_numerator : nat_abs (pos ((sums.kept - 1) * sums.kept) *ℤ sums.squares) ≤ ratio_limit
  pub geary_divisor : nat_abs ((pos 2 *ℤ sums.weight) *ℤ sums.spread) ≤ ratio_limit

-- values, weights and figures of n zones
pub record Zoned (n values weights figures sides : ℕ) : Type 0 where
  pub least : 2 ≤ n
  pub most : n ≤ 64
  pub values_fit : values ≡ n
  pub weights_fit : weights ≡ n * n
  pub figures_fit : figures ≡ n
  pub sides_fit : sides ≡ n

-- of n zones, those that are listed
abbrev pub Listed : List ℕ → ℕ → Type 0
Listed order n = (k : ℕ) → k < length order → get_or order k 0 < n

-- ---- a job that no call refuses

-- its values and weights
pub record Sound (n : ℕ) (values : List ℤ) (weights : List ℕ) : Type 0 where
  pub two : 2 ≤ n
  pub zones : n ≤ 64
  pub values_fit : length values ≡ n
  pub weights_fit : length weights ≡ n * n
  pub taken : (locals : List ℤ) → length locals ≡ n → account_refusal n values weights locals ≡ 0
  pub classed :
      (classes : List ℕ) (further : List (ℕ × ℕ)) → length classes ≡ n * n → any_above 8 classes ≡ false → misfits further ≡ false →
      first_broken (class_rules n values weights classes further) ≡ 0

-- categories, where there are any
abbrev pub Joinable : ℕ → List ℤ → List ℕ → List ℕ → Type 0
Joinable n values categories weights = (length categories ≡ 0 → ⊥) → join_refusal n values categories weights 64 ≡ 0

-- places and bands, where there are bands, with so many places lent for classes
pub record Bandable (n : ℕ) (places : List ℤ) (bands : List ℕ) (room : ℕ) : Type 0 where
  pub room_fits : room ≡ n * n
  pub banded : (length bands ≡ 0 → ⊥) → band_refusal n places bands (n * n) ≡ 0

-- classes 0 to 8 of the pairs of n zones
pub record Low (n : ℕ) (classes : List ℕ) : Type 0 where
  pub classes_fit : length classes ≡ n * n
  pub low : any_above 8 classes ≡ false

-- such classes, which are those of the bands where there are bands
pub record Classed (n : ℕ) (places : List ℤ) (bands classes : List ℕ) : Type 0 where
  pub within : Low n classes
  pub made : (length bands ≡ 0 → ⊥) → classes ≡ band_classes n places bands

-- at most 499 shuffles, which the rank takes under any desk numbers 0 to 3, one for each
pub record Rankable (n : ℕ) (values : List ℤ) (weights shuffles : List ℕ) : Type 0 where
  pub some : 1 ≤ n
  pub few : length shuffles / n ≤ 499
  pub taken :
      (desks : List ℕ) → length desks ≡ length shuffles / n → any_above 3 desks ≡ false → rank_refusal n values weights shuffles desks ≡ 0

-- its values and weights, and its other lists, each where it has something in it
pub record SoundJob (n : ℕ) (job : Job) : Type 0 where
  pub weighted : Sound n job.values job.weights
  pub joined : Joinable n job.values job.categories job.weights
  pub banded : (length job.bands ≡ 0 → ⊥) → band_refusal n job.places job.bands (n * n) ≡ 0
  pub few_bands : length job.bands ≤ 8
  pub ranked : Rankable n job.values job.weights job.shuffles

-- the job in six lists, each of them whole
abbrev pub job_in : Lists → Job
job_in lists = record {
  values = lists.values.now;
  categories = lists.categories.now;
  weights = lists.weights.now;
  places = lists.places.now;
  bands = lists.bands.now;
  shuffles = lists.shuffles.now;
}

-- buffers that the reader takes
abbrev pub Exact : Buffers → Type 0
Exact lent = misfits (buffer_lengths lent) ≡ false

-- the counts that the reader answers, as the writer is given them
abbrev pub given_of : Counts → Given
given_of counts = record {
  values = counts.values;
  categories = counts.categories;
  places = counts.places;
  bands = counts.bands;
  shuffles = counts.shuffles;
}

-- buffers that hold a sound job, in as many first entries as the counts say
pub record Held (counts : Counts) (held : Buffers) : Type 0 where
  pub zones : counts.values ≤ 64
  pub places_few : counts.places ≤ 64
  pub shuffles_few : counts.shuffles ≤ 499
  pub values_in : counts.values ≤ length held.values
  pub categories_in : counts.categories ≤ length held.categories
  pub weights_in : counts.values * counts.values ≤ length held.weights
  pub places_in : 2 * counts.places ≤ length held.places
  pub bands_in : counts.bands ≤ length held.bands
  pub shuffles_in : counts.shuffles * counts.values ≤ length held.shuffles
  pub sound : SoundJob counts.values (lent_job (given_of counts) held)

-- ---- lines, from what the calls answer

-- the five lines of a job: the number of zones kept, S, M and W P G, then three ratios
unfoldable pub sum_lines : Sums → List ℕ
sum_lines sums =
    line "zones" (numbers (pos sums.kept ∷ sums.total ∷ sums.spread ∷ []))
    ++ line "joins" (numbers (sums.weight ∷ sums.cross ∷ sums.squares ∷ []))

unfoldable pub ratio_lines : Sums → Pair → List ℕ
ratio_lines sums pair =
    line "moran" (numbers (sums.cross ∷ (sums.weight *ℤ sums.spread) ∷ []) ++ coefficient pair.moran)
    ++ (line "geary"
    (numbers ((pos ((sums.kept - 1) * sums.kept) *ℤ sums.squares) ∷ ((pos 2 *ℤ sums.weight) *ℤ sums.spread) ∷ []) ++ coefficient pair.geary)
    ++ line "expected" (numbers (negsuc 0 ∷ pos (sums.kept - 1) ∷ [])))

-- the line of a zone
unfoldable pub zone_line : List ℤ → List ℕ → List Side → ℤ → ℕ → List ℕ
zone_line locals figures sides spread zone =
    line "local" (numbers (pos zone ∷ at locals zone ∷ spread ∷ []) ++ rounded (get_or figures zone 0) (get_or sides zone Equal))

-- the line of two categories
unfoldable pub table_line : List ℤ → ℕ → ℕ → List ℕ
table_line table r s = cond (lt_z (pos 0) (at table (r * 8 + s))) (line "pair" (numbers (pos r ∷ pos s ∷ at table (r * 8 + s) ∷ []))) []

-- the line of a class
unfoldable pub row_line : List ℤ → List Pair → ℕ → List ℕ
row_line rows pairs k =
    line "class"
    (numbers (pos k ∷ (row_at rows k).weight ∷ (row_at rows k).cross ∷ (row_at rows k).squares ∷ [])
    ++ (coefficient (get_or pairs k no_pair).moran ++ coefficient (get_or pairs k no_pair).geary))
