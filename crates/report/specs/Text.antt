-- A whole report, as document 01 writes it out: the text of an image, which is the lines of its job, or `refused` and the number.
-- Assumes nothing.
use Rattle.std.specs.Prelude.{◌≡◌, cond, List, [], ◌∷◌, ◌++◌, ℕ, suc, ◌-◌, ◌*◌, ℤ, pos, negsuc, ◌*ℤ◌, length, take, Result, Ok, Err}
use Rattle.std.specs.Int.Signed.{lt_z}
use Rattle.whole.specs.Rules.{first_broken, misfits, unless_refused}
use Rattle.whole.specs.Table.{table, at, pair_at, each, over}
use Rattle.refusals.specs.declared.Refusal.{Refusal}
use Rattle.kept.specs.Kept.{keeps, kept_count, kept_values, kept_pairs}
use Rattle.kept.specs.Returned.{reduced}
use Rattle.account.specs.Measures.{total_of, deviation_of, spread_of, weight_of, cross_of, squares_of}
use Rattle.account.specs.Refusals.{job_spread}
use Rattle.account.specs.Answers.{job_locals}
use Rattle.account.specs.Classes.{class_row_of}
use Rattle.account.specs.Rank.{job_rank}
use Rattle.hot_list.specs.HotList.{hot_list}
use Rattle.joins.specs.Joins.{category_at, joins_of}
use Rattle.places.specs.Bands.{band_classes}
use Rattle.account.specs.declared.ClassRow.{ClassRow}
use Rattle.coefficients.specs.Coefficients.{class_pair}
use Rattle.coefficients.specs.declared.Pair.{Pair}
use Rattle.image.specs.Image.{Job, count, job_of, image_rules, image_refusal}
use Rattle.pages.specs.Lines.{line, numbers}
use Rattle.report.specs.Lines.{figure, coefficient}

-- 0, 1, .., n − 1
abbrev pub numbered : ℕ → List ℕ
numbered n = table (λ k. k) n

-- counts as whole numbers
abbrev pub whole : List ℕ → List ℤ
whole [] = []
whole (k ∷ more) = pos k ∷ whole more

-- ---- lines of figures

-- of m zones with the values x and the weights w: their number, S, M; W P G; Moran's I; Geary's c; the expected I, -1 / (m − 1)
module _ (m : ℕ) (x : ℕ → ℤ) (w : ℕ → ℕ → ℕ) where
  abbrev S : ℤ
  S = total_of x m

  abbrev M : ℤ
  M = spread_of x m

  abbrev W : ℤ
  W = weight_of w m

  abbrev P : ℤ
  P = cross_of w (deviation_of x m) m

  abbrev G : ℤ
  G = squares_of w x m

  unfoldable pub whole_lines : List ℕ
  whole_lines =
      line "zones" (numbers (pos m ∷ S ∷ M ∷ []))
      ++ (line "joins" (numbers (W ∷ P ∷ G ∷ []))
      ++ (line "moran" (figure [] P (W *ℤ M))
      ++ (line "geary" (figure [] (pos ((m - 1) * m) *ℤ G) ((pos 2 *ℤ W) *ℤ M))
      ++ line "expected" (numbers (negsuc 0 ∷ pos (m - 1) ∷ [])))))

-- zone, L, M and the bits of L / M with their sign
unfoldable pub local_line : List ℤ → ℤ → ℕ → List ℕ
local_line locals spread zone = line "local" (figure (pos zone ∷ []) (at locals zone) spread)

-- class, W, P, G, Moran, Geary
unfoldable pub class_line : ClassRow → Pair → ℕ → List ℕ
class_line row pair k =
    line "class"
    (numbers (pos k ∷ row.weight ∷ row.cross ∷ row.squares ∷ []) ++ (coefficient pair.moran ++ coefficient pair.geary))

-- less, equal, greater
unfoldable pub counts_line : List ℕ → List ℕ
counts_line counts = line "rank" (numbers (whole counts))

-- ---- of values and weights of n zones
module _ (n : ℕ) (values : List ℤ) (weights : List ℕ) where
  -- the weights that count
  abbrev w : List ℕ
  w = reduced n values weights

  -- the whole job: what holds of the zones kept
  unfoldable pub job_lines : List ℕ
  job_lines = whole_lines (kept_count n w) (at (kept_values n w values)) (pair_at (kept_pairs n w w) (kept_count n w))

  -- the zones in hot-list order; one that is left out has no line
  unfoldable pub local_lines : List ℕ
  local_lines =
      each
      (λ zone. cond (keeps n w zone) (local_line (job_locals n values weights) (job_spread n values weights) zone) [])
      (hot_list n values weights)

  unfoldable pub rank_line : List ℕ → List ℕ
  rank_line shuffles = counts_line (job_rank n values weights shuffles)

  -- class 0 up to the band count, under the classes that the bands give
  unfoldable pub class_lines : List ℤ → List ℕ → List ℕ
  class_lines places bands =
      let classes = band_classes n places bands in
      each (λ k. class_line (class_row_of n values weights classes k) (class_pair n values weights classes k) k)
      (numbered (suc (length bands)))

-- ---- of categories of n zones, and weights that all count
module _ (n : ℕ) (categories weights : List ℕ) where
  -- r, s, T where T is above 0
  unfoldable pub pair_line : ℕ → ℕ → List ℕ
  pair_line r s =
      let t = joins_of (pair_at weights n) (category_at categories) n r s in
      cond (lt_z (pos 0) t) (line "pair" (numbers (pos r ∷ pos s ∷ t ∷ []))) []

  -- by rising r, then s
  unfoldable pub pair_lines : List ℕ
  pair_lines = each (λ r. each (pair_line r) (numbered 8)) (numbered 8)

-- ---- the whole text

-- lines that need a list: none where nothing is in it
abbrev pub where_given : {A : Type 0} → List A → List ℕ → List ℕ
where_given [] lines = []
where_given (item ∷ more) lines = lines

-- pair lines need categories, class lines bands, the rank line a shuffle
unfoldable pub job_text : ℕ → Job → List ℕ
job_text n job =
    job_lines n job.values job.weights
    ++ (local_lines n job.values job.weights
    ++ (where_given job.categories (pair_lines n job.categories (reduced n job.values job.weights))
    ++ (where_given job.bands (class_lines n job.values job.weights job.places job.bands)
    ++ where_given job.shuffles (rank_line n job.values job.weights job.shuffles))))

-- ---- the report of an image

-- the text of an image that is accepted
unfoldable pub image_text : List ℕ → List ℕ
image_text image = job_text (count image) (job_of image)

-- the line of one that is refused
unfoldable pub refusal_line : ℕ → List ℕ
refusal_line number = line "refused" (numbers (pos number ∷ []))

-- what the report program prints
unfoldable pub report_text : List ℕ → List ℕ
report_text image = unless_refused (image_refusal image) (image_text image) (refusal_line (image_refusal image))

-- so many first bytes of an image decide its report
abbrev pub Decides : ℕ → Type 0
Decides many = (image : List ℕ) → report_text (take many image) ≡ report_text image

-- ---- what the calls answer, by its cases

-- the length of the text, none where the call is refused
unfoldable pub length_in : Result ℕ Refusal → List ℕ
length_in (Ok long) = long ∷ []
length_in (Err refusal) = []

-- ---- the report: a page of 16,384 places is lent
module _ (image page : List ℕ) where
  -- 2, then the image's rules by place; the refusal is 0 where no rule is broken
  unfoldable pub print_refusal : ℕ
  print_refusal = first_broken ((misfits ((length page, 16384) ∷ []), 2) ∷ image_rules image)

  unfoldable pub print_length : List ℕ
  print_length = unless_refused print_refusal (length (image_text image) ∷ []) []

  -- the text stands at the page's front
  unfoldable pub page_left : List ℕ
  page_left = unless_refused print_refusal (over (image_text image) page) page

-- ---- the line of a refusal: such a page is lent

-- 2 alone
unfoldable pub line_refusal : List ℕ → ℕ
line_refusal page = first_broken ((misfits ((length page, 16384) ∷ []), 2) ∷ [])

unfoldable pub line_length : ℕ → List ℕ → List ℕ
line_length number page = unless_refused (line_refusal page) (length (refusal_line number) ∷ []) []

unfoldable pub line_left : ℕ → List ℕ → List ℕ
line_left number page = unless_refused (line_refusal page) (over (refusal_line number) page) page
