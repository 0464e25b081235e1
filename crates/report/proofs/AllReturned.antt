-- Request A.7 is A.6 by the weights that count; where every value is returned these are the weights lent, so that the report is A.6's byte
-- for byte. Assumes nothing.
use mathlib.Core.Path.{◌≡◌, refl, sym, ap, ◌∙◌}
use mathlib.Core.List.{List}
use Prim.Native.Nat.{ℕ, ◌*◌}
use native.Mathlib.Omega.{arith}
use lib.ListN.{length}
use Rattle.kept.specs.Returned.{missing_count, reduced}
use Rattle.kept.proofs.Reduced.{none_counted}
use Rattle.account.specs.Refusals.{job_spread}
use Rattle.account.specs.Answers.{job_kept, job_locals}
use Rattle.account.specs.Classes.{class_row_of}
use Rattle.account.specs.Rank.{job_rank}
use Rattle.hot_list.specs.HotList.{in_order, hot_list}
use Rattle.coefficients.specs.Coefficients.{class_pair}
use Rattle.image.specs.Image.{Job, count, job_of, image_refusal}
use Rattle.image.specs.RoundTrip.{given_in}
use Rattle.image.proofs.Accepted.{accepted}
use Rattle.image.proofs.BytesBack.{within_counts}
use Rattle.report.specs.Text.{job_lines, local_lines, rank_line, class_lines, job_text, image_text}
use Rattle.report.specs.RequestSix.{six_text}

module _ (n : ℕ) (job : Job) where
  pub by_counting : job_text n job ≡ six_text n job (reduced n job.values job.weights)
  unfolding job_text six_text job_lines local_lines rank_line class_lines job_kept job_spread job_locals job_rank class_row_of class_pair in_order
      hot_list
  by_counting = refl

  pub all_returned_text :
      missing_count job.values ≡ 0 → length job.values ≡ n → length job.weights ≡ n * n → job_text n job ≡ six_text n job job.weights
  all_returned_text none v w =
      by_counting ∙ ap (six_text n job) (none_counted n job.values job.weights 0 (sym none) (omega arith) v w)

-- of an accepted image
pub all_returned_report :
    (image : List ℕ) → image_refusal image ≡ 0 → missing_count (job_of image).values ≡ 0 →
    image_text image ≡ six_text (count image) (job_of image) (job_of image).weights
unfolding image_text given_in
all_returned_report image e none =
    let fit = within_counts image (accepted image e) in
    all_returned_text (count image) (job_of image) none fit.values fit.weights
