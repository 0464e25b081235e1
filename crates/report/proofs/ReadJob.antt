-- What a read leaves in the buffers is a job that no call refuses, and the report of the image is its text. Assumes nothing.
use mathlib.Core.Path.{◌≡◌, refl, sym, ap, ◌∙◌, subst}
use mathlib.Core.Bool.{false}
use mathlib.Core.List.{List, [], ◌∷◌}
use Prim.Native.Nat.{ℕ, ◌*◌, ◌/◌, ◌≤◌}
use native.Mathlib.Nat as N
use native.Mathlib.Omega.{arith}
use lib.ListN.{length, get_or}
use Rattle.whole.specs.Rules.{misfits}
use Rattle.whole.proofs.Rules.{worked_when_taken}
use Rattle.image.specs.Image.{Job, count, from_shuffles, job_of, image_refusal}
use Rattle.image.specs.Reader.{Buffers, buffer_lengths, counts_in, read_refusal, read_counts, read_left}
use Rattle.image.specs.RoundTrip.{given_in}
use Rattle.image.specs.Writer.{lent_job}
use Rattle.image.specs.declared.Given.{Given}
use Rattle.image.proofs.Theorems.{taken_by_all, taken_with_classes, job_counted, job_lengths, job_limits, job_left, lengths_left}
use Rattle.image.proofs.Theorems.{read_accepted, image_decides}
use Rattle.reader.specs.Answers.{six, counts_of}
use Rattle.reader.specs.declared.Counts.{Counts}
use Rattle.reader.proofs.Theorems.{read_answers}
use Rattle.std.specs.Prelude.{Result, Ok, Err}
use Rattle.refusals.specs.declared.Refusal.{Refusal}
use Rattle.refusals.specs.Refusals.{number_by, number_of}
use Rattle.refusals.proofs.Refusals.{left_by}
use Rattle.report.specs.Text.{job_text, image_text, length_in}
use Rattle.report.proofs.Puts.{put_over}
use Rattle.image.proofs.Buffers.{Exact}
use Rattle.report.specs.Steps.{Put, Prints, Rankable, SoundJob, Held, given_of}

-- ---- an image that is read
module _ (image : List ℕ) (lent : Buffers) (e : read_refusal image lent ≡ 0) where
  -- the rank takes its shuffles under any desk numbers
  rankable : Rankable (count image) (job_of image).values (job_of image).weights (job_of image).shuffles
  unfolding given_in
  rankable =
      let two = (job_counted image lent e).two in
      let rows =
      ap (λ m. m / count image) (job_lengths image lent e).shuffles ∙ N.mul-div_cancel (count (from_shuffles image)) (omega (arith, two)) in record {
        some = omega (arith, two);
        few = omega (arith, rows, (job_counted image lent e).shuffles);
        taken = λ desks each low. (taken_by_all image lent e).rank desks (each ∙ rows) low;
      }

  -- no call refuses its job
  sound : SoundJob (count image) (job_of image)
  unfolding given_in
  sound =
      let all = taken_by_all image lent e in
      let long = job_lengths image lent e in
      let few = job_limits image lent e in record {
        weighted = record {
          two = (job_counted image lent e).two;
          zones = few.zones;
          values_fit = long.values;
          weights_fit = long.weights;
          taken = all.account;
          classed = taken_with_classes image lent e;
        };
        joined = λ f. all.join_table (λ none. f (long.categories ∙ none));
        banded = λ f. all.bands (λ none. f (long.bands ∙ none));
        few_bands = omega (arith, long.bands, few.bands);
        ranked = rankable;
      }

  module _ (counts : Counts) (told : six counts ≡ counts_in image) (held : Buffers) (left : held ≡ read_left image lent) where
    given_same : given_of counts ≡ given_in image
    unfolding counts_in given_in
    given_same = same (at 0) (at 1) (at 3) (at 4) (at 5)
      where
        at : (k : ℕ) → get_or (six counts) k 0 ≡ get_or (counts_in image) k 0
        at k = ap (λ l. get_or l k 0) told

        same :
            {v c p b s v' c' p' b' s' : ℕ} → v ≡ v' → c ≡ c' → p ≡ p' → b ≡ b' → s ≡ s' →
            ◌≡◌ {A = Given} (record { values = v; categories = c; places = p; bands = b; shuffles = s })
            (record { values = v'; categories = c'; places = p'; bands = b'; shuffles = s' })
        same e1 e2 e3 e4 e5 = cc

    zones_same : counts.values ≡ count image
    unfolding given_in
    zones_same = ap (λ (g : Given). g.values) given_same

    -- the buffers hold that job
    job_same : lent_job (given_of counts) held ≡ job_of image
    job_same = ap (λ (g : Given). lent_job g held) given_same ∙ ap (lent_job (given_in image)) left ∙ job_left image lent e

    held_job : Held counts held
    unfolding given_in
    held_job =
        let c = job_counted image lent e in
        let few = job_limits image lent e in
        let x = subst (λ (b : Buffers). Exact b) (sym left) (lengths_left image lent e) in
        let z = zones_same in
        let k = ap (λ (g : Given). g.categories) given_same in
        let p = ap (λ (g : Given). g.places) given_same in
        let b = ap (λ (g : Given). g.bands) given_same in
        let s = ap (λ (g : Given). g.shuffles) given_same in
        let square = ap (λ (g : Given). g.values * g.values) given_same in
        let entries = ap (λ (g : Given). g.shuffles * g.values) given_same in record {
          zones = omega (arith, z, few.zones);
          places_few = omega (arith, p, few.places);
          shuffles_few = omega (arith, s, c.shuffles);
          values_in = omega (arith, z, few.zones, x.values);
          categories_in = omega (arith, k, few.categories, x.categories);
          weights_in = omega (arith, square, few.square, x.weights);
          places_in = omega (arith, p, few.places, x.places);
          bands_in = omega (arith, b, few.bands, x.bands);
          shuffles_in = omega (arith, entries, few.entries, x.shuffles);
          sound =
              subst (λ (n : ℕ). SoundJob n (lent_job (given_of counts) held)) (sym z)
              (subst (λ (j : Job). SoundJob (count image) j) (sym job_same) sound);
        }

    -- and its text is the image's
    text_same : job_text counts.values (lent_job (given_of counts) held) ≡ image_text image
    unfolding image_text
    text_same = ap (λ n. job_text n (lent_job (given_of counts) held)) zones_same ∙ ap (job_text (count image)) job_same

-- ---- by what the reader answers, and leaves in the buffers
pub record Told (image : List ℕ) (lent : Buffers) (r : Result Counts Refusal) (held : Buffers) : Type 0 where
  pub number : number_of r ≡ read_refusal image lent
  pub counted : counts_of r ≡ read_counts image lent
  pub left : held ≡ read_left image lent

-- counts, where nothing is refused
module _ {image : List ℕ} {lent held : Buffers} {counts : Counts} (told : Told image lent (Ok counts) held) where
  taken : read_refusal image lent ≡ 0
  taken = sym told.number

  its_counts : six counts ≡ counts_in image
  its_counts = read_answers image lent taken (Ok counts) told.counted counts refl

  pub read_held : Held counts held
  read_held = held_job image lent taken counts its_counts held told.left

  pub read_text : job_text counts.values (lent_job (given_of counts) held) ≡ image_text image
  read_text = text_same image lent taken counts its_counts held told.left

  -- what was put of it is what the page must hold
  pub read_prints :
      {old new : List ℕ} {place : ℕ} → Put old new 0 place 16203 (image_text image) → 16203 ≤ length old →
      Prints image old new (Ok place)
  unfolding length_in
  read_prints put room =
      let z = read_accepted image lent taken in record {
        number = sym z;
        long = ap (λ k. k ∷ []) (omega (arith, put.behind)) ∙ sym (worked_when_taken _ _ _ z);
        page = put_over put (omega (arith, put.behind, put.few, room)) ∙ sym (worked_when_taken _ _ _ z);
      }

-- a refusal leaves the page
pub refused_prints :
    (image : List ℕ) (lent : Buffers) {old : List ℕ} (e : Refusal) → number_by e ≡ read_refusal image lent →
    misfits (buffer_lengths lent) ≡ false → Prints image old old (Err e)
unfolding length_in
refused_prints image lent e told fits =
    let same : number_by e ≡ image_refusal image = told ∙ image_decides image lent fits in record {
      number = same;
      long = sym (left_by _ _ _ e same);
      page = sym (left_by _ _ _ e same);
    }
