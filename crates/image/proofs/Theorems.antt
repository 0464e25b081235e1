-- What the buyer asks for of the job image. Assumes nothing.
use mathlib.Core.Path.{◌≡◌, refl, sym, ap, ◌∙◌, subst}
use mathlib.Core.Bool.{false}
use mathlib.Core.List.{List, [], ◌∷◌}
use Prim.Native.Nat.{ℕ, ◌*◌, ◌≤◌, ◌<◌}
use native.Mathlib.Omega.{arith}
use lib.ListN.{length, get_or, take, drop}
use lib.Seq.{take_at}
use Rattle.whole.specs.Rules.{first_broken, Applies, misfits}
use Rattle.whole.specs.Search.{any_above}
use Rattle.whole.proofs.Rules.{in_range, first_applies, worked_when_taken, kept_when_refused}
use Rattle.whole.specs.Table.{over}
use Rattle.account.specs.Classes.{class_rules}
use Rattle.account.specs.Refusals.{sum_rules}
use Rattle.image.specs.Image.{Job, count, job_of, image_refusal, job_bytes}
use Rattle.image.specs.Reader.{Buffers, buffer_lengths, filled, counts_in, read_rules, read_refusal, read_counts, read_left}
use Rattle.image.specs.Writer.{lent_job, write_rules, write_refusal, write_length, write_left}
use Rattle.image.specs.RoundTrip.{ReadBack, given_in, left, WrittenBack, TakenByAll}
use Rattle.image.specs.declared.Given.{Given}
use Rattle.image.proofs.Accepted.{Counted, accepted, counted}
use Rattle.image.proofs.BytesBack.{within_counts, image_parts, bytes_same}
use Rattle.image.proofs.Buffers.{Exact, exact}
use Rattle.image.proofs.Called.{
  Within,
  Limited,
  read_taken,
  read_let_in,
  limited,
  lent_filled,
  filled_exact,
  write_taken,
  write_let_in,
  job_within,
  job_writable,
}
use Rattle.image.proofs.FirstBytes.{accepted_short}
use Rattle.image.proofs.ItemKinds.{Bytes}
use Rattle.image.proofs.Laid as laid
use Rattle.image.proofs.Parts.{Parted}
use Rattle.image.proofs.TakenByAll.{all_take, classes_taken}
-- stated where they are proved: every number that the two calls can give
pub use Rattle.image.proofs.Numbers.{reading_total, writing_total}

-- six counts that are the same
six :
    {v c j p b s v' c' j' p' b' s' : ℕ} → v ≡ v' → c ≡ c' → j ≡ j' → p ≡ p' → b ≡ b' → s ≡ s' →
    ◌≡◌ {A = List ℕ} (v ∷ c ∷ j ∷ p ∷ b ∷ s ∷ []) (v' ∷ c' ∷ j' ∷ p' ∷ b' ∷ s' ∷ [])
six e1 e2 e3 e4 e5 e6 = cc

-- ---- a job that the writer takes, written and read, is the same job with the same counts; the bands are 4-byte numbers, as their type is
pub written_then_read :
    (given : Given) (lent : Buffers) (out : List ℕ) (others : Buffers) → ((k : ℕ) → get_or lent.bands k 0 < 4294967296) →
    write_refusal given lent (length out) ≡ 0 → misfits (buffer_lengths others) ≡ false → ReadBack given lent out others
unfolding read_counts counts_in read_left write_left write_length
written_then_read given lent out others words e x =
    let t = write_taken given lent (length out) e in
    let job = lent_job given lent in
    let image = job_bytes given job in
    let w = job_writable given lent (length out) words t in
    let fit =
    job_within given lent (length out) (limited given job (in_range 2 64 given.values t.zones).1 t.parts) t.buffers in
    let taken = read_let_in image others (exact others x) (laid.image_taken given job w) in
    let filling = worked_when_taken (write_refusal given lent (length out)) (over image out) out e in record {
      written = ap (take (length image)) filling ∙ take_at image (drop (length image) out) (length image) refl;
      long = worked_when_taken (write_refusal given lent (length out)) (length image ∷ []) [] e;
      taken = taken;
      counts =
          worked_when_taken (read_refusal image others) (counts_in image) [] taken
          ∙ six (laid.values_count given job w) (laid.categories_count given job w) (laid.joins_count given job w)
          (laid.places_count given job w) (laid.bands_count given job w) (laid.shuffles_count given job w);
      job =
          ap (lent_job given) (worked_when_taken (read_refusal image others) (filled (job_of image) others) others taken)
          ∙ ap (λ j. lent_job given (filled j others)) (laid.job_is given job w)
          ∙ lent_filled given job fit others;
    }

-- ---- an accepted image, read and written, is the same bytes. An image is bytes, as its type says
pub read_then_written :
    (image : List ℕ) (lent : Buffers) (out : List ℕ) → Bytes image → read_refusal image lent ≡ 0 → length image ≤ length out →
    WrittenBack image lent out
unfolding read_left write_left write_length given_in
read_then_written image lent out h e room =
    let r = read_taken image lent e in
    let a = accepted image r.1 in
    let given = given_in image in
    let job = job_of image in
    let fit = within_counts image a in
    let zones = a.values.counted in
    let few = limited given job (in_range 2 64 (count image) zones).1 (image_parts image a) in
    let is : left image lent out ≡ filled job lent = worked_when_taken (read_refusal image lent) (filled job lent) lent e in
    let same : lent_job given (left image lent out) ≡ job = ap (lent_job given) is ∙ lent_filled given job fit lent in
    let bytes : job_bytes given (lent_job given (left image lent out)) ≡ image = ap (job_bytes given) same ∙ bytes_same image a h in
    let taken = write_let_in given (left image lent out) (length out)
    (record {
      zones = zones;
      buffers = subst (λ (b : Buffers). Exact b) (sym is) (filled_exact given job fit few lent r.0);
      parts = subst (λ (j : Job). Parted given j) (sym same) (image_parts image a);
      sums = ap (λ (j : Job). first_broken (sum_rules (count image) j.values j.weights)) same ∙ a.sums;
      room_enough = let l = ap length bytes in omega arith;
    }) in record {
      taken = taken;
      long =
          worked_when_taken (write_refusal given (left image lent out) (length out)) _ [] taken
          ∙ ap (λ (b : List ℕ). length b ∷ []) bytes;
      bytes =
          worked_when_taken (write_refusal given (left image lent out) (length out)) _ out taken ∙ ap (λ (b : List ℕ). over b out) bytes;
    }

-- ---- an accepted image has at most 44,908 bytes
pub at_most_44908 : (image : List ℕ) (lent : Buffers) → read_refusal image lent ≡ 0 → length image ≤ 44908
at_most_44908 image lent e = accepted_short image (read_taken image lent e).1

-- ---- the job of an accepted image is taken by the other calls, and a class account or a report under classes 0 to 8 takes it too
pub taken_by_all : (image : List ℕ) (lent : Buffers) → read_refusal image lent ≡ 0 → TakenByAll image
taken_by_all image lent e = all_take image (accepted image (read_taken image lent e).1)

pub taken_with_classes :
    (image : List ℕ) (lent : Buffers) → read_refusal image lent ≡ 0 → (classes : List ℕ) (further : List (ℕ × ℕ)) →
    length classes ≡ count image * count image → any_above 8 classes ≡ false → misfits further ≡ false →
    first_broken (class_rules (count image) (job_of image).values (job_of image).weights classes further) ≡ 0
taken_with_classes image lent e = classes_taken image (accepted image (read_taken image lent e).1)

-- ---- a refusal's number is that of a broken rule, no earlier rule being broken, and a refusal leaves everything as it was
pub read_refusal_applies :
    (image : List ℕ) (lent : Buffers) → (read_refusal image lent ≡ 0 → ⊥) → Applies (read_refusal image lent) (read_rules image lent)
unfolding read_refusal
read_refusal_applies image lent f = first_applies (read_rules image lent) f

pub write_refusal_applies :
    (given : Given) (lent : Buffers) (room : ℕ) → (write_refusal given lent room ≡ 0 → ⊥) →
    Applies (write_refusal given lent room) (write_rules given lent room)
unfolding write_refusal
write_refusal_applies given lent room f = first_applies (write_rules given lent room) f

pub read_leaves : (image : List ℕ) (lent : Buffers) → (read_refusal image lent ≡ 0 → ⊥) → read_left image lent ≡ lent
unfolding read_left
read_leaves image lent f = kept_when_refused (read_refusal image lent) (filled (job_of image) lent) lent f

pub write_leaves :
    (given : Given) (lent : Buffers) (out : List ℕ) → (write_refusal given lent (length out) ≡ 0 → ⊥) → write_left given lent out ≡ out
unfolding write_left
write_leaves given lent out f =
    kept_when_refused (write_refusal given lent (length out)) (over (job_bytes given (lent_job given lent)) out) out f

-- ---- what a read leaves in each buffer
pub read_stores : (image : List ℕ) (lent : Buffers) → read_refusal image lent ≡ 0 → read_left image lent ≡ filled (job_of image) lent
unfolding read_left
read_stores image lent e = worked_when_taken (read_refusal image lent) (filled (job_of image) lent) lent e

-- ---- the job that a read leaves at the front of the buffers, which keep their lengths; how long its lists are, and how long they can be
module _ (image : List ℕ) (lent : Buffers) (e : read_refusal image lent ≡ 0) where
  pub job_counted : Counted image
  job_counted = counted image (accepted image (read_taken image lent e).1)

  pub job_lengths : Within (given_in image) (job_of image)
  job_lengths = within_counts image (accepted image (read_taken image lent e).1)

  pub job_limits : Limited (given_in image)
  unfolding given_in
  job_limits =
      let a = accepted image (read_taken image lent e).1 in
      limited (given_in image) (job_of image) (in_range 2 64 (count image) a.values.counted).1 (image_parts image a)

  pub job_left : lent_job (given_in image) (read_left image lent) ≡ job_of image
  job_left = ap (lent_job (given_in image)) (read_stores image lent e) ∙ lent_filled (given_in image) (job_of image) job_lengths lent

  pub lengths_left : Exact (read_left image lent)
  lengths_left =
      subst (λ (b : Buffers). Exact b) (sym (read_stores image lent e))
      (filled_exact (given_in image) (job_of image) job_lengths job_limits lent (read_taken image lent e).0)

-- ---- an image that is read is accepted; buffers of their exact lengths break no rule of the call, so that the image alone decides
pub read_accepted : (image : List ℕ) (lent : Buffers) → read_refusal image lent ≡ 0 → image_refusal image ≡ 0
read_accepted image lent e = (read_taken image lent e).1

pub image_decides :
    (image : List ℕ) (lent : Buffers) → misfits (buffer_lengths lent) ≡ false → read_refusal image lent ≡ image_refusal image
unfolding read_refusal read_rules image_refusal
image_decides image lent x = rw x
