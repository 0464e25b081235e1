-- The reader and the writer as calls: what their refusal of 0 tells of buffers and counts, and what lets a job or an image in.
-- Assumes nothing.
use mathlib.Core.Path.{◌≡◌, ap, ◌∙◌}
use mathlib.Core.Bool.{Bool, false, cond}
use mathlib.Core.List.{List, [], ◌∷◌, ◌++◌}
use Prim.Native.Nat.{ℕ, ◌*◌, ◌≤◌, ◌<◌}
use native.Mathlib.Nat as N
use native.Mathlib.Omega.{arith}
use borrow.Author.Tests.{le-ltb, ltb-false}
use lib.Dec.{ltb}
use lib.ListN.{length, get_or, take, drop, length-append, length-drop}
use lib.Seq.{length-take-le, take_at, get_or-take}
use Rattle.whole.specs.Rules.{Rule, first_broken, misfits, outside}
use Rattle.whole.proofs.InTurn.{none_of_both, second_decides}
use Rattle.whole.proofs.Rules.{holds, in_range, neither}
use Rattle.whole.specs.Table.{over}
use Rattle.account.specs.Refusals.{sum_rules}
use Rattle.image.specs.Image.{Job, image_refusal, job_bytes}
use Rattle.image.specs.Reader.{Buffers, buffer_lengths, read_rules, read_refusal, filled}
use Rattle.image.specs.Writer.{lent_job, part_rules, write_rules, write_refusal}
use Rattle.image.specs.declared.Given.{Given}
use Rattle.image.proofs.Accepted.{at_most_all}
use Rattle.image.proofs.Buffers.{Exact, exact, exactly}
use Rattle.image.proofs.JoinCount.{joins_few}
use Rattle.image.proofs.Laid.{Writable}
use Rattle.image.proofs.Limits.{all_from}
use Rattle.image.proofs.Parts.{Parted, parted, parts_let_in, parts_numbered}

-- ---- the reader
pub read_taken : (image : List ℕ) (lent : Buffers) → read_refusal image lent ≡ 0 → Exact lent × (image_refusal image ≡ 0)
unfolding read_refusal read_rules image_refusal
read_taken image lent e = let both = holds (misfits (buffer_lengths lent)) 1 _ e in (exact lent both.0, both.1)

pub read_let_in : (image : List ℕ) (lent : Buffers) → Exact lent → image_refusal image ≡ 0 → read_refusal image lent ≡ 0
unfolding read_refusal read_rules image_refusal
read_let_in image lent x e = rw (exactly lent x) e

-- ---- a job's lists within the buffers
pub record Within (given : Given) (job : Job) : Type 0 where
  pub values : length job.values ≡ given.values
  pub categories : length job.categories ≡ given.categories
  pub weights : length job.weights ≡ given.values * given.values
  pub places : length job.places ≡ 2 * given.places
  pub bands : length job.bands ≡ given.bands
  pub shuffles : length job.shuffles ≡ given.shuffles * given.values

-- counts that the rules allow
pub record Limited (given : Given) : Type 0 where
  pub zones : given.values ≤ 64
  pub categories : given.categories ≤ 64
  pub square : given.values * given.values ≤ 4096
  pub places : 2 * given.places ≤ 128
  pub bands : given.bands ≤ 8
  pub entries : given.shuffles * given.values ≤ 31936

pub limited : (given : Given) (job : Job) → given.values ≤ 64 → Parted given job → Limited given
limited given job z p =
    let n = given.values in
    let c = at_most_all n given.categories p.categories_count in
    let q = at_most_all n given.places p.places_count in
    let s = ltb-false 499 given.shuffles p.shuffles_count in record {
      zones = z;
      categories = omega arith;
      square = N.mul-le-mul {n₂ = 64} {m₂ = 64} z z;
      places = omega arith;
      bands = ltb-false 8 given.bands (neither (ltb 8 given.bands) _ p.bands_count).0;
      entries = N.mul-le-mul {n₂ = 499} {m₂ = 64} s z;
    }

-- a job that is put into buffers and taken out again is the same
module _ (given : Given) (job : Job) (fit : Within given job) where
  front : {A : Type 0} (xs old : List A) (k : ℕ) → length xs ≡ k → take k (over xs old) ≡ xs
  front xs old k e = take_at xs (drop (length xs) old) k e

  pub lent_filled : (lent : Buffers) → lent_job given (filled job lent) ≡ job
  unfolding lent_job filled
  lent_filled lent =
      rw (
        front job.values lent.values given.values fit.values,
        front job.categories lent.categories given.categories fit.categories,
        front job.weights lent.weights (given.values * given.values) fit.weights,
        front job.places lent.places (2 * given.places) fit.places,
        front job.bands lent.bands given.bands fit.bands,
        front job.shuffles lent.shuffles (given.shuffles * given.values) fit.shuffles,
      )

  -- and the buffers keep their lengths
  kept : {A : Type 0} (xs old : List A) (k m : ℕ) → length xs ≡ k → k ≤ m → length old ≡ m → length (over xs old) ≡ m
  kept xs old k m e l f = omega (arith, length-append xs (drop (length xs) old), length-drop (length xs) old)

  pub filled_exact : Limited given → (lent : Buffers) → Exact lent → Exact (filled job lent)
  unfolding filled
  filled_exact few lent x = record {
    values = kept job.values lent.values given.values 64 fit.values few.zones x.values;
    categories = kept job.categories lent.categories given.categories 64 fit.categories few.categories x.categories;
    weights = kept job.weights lent.weights (given.values * given.values) 4096 fit.weights few.square x.weights;
    places = kept job.places lent.places (2 * given.places) 128 fit.places few.places x.places;
    bands = kept job.bands lent.bands given.bands 8 fit.bands few.bands x.bands;
    shuffles = kept job.shuffles lent.shuffles (given.shuffles * given.values) 31936 fit.shuffles few.entries x.shuffles;
  }

-- ---- the writer

-- what it takes
pub record Taken (given : Given) (lent : Buffers) (room : ℕ) : Type 0 where
  pub zones : outside 2 64 given.values ≡ false
  pub buffers : Exact lent
  pub parts : Parted given (lent_job given lent)
  pub sums : first_broken (sum_rules given.values (lent_job given lent).values (lent_job given lent).weights) ≡ 0
  pub room_enough : length (job_bytes given (lent_job given lent)) ≤ room

module _ (given : Given) (lent : Buffers) (room : ℕ) where
  abbrev job : Job
  job = lent_job given lent

  abbrev last : List Rule
  last = (ltb room (length (job_bytes given job)), 19) ∷ []

  abbrev sums : List Rule
  sums = sum_rules given.values job.values job.weights

  pub write_taken : write_refusal given lent room ≡ 0 → Taken given lent room
  unfolding write_refusal write_rules
  write_taken e =
      let z = holds (outside 2 64 given.values) 0 _ e in
      let b = holds (misfits (buffer_lengths lent)) 1 _ z.1 in
      let p = none_of_both (sums ++ last) (part_rules given job) (parts_numbered given job) b.1 in
      let s = none_of_both last sums (tt, (tt, tt)) p.1 in
      let r = holds (ltb room (length (job_bytes given job))) 18 0 s.1 in record {
        zones = z.0;
        buffers = exact lent b.0;
        parts = parted given job p.0;
        sums = s.0;
        room_enough = ltb-false room (length (job_bytes given job)) r.0;
      }

  pub write_let_in : Taken given lent room → write_refusal given lent room ≡ 0
  unfolding write_refusal write_rules
  write_let_in t =
      let after_parts : first_broken (part_rules given job ++ (sums ++ last)) ≡ 0 =
      second_decides (sums ++ last) (part_rules given job) (parts_numbered given job) (parts_let_in given job t.parts)
      ∙ second_decides last sums (tt, (tt, tt)) t.sums
      ∙ rw (le-ltb room (length (job_bytes given job)) t.room_enough) in
      ap (λ (b : Bool). cond {A = ℕ} b 1 (cond (misfits (buffer_lengths lent)) 2 (first_broken (part_rules given job ++ (sums ++ last)))))
      t.zones
      ∙ ap (λ (b : Bool). cond {A = ℕ} b 2 (first_broken (part_rules given job ++ (sums ++ last)))) (exactly lent t.buffers)
      ∙ after_parts

  -- the job in its buffers has the lengths that the counts say
  pub job_within : Limited given → Exact lent → Within given job
  unfolding lent_job
  job_within few x =
      let a = few.zones in
      let b = few.categories in
      let c = few.square in
      let d = few.places in
      let f = few.bands in
      let g = few.entries in
      let x1 = x.values in
      let x2 = x.categories in
      let x3 = x.weights in
      let x4 = x.places in
      let x5 = x.bands in
      let x6 = x.shuffles in record {
        values = length-take-le given.values lent.values (omega arith);
        categories = length-take-le given.categories lent.categories (omega arith);
        weights = length-take-le (given.values * given.values) lent.weights (omega arith);
        places = length-take-le (2 * given.places) lent.places (omega arith);
        bands = length-take-le given.bands lent.bands (omega arith);
        shuffles = length-take-le (given.shuffles * given.values) lent.shuffles (omega arith);
      }

  -- and so it is a job that can be written and read back, where the bands are 4-byte numbers
  pub job_writable : ((k : ℕ) → get_or lent.bands k 0 < 4294967296) → Taken given lent room → Writable given job
  unfolding lent_job
  job_writable words t =
      let z = in_range 2 64 given.values t.zones in
      let fit = job_within (limited given job z.1 t.parts) t.buffers in record {
        zones = t.zones;
        some = omega (arith, z.0);
        values_fit = fit.values;
        categories_fit = fit.categories;
        weights_fit = fit.weights;
        joins_fit = joins_few given.values job.weights z.1 fit.weights t.parts.weights;
        places_fit = fit.places;
        bands_fit = fit.bands;
        shuffles_fit = fit.shuffles;
        words_fit =
            all_from (λ u. u < 4294967296) 0 job.bands
            (λ k h. let e = get_or-take given.bands lent.bands k 0 (let f = fit.bands in omega arith) in omega (arith, words k));
        parts = t.parts;
        sums = t.sums;
      }
