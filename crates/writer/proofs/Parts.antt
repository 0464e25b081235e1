-- A job in the buffers: where its parts break no rule, the counts are within their limits and the lists have the
-- lengths that they say. Assumes nothing.
use mathlib.Core.Path.{◌≡◌}
use mathlib.Core.List.{List, ◌++◌, append_assoc}
use Prim.Native.Nat.{ℕ, ◌*◌}
use native.Mathlib.Omega.{arith}
use borrow.Author.Tests.{ltb-false}
use lib.ListN.{length, take}
use lib.Seq.{length-take-le}
use Rattle.whole.specs.Rules.{first_broken}
use Rattle.whole.proofs.Lists.{few}
use Rattle.whole.proofs.Rules.{holds}
use Rattle.judges.specs.Values.{any_value_beyond}
use Rattle.account.specs.Refusals.{job_refusal, sum_rules}
use Rattle.image.specs.Joins.{joins_of}
use Rattle.image.specs.Reader.{Buffers}
use Rattle.image.specs.Writer.{lent_job, part_rules}
use Rattle.image.specs.declared.Given.{Given}
use Rattle.image.proofs.Buffers.{exact}
use Rattle.image.proofs.Called.{limited, job_within}
use Rattle.image.proofs.Parts.{parted}
use Rattle.image.proofs.Weights.{weights_light, weights_clear, sums_decide}
use Rattle.writer.specs.Steps.{Sized, Storable}
use Rattle.writer.proofs.Joins.{joins_few}

-- six lists, one after the other
pub regroup :
    {A : Type 0} (a b c d e f : List A) → a ++ (b ++ (c ++ (d ++ (e ++ f)))) ≡ ((((a ++ b) ++ c) ++ d) ++ e) ++ f
regroup a b c d e f = simp append_assoc

-- the values and the weights of n zones in the buffers
pub values_there : (given : Given) (lent : Buffers) → Sized given lent → length (take given.values lent.values) ≡ given.values
values_there given lent sized =
    let z = sized.zones in length-take-le given.values lent.values (omega (arith, (exact lent sized.fits).values))

pub weights_there :
    (given : Given) (lent : Buffers) → Sized given lent →
    length (take (given.values * given.values) lent.weights) ≡ given.values * given.values
weights_there given lent sized =
    length-take-le (given.values * given.values) lent.weights
    (omega (arith, (exact lent sized.fits).weights, few given.values sized.zones))

-- of a job whose parts break no rule the account judges 6 and 7 alone
pub sums_last :
    (given : Given) (lent : Buffers) → Sized given lent → first_broken (part_rules given (lent_job given lent)) ≡ 0 →
    let n = given.values in let job = lent_job given lent in
    job_refusal n job.values job.weights ≡ first_broken (sum_rules n job.values job.weights)
unfolding lent_job
sums_last given lent sized e =
    let n = given.values in
    let job = lent_job given lent in
    let p = parted given job e in
    let there = weights_there given lent sized in
    sums_decide n job.values job.weights sized.two sized.zones (values_there given lent sized) there
    (holds (any_value_beyond job.values) 2 0 p.values).0 (weights_light n job.weights there p.weights)
    (weights_clear n job.weights there p.weights)

-- a job in the buffers whose parts break no rule is one that is written
pub storable :
    (given : Given) (lent : Buffers) (k : ℕ) → Sized given lent → first_broken (part_rules given (lent_job given lent)) ≡ 0 →
    k ≡ length (joins_of given.values (lent_job given lent).weights) → Storable given lent k
unfolding lent_job
storable given lent k sized e counted =
    let n = given.values in
    let job = lent_job given lent in
    let p = parted given job e in
    let few = limited given job sized.zones p in
    let fit = job_within given lent 0 few (exact lent sized.fits) in
    let joins = joins_few n (take (n * n) lent.weights) in
    let table = fit.weights in
    let square = few.square in
    let places = few.places in record {
      counted = record {
        zones = few.zones;
        categories = few.categories;
        joins_few = omega arith;
        places = omega arith;
        bands = few.bands;
        shuffles = ltb-false 499 given.shuffles p.shuffles_count;
      };
      joins = counted;
      values = fit.values;
      categories = fit.categories;
      places = fit.places;
      bands = fit.bands;
      shuffles = fit.shuffles;
    }
