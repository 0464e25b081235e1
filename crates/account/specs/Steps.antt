-- What the private functions ask of each other; no part of the public promise. Assumes nothing.
use Rattle.std.specs.Prelude.{◌≡◌, false, cond, List, ℕ, zero, suc, ◌+◌, ◌*◌, ◌≤◌, ◌<◌, eqb, ltb, ℤ, pos, nat_abs, ◌+ℤ◌, ◌-ℤ◌, length, get_or}
use Rattle.std.specs.declared.cmp.Ordering.{Ordering}
use Rattle.std.specs.declared.cmp.Ordering.TheVariants.{Less, Equal, Greater}
use Rattle.whole.specs.Integer.{square}
use Rattle.whole.specs.Search.{first}
use Rattle.whole.specs.Sum.{sum}
use Rattle.whole.specs.Table.{table, table_rows, at, pair_at}
use Rattle.judges.specs.Values.{any_value_beyond}
use Rattle.kept.specs.Kept.{passing, kept_count, kept_values, kept_pairs, kept_shuffles}
use Rattle.kept.specs.Returned.{reduced}
use Rattle.account.specs.Measures.{deviation_of, row_of, cross_of, local_of}
use Rattle.account.specs.Answers.{zones_local}
use Rattle.account.specs.Classes.{class_weight, zones_class_row, zones_class_local, sum_at}
use Rattle.account.specs.Rank.{shuffled, zones_desk, four}
use Rattle.account.specs.declared.ClassRow.{ClassRow}
use Rattle.account.specs.declared.Counts.{Counts}

-- the most that a local numerator of a job can be in size
abbrev pub most_local : ℕ
most_local = 94371840000000000

-- n numbers, each at most b in size
pub record Sized (b : ℕ) (numbers : List ℤ) (n : ℕ) : Type 0 where
  pub count : length numbers ≡ n
  pub size : (k : ℕ) → k < n → nat_abs (at numbers k) ≤ b

-- the values of n zones
pub record Valued (values : List ℤ) (n : ℕ) : Type 0 where
  pub zones : n ≤ 64
  pub near : Sized 100000 values n

-- the weights between n zones, each at most 9
pub record Weighted (weights : List ℕ) (n : ℕ) : Type 0 where
  pub zones : n ≤ 64
  pub count : length weights ≡ n * n
  pub light : (k : ℕ) → k < n * n → get_or weights k 0 ≤ 9

-- both
pub record Job (values : List ℤ) (weights : List ℕ) (n : ℕ) : Type 0 where
  pub valued : Valued values n
  pub weighted : Weighted weights n

-- classes of the pairs of n zones, each at most 8
pub record Classed (classes : List ℕ) (n : ℕ) : Type 0 where
  pub count : length classes ≡ n * n
  pub low : (k : ℕ) → k < n * n → get_or classes k 0 ≤ 8

-- a job with such classes
pub record ClassJob (values : List ℤ) (weights classes : List ℕ) (n : ℕ) : Type 0 where
  pub job : Job values weights n
  pub classed : Classed classes n

-- the lists of a job as they are lent, in which 3 and 4 hold: a value that is not returned has no limit
pub record Lent (values : List ℤ) (weights : List ℕ) (n : ℕ) : Type 0 where
  pub count : length values ≡ n
  pub near : any_value_beyond values ≡ false
  pub weighted : Weighted weights n

-- ---- the zones kept, as the code has them: a list of zones below n, rising
pub record Zones (zones : List ℕ) (n : ℕ) : Type 0 where
  pub most : n ≤ 64
  pub few : length zones ≤ n
  pub below : (k : ℕ) → k < length zones → get_or zones k 0 < n
  pub rising : (k l : ℕ) → k < l → l < length zones → get_or zones k 0 < get_or zones l 0

-- what a list that has an entry for each zone holds of some zones
abbrev pub gathered : List ℤ → List ℕ → List ℤ
gathered values zones = table (λ k. at values (get_or zones k 0)) (length zones)

-- what zone i's row of n holds of the k-th of some zones, and the rows of all of them
abbrev pub gathered_pair : ℕ → List ℕ → List ℕ → ℕ → ℕ → ℕ
gathered_pair n pairs zones i k = pair_at pairs n i (get_or zones k 0)

abbrev pub gathered_pairs : ℕ → List ℕ → List ℕ → List ℕ
gathered_pairs n pairs zones = table_rows (λ k. gathered_pair n pairs zones (get_or zones k 0)) (length zones) (length zones)

-- the place of zone i in a list of zones, which is the list's length where it does not stand there
abbrev pub place_in : List ℕ → ℕ → ℕ
place_in zones i = first (λ k. eqb (get_or zones k 0) i) (length zones)

-- what zone i has of so many numbers, by its place: 0 where it has none
abbrev pub at_place : List ℕ → ℕ → (ℕ → ℤ) → ℕ → ℤ
at_place places many numbers i = cond (ltb (get_or places i 0) many) (numbers (get_or places i 0)) (pos 0)

-- the k-th number of a row of n that has a place below `many`, by that place
abbrev pub placed_number : List ℕ → ℕ → ℕ → (ℕ → ℕ) → ℕ → ℕ
placed_number places many n row k = get_or places (row (get_or (passing (λ p. ltb (get_or places (row p) 0) many) n) k 0)) 0

-- the lists of a job, as a judge that accepts them hands them on: m zones, the values x and the weights w
pub record Judged (n : ℕ) (values : List ℤ) (weights : List ℕ) (m : ℕ) (x : List ℤ) (w : List ℕ) : Type 0 where
  pub zones : m ≡ n
  pub of_values : x ≡ values
  pub of_weights : w ≡ weights

-- ---- what is worked of n zones all of which count, in lists

-- the local numerators
unfoldable pub zones_locals : ℕ → List ℤ → List ℕ → List ℤ
zones_locals n values weights = table (zones_local n values weights) n

-- the nine class rows, and the local numerators of each class
unfoldable pub zones_class_sums : ℕ → List ℤ → List ℕ → List ℕ → List ℤ
zones_class_sums n values weights classes = table_rows (λ k. sum_at (zones_class_row n values weights classes k)) 9 3

unfoldable pub zones_class_locals : ℕ → List ℤ → List ℕ → List ℕ → List ℤ
zones_class_locals n values weights classes = table_rows (zones_class_local n values weights classes) 9 n

-- ---- the sums of the classes, zone by zone

-- the 27 sums with these three added to W, P and G of class k
unfoldable pub row_added : List ℤ → ℕ → ℤ → ℤ → ℤ → List ℤ
row_added rows k weight cross squares =
    let row : ClassRow = record { weight = weight; cross = cross; squares = squares } in
    table_rows (λ q place. at rows (q * 3 + place) +ℤ cond (eqb k q) (sum_at row place) (pos 0)) 9 3

-- what a weight w(i,j) is multiplied by in each of the three sums of zone i
abbrev pub counted : ℕ → List ℤ → ℕ → ℕ → ℕ → ℤ
counted n values zero i j = pos 1
counted n values (suc zero) i j = deviation_of (at values) n j
counted n values (suc (suc place)) i j = square (at values i -ℤ at values j)

-- the sum over the pairs of zone i that are of class k
unfoldable pub zone_part : ℕ → List ℤ → List ℕ → List ℕ → ℕ → ℕ → ℕ → ℤ
zone_part n values weights classes i k place = row_of (class_weight weights classes n k) (counted n values place) i n

-- what zone i adds to W, P and G of class k: to P its local numerator
abbrev pub zone_sum : ℕ → List ℤ → List ℕ → List ℕ → ℕ → ℕ → ℕ → ℤ
zone_sum n values weights classes k zero i = zone_part n values weights classes i k 0
zone_sum n values weights classes k (suc zero) i = zones_class_local n values weights classes k i
zone_sum n values weights classes k (suc (suc place)) i = zone_part n values weights classes i k 2

-- the rows and the local numerators of the first zones of each class k, `done k` of them
pub record Zoned (n : ℕ) (values : List ℤ) (weights classes : List ℕ) (done : ℕ → ℕ) (rows locals : List ℤ) : Type 0 where
  pub sums : rows ≡ table_rows (λ k place. sum (zone_sum n values weights classes k place) (done k)) 9 3
  pub count : length locals ≡ 9 * n
  pub numerators : (k i : ℕ) → k < 9 → i < done k → at locals (k * n + i) ≡ zones_class_local n values weights classes k i

-- the job's own local numerators of the first zones
pub record Owned (n : ℕ) (values : List ℤ) (weights : List ℕ) (zones : ℕ) (locals : List ℤ) : Type 0 where
  pub count : length locals ≡ n
  pub numerators : (i : ℕ) → i < zones → at locals i ≡ local_of (pair_at weights n) (deviation_of (at values) n) n i

-- ---- the shuffles

-- the desk numbers of so many shuffles, each at most 3
pub record Desked (desks : List ℕ) (rows : ℕ) : Type 0 where
  pub count : length desks ≡ rows
  pub low : (r : ℕ) → r < rows → get_or desks r 0 ≤ 3

-- so many of them counted by desk, of a job: over the zones kept
abbrev pub ranked : ℕ → List ℤ → List ℕ → ℕ → List ℕ → List ℕ → List ℕ
ranked n values weights rows shuffles desks =
    let w = reduced n values weights in
    four (zones_desk rows (kept_count n w) (kept_values n w values) (kept_pairs n w w) (kept_shuffles n w rows shuffles) desks)

-- the counts with one shuffle more, whose P compares so with the job's own
abbrev pub more : Counts → Ordering → Counts
more counts Less = record { less = counts.less + 1; equal = counts.equal; greater = counts.greater }
more counts Equal = record { less = counts.less; equal = counts.equal + 1; greater = counts.greater }
more counts Greater = record { less = counts.less; equal = counts.equal; greater = counts.greater + 1 }

-- the P of the deviations that a list holds, and of those that the zones take in shuffle r
abbrev pub cross_held : List ℕ → ℕ → List ℤ → ℤ
cross_held weights n d = cross_of (pair_at weights n) (at d) n

abbrev pub cross_moved : List ℕ → ℕ → List ℤ → List ℕ → ℕ → ℤ
cross_moved weights n d shuffles r = cross_of (pair_at weights n) (shuffled (at d) (pair_at shuffles n r)) n
