-- What the private functions of the writer promise each other. Assumes nothing.
use Rattle.std.specs.Prelude.{◌≡◌, false, List, [], ◌∷◌, ◌++◌, ℕ, zero, suc, ◌+◌, ◌*◌, ◌≤◌, length, take}
use Rattle.std.proofs.lemmas.List.Edits.{sets}
use Rattle.whole.specs.Rules.{Rule, misfits, size_rules}
use Rattle.whole.specs.Table.{each}
use Rattle.account.specs.Refusals.{sum_rules}
use Rattle.image.specs.Joins.{joins_from, joins_of}
use Rattle.image.specs.Image.{join_bytes}
use Rattle.image.specs.Reader.{Buffers, buffer_lengths}
use Rattle.image.specs.Writer.{lent_job, part_rules}
use Rattle.image.specs.declared.Given.{Given}
use Rattle.writer.specs.declared.putting.Out.{Out}

-- n zones, and buffers of their exact lengths
pub record Sized (given : Given) (lent : Buffers) : Type 0 where
  pub two : 2 ≤ given.values
  pub zones : given.values ≤ 64
  pub fits : misfits (buffer_lengths lent) ≡ false

-- what is judged before the room: 1 and 2, then the parts, then 6 and 7
abbrev pub judged_rules : Given → Buffers → List Rule
judged_rules given lent =
    let job = lent_job given lent in
    size_rules given.values (buffer_lengths lent)
    ++ (part_rules given job ++ sum_rules given.values job.values job.weights)

-- a table of n × n weights
pub record Tabled (weights : List ℕ) (n : ℕ) : Type 0 where
  pub two : 2 ≤ n
  pub zones : n ≤ 64
  pub there : length weights ≡ n * n

-- there is room for bytes behind what is put
abbrev pub Room : Out → List ℕ → Type 0
Room out bytes = out.at + length bytes ≤ length out.bytes.now

-- they are put there: the room is the same, with its place behind them
pub record Puts (old : Out) (bytes : List ℕ) (new : Out) : Type 0 where
  pub same : new.bytes.ghost_name ≡ old.bytes.ghost_name
  pub place : new.at ≡ old.at + length bytes
  pub after : new.bytes.now ≡ sets old.bytes.now old.at bytes

-- the bytes of a number of one byte
abbrev pub one_byte : ℕ → List ℕ
one_byte x = x ∷ []

-- the bytes of the joins of a weight at a place
abbrev pub bytes_of : ℕ → ℕ → ℕ → List ℕ
bytes_of from to zero = []
bytes_of from to (suc w) = from ∷ to ∷ suc w ∷ []

-- the bytes of the joins of a row of weights, those from one zone
abbrev pub row_bytes : ℕ → List ℕ → List ℕ
row_bytes from row = each join_bytes (joins_from (length row) (from * length row) row)

-- counts that are within their limits
pub record Counted (given : Given) (joins : ℕ) : Type 0 where
  pub zones : given.values ≤ 64
  pub categories : given.categories ≤ 64
  pub joins_few : joins ≤ 4096
  pub places : given.places ≤ 64
  pub bands : given.bands ≤ 8
  pub shuffles : given.shuffles ≤ 499

-- a job that is written: its lists have the lengths that its counts say, and it has k joins; all counts are within their limits
pub record Storable (given : Given) (lent : Buffers) (k : ℕ) : Type 0 where
  pub counted : Counted given k
  pub joins : k ≡ length (joins_of given.values (take (given.values * given.values) lent.weights))
  pub values : length (take given.values lent.values) ≡ given.values
  pub categories : length (take given.categories lent.categories) ≡ given.categories
  pub places : length (take (2 * given.places) lent.places) ≡ 2 * given.places
  pub bands : length (take given.bands lent.bands) ≡ given.bands
  pub shuffles : length (take (given.shuffles * given.values) lent.shuffles) ≡ given.shuffles * given.values

-- the length of an image with these counts and so many joins
abbrev pub length_with : Given → ℕ → ℕ
length_with given joins =
    12 + 4 * given.values + given.categories + 3 * joins + 8 * given.places + 4 * given.bands + given.shuffles * given.values
