-- What an answer of the reader says, by its cases. What it must be is in the image's specs. Assumes nothing.
use Rattle.std.specs.Prelude.{List, [], ◌∷◌, ℕ, Result, Ok, Err}
use Rattle.refusals.specs.declared.Refusal.{Refusal}
use Rattle.reader.specs.declared.Counts.{Counts}

-- the six counts, in the image's order
abbrev pub six : Counts → List ℕ
six counts =
    counts.values ∷ counts.categories ∷ counts.joins ∷ counts.places ∷ counts.bands ∷ counts.shuffles ∷ []

-- the six counts, none where the call is refused
unfoldable pub counts_of : Result Counts Refusal → List ℕ
counts_of (Ok counts) = six counts
counts_of (Err refusal) = []
