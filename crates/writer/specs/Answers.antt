-- What an answer of the writer says, by its cases. What it must be is in the image's specs. Assumes nothing.
use Rattle.std.specs.Prelude.{List, [], ◌∷◌, ℕ, Result, Ok, Err}
use Rattle.refusals.specs.declared.Refusal.{Refusal}

-- the image's length, none where the call is refused
unfoldable pub length_of : Result ℕ Refusal → List ℕ
length_of (Ok length) = length ∷ []
length_of (Err refusal) = []
