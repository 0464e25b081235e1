-- Text in a page. A page is a list of bytes; a text stands in it from a place on. What does not fit is left out, and a place beyond the
-- page's end is its end. Assumes nothing.
use Rattle.std.specs.Prelude.{◌≡◌, List, ℕ, ◌+◌, min, length}
use Rattle.std.proofs.lemmas.List.Edits.{sets}

-- what a call that puts some text does to a page, and the place that it answers
pub record Puts (old new : List ℕ) (at place : ℕ) (text : List ℕ) : Type 0 where
  -- the text from the place `at` on; bytes that would lie behind the page's end are left out
  pub same : new ≡ sets old at text
  -- the place behind the text, or the page's end where that comes first
  pub behind : place ≡ min (at + length text) (length old)
