-- The same bytes from another place on. Assumes nothing.
use mathlib.Core.Path.{◌≡◌, ap, ◌∙◌}
use mathlib.Core.List.{List}
use Prim.Native.Nat.{ℕ, ◌+◌}
use native.Mathlib.Omega.{arith}
use lib.ListN.{drop}
use lib.Seq.{get_or-drop}
use Rattle.words.specs.Words.{byte_at, word_at}

pub byte_from : (b : List ℕ) (at k : ℕ) → byte_at (drop at b) k ≡ byte_at b (at + k)
byte_from b at k = get_or-drop at b k 0

-- a number that begins at a place is one that begins there after some bytes are dropped
pub word_from : (b : List ℕ) (at k : ℕ) → word_at (drop at b) k ≡ word_at b (at + k)
unfolding word_at
word_from b at k =
    let one = byte_from b at (k + 1) ∙ ap (byte_at b) {x = at + (k + 1)} {y = at + k + 1} (omega arith) in
    let two = byte_from b at (k + 2) ∙ ap (byte_at b) {x = at + (k + 2)} {y = at + k + 2} (omega arith) in
    let three = byte_from b at (k + 3) ∙ ap (byte_at b) {x = at + (k + 3)} {y = at + k + 3} (omega arith) in
    rw (byte_from b at k, one, two, three)
