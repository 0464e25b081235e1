-- Document 01's "A whole report" as A.6 of document 02 changed it, with the sign that A.10 adds, of which every one is `=`: the text that its
-- image gives. Assumes nothing.
use Rattle.std.specs.Prelude.{List, [], ◌∷◌, ◌++◌, ℕ}
use Prim.Native.String.{String}
use Rattle.whole.specs.Table.{each}
use Rattle.pages.specs.Lines.{ascii}

-- lines of text, each ended by a line feed
abbrev pub printed : List String → List ℕ
printed lines = each (λ text. ascii text ++ (10 ∷ [])) lines

abbrev pub worked_report : List String
worked_report =
    "zones 3 5 8"
    ∷ "joins 8 8 8"
    ∷ "moran 8 64 3FC0000000000000="
    ∷ "geary 48 128 3FD8000000000000="
    ∷ "expected -1 2"
    ∷ "local 0 12 8 3FF8000000000000="
    ∷ "local 1 4 8 3FE0000000000000="
    ∷ "local 2 -8 8 BFF0000000000000="
    ∷ "pair 0 0 6"
    ∷ "pair 0 1 1"
    ∷ "pair 1 0 1"
    ∷ "class 0 0 0 0 - -"
    ∷ "class 1 6 24 0 3FE0000000000000= 0000000000000000="
    ∷ "class 2 2 -16 8 BFF0000000000000= 3FF8000000000000="
    ∷ "rank 1 1 0"
    ∷ []
