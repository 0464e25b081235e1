-- The published cases as one table, a row each: what is worked, and what document 01 says that it gives, or document 02: A.6, by which a
-- zone that touches nobody is left out, A.7, by which a zone whose value is not returned is left out too, A.10, by which each figure says
-- on which side of its ratio it lies, and A.2, by which of equal local numerators the one of the larger row sum comes first. Assumes nothing.
use Rattle.std.specs.Prelude.{Bool, true, false, ◌&&◌, List, [], ◌∷◌, ◌++◌, ℕ, ◌^◌, eqb, ℤ, pos, negsuc, ◌*ℤ◌}
use Prim.Native.String.{String}
use Rattle.std.specs.Float.{binary64}
use Rattle.std.specs.Float.Ieee.{to_bits}
use Rattle.whole.specs.Integer.{equal}
use Rattle.whole.specs.Table.{table, at}
use Rattle.nearest.specs.Answers.{nearest_bits, nearest_side}
use Rattle.nearest.specs.Bits.{value_of}
use Rattle.nearest.specs.Sides.{side_number}
use Rattle.nearest.specs.declared.Side.{Side}
use Rattle.nearest.specs.declared.Side.TheVariants.{Equal, Below, Above}
use Rattle.judges.specs.Values.{not_returned}
use Rattle.kept.specs.Returned.{reduced}
use Rattle.account.specs.Answers.{job_figures, job_locals}
use Rattle.account.specs.Classes.{class_row_of}
use Rattle.account.specs.Rank.{job_rank}
use Rattle.hot_list.specs.HotList.{hot_list}
use Rattle.joins.specs.Joins.{join_table}
use Rattle.places.specs.Bands.{band_classes}
use Rattle.coefficients.specs.Coefficients.{job_pair, class_pair}
use Rattle.coefficients.specs.declared.Coefficient.{Coefficient}
use Rattle.coefficients.specs.declared.Coefficient.TheVariants.{Figure, Weightless}

-- a figure as document 01 prints it: a whole number or its 64 bits, each with its side, or none
pub data Printed : Type 0 where
  number : ℤ → Side → Printed
  bits : ℕ → Side → Printed
  none : Printed

-- a job: its values, its weights, and the classes of its pairs
pub record Job : Type 0 where
  pub zones : ℕ
  pub values : List ℤ
  pub weights : List ℕ
  pub classes : List ℕ

pub data Row : Type 0 where
  -- P, W, M, G, the number of zones kept, that of values not returned and the local numerators of a job
  sums : Job → ℤ → ℤ → ℤ → ℤ → ℤ → ℤ → List ℤ → Row
  -- I and c of a job
  pair : Job → Printed → Printed → Row
  -- W, P, G, I and c of a class
  class : Job → ℕ → ℤ → ℤ → ℤ → Printed → Printed → Row
  -- the zones of a job in hot-list order
  hot : Job → List ℕ → Row
  -- the join table of a job's weights that count, under these categories
  joins : Job → List ℕ → List ℤ → Row
  -- the classes of a job are those that these places and bands give
  banded : Job → List ℤ → List ℕ → Row
  -- less, equal and greater: the rank of a job among shuffles
  rank : Job → List ℕ → ℕ → ℕ → ℕ → Row
  -- the nearest float to p / q, and its side
  ratio : ℤ → ℤ → Printed → Row

-- ---- whether a row is right

-- two lists are the same by a test of their elements
abbrev pub same : {A : Type 0} → (A → A → Bool) → List A → List A → Bool
same test [] [] = true
same test [] (b ∷ others) = false
same test (a ∷ list) [] = false
same test (a ∷ list) (b ∷ others) = test a b && same test list others

-- two sides are the same
abbrev pub same_side : Side → Side → Bool
same_side a b = eqb (side_number a) (side_number b)

-- a float's bits and its side are those of what is printed
abbrev pub prints : Printed → ℕ → Side → Bool
prints (number z side) b told = equal (value_of b) (z *ℤ pos (2 ^ 1074)) && same_side side told
prints (bits n side) b told = eqb n b && same_side side told
prints none b told = false

abbrev pub shows : Printed → Coefficient → Bool
shows printed (Figure x side) = prints printed (to_bits binary64 x) side
shows none Weightless = true
shows (number z side) Weightless = false
shows (bits n side) Weightless = false

unfoldable pub right : Row → Bool
right (sums job p w m g kept missing locals) =
    let worked = job_figures job.zones job.values job.weights in
    same equal (p ∷ w ∷ m ∷ g ∷ kept ∷ missing ∷ locals)
    (at worked 3 ∷ at worked 2 ∷ at worked 1 ∷ at worked 4 ∷ at worked 5 ∷ at worked 6 ∷ job_locals job.zones job.values job.weights)
right (pair job moran geary) =
    let worked = job_pair job.zones job.values job.weights in
    shows moran worked.moran && shows geary worked.geary
right (class job k w p g moran geary) =
    let row = class_row_of job.zones job.values job.weights job.classes k in
    let worked = class_pair job.zones job.values job.weights job.classes k in
    same equal (w ∷ p ∷ g ∷ []) (row.weight ∷ row.cross ∷ row.squares ∷ []) && shows moran worked.moran && shows geary worked.geary
right (hot job zones) = same eqb zones (hot_list job.zones job.values job.weights)
right (joins job categories entries) =
    same equal entries (join_table job.zones categories (reduced job.zones job.values job.weights))
right (banded job places bands) = same eqb job.classes (band_classes job.zones places bands)
right (rank job shuffles less level greater) =
    same eqb (less ∷ level ∷ greater ∷ []) (job_rank job.zones job.values job.weights shuffles)
right (ratio p q printed) = prints printed (nearest_bits p q) (nearest_side p q)

-- a row beside the words that say what it is
abbrev pub Case : Type 0
Case = String × Row

unfoldable pub all_right : List Case → Bool
unfolding right
all_right [] = true
all_right (case ∷ cases) = right case.1 && all_right cases

-- ---- the jobs

-- values 1 2 6 on a line of weight 1
abbrev pub line_of_three : Job
line_of_three = record {
  zones = 3;
  values = pos 1 ∷ pos 2 ∷ pos 6 ∷ [];
  weights = 0 ∷ 1 ∷ 0 ∷ 1 ∷ 0 ∷ 1 ∷ 0 ∷ 1 ∷ 0 ∷ [];
  classes = 0 ∷ 0 ∷ 0 ∷ 0 ∷ 0 ∷ 0 ∷ 0 ∷ 0 ∷ 0 ∷ [];
}

-- values 0 1 joined both ways
abbrev pub two_joined : Job
two_joined = record {
  zones = 2;
  values = pos 0 ∷ pos 1 ∷ [];
  weights = 0 ∷ 1 ∷ 1 ∷ 0 ∷ [];
  classes = 0 ∷ 0 ∷ 0 ∷ 0 ∷ [];
}

-- the whole report's: values 1 1 3 3, 0-1 of weight 3 in class 1, 1-2 of weight 1 in class 2; zone 3 touches nobody
abbrev pub reported : Job
reported = record {
  zones = 4;
  values = pos 1 ∷ pos 1 ∷ pos 3 ∷ pos 3 ∷ [];
  weights = 0 ∷ 3 ∷ 0 ∷ 0 ∷ 3 ∷ 0 ∷ 1 ∷ 0 ∷ 0 ∷ 1 ∷ 0 ∷ 0 ∷ 0 ∷ 0 ∷ 0 ∷ 0 ∷ [];
  classes = 0 ∷ 1 ∷ 0 ∷ 0 ∷ 1 ∷ 0 ∷ 2 ∷ 0 ∷ 0 ∷ 2 ∷ 0 ∷ 0 ∷ 0 ∷ 0 ∷ 0 ∷ 0 ∷ [];
}

-- case (a)'s line behind two zones more: zone 1 has not returned its value, and zone 0 touches nobody besides. 0-1 of weight 2, 1-2 of
-- weight 3, 2-3 and 3-4 of weight 1
abbrev pub unreturned : Job
unreturned = record {
  zones = 5;
  values = pos 9 ∷ not_returned ∷ pos 1 ∷ pos 2 ∷ pos 6 ∷ [];
  weights =
      0 ∷ 2 ∷ 0 ∷ 0 ∷ 0 ∷ 2 ∷ 0 ∷ 3 ∷ 0 ∷ 0 ∷ 0 ∷ 3 ∷ 0 ∷ 1 ∷ 0 ∷ 0 ∷ 0 ∷ 1 ∷ 0 ∷ 1 ∷ 0 ∷ 0 ∷ 0 ∷ 1 ∷ 0 ∷ [];
  classes = table (λ k. 0) 25;
}

-- zones 0, 1 and 2 have the local numerator 16, and row sums 1, 3 and 1, and zone 3 has 0; the columns hold 3, 1, 2 and 1. Zone 4 has not
-- returned its value; the weight of 9 to it counts as 0, or zone 2 would be the first
abbrev pub tied : Job
tied = record {
  zones = 5;
  values = pos 0 ∷ pos 0 ∷ pos 2 ∷ pos 2 ∷ not_returned ∷ [];
  weights =
      0 ∷ 1 ∷ 0 ∷ 0 ∷ 0 ∷ 2 ∷ 0 ∷ 1 ∷ 0 ∷ 0 ∷ 0 ∷ 0 ∷ 0 ∷ 1 ∷ 9 ∷ 1 ∷ 0 ∷ 1 ∷ 0 ∷ 0 ∷ 0 ∷ 0 ∷ 0 ∷ 0 ∷ 0 ∷ [];
  classes = table (λ k. 0) 25;
}

-- so many entries of 0
abbrev pub zeros : ℕ → List ℤ
zeros n = table (λ k. pos 0) n

-- ---- the table
unfoldable pub published : List Case
published =
    ("(a)", sums line_of_three (negsuc 17) (pos 4) (pos 42) (pos 34) (pos 3) (pos 0) (pos 18 ∷ negsuc 8 ∷ negsuc 26 ∷ []))
    ∷ ("(b)", pair two_joined (number (negsuc 0) Equal) (number (pos 1) Equal))
    ∷ ("(c), by A.6", sums reported (pos 8) (pos 8) (pos 8) (pos 8) (pos 3) (pos 0) (pos 12 ∷ pos 4 ∷ negsuc 7 ∷ pos 0 ∷ []))
    ∷ ("the report's I and c", pair reported (bits 0x3FC0000000000000 Equal) (bits 0x3FD8000000000000 Equal))
    ∷ ("the report's unclassed pairs", class reported 0 (pos 0) (pos 0) (pos 0) none none)
    ∷ ("(d), class 1, by A.6", class reported 1 (pos 6) (pos 24) (pos 0) (bits 0x3FE0000000000000 Equal) (bits 0x0000000000000000 Equal))
    ∷ ("(d), class 2, by A.6", class reported 2 (pos 2) (negsuc 15) (pos 8) (bits 0xBFF0000000000000 Equal) (bits 0x3FF8000000000000 Equal))
    ∷ ("(d), from places and bands", banded reported (pos 0 ∷ pos 0 ∷ pos 1 ∷ pos 0 ∷ pos 3 ∷ pos 0 ∷ pos 9 ∷ pos 9 ∷ []) (1 ∷ 4 ∷ []))
    ∷ ("the report's hot list", hot reported (0 ∷ 1 ∷ 2 ∷ 3 ∷ []))
    ∷ ("(e)", joins reported (0 ∷ 0 ∷ 1 ∷ 1 ∷ []) ((pos 6 ∷ pos 1 ∷ zeros 6) ++ (pos 1 ∷ zeros 7) ++ zeros 48))
    ∷ ("(f)", rank reported (0 ∷ 1 ∷ 2 ∷ 3 ∷ 2 ∷ 1 ∷ 0 ∷ 3 ∷ []) 1 1 0)
    ∷ ("(g), a tie", ratio (pos 9007199254740993) (pos 1) (number (pos 9007199254740992) Below))
    ∷ ("(h), a tie", ratio (pos 9007199254740995) (pos 1) (number (pos 9007199254740996) Above))
    ∷ ("(i), by value", ratio (negsuc 0) (pos 3) (bits 0xBFD5555555555555 Above))
    ∷ ("(j)", ratio (pos 1) (pos 10) (bits 0x3FB999999999999A Above))
    ∷ (
      "A.7, a value not returned",
      sums unreturned (negsuc 17) (pos 4) (pos 42) (pos 34) (pos 3) (pos 1) (pos 0 ∷ pos 0 ∷ pos 18 ∷ negsuc 8 ∷ negsuc 26 ∷ []),
    )
    ∷ ("its hot list", hot unreturned (2 ∷ 3 ∷ 4 ∷ 0 ∷ 1 ∷ []))
    ∷ ("its joins", joins unreturned (0 ∷ 1 ∷ 0 ∷ 0 ∷ 1 ∷ []) ((pos 2 ∷ pos 1 ∷ zeros 6) ++ (pos 1 ∷ zeros 7) ++ zeros 48))
    ∷ (
      "A.2, equal local numerators",
      sums tied (pos 48) (pos 7) (pos 16) (pos 8) (pos 4) (pos 1) (pos 16 ∷ pos 16 ∷ pos 16 ∷ pos 0 ∷ pos 0 ∷ []),
    )
    ∷ ("their hot list", hot tied (1 ∷ 0 ∷ 2 ∷ 3 ∷ 4 ∷ []))
    ∷ []
