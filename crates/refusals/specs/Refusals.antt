-- Why a call is refused, and by which number: the causes are the cases of the enum. Assumes nothing.
use Rattle.std.specs.Prelude.{ℕ, Result, Ok, Err}
use Rattle.refusals.specs.declared.Refusal.{Refusal}
use Rattle.refusals.specs.declared.Refusal.TheVariants.{Zones, Length, Value, Weight, Diagonal, Weightless, Spreadless, Category, Class, Coordinate, Place, Bands, Shuffle, Cut, Count, Joins, Trailing, Ratio, Output, Desk}

-- the number of a cause
abbrev pub number_by : Refusal → ℕ
number_by Zones = 1
number_by Length = 2
number_by Value = 3
number_by Weight = 4
number_by Diagonal = 5
number_by Weightless = 6
number_by Spreadless = 7
number_by Category = 8
number_by Class = 9
number_by Coordinate = 10
number_by Place = 11
number_by Bands = 12
number_by Shuffle = 13
number_by Cut = 14
number_by Count = 15
number_by Joins = 16
number_by Trailing = 17
number_by Ratio = 18
number_by Output = 19
number_by Desk = 24

-- the number of an answer, 0 where nothing is refused
abbrev pub number_of : {A : Type 0} → Result A Refusal → ℕ
number_of (Ok worked) = 0
number_of (Err refusal) = number_by refusal
