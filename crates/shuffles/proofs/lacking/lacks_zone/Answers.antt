-- `lacks_zone` meets its contract: the numbers are marked in a local array, whose first n places are searched. Assumes nothing.
use mathlib.Core.Path.{◌≡◌, refl, ap, ◌∙◌}
use mathlib.Core.Bool.{Bool}
use mathlib.Core.List.{List}
use Prim.Native.Nat.{ℕ, ◌≤◌}
use native.Mathlib.Omega.{arith}
use lib.Dec.{eqb}
use lib.ListN.{get_or, take}
use Rattle.std.specs.List.{list_any}
use Rattle.whole.specs.Order.{lacks}
use Rattle.whole.specs.Search.{some}
use Rattle.whole.specs.Table.{table}
use Rattle.whole.proofs.Search.{some_cong}
use Rattle.whole.proofs.Table.{table_length, table_at, table_front}
use Rattle.whole.proofs.Chains.{any_some}
use Rattle.shuffles.specs.Steps.{mark_of}
use Rattle.shuffles.proofs.ShuffleList.{unnamed}
use Rattle.shuffles.proofs.lacking.lacks_zone.Goals as goal

-- the first n of the marks: the search through them is of the row itself
lacking :
    (row : ℕ → ℕ) (n : ℕ) (l : List ℕ) → n ≤ 64 → l ≡ table (λ k. mark_of (some (λ i. eqb (row i) k) n)) 256 →
    list_any (λ m. eqb m 0) (take n l) ≡ lacks row n
unfolding lacks
lacking row n l h e =
    let named : ℕ → Bool = λ k. some (λ i. eqb (row i) k) n in
    let mark : ℕ → ℕ = λ k. mark_of (named k) in
    let front : take n l ≡ table mark n = ap (take n) e ∙ table_front mark n 256 (omega arith) in
    any_some (λ m. eqb m 0) (take n l) 0
    ∙ rw (front, table_length mark n)
    (some_cong _ _ n (λ k p. ap (λ m. eqb m 0) (table_at mark n k 0 p) ∙ unnamed (named k)))

pub mark-requires : goal.mark-requires
unfolding table
mark-requires c = refl

pub returns : goal.returns
returns c = c.contains.ensures.value ∙ lacking (λ i. get_or c.args.row.now i 0) _ _ c.requires c.mark.ensures
