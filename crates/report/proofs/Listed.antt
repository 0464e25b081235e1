-- Lines from what the calls answer are the lines of the text. Assumes nothing.
use mathlib.Core.Path.{◌≡◌, refl, ap, ◌∙◌}
use mathlib.Core.Bool.{cond}
use mathlib.Core.List.{List, [], ◌∷◌}
use Prim.Native.Nat.{ℕ, suc, ◌+◌, ◌*◌, ◌≤◌, ◌<◌}
use native.Mathlib.Omega.{arith}
use lib.IntN.{ℤ, pos}
use lib.ListN.{length, get_or}
use lib.Signed.{lt_z}
use mir.Syntax.{w64}
use mir.Val.{to_z}
use Rattle.whole.specs.Table.{table, at, each}
use Rattle.whole.proofs.Machine.{nat}
use Rattle.whole.proofs.Stores.{each_same}
use Rattle.whole.proofs.Table.{table_length, table_at, table_held}
use Rattle.shuffles.proofs.Theorems.{at_most_499}
use Rattle.account.specs.Classes.{class_row_of, class_sums, row_at}
use Rattle.account.specs.Rank.{job_rank, three}
use Rattle.account.specs.declared.ClassRow.{ClassRow}
use Rattle.account.specs.declared.Counts.{Counts}
use Rattle.account.proofs.ClassTheorems.{class_sums_row}
use Rattle.account.proofs.RankTheorems.{rank_adds_up}
use Rattle.joins.specs.Joins.{join_table}
use Rattle.joins.proofs.Theorems.{join_table_at}
use Rattle.coefficients.specs.Coefficients.{class_pair}
use Rattle.coefficients.specs.FloatReport.{no_pair}
use Rattle.coefficients.specs.declared.Pair.{Pair}
use Rattle.pages.specs.Lines.{line, numbers}
use Rattle.report.specs.Text.{numbered, where_given, pair_line, pair_lines, class_line, counts_line, rank_line}
use Rattle.report.specs.Steps.{table_line, row_line}

-- ---- lines that need a list
module _ {A : Type 0} where
  pub given : (list : List A) (lines : List ℕ) → (length list ≡ 0 → ⊥) → where_given list lines ≡ lines
  given [] lines f = absurd (f refl)
  given (item ∷ more) lines f = refl

-- ---- the same text for each of 0, 1, .., n − 1
numbered_same : (a b : ℕ → List ℕ) (n : ℕ) → ((k : ℕ) → k < n → a k ≡ b k) → each a (numbered n) ≡ each b (numbered n)
numbered_same a b n h =
    each_same a b 0 (numbered n)
    (λ k p.
    let e = table_at (λ i. i) n k 0 (omega (arith, table_length (λ i. i) n)) in
    let inside : k < n = omega (arith, table_length (λ i. i) n) in
    rw e (h k inside))

-- ---- the join table's lines
pub joined_lines :
    (n : ℕ) (categories weights : List ℕ) (entries : List ℤ) → entries ≡ join_table n categories weights →
    each (λ r. each (table_line entries r) (numbered 8)) (numbered 8) ≡ pair_lines n categories weights
unfolding pair_lines pair_line table_line
joined_lines n categories weights entries e =
    numbered_same _ _ 8
    (λ r h. numbered_same (table_line entries r) (pair_line n categories weights r) 8
    (λ s k. ap (λ (t : ℤ). cond (lt_z (pos 0) t) (line "pair" (numbers (pos r ∷ pos s ∷ t ∷ []))) [])
    (ap (λ (l : List ℤ). at l (r * 8 + s)) e ∙ join_table_at n categories weights r s h k)))

-- ---- the class lines

-- the line of class k
abbrev pub class_text : ℕ → List ℤ → List ℕ → List ℕ → ℕ → List ℕ
class_text n values weights classes k =
    class_line (class_row_of n values weights classes k) (class_pair n values weights classes k) k

module _ (n : ℕ) (values : List ℤ) (weights classes : List ℕ) (pairs : List Pair)
    (e : pairs ≡ table (class_pair n values weights classes) 9) where
  -- a line's row and pair are those of its class
  pub class_lines_are :
      (rows : List ℤ) (last : ℕ) → rows ≡ class_sums n values weights classes → last ≤ 8 →
      each (row_line rows pairs) (numbered (suc last)) ≡ each (class_text n values weights classes) (numbered (suc last))
  unfolding row_line class_line
  class_lines_are rows last f few =
      numbered_same (row_line rows pairs) (class_text n values weights classes) (suc last)
      (λ k h. ap (λ (row : ClassRow). class_line row (get_or pairs k no_pair) k)
      (ap (λ (l : List ℤ). row_at l k) f ∙ class_sums_row n values weights classes k (omega arith))
      ∙ ap (λ (pair : Pair). class_line (class_row_of n values weights classes k) pair k)
      (table_held (class_pair n values weights classes) 9 no_pair pairs e k (omega arith)))

-- ---- the rank line
module _ (n : ℕ) (values : List ℤ) (weights shuffles : List ℕ) (counts : Counts)
    (e : three counts ≡ job_rank n values weights shuffles) where
  -- no more than 499 shuffles are counted
  pub few_counted : counts.less + counts.equal + counts.greater ≤ 499
  few_counted =
      let all = ap (λ l. get_or l 0 0 + get_or l 1 0 + get_or l 2 0) e ∙ rank_adds_up n values weights shuffles in
      omega (arith, all, at_most_499 n (length shuffles))

  -- so that each count is the same as a signed number
  pub counted_line :
      line "rank" (numbers (to_z w64 counts.less ∷ to_z w64 counts.equal ∷ to_z w64 counts.greater ∷ []))
      ≡ rank_line n values weights shuffles
  unfolding rank_line counts_line
  counted_line =
      let less = (nat w64 counts.less 499 (omega (arith, few_counted)) tt).same in
      let equal = (nat w64 counts.equal 499 (omega (arith, few_counted)) tt).same in
      let greater = (nat w64 counts.greater 499 (omega (arith, few_counted)) tt).same in
      rw (less, equal, greater) (ap counts_line e)
