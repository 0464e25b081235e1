-- Lines of a report from what the machine reads: each number that a call is handed is the one that is meant. Assumes nothing.
use mathlib.Core.Path.{◌≡◌, refl, ap, ◌∙◌}
use mathlib.Core.Bool.{true, false}
use mathlib.Core.List.{List, [], ◌∷◌, ◌++◌}
use Prim.Native.Nat.{ℕ, ◌+◌, ◌*◌, ◌-◌, ◌^◌, ◌≤◌, ◌<◌}
use native.Mathlib.Omega.{arith}
use borrow.Author.Rules.{sfits_of}
use lib.IntN.{ℤ, pos, negsuc, ◌*ℤ◌}
use lib.ListN.{get_or}
use lib.Signed.{mag, lt_z}
use mir.Syntax.{w64}
use mir.Val.{to_z}
use mir.ValLaws.{to_z-of_z}
use Rattle.whole.specs.Rules.{ratio_limit}
use Rattle.whole.specs.Table.{at}
use Rattle.whole.proofs.Machine.{Is, rd, nat, r64}
use Rattle.whole.proofs.Size.{one_some}
use Rattle.account.specs.declared.Sums.{Sums}
use Rattle.coefficients.specs.FloatReport.{no_pair}
use Rattle.coefficients.specs.declared.Pair.{Pair}
use Rattle.nearest.specs.declared.Side.{Side}
use Rattle.nearest.specs.declared.Side.TheVariants.{Equal}
use Rattle.coefficients.proofs.Ratios.{left_le, ordered_le}
use Rattle.pages.specs.Lines.{line, numbers}
use Rattle.report.specs.Lines.{rounded, coefficient}
use Rattle.report.specs.Steps.{Within, sum_lines, ratio_lines, zone_line, table_line, row_line}

-- what a call has answered is read back from its bits as it is
pub read_back : {answer meant : ℤ} → mag answer < 2 ^ 63 → answer ≡ meant → r64 answer ≡ meant
read_back h e = to_z-of_z w64 _ (sfits_of h) ∙ e

-- ---- the lines of a job

-- sums that are read back from their bits as they are
pub record Read (sums : Sums) : Type 0 where
  pub total_back : r64 sums.total ≡ sums.total
  pub spread_back : r64 sums.spread ≡ sums.spread
  pub weight_back : r64 sums.weight ≡ sums.weight
  pub cross_back : r64 sums.cross ≡ sums.cross
  pub squares_back : r64 sums.squares ≡ sums.squares

pub read :
    (sums : Sums) → mag sums.total < 2 ^ 63 → mag sums.spread < 2 ^ 63 → mag sums.weight < 2 ^ 63 →
    mag sums.cross < 2 ^ 63 → mag sums.squares < 2 ^ 63 → Read sums
read sums f1 f2 f3 f4 f5 = record {
  total_back = to_z-of_z w64 sums.total (sfits_of f1);
  spread_back = to_z-of_z w64 sums.spread (sfits_of f2);
  weight_back = to_z-of_z w64 sums.weight (sfits_of f3);
  cross_back = to_z-of_z w64 sums.cross (sfits_of f4);
  squares_back = to_z-of_z w64 sums.squares (sfits_of f5);
}

module _ (sums : Sums) (reads : Read sums) where
  -- the number of zones kept
  abbrev n : ℕ
  n = sums.kept

  pub sum_text :
      n ≤ 64 →
      line "zones" (numbers (to_z w64 n ∷ r64 sums.total ∷ r64 sums.spread ∷ []))
      ++ line "joins" (numbers (r64 sums.weight ∷ r64 sums.cross ∷ r64 sums.squares ∷ []))
      ≡ sum_lines sums
  unfolding sum_lines
  sum_text h =
      rw (
        (nat w64 n 64 h tt).same,
        reads.total_back,
        reads.spread_back,
        reads.weight_back,
        reads.cross_back,
        reads.squares_back,
      ) refl

  -- ---- the products of the ratios
  module _ (within : Within sums) where
    -- W × M
    pub moran_divisor_is : Is (r64 sums.weight *ℤ r64 sums.spread) (sums.weight *ℤ sums.spread) ratio_limit
    moran_divisor_is = record { same = cc (reads.weight_back, reads.spread_back); size = within.moran_divisor }

    -- (n − 1) × n × G
    pub geary_numerator_is : Is (to_z w64 ((n - 1) * n) *ℤ r64 sums.squares) (pos ((n - 1) * n) *ℤ sums.squares) ratio_limit
    geary_numerator_is =
        let count = (nat w64 ((n - 1) * n) 4032 (ordered_le n within.zones) tt).same in
        record { same = cc (count, reads.squares_back); size = within.geary_numerator }

    -- 2 × W, and 2 × W × M
    pub twice_is : Is (pos 2 *ℤ r64 sums.weight) (pos 2 *ℤ sums.weight) ratio_limit
    twice_is =
        let some = one_some sums.spread within.varied in
        record {
          same = ap (λ z. pos 2 *ℤ z) reads.weight_back;
          size = left_le (pos 2 *ℤ sums.weight) sums.spread ratio_limit some within.geary_divisor;
        }

    pub geary_divisor_is :
        Is (r64 (pos 2 *ℤ r64 sums.weight) *ℤ r64 sums.spread) ((pos 2 *ℤ sums.weight) *ℤ sums.spread) ratio_limit
    geary_divisor_is = record { same = cc ((rd w64 twice_is tt).same, reads.spread_back); size = within.geary_divisor }

    -- their lines
    pub ratio_text :
        (pair : Pair) →
        line "moran"
        (numbers (r64 sums.cross ∷ r64 (r64 sums.weight *ℤ r64 sums.spread) ∷ []) ++ coefficient pair.moran)
        ++ (line "geary"
        (numbers
        (r64 (to_z w64 ((n - 1) * n) *ℤ r64 sums.squares)
        ∷ r64 (r64 (pos 2 *ℤ r64 sums.weight) *ℤ r64 sums.spread)
        ∷ [])
        ++ coefficient pair.geary)
        ++ line "expected" (numbers (negsuc 0 ∷ to_z w64 (n - 1) ∷ [])))
        ≡ ratio_lines sums pair
    unfolding ratio_lines
    ratio_text pair =
        let zones = within.zones in
        rw (
          (rd w64 moran_divisor_is tt).same,
          (rd w64 geary_numerator_is tt).same,
          (rd w64 geary_divisor_is tt).same,
          reads.cross_back,
          (nat w64 (n - 1) 64 (omega arith) tt).same,
        ) refl

-- ---- the line of an item
pub zone_text :
    (locals : List ℤ) (figures : List ℕ) (sides : List Side) (spread : ℤ) (zone : ℕ) {zone' numerator : ℤ} {figure : ℕ} {side : Side} → zone' ≡ pos zone →
    numerator ≡ at locals zone → figure ≡ get_or figures zone 0 → side ≡ get_or sides zone Equal →
    line "local" (numbers (zone' ∷ numerator ∷ spread ∷ []) ++ rounded figure side) ≡ zone_line locals figures sides spread zone
unfolding zone_line
zone_text locals figures sides spread zone e1 e2 e3 e4 = rw (e1, e2, e3, e4) refl

module _ (table : List ℤ) (r s : ℕ) where
  pub table_text :
      {r' s' joins : ℤ} → r' ≡ pos r → s' ≡ pos s → joins ≡ at table (r * 8 + s) → lt_z (pos 0) joins ≡ true →
      line "pair" (numbers (r' ∷ s' ∷ joins ∷ [])) ≡ table_line table r s
  unfolding table_line
  table_text e1 e2 e3 some = rw (e1, e2, ← e3, some) refl

  pub no_table_text : {joins : ℤ} → joins ≡ at table (r * 8 + s) → lt_z (pos 0) joins ≡ false → [] ≡ table_line table r s
  unfolding table_line
  no_table_text e none = rw (← e, none) refl

pub row_text :
    (rows : List ℤ) (pairs : List Pair) (k : ℕ) {k' weight cross squares : ℤ} {pair : Pair} → k' ≡ pos k → weight ≡ at rows (k * 3) →
    cross ≡ at rows (k * 3 + 1) → squares ≡ at rows (k * 3 + 2) → pair ≡ get_or pairs k no_pair →
    line "class" (numbers (k' ∷ weight ∷ cross ∷ squares ∷ []) ++ (coefficient pair.moran ++ coefficient pair.geary))
    ≡ row_line rows pairs k
unfolding row_line
row_text rows pairs k e1 e2 e3 e4 e5 = rw (e1, e2, e3, e4, e5) refl
