-- Where every value of an image is returned (request A.7), its rules are those without the mark: 3 is document 01's, and 6 and 7 look at the
-- weights as they are listed. Assumes nothing.
use mathlib.Core.Path.{◌≡◌, ap}
use mathlib.Core.List.{List, [], ◌∷◌}
use Prim.Native.Nat.{ℕ}
use lib.Dec.{ltb}
use lib.IntN.{ℤ}
use lib.ListN.{length}
use Rattle.whole.specs.Integer.{is_zero}
use Rattle.whole.specs.Rules.{Rule}
use Rattle.whole.specs.Search.{any_beyond}
use Rattle.whole.specs.Table.{at, pair_at}
use Rattle.whole.proofs.Table.{table_length}
use Rattle.kept.specs.Kept.{kept_count, kept_values}
use Rattle.kept.specs.Returned.{missing_count}
use Rattle.kept.proofs.Reduced.{none_missing, same_limit}
use Rattle.account.specs.Measures.{weight_of, spread_of}
use Rattle.account.proofs.AllReturned.{returned_sums}
use Rattle.image.specs.Image.{count, values_in, from_joins, joins_in, rest, job_of, zone_count_rule, section_rules, in_values, at_the_end}
use Rattle.image.proofs.JoinWeight.{weights_length}

-- ---- of the section of values
pub returned_values_rules :
    (b : List ℕ) → missing_count (values_in b) ≡ 0 →
    in_values b ≡ section_rules 4 (zone_count_rule (count b)) ((any_beyond 100000 (values_in b), 3) ∷ []) b
unfolding in_values
returned_values_rules b e =
    ap (λ broken. section_rules 4 (zone_count_rule (count b)) ((broken, 3) ∷ []) b) (same_limit (values_in b) (none_missing (values_in b) e))

-- ---- and after the last section
module _ (image : List ℕ) (e : missing_count (job_of image).values ≡ 0) where
  abbrev n : ℕ
  n = count image

  abbrev values : List ℤ
  values = (job_of image).values

  abbrev w : List ℕ
  w = (job_of image).weights

  pub returned_end :
      at_the_end image
      ≡ (ltb 0 (length (rest image)), 17)
      ∷ (is_zero (weight_of (pair_at w n) n), 6)
      ∷ (is_zero (spread_of (at (kept_values n w values)) (kept_count n w)), 7)
      ∷ []
  unfolding job_of
  returned_end =
      let long : length values ≡ n = table_length _ n in
      let sums = returned_sums n values w e long (weights_length n (joins_in (from_joins image))) in
      ap (λ (rules : List Rule). (ltb 0 (length (rest image)), 17) ∷ rules) sums
