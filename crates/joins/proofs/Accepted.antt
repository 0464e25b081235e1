-- What the lists of a join table are like where no rule is broken. Assumes nothing.
use mathlib.Core.Path.{◌≡◌}
use mathlib.Core.Bool.{false}
use mathlib.Core.List.{List, [], ◌∷◌}
use Prim.Native.Nat.{ℕ, ◌*◌, ◌≤◌}
use lib.IntN.{ℤ}
use lib.ListN.{length}
use Rattle.whole.specs.Rules.{Rule, size_rules}
use Rattle.whole.specs.Search.{any_above, any_on_diagonal}
use Rattle.whole.proofs.Rules.{holds, first_none, fits, sizes_hold}
use Rattle.judges.specs.Values.{any_value_beyond}
use Rattle.joins.specs.Joins.{join_rules, join_refusal}

pub record Accepted (n : ℕ) (values : List ℤ) (categories weights : List ℕ) (room : ℕ) : Type 0 where
  pub two : 2 ≤ n
  pub zones : n ≤ 64
  pub values_fit : length values ≡ n
  pub categories_fit : length categories ≡ n
  pub weights_fit : length weights ≡ n * n
  pub room_fit : room ≡ 64
  pub light : any_above 9 weights ≡ false
  pub clear : any_on_diagonal n weights ≡ false
  pub low : any_above 7 categories ≡ false

pub accepted :
    (n : ℕ) (values : List ℤ) (categories weights : List ℕ) (room : ℕ) → join_refusal n values categories weights room ≡ 0 →
    Accepted n values categories weights room
unfolding join_refusal join_rules
accepted n values categories weights room e =
    let l = length categories in
    let m = length weights in
    let lengths : List (ℕ × ℕ) = (length values, n) ∷ (l, n) ∷ (m, n * n) ∷ (room, 64) ∷ [] in
    let rest : List Rule =
    (any_value_beyond values, 3) ∷ (any_above 9 weights, 4) ∷ (any_on_diagonal n weights, 5) ∷ (any_above 7 categories, 8) ∷ [] in
    let both = first_none rest 0 (size_rules n lengths) (tt, (tt, tt)) e in
    let s = sizes_hold n lengths both.0 in
    let l1 = fits (length values) n ((l, n) ∷ (m, n * n) ∷ (room, 64) ∷ []) s.fitting in
    let l2 = fits l n ((m, n * n) ∷ (room, 64) ∷ []) l1.1 in
    let l3 = fits m (n * n) ((room, 64) ∷ []) l2.1 in
    let e3 = holds (any_value_beyond values) 2 _ both.1 in
    let e4 = holds (any_above 9 weights) 3 _ e3.1 in
    let e5 = holds (any_on_diagonal n weights) 4 _ e4.1 in record {
      two = s.two;
      zones = s.zones;
      values_fit = l1.0;
      categories_fit = l2.0;
      weights_fit = l3.0;
      room_fit = (fits room 64 [] l3.1).0;
      light = e4.0;
      clear = e5.0;
      low = (holds (any_above 7 categories) 7 0 e5.1).0;
    }
