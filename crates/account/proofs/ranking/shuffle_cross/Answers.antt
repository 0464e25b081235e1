-- `shuffle_cross` meets its contract: the zones take their deviations in a local array, whose first n places are lent. Assumes nothing.
use mathlib.Core.Path.{◌≡◌, sym, ap, ◌∙◌}
use mathlib.Core.Bool.{false}
use mathlib.Core.List.{List}
use Prim.Native.Nat.{ℕ}
use lib.IntN.{ℤ, pos}
use lib.ListN.{length, get_or}
use mir.Syntax.{w64}
use Rattle.whole.specs.Order.{lacks}
use Rattle.whole.specs.Table.{table, at, pair_at}
use Rattle.whole.proofs.Lists.{front}
use Rattle.whole.proofs.Machine.{rd}
use Rattle.whole.proofs.Table.{table_length, table_held}
use Rattle.account.specs.Rank.{shuffled}
use Rattle.account.specs.Steps.{Sized}
use Rattle.account.proofs.Adding.{cross_alike}
use Rattle.account.proofs.Locals.{deviations_cross_told}
use Rattle.account.proofs.Reading.{table_sized}
use Rattle.account.proofs.Shuffled.{shuffled_size}
use Rattle.account.proofs.ranking.shuffle_cross.Goals as goal
use Rattle.account.proofs.ranking.shuffle_cross.Goals.{After-shuffle_deviations, Start}

-- the shuffled deviations, as the array's front holds them
module _ (c : After-shuffle_deviations) where
  abbrev a : Start
  a = ((goal.at.After-shuffle_deviations c).Start)

  abbrev n : ℕ
  n = a.args.weighed.now.n

  abbrev names : ℕ → ℕ
  names i = get_or a.args.row.now.zones.now i 0

  abbrev moved : ℕ → ℤ
  moved = shuffled (at a.args.weighed.now.d.now) names

  all : lacks names n ≡ false
  all = ap (lacks names) (sym a.requires) ∙ a.args.row.now.full

  as_long : length (table moved n) ≡ n
  as_long = table_length moved n

  sized : (l : List ℤ) → l ≡ table moved n → Sized 12800000 l n
  sized l e = table_sized 12800000 n moved l e (shuffled_size _ _ _ _ a.args.weighed.now.sized all)

  -- what was written
  written : c.shuffle_deviations.new.moved ≡ table moved n
  written = c.shuffle_deviations.ensures ∙ ap (table moved) a.requires

pub invariant_of-cross_sum : goal.invariant_of-cross_sum
invariant_of-cross_sum c =
    let s = (goal.at.invariant_of-cross_sum c).After-shuffle_deviations in record {
      weighted = (a s).args.weighed.now.weighted;
      sized = sized s _ (front {A = ℤ} _ _ (table (moved s) (n s)) _ (written s) (as_long s));
    }

pub returns : goal.returns
returns c =
    let s = (goal.at.returns c).After-shuffle_deviations in
    let w = (a s).args.weighed.now in
    let held = table_held (moved s) (n s) (pos 0) _ (front {A = ℤ} _ _ (table (moved s) (n s)) _ (written s) (as_long s)) in
    (rd w64 (deviations_cross_told _ _ w.weighted (moved s) (shuffled_size _ _ _ _ w.sized (all s))
    (c.cross_sum.ensures ∙ cross_alike (pair_at w.weights.now w.n) w.n _ (moved s) held)) tt).same
