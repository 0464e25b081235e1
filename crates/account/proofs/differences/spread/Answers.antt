-- `spread` meets its contract: the squared differences over the pairs are n times the sum of the squares, less the square of the sum.
-- Assumes nothing.
use mathlib.Core.Path.{sym, ◌∙◌}
use Prim.Native.Nat.{ℕ}
use native.Mathlib.Nat as N
use lib.IntN.{ℤ, pos, ◌-ℤ◌, ◌*ℤ◌}
use mir.Syntax.{w64}
use mir.Val.{to_z}
use Rattle.whole.specs.Integer.{square}
use Rattle.whole.specs.Sum.{sum}
use Rattle.whole.specs.Table.{at}
use Rattle.whole.proofs.Machine.{Is, nat, told, rd, is__, is_*, fit, r64}
use Rattle.whole.proofs.Pairs.{pairs_sum}
use Rattle.account.specs.Measures.{total_of, spread_of}
use Rattle.account.proofs.Running.{total_runs, square_runs}
use Rattle.account.proofs.differences.spread.Goals as goal
use Rattle.account.proofs.differences.spread.Goals.{After-square_sum-squares, Start}

module _ (c : After-square_sum-squares) where
  abbrev s : Start
  s = ((goal.at.After-square_sum-squares c).Start)

  abbrev n : ℕ
  n = s.args.summed.now.list.n

  abbrev x : ℕ → ℤ
  x = at s.args.summed.now.list.values.now

  total_is : Is (r64 s.args.summed.now.total) (sum x n) 6400000
  unfolding total_of
  total_is = rd w64 (told _ 6400000 s.args.summed.now.summed ((total_runs _ _ s.args.summed.now.list.valued).bound n (N.le_refl n))) tt

  squares_are : Is (r64 c.square_sum-squares.result) (sum (λ i. square (x i)) n) 640000000000
  squares_are = rd w64 (told _ 640000000000 c.square_sum-squares.ensures ((square_runs _ _ s.args.summed.now.list.valued).bound n (N.le_refl n))) tt

  -- n times the squares, the square of the sum, and what is left
  first : Is (to_z w64 n *ℤ r64 c.square_sum-squares.result) (pos n *ℤ sum (λ i. square (x i)) n) 40960000000000
  first = is_* (nat w64 n 64 s.args.summed.now.list.valued.zones tt) squares_are

  second : Is (r64 s.args.summed.now.total *ℤ r64 s.args.summed.now.total) (square (sum x n)) 40960000000000
  second = is_* total_is total_is

  difference :
      Is (r64 (to_z w64 n *ℤ r64 c.square_sum-squares.result) -ℤ r64 (r64 s.args.summed.now.total *ℤ r64 s.args.summed.now.total))
      (pos n *ℤ sum (λ i. square (x i)) n -ℤ square (sum x n)) 81920000000000
  difference = is__ (rd w64 first tt) (rd w64 second tt)

pub overflow_mul-result : goal.overflow_mul-result
overflow_mul-result c = fit w64 (first ((goal.at.overflow_mul-result c).After-square_sum-squares)) tt

pub overflow_mul-result-2 : goal.overflow_mul-result-2
overflow_mul-result-2 c = fit w64 (second ((goal.at.overflow_mul-result-2 c).After-square_sum-squares)) tt

pub overflow_sub-result : goal.overflow_sub-result
overflow_sub-result c = fit w64 (difference ((goal.at.overflow_sub-result c).After-square_sum-squares)) tt

pub returns : goal.returns
unfolding spread_of
returns c =
    let t = (goal.at.returns c).After-square_sum-squares in (rd w64 (difference t) tt).same ∙ sym (pairs_sum (x t) (n t))
