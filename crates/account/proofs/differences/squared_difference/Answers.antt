-- `squared_difference` meets its contract: each step is exact. Assumes nothing.
use mathlib.Core.Path.{◌≡◌, ◌∙◌}
use Prim.Native.Nat.{◌≤◌}
use lib.IntN.{ℤ, nat_abs, ◌-ℤ◌}
use mir.Syntax.{w32, w64}
use Rattle.whole.specs.Integer.{square}
use Rattle.whole.proofs.Machine.{Is, val, told, rd, is__, is_*, fit, r32, r64}
use Rattle.account.proofs.differences.squared_difference.Goals as goal
use Rattle.account.proofs.differences.squared_difference.Goals.{After-from-2}

-- a value widened
value : (a : ℤ) {y : ℤ} → y ≡ r32 a → nat_abs a ≤ 100000 → Is y a 100000
value a e h = told a 100000 (e ∙ (rd w32 (val a 100000 h) tt).same) h

-- the difference of two, and its square
module _ (c : After-from-2) where
  difference : Is (r64 c.from.result -ℤ r64 c.from-2.result) (c.args.a -ℤ c.args.b) 200000
  difference =
      is__ (rd w64 (value c.args.a c.from.ensures c.requires.a_bound) tt) (rd w64 (value c.args.b c.from-2.ensures c.requires.b_bound) tt)

  squared : Is (square (r64 (r64 c.from.result -ℤ r64 c.from-2.result))) (square (c.args.a -ℤ c.args.b)) 40000000000
  squared = let d = rd w64 difference tt in is_* d d

pub overflow_sub-difference : goal.overflow_sub-difference
overflow_sub-difference c = fit w64 (difference c) tt

pub overflow_mul-result : goal.overflow_mul-result
overflow_mul-result c = fit w64 (squared c) tt

pub returns : goal.returns
returns c = (rd w64 (squared c) tt).same
