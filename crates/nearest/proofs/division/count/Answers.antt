-- `count` meets its contract. Assumes nothing.
use mathlib.Core.Path.{sym, ap, ◌∙◌}
use Prim.Native.Nat.{ℕ, ◌+◌, ◌*◌, ◌^◌, ◌≤◌}
use native.Mathlib.Nat as N
use native.Mathlib.Omega.{arith}
use lib.Pow.{pow-add}
use Rattle.nearest.specs.Steps.{Room}
use Rattle.nearest.proofs.Doublings.{less_often}
use Rattle.nearest.proofs.division.count.Goals as goal
use Rattle.nearest.proofs.division.count.Goals.{After-room-lacking}

-- a number that can be doubled c + 11 times and stays below 2^64 can be doubled c times and stays below 2^53
inside : (w r c : ℕ) → Room w r → c + 11 ≤ r → (w + 1) * 2 ^ c ≤ 2 ^ 53
inside w r c R h =
    small ((w + 1) * 2 ^ c)
    (N.le_trans (N.le_of_eq (N.mul_assoc (w + 1) (2 ^ c) (2 ^ 11) ∙ ap (λ (z : ℕ). (w + 1) * z) (sym (pow-add 2 c 11))))
    (less_often (w + 1) r (c + 11) (2 ^ 64) h R.inside))
  where
    small : (p : ℕ) → p * 2 ^ 11 ≤ 2 ^ 64 → p ≤ 2 ^ 53
    small p h = omega arith

-- a whole part that lacks a digit can be doubled twelve times
lacks : (c : After-room-lacking) → 12 ≤ c.room-lacking.result
lacks c =
    let h = c.room-lacking.ensures.most 52 c.requires.whole_bound in
    omega arith

pub overflow_sub-lacking : goal.overflow_sub-lacking
overflow_sub-lacking c = omega (arith, lacks c)

pub returns : goal.returns
returns c =
    let some = lacks ((goal.at.returns c).After-room-lacking) in
    record {
      result_nonzero = omega (arith, some);
      upper_bound = omega arith;
      upper_bound_2 = omega (arith, c.room-lacking.ensures.few);
      result_bound = inside c.args.whole c.room-lacking.result c.min.result c.room-lacking.ensures (omega (arith, some));
    }
