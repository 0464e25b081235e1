-- `more_digits` meets its contract: no shift loses a digit. Assumes nothing.
use mathlib.Core.Path.{refl}
use Prim.Native.Nat.{◌<◌}
use native.Mathlib.Nat.{mod-lt}
use native.Mathlib.Omega.{arith}
use Rattle.nearest.proofs.Doublings.{further_most, further_same}
use Rattle.nearest.proofs.division.more_digits.Goals as goal

pub overflow_add-result : goal.overflow_add-result
overflow_add-result c =
    let a = c.args in
    let p = c.requires in
    let h = further_most a.x.whole a.x.rest a.divisor a.count p.rest_lt_divisor p.count_bound p.count_bound_2 in
    omega arith

pub returns : goal.returns
returns c =
    let a = c.args in
    let p = c.requires in
    let D : 0 < a.divisor = omega arith in record {
      rest_value = further_same a.x.whole a.x.rest a.divisor a.count p.rest_lt_divisor p.count_bound p.count_bound_2;
      rest_lt_divisor_2 = mod-lt _ D;
      whole_bound = further_most a.x.whole a.x.rest a.divisor a.count p.rest_lt_divisor p.count_bound p.count_bound_2;
      halvings_value = refl;
    }
