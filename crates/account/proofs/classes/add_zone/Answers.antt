-- `add_zone` meets its contract. The loop's invariant: zone i is in the sums and the local numerators of the first k classes, the zones
-- before it in those of all; the local numerators of zone i in the first k classes are added up. Assumes nothing.
use mathlib.Core.Path.{◌≡◌, refl, ap, ◌∙◌}
use mathlib.Core.List.{List}
use Prim.Native.Nat.{ℕ, zero, suc, ◌+◌, ◌*◌, ◌≤◌, ◌<◌}
use native.Mathlib.Nat as N
use native.Mathlib.Omega.{arith}
use borrow.Author.Tests.{lt-ltb, le-ltb}
use lib.IntN.{ℤ, pos, nat_abs, ◌+ℤ◌, ◌*ℤ◌}
use lib.ListN.{length-set}
use mir.Syntax.{w64}
use mir.Val.{to_z}
use Rattle.whole.specs.Sum.{sum}
use Rattle.whole.specs.Table.{table, table_rows, at, pair_at}
use Rattle.whole.proofs.Accumulate.{Bounded, running_none, running_more, running_done}
use Rattle.whole.proofs.Machine.{Is, told, rd, is_*, to, fit, r64}
use Rattle.whole.proofs.SumSize.{sum_size}
use Rattle.whole.proofs.Table.{stored}
use Rattle.account.specs.Measures.{deviation_of, local_of}
use Rattle.account.specs.Classes.{zones_class_local, sum_at}
use Rattle.account.specs.Steps.{zone_part, zone_sum}
use Rattle.account.specs.declared.ClassRow.{ClassRow}
use Rattle.account.proofs.ByClass.{sums_at}
use Rattle.account.proofs.Locals.{deviations_sized, deviation_is}
use Rattle.account.proofs.NineClasses.{locals_together}
use Rattle.account.proofs.ZoneByZone.{zones_in, zones_most, same_zones, one_class, part_size, class_local_size, zones_sized, added_small}
use Rattle.account.proofs.classes.add_zone.Goals as goal
use Rattle.account.proofs.classes.add_zone.Goals.{In-loop-k, Start}

-- what the call was lent
module _ (s : Start) where
  abbrev n : ℕ
  n = s.args.work.now.lists.job.n

  abbrev i : ℕ
  i = s.args.i

  abbrev values : List ℤ
  values = s.args.work.now.lists.job.values.now

  abbrev weights : List ℕ
  weights = s.args.work.now.lists.job.weights.now

  abbrev classes : List ℕ
  classes = s.args.work.now.lists.classes.now

  zones : n ≤ 64
  zones = s.args.work.now.lists.good.job.valued.zones

  inside : i < n
  inside = s.requires.i_lt_n

  -- the local numerators of zone i in the classes, added up one after the other
  runs : Bounded w64 (λ q. zones_class_local n values weights classes q i) 9 849346560000000000
  runs = record {
    bound =
        λ m le.
        let small : (q : ℕ) → q < m → nat_abs (zones_class_local n values weights classes q i) ≤ 94371840000000000 =
        λ q p. class_local_size n values weights classes s.args.work.now.lists.good q i inside in
        omega (arith, sum_size (λ q. zones_class_local n values weights classes q i) m 94371840000000000 small);
    small = tt;
  }

-- a turn: what the pairs of zone i gave of class k, and what is added to its sums
module _ (t : In-loop-k) where
  abbrev start : Start
  start = ((goal.at.In-loop-k t).Start)

  abbrev k : ℕ
  k = t.loop-k.k

  low : k < 9
  low = t.loop-k-test.true

  -- the place of zone i among the local numerators
  local_in : k * n start + i start < 9 * n start
  local_in = omega (arith, N.mul-le-mul_right (n start) low, inside start)

  abbrev parts : List ℤ
  parts = t.add_pairs.new.parts

  part_is :
      (place p : ℕ) → place ≡ k * 3 + p → p < 3 →
      Is (r64 (at parts place)) (zone_part (n start) (values start) (weights start) (classes start) (i start) k p) 23040000000000
  part_is place p e h =
      let part = zone_part (n start) (values start) (weights start) (classes start) (i start) in
      let held = ap (at parts) e ∙ sums_at part parts t.add_pairs.ensures k p low h in
      let size = part_size (n start) (values start) (weights start) (classes start) start.args.work.now.lists.good (i start) k p (inside start) in
      rd w64 (told (part k p) 23040000000000 held size) tt

  local_is :
      Is (r64 (at start.args.work.now.d.now (i start)) *ℤ r64 (at parts (k * 3 + 1)))
      (zones_class_local (n start) (values start) (weights start) (classes start) k (i start)) 94371840000000000
  unfolding zones_class_local local_of zone_part
  local_is =
      let v = start.args.work.now.lists.good.job.valued in
      let d = deviation_is (values start) (n start) start.args.work.now.d.now v start.args.work.now.worked (i start) (inside start) in
      to 94371840000000000 (is_* d (part_is (k * 3 + 1) 1 refl (omega arith))) refl
      (class_local_size (n start) (values start) (weights start) (classes start) start.args.work.now.lists.good k (i start) (inside start))

  abbrev added : ClassRow
  added = record {
    weight = r64 (at parts (k * 3));
    cross = r64 (r64 (at start.args.work.now.d.now (i start)) *ℤ r64 (at parts (k * 3 + 1)));
    squares = r64 (at parts (k * 3 + 2));
  }

  -- one more of them
  own_more :
      Is (to_z w64 t.loop-k.own-bits +ℤ added.cross)
      (sum (λ q. zones_class_local (n start) (values start) (weights start) (classes start) q (i start)) (k + 1)) 849346560000000000
  own_more = running_more (runs start) k (to_z w64 t.loop-k.own-bits) (omega (arith, low)) t.loop-k.invariant.1 (rd w64 local_is tt)

  each : (place : ℕ) → sum_at added place ≡ zone_sum (n start) (values start) (weights start) (classes start) k place (i start)
  each zero = (part_is (k * 3) 0 (omega arith) (omega arith)).same
  each (suc zero) = (rd w64 local_is tt).same
  each (suc (suc place)) = (part_is (k * 3 + 2) 2 refl (omega arith)).same

pub add_pairs-requires-clause-parts_value : goal.add_pairs-requires-clause-parts_value
unfolding table table_rows
add_pairs-requires-clause-parts_value c = refl

pub bounds-work-i : goal.bounds-work-i
bounds-work-i c =
    let a = c.args in
    omega (arith, c.requires.i_lt_n, (deviations_sized a.work.now.lists.job.values.now a.work.now.lists.job.n a.work.now.d.now c.args.work.now.lists.good.job.valued c.args.work.now.worked).count)

pub loop-k-init : goal.loop-k-init
loop-k-init c =
    let a = c.args in
    let none : (k : ℕ) → k < 9 → a.i ≡ zones_in a.i 0 k = λ k p. rw (le-ltb k 0 (omega arith)) refl in (
      same_zones a.work.now.lists.job.n a.work.now.lists.job.values.now a.work.now.lists.job.weights.now a.work.now.lists.classes.now (λ k. a.i) (zones_in a.i 0) _ _ none c.requires.zoned,
      running_none _,
    )

pub overflow_mul-local : goal.overflow_mul-local
overflow_mul-local c = fit w64 (local_is ((goal.at.overflow_mul-local c).In-loop-k)) tt

pub add_row-requires : goal.add_row-requires
add_row-requires c =
    let t = (goal.at.add_row-requires c).In-loop-k in
    let a = c.args in
    let most : (q : ℕ) → q < 9 → zones_in a.i (k t) q ≤ a.work.now.lists.job.n = λ q p. omega (arith, zones_most a.i (k t) q, c.requires.i_lt_n) in record {
      sized =
          zones_sized a.work.now.lists.job.n a.work.now.lists.job.values.now a.work.now.lists.job.weights.now a.work.now.lists.classes.now c.args.work.now.lists.good (zones_in a.i (k t)) _ _ most c.loop-k.invariant.0;
      k_bound = low t;
      weight_bound = added_small (part_is t (k t * 3) 0 (omega arith) (omega arith)) (omega arith);
      cross_bound = added_small (rd w64 (local_is t) tt) (omega arith);
      squares_bound = added_small (part_is t (k t * 3 + 2) 2 refl (omega arith)) (omega arith);
    }

pub overflow_add-own : goal.overflow_add-own
overflow_add-own c = fit w64 (own_more ((goal.at.overflow_add-own c).In-loop-k)) tt

pub loop-k-preserved : goal.loop-k-preserved
loop-k-preserved c =
    let t = (goal.at.loop-k-preserved c).In-loop-k in
    let a = c.args in
    let b = c.loop-k in (
      one_class a.work.now.lists.job.n a.work.now.lists.job.values.now a.work.now.lists.job.weights.now a.work.now.lists.classes.now a.i (k t) (added t) b.rows _ b.class_locals c.requires.i_lt_n (low t)
          b.invariant.0 c.add_row.ensures (each t),
      (rd w64 (own_more t) tt).same,
    )

pub returns : goal.returns
returns c =
    let a = c.args in
    let b = c.loop-k in
    let nine : b.k ≡ 9 = omega arith in
    let all : (k : ℕ) → k < 9 → zones_in a.i b.k k ≡ a.i + 1 = λ k p. rw (lt-ltb k b.k (omega (arith, nine))) refl in
    -- what is stored is L(i)
    let own_is =
    running_done _ _ b.k (to_z w64 b.own-bits) nine b.invariant.1
    ∙ locals_together a.work.now.lists.job.n a.work.now.lists.job.values.now a.work.now.lists.job.weights.now a.work.now.lists.classes.now c.args.work.now.lists.good.classed.low a.i c.requires.i_lt_n in record {
      zoned_2 =
          same_zones a.work.now.lists.job.n a.work.now.lists.job.values.now a.work.now.lists.job.weights.now a.work.now.lists.classes.now (zones_in a.i b.k) (λ k. a.i + 1) _ _ all b.invariant.0;
      owned_2 = record {
        count = length-set a.locals.now a.i _ ∙ c.requires.owned.count;
        numerators =
            stored (local_of (pair_at a.work.now.lists.job.weights.now a.work.now.lists.job.n) (deviation_of (at a.work.now.lists.job.values.now) a.work.now.lists.job.n) a.work.now.lists.job.n) (pos 0) _ a.locals.now a.i
            (omega (arith, c.requires.i_lt_n, c.requires.owned.count)) own_is c.requires.owned.numerators;
      };
    }
