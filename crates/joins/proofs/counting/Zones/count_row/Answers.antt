-- `count_row` meets its contract. The loop's invariant: the weights passed are counted. Assumes nothing.
use mathlib.Core.Path.{◌≡◌, refl, sym, ap, subst, ◌∙◌}
use mathlib.Core.List.{List}
use Prim.Native.Nat.{ℕ, ◌+◌, ◌*◌, ◌≤◌, ◌<◌}
use native.Mathlib.Nat as N
use native.Mathlib.Omega.{arith}
use lib.Arith.{digits_div, digits_mod}
use lib.IntN.{ℤ, pos, ◌+ℤ◌}
use lib.ListN.{length, get_or, set, drop}
use lib.Seq.{get_or-take, get_or-drop, length-take-le}
use mir.Syntax.{w64}
use Rattle.whole.specs.Table.{at}
use Rattle.whole.proofs.Machine.{Is, told, rd, is_+, fit, r64}
use Rattle.whole.proofs.Search.{none_above}
use Rattle.joins.specs.Joins.{category_at}
use Rattle.joins.specs.Steps.{entry_of, Counted}
use Rattle.joins.proofs.Counted.{one_counted, entry_size}
use Rattle.joins.proofs.counting.Zones.count_row.Goals as goal
use Rattle.joins.proofs.counting.Zones.count_row.Goals.{After-from, Start}

module _ (s : Start) where
  abbrev n : ℕ
  n = s.args.self.now.n

  abbrev categories : List ℕ
  categories = s.args.self.now.categories.now

  abbrev weights : List ℕ
  weights = s.args.self.now.weights.now

  low : (k : ℕ) → k < n → category_at categories k < 8
  low k h =
      let z = none_above 7 categories s.args.self.now.low k (omega (arith, s.args.self.now.categories_fit)) in
      omega arith

-- the entry of the weight from zone i to zone j
entry_at :
    (n : ℕ) (categories weights : List ℕ) (i j : ℕ) → j < n →
    entry_of n categories weights (i * n + j) ≡ category_at categories i * 8 + category_at categories j
entry_at n categories weights i j h = rw (digits_div i {m = n} {r = j} h, digits_mod i {m = n} {r = j} h) refl

-- a turn: the weight's place in the list, its entry, and what is added
module _ (c : After-from) where
  abbrev s : Start
  s = (goal.at.After-from c).Start

  abbrev i : ℕ
  i = c.args.i

  abbrev j : ℕ
  j = c.loop-j.j

  abbrev place : ℕ
  place = i * n s + j

  within : i * n s + n s ≤ n s * n s
  within = omega (arith, N.mul-le-mul_right (n s) c.requires.i_lt_n)

  column : j < n s
  column = omega (arith, c.loop-j-test.true, length-take-le (n s) (drop (i * n s) (weights s)))

  abbrev entry : ℕ
  entry = entry_of (n s) (categories s) (weights s) place

  entry_named : entry ≡ category_at (categories s) i * 8 + category_at (categories s) j
  entry_named = entry_at (n s) (categories s) (weights s) i j column

  entry_is : c.from-from.result * 8 + c.from-to.result ≡ entry
  entry_is = omega (arith, entry_named, c.from-from.ensures, c.from-to.ensures)

  entry_low : entry < 64
  entry_low = omega (arith, entry_named, low s i c.requires.i_lt_n, low s j column)

  inside : c.from-from.result * 8 + c.from-to.result < length c.loop-j.entries
  inside = omega (arith, entry_is, entry_low, c.loop-j.invariant.count)

  read : c.from.result ≡ pos (get_or (weights s) place 0)
  read = c.from.ensures ∙ ap pos (get_or-take _ (drop (i * n s) (weights s)) j 0 (omega (arith, column)) ∙ get_or-drop (i * n s) (weights s) j 0)

  abbrev so_far : ℤ
  so_far = at c.loop-j.entries (c.from-from.result * 8 + c.from-to.result)

  added : Is (r64 so_far +ℤ r64 c.from.result) (at c.loop-j.entries entry +ℤ pos (get_or (weights s) place 0)) 36873
  added =
      let z = s.args.self.now in
      let small = entry_size (n s) (categories s) (weights s) _ place entry z.light z.weights_fit z.few c.loop-j.invariant entry_low in
      let light = none_above 9 (weights s) z.light place (omega (arith, within, column, z.weights_fit)) in
      is_+ (rd w64 (told (at c.loop-j.entries entry) 36864 (ap (at c.loop-j.entries) entry_is) small) tt)
      (rd w64 (told (pos (get_or (weights s) place 0)) 9 read light) tt)

pub slice_copy_out-entries : goal.slice_copy_out-entries
slice_copy_out-entries c = inside ((goal.at.slice_copy_out-entries c).After-from)

pub overflow_add-entries : goal.overflow_add-entries
overflow_add-entries c = fit w64 (added ((goal.at.overflow_add-entries c).After-from)) tt

pub bounds-entries-entry : goal.bounds-entries-entry
bounds-entries-entry c = inside ((goal.at.bounds-entries-entry c).After-from)

pub loop-j-preserved : goal.loop-j-preserved
loop-j-preserved c =
    let t = (goal.at.loop-j-preserved c).After-from in
    let v = r64 (r64 (so_far t) +ℤ r64 c.from.result) in
    let p : place t < n (s t) * n (s t) = omega (arith, within t, column t) in
    let counted = one_counted _ _ _ c.loop-j.entries (place t) v c.loop-j.invariant p (entry_low t) (rd w64 (added t) tt).same in
    let next : place t + 1 ≡ c.args.i * n (s t) + (c.loop-j.j + 1) = omega arith in
    subst (λ k. Counted (n (s t)) (categories (s t)) (weights (s t)) (set c.loop-j.entries k v) (c.args.i * n (s t) + (c.loop-j.j + 1)))
    (sym (entry_is t)) (subst (Counted (n (s t)) (categories (s t)) (weights (s t)) (set c.loop-j.entries (entry t) v)) next counted)

pub returns : goal.returns
returns c =
    let z = c.args.self.now in
    subst (Counted z.n z.categories.now z.weights.now c.loop-j.entries) (omega (arith, c.loop-j-test.false)) c.loop-j.invariant
