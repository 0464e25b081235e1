-- `put_kept` meets its contract. Assumes nothing.
use mathlib.Core.Path.{◌≡◌, refl, sym, ap, ◌∙◌}
use mathlib.Core.Bool.{Bool}
use mathlib.Core.List.{[], ◌∷◌}
use Prim.Native.Nat.{ℕ, ◌+◌}
use native.Mathlib.Omega.{arith}
use lib.ListN.{length}
use lib.Seq.{sets}
use Rattle.whole.specs.Search.{count}
use Rattle.whole.proofs.Counting.{count_zero, count_yes, count_no, count_le}
use Rattle.whole.proofs.Stores.{Stored, stored_none, stored_next, stored_over}
use Rattle.kept.specs.Kept.{passing, keeps, kept_zones, kept_count}
use Rattle.kept.proofs.Passing.{list_found, list_passed, passing_length}
use Rattle.kept.proofs.keeping.put_kept.Goals as goal
use Rattle.kept.proofs.keeping.put_kept.Goals.{then-touches, else-touches}

pub loop-i-init : goal.loop-i-init
unfolding passing
loop-i-init c = record { counted = sym (count_zero _); stored = stored_none _ refl }

-- no more zones are kept than passed
pub bounds-zones-many : goal.bounds-zones-many
bounds-zones-many c = omega (arith, c.loop-i.invariant.counted, count_le (keeps c.args.weights.now.n c.args.weights.now.rows.now) c.loop-i.i)

pub overflow_add-many : goal.overflow_add-many
overflow_add-many c = omega (arith, c.loop-i.invariant.counted, count_le (keeps c.args.weights.now.n c.args.weights.now.rows.now) c.loop-i.i)

pub loop-i-preserved : goal.loop-i-preserved
loop-i-preserved c =
    let test : ℕ → Bool = keeps c.args.weights.now.n c.args.weights.now.rows.now in
    let inv = c.loop-i.invariant in
    let i = c.loop-i.i in
    let told = sym c.touches.ensures in
    let many_are : c.loop-i.many ≡ 0 + length (passing test i) = omega (arith, inv.counted, passing_length test i) in
    elim c.if-touches.branch [
      | then-touches w ↦ let yes = told ∙ w.if-touches.true in record {
        counted = w.many-is ∙ count_yes test i c.loop-i.many inv.counted yes;
        stored = stored_next (i ∷ []) inv.stored w.zones-is many_are (sym (list_found test i _ yes refl));
      }
      | else-touches w ↦ let no = told ∙ w.if-touches.false in record {
        counted = w.many-is ∙ count_no test i c.loop-i.many inv.counted no;
        stored = record { same = w.zones-is ∙ inv.stored.same ∙ ap (sets c.args.zones.now 0) (list_passed test i _ no refl) };
      }
    ]

pub returns-clause-value : goal.returns-clause-value
unfolding kept_count
returns-clause-value c = c.loop-i.invariant.counted ∙ ap (count (keeps c.args.weights.now.n c.args.weights.now.rows.now)) (omega arith)

pub returns-clause-zones_after : goal.returns-clause-zones_after
unfolding kept_zones
returns-clause-zones_after c =
    let a = c.args in
    let test : ℕ → Bool = keeps a.weights.now.n a.weights.now.rows.now in
    let front : Stored a.zones.now 0 (passing test a.weights.now.n) c.loop-i.zones =
    record { same = c.loop-i.invariant.stored.same ∙ ap (λ k. sets a.zones.now 0 (passing test k)) (omega arith) } in
    stored_over front (omega (arith, passing_length test a.weights.now.n, count_le test a.weights.now.n))
