-- `judge` meets its contract: its test is that of rule 18, part by part. Assumes nothing.
use mathlib.Core.Path.{◌≡◌, refl, sym, ap, ◌∙◌}
use mathlib.Core.Bool.{Bool, true, false, ◌||◌}
use lib.Dec.{ltb}
use lib.IntN.{ℤ, pos, nat_abs}
use lib.Signed.{lt_z}
use mir.Syntax.{w64}
use mir.ValLaws.{to_z-of_z}
use Rattle.whole.specs.Integer.{beyond}
use Rattle.whole.specs.Rules.{ratio_limit}
use Rattle.nearest.proofs.Accepted.{refused, let_in}
use Rattle.nearest.proofs.judge.Goals as goal
use Rattle.nearest.proofs.judge.Goals.{Joined-q-lt1, Joined-size-gt-LIMIT, then-q-lt1, else-q-lt1, then-size-gt-LIMIT, else-size-gt-LIMIT}

-- a test that is decided by its first part, and one that is not
by_first : (x a b : Bool) → x ≡ a → a ≡ true → x ≡ (a || b)
by_first x a b e f = rw (e, f) refl

by_second : (x a b : Bool) → x ≡ b → a ≡ false → x ≡ (a || b)
by_second x a b e f = rw (e, f) refl

two : (c : Joined-q-lt1) → c.if-q-lt1.value ≡ (lt_z c.args.q (pos 1) || beyond ratio_limit c.args.p)
two c =
    let q = ap (λ (z : ℤ). lt_z z (pos 1)) (to_z-of_z w64 c.args.q c.ranges.q) in
    let p = ap nat_abs (to_z-of_z w64 c.args.p c.ranges.p) in
    elim c.if-q-lt1.branch [
      | then-q-lt1 w ↦ by_first _ _ _ (w.value-is ∙ q) (sym q ∙ w.if-q-lt1.true)
      | else-q-lt1 w ↦ by_second _ _ _ (w.value-is ∙ ap (ltb ratio_limit) (w.size.ensures ∙ p)) (sym q ∙ w.if-q-lt1.false)
    ]

three :
    (c : Joined-size-gt-LIMIT) →
    let a = c.args in
    c.if-size-gt-LIMIT.value ≡ (lt_z a.q (pos 1) || beyond ratio_limit a.p || beyond ratio_limit a.q)
three c =
    let q = ap nat_abs (to_z-of_z w64 c.args.q c.ranges.q) in
    let first = two ((goal.at.Joined-size-gt-LIMIT c).Joined-q-lt1) in
    elim c.if-size-gt-LIMIT.branch [
      | then-size-gt-LIMIT w ↦ by_first _ _ _ (w.value-is ∙ first) (sym first ∙ w.if-size-gt-LIMIT.true)
      | else-size-gt-LIMIT w ↦ by_second _ _ _ (w.value-is ∙ ap (ltb ratio_limit) (w.size-else-size-gt-LIMIT.ensures ∙ q)) (sym first ∙
          w.if-size-gt-LIMIT.false)
    ]

pub returns-then-size-gt-LIMIT-2 : goal.returns-then-size-gt-LIMIT-2
returns-then-size-gt-LIMIT-2 c = let a = c.args in refused a.p a.q (sym (three ((goal.at.returns-then-size-gt-LIMIT-2
    c).Joined-size-gt-LIMIT)) ∙ c.if-size-gt-LIMIT-2.true)

pub returns-else-size-gt-LIMIT-2 : goal.returns-else-size-gt-LIMIT-2
returns-else-size-gt-LIMIT-2 c = let a = c.args in let_in a.p a.q (sym (three ((goal.at.returns-else-size-gt-LIMIT-2
    c).Joined-size-gt-LIMIT)) ∙ c.if-size-gt-LIMIT-2.false)
