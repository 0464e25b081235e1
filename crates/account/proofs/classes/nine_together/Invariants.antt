use mathlib.Core.Path.{◌≡◌}
use Rattle.whole.specs.Sum.{sum}
use Rattle.account.specs.Classes.{row_at}
use Rattle.account.proofs.classes.nine_together.Given as goal

abbrev pub invariant-loop-row : goal.invariant-loop-row
invariant-loop-row l =
    (l.weight ≡ sum (λ k. (row_at l.rows k).weight) l.row-index) × (l.squares ≡ sum (λ k. (row_at l.rows k).squares) l.row-index)
