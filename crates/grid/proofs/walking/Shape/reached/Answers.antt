-- `reached` meets its contract: a step leads to the zone of the row and the column that it lands at, and to no other. Assumes nothing.
use mathlib.Core.Path.{◌≡◌, sym, ◌∙◌}
use lib.IntN.{pos, ◌+ℤ◌}
use Rattle.std.proofs.Common.{arith}
use Rattle.std.proofs.lemmas.Grind.{common_steps}
use Rattle.grid.specs.Steps.{landing}
use Rattle.grid.proofs.Zones.{out_of_rows, out_of_columns, target_within, target_only}
use Rattle.grid.proofs.walking.Shape.reached.Goals as goal
use Rattle.grid.proofs.walking.Shape.reached.Goals.{After-landing, After-landing-2}

-- the steps are read as they are
row_is : (c : After-landing) → c.landing.result ≡ landing c.args.self.rows (pos c.args.row +ℤ c.args.step.0)
row_is c = grind (arith, common_steps)

column_is : (c : After-landing-2) → c.landing-2.result ≡ landing c.args.self.columns (pos c.args.column +ℤ c.args.step.1)
column_is c = grind (arith, common_steps)

pub returns-in_err-to_row-clause-only : goal.returns-in_err-to_row-clause-only
returns-in_err-to_row-clause-only c =
    let a = c.args in
    let e = row_is ((goal.at.returns-in_err-to_row-clause-only c).After-landing) in
    out_of_rows a.self.rows a.self.columns a.row a.column a.step c.requires.column_bound _ (sym e ∙ c.in_err-to_row.was) c.from_residual.ensures

pub returns-in_err-to_column-clause-only : goal.returns-in_err-to_column-clause-only
returns-in_err-to_column-clause-only c =
    let a = c.args in
    let e = column_is ((goal.at.returns-in_err-to_column-clause-only c).After-landing-2) in
    out_of_columns a.self.rows a.self.columns a.row a.column a.step c.requires.column_bound _ (sym e ∙ c.in_err-to_column.was)
    c.from_residual-in_err-to_column.ensures

pub returns-clause-within : goal.returns-clause-within
returns-clause-within c =
    let a = c.args in
    let l = (goal.at.returns-clause-within c).After-landing-2 in
    let k = (goal.at.After-landing-2 l).After-landing in
    target_within a.self.rows a.self.columns a.row a.column a.step c.requires.column_bound _ _
    (sym (row_is k) ∙ c.in_ok-to_row.was) (sym (column_is l) ∙ c.in_ok-to_column.was)

pub returns-clause-only : goal.returns-clause-only
returns-clause-only c =
    let a = c.args in
    let l = (goal.at.returns-clause-only c).After-landing-2 in
    let k = (goal.at.After-landing-2 l).After-landing in
    target_only a.self.rows a.self.columns a.row a.column a.step c.requires.column_bound _ _
    (sym (row_is k) ∙ c.in_ok-to_row.was) (sym (column_is l) ∙ c.in_ok-to_column.was)

pub overflow_mul-result : goal.overflow_mul-result
overflow_mul-result c = let h = returns-clause-within c in omega (arith, c.args.self.small)

pub overflow_add-result : goal.overflow_add-result
overflow_add-result c = let h = returns-clause-within c in omega (arith, c.args.self.small)
