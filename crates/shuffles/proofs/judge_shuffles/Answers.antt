-- `judge_shuffles` meets its contract: the number of n and of the length, then what the search finds. Assumes nothing.
use Rattle.std.proofs.Common.{◌≡◌, sym, ap, ◌∙◌, [], ◌∷◌, ℕ, ◌*◌, ◌/◌, arith, length}
use Rattle.std.proofs.lemmas.Result.{err_from_is_err_and}
use borrow.Author.Tests.{le-ltb, eq-eqb}
use Rattle.refusals.proofs.Refusals.{not_refused}
use Rattle.whole.specs.Rules.{size_rules}
use Rattle.whole.specs.Search.{some}
use Rattle.whole.proofs.Rules.{Sizes, sizes_hold, fits, first_here}
use Rattle.shuffles.specs.Shuffles.{shuffle_count, any_lacking, row_refusal, shuffle_refusal}
use Rattle.shuffles.proofs.ShuffleList.{whole_rows}
use Rattle.shuffles.proofs.judge_shuffles.Goals as goal
use Rattle.shuffles.proofs.judge_shuffles.Goals.{In_ok-judge_rows, After-any_lacking}

-- n is good, and the list has nothing beside its rows
module _ (c : In_ok-judge_rows) where
  abbrev n : ℕ
  n = c.args.n

  abbrev long : ℕ
  long = length c.args.shuffles.now

  sized : Sizes n ((long, shuffle_count n long * n) ∷ [])
  unfolding row_refusal
  sized = sizes_hold n ((long, shuffle_count n long * n) ∷ []) (sym c.in_ok-judge_rows.ensures)

  whole : long ≡ shuffle_count n long * n
  whole = (fits long (shuffle_count n long * n) [] sized.fitting).0

  counted : shuffle_count n long ≡ long / n
  counted = whole_rows n long (omega (arith, sized.two)) whole

-- what the search finds is what the last rule asks
searched :
    (c : After-any_lacking) →
    let s = c.args in any_lacking s.n s.shuffles.now ≡ c.any_lacking.result
unfolding any_lacking
searched c = ap (some _) (counted ((goal.at.After-any_lacking c).In_ok-judge_rows)) ∙ sym c.any_lacking.ensures

pub returns-in_err-judge_rows : goal.returns-in_err-judge_rows
unfolding row_refusal shuffle_refusal
returns-in_err-judge_rows c =
    let p = err_from_is_err_and c.from_residual.result c.from_residual.ensures.1 in
    let a = c.args in
    let long = length a.shuffles.now in
    rw (p.1, p.2) (first_here ((any_lacking a.n a.shuffles.now, 13) ∷ []) (size_rules a.n ((long, shuffle_count a.n long * a.n) ∷ [])) _
    c.in_err-judge_rows.ensures (not_refused _))

pub any_lacking-requires : goal.any_lacking-requires
any_lacking-requires c =
    let o = (goal.at.any_lacking-requires c).In_ok-judge_rows in
    (omega (arith, (sized o).two), (sized o).zones)

pub returns-then-any_lacking : goal.returns-then-any_lacking
unfolding shuffle_refusal
returns-then-any_lacking c =
    let o = (goal.at.returns-then-any_lacking c).In_ok-judge_rows in
    simp (
      le-ltb _ _ (sized o).two,
      le-ltb _ _ (sized o).zones,
      eq-eqb _ _ (whole o),
      searched ((goal.at.returns-then-any_lacking c).After-any_lacking) ∙ c.if-any_lacking.true,
    )

pub returns : goal.returns
unfolding shuffle_refusal
returns c =
    let o = (goal.at.returns c).In_ok-judge_rows in
    simp (
      le-ltb _ _ (sized o).two,
      le-ltb _ _ (sized o).zones,
      eq-eqb _ _ (whole o),
      searched ((goal.at.returns c).After-any_lacking) ∙ c.if-any_lacking.false,
    )
