-- `rank_all` meets its contract: each shuffle is desk 0's, and no refusal can come. Assumes nothing.
use mathlib.Core.Path.{◌≡◌, ◌∙◌}
use mathlib.Core.List.{List}
use Prim.Native.Nat.{ℕ, ◌/◌}
use native.Mathlib.Omega.{arith}
use lib.ListN.{length, take}
use lib.Seq.{length-take-le}
use Rattle.std.proofs.Common.{All}
use Rattle.std.proofs.lemmas.List.Elements.{All-take}
use Rattle.report.proofs.Desks.{taken, counted}
use Rattle.refusals.proofs.Unrefused.{unrefused}
use Rattle.report.proofs.working.rank_all.Goals as goal
use Rattle.report.proofs.working.rank_all.Goals.{After-rank}

-- the desk numbers that are lent: so many as there are shuffles, each 0
module _ (c : After-rank) where
  abbrev rows : ℕ
  rows = length c.args.shuffles.now / length c.args.values.now

  abbrev desks : List ℕ
  desks = take rows c.room-desks.result

  zeros : All (λ desk. desk ≡ 0) desks
  zeros = All-take (λ desk. desk ≡ 0) rows c.room-desks.result c.room-desks.ensures.entries

  each : length desks ≡ rows
  each = length-take-le rows c.room-desks.result (omega (arith, c.requires.few, c.room-desks.ensures.size))

pub unwrap-requires : goal.unwrap-requires
unwrap-requires c =
    let b = (goal.at.unwrap-requires c).After-rank in
    unrefused _ (c.rank.ensures.number ∙ taken (desks b) (zeros b) _ _ _ _ c.requires (each b))

pub returns : goal.returns
returns c =
    let b = (goal.at.returns c).After-rank in
    counted (desks b) (zeros b) _ _ _ _ c.requires (each b) _ c.rank.ensures.counts _ c.unwrap.ensures
