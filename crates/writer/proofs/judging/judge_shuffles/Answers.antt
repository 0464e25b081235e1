-- `judge_shuffles` meets its contract: of whole rows 13 alone is judged. Assumes nothing.
use mathlib.Core.Path.{sym, ◌∙◌}
use Prim.Native.Nat.{◌*◌, ◌≤◌}
use native.Mathlib.Nat as N
use native.Mathlib.Omega.{arith}
use borrow.Author.Tests.{ltb-false}
use lib.Dec.{ltb}
use lib.ListN.{take}
use lib.Seq.{length-take-le}
use Rattle.whole.proofs.Rules.{holds}
use Rattle.image.specs.Writer.{listed}
use Rattle.image.proofs.Buffers.{exact}
use Rattle.image.proofs.Weights.{shuffles_decide}
use Rattle.writer.proofs.judging.judge_shuffles.Goals as goal

pub returns : goal.returns
returns c =
    let a = c.args.job.now in
    let n = a.given.values in
    let k = a.given.shuffles in
    let lengths = exact (listed a.lists) a.sized.fits in
    let entries = take (k * n) a.lists.shuffles.now in
    let counted = (holds (ltb 499 k) 14 0 (sym c.in_ok-judge_shuffle_count.ensures)).0 in
    let few : k ≤ 499 = ltb-false 499 k counted in
    let room : k * n ≤ 31936 = N.mul-le-mul {n₂ = 499} {m₂ = 64} few a.sized.zones in
    let there = length-take-le (k * n) a.lists.shuffles.now (omega (arith, lengths.shuffles)) in
    let decided = (rw c.shuffles.ensures at c.judge_shuffles.ensures) ∙ shuffles_decide n k entries a.sized.two a.sized.zones few there in
    rw counted decided
