-- `taken` meets its contract: each byte is the one at its place, also where the place is too large for the machine. Assumes nothing.
use Rattle.std.proofs.Common.{rules, ◌+◌}
use Rattle.whole.proofs.Called.{table_given}
use Rattle.words.specs.Words.{byte_at}
use Rattle.words.proofs.Beyond.{byte_far}
use Rattle.words.proofs.taken.Goals as goal

pub returns : goal.returns
returns g c =
    let a = c.args in
    table_given _ _ (λ k. byte_at a.bytes.now (a.at + k)) c.from_fn.result g.row.N (λ k y q h r. search (rules, byte_far)) 0 c.from_fn.ensures.items
