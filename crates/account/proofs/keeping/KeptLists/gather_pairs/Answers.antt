-- `gather_pairs` meets its contract. The loop's invariant: the rows of the zones passed are written. Assumes nothing.
use mathlib.Core.Path.{◌≡◌, ap, ◌∙◌}
use mathlib.Core.List.{List}
use Prim.Native.Nat.{ℕ, ◌+◌, ◌*◌, ◌≤◌, ◌<◌}
use native.Mathlib.Omega.{arith}
use lib.ListN.{length, get_or, take, drop}
use Rattle.std.specs.List.{slice_get}
use Rattle.whole.specs.Table.{table, pair_at}
use Rattle.whole.proofs.Table.{table_cong}
use Rattle.whole.proofs.TableRows.{rows_none, row_written, rows_done}
use Rattle.kept.proofs.Marks.{row_end}
use Rattle.account.specs.Steps.{Zones, gathered_pair}
use Rattle.account.proofs.KeptLists.{gathered_by}
use Rattle.account.proofs.Rows.{row_in, row_length, part_length, part_at}
use Rattle.account.proofs.keeping.KeptLists.gather_pairs.Goals as goal
use Rattle.account.proofs.keeping.KeptLists.gather_pairs.Goals.{After-from}

-- what is read of row i at some zones are their pairs with zone i
of_row :
    (n : ℕ) (pairs zones out part : List ℕ) (i : ℕ) → part ≡ take n (drop (i * n) pairs) → Zones zones n → length pairs ≡ n * n → i < n →
    length out ≡ length zones → ((k : ℕ) → k < length zones → slice_get out k ≡ slice_get part (get_or zones k 0)) →
    out ≡ table (gathered_pair n pairs zones i) (length zones)
unfolding pair_at
of_row n pairs zones out part i e z count h long so =
    gathered_by 0 part out zones long so
    ∙ table_cong _ (gathered_pair n pairs zones i) (length zones) 0
    (λ k p. part_at pairs n i (row_in pairs n i count h) part e (get_or zones k 0) 0 (z.below k p))

-- the row that is cut out lies in the list
module _ (c : After-from) where
  below : c.from.result < c.args.self.now.job.n
  below = omega (arith, c.from.ensures, c.args.self.now.rising.below c.loop-k.k (omega arith))

  there : c.from.result * c.args.self.now.job.n + c.args.self.now.job.n ≤ length c.args.pairs.now
  there = row_in c.args.pairs.now c.args.self.now.job.n c.from.result c.requires.pairs_len below

pub row-row-requires : goal.row-row-requires
row-row-requires c = there c

pub gather-requires-clause-list_len : goal.gather-requires-clause-list_len
gather-requires-clause-list_len c =
    part_length c.args.pairs.now c.args.self.now.job.n c.from.result (there ((goal.at.gather-requires-clause-list_len c).After-from)) _ c.row-row.ensures

pub loop-k-init : goal.loop-k-init
loop-k-init c = rows_none _ _ c.args.out.now

pub loop-k-preserved : goal.loop-k-preserved
loop-k-preserved c =
    let kept = c.args.self.now in
    let n = kept.job.n in
    let pairs = c.args.pairs.now in
    let zones = kept.zones.now in
    let many = length zones in
    let l = c.loop-k in
    let f : ℕ → ℕ → ℕ = λ k. gathered_pair n pairs zones (get_or zones k 0) in
    let room : l.k * many + many ≤ length l.out = omega (arith, row_end many l.k c.loop-k-test.true, c.requires.out_len) in
    let long : length c.gather.new.out ≡ many = c.gather.auto.out ∙ row_length l.out many l.k room in
    row_written f many l.k l.out _ room l.invariant
    (of_row n pairs zones _ _ c.from.result c.row-row.ensures kept.rising c.requires.pairs_len (below ((goal.at.loop-k-preserved c).After-from)) long c.gather.ensures
    ∙ ap (λ (z : ℕ). table (gathered_pair n pairs zones z) many) c.from.ensures)

pub returns : goal.returns
returns c = rows_done _ _ _ c.loop-k.k c.loop-k.out (omega arith) (omega (arith, c.requires.out_len)) c.loop-k.invariant
