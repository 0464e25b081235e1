-- `keep_rows` meets its contract. The loop's invariant: the rows of the shuffles passed are written. Assumes nothing.
use mathlib.Core.Path.{◌≡◌, sym, ap, ◌∙◌}
use Prim.Native.Nat.{ℕ, ◌+◌, ◌*◌, ◌≤◌, ◌<◌}
use native.Mathlib.Nat as N
use native.Mathlib.Omega.{arith}
use lib.ListN.{length, get_or}
use Rattle.whole.specs.Table.{table, pair_at}
use Rattle.whole.proofs.Table.{table_cong}
use Rattle.whole.proofs.TableRows.{rows_none, row_written, rows_done}
use Rattle.account.specs.Steps.{placed_number}
use Rattle.account.proofs.Placing.{placed_cong}
use Rattle.account.proofs.Rows.{row, row_length}
use Rattle.account.proofs.Shuffled.{row_long, row_names}
use Rattle.account.proofs.keeping.keep_rows.Goals as goal
use Rattle.account.proofs.keeping.keep_rows.Goals.{After-shuffle-row}

-- the row of shuffle r, and the part of the list that it is written to
module _ (c : After-shuffle-row) where
  abbrev r : ℕ
  r = c.loop-r.r

  abbrev n : ℕ
  n = c.args.shuffles.now.n

  long : length c.shuffle-row.result.zones.now ≡ n
  long =
      let s = c.args.shuffles.now in row_long s.shuffles.now s.n s.rows r s.good c.loop-r-test.true _ c.shuffle-row.ensures

  room : r * c.args.many + c.args.many ≤ length c.loop-r.out
  room = omega (arith, N.mul-le-mul_right c.args.many c.loop-r-test.true, c.requires.out_len)

  part : length (row c.loop-r.out c.args.many r) ≡ c.args.many
  part = row_length c.loop-r.out c.args.many r room

  same : (k : ℕ) → k < c.args.many →
      placed_number c.args.places.now c.args.many n (λ i. get_or c.shuffle-row.result.zones.now i 0) k
      ≡ placed_number c.args.places.now c.args.many n (pair_at c.args.shuffles.now.shuffles.now n r) k
  same =
      let s = c.args.shuffles.now in
      let test = c.loop-r-test.true in
      placed_cong c.args.places.now c.args.many n _ (pair_at s.shuffles.now n r)
      (row_names s.shuffles.now s.n s.rows r s.good test _ c.shuffle-row.ensures) (s.good.full r test) c.requires.n_value

pub loop-r-init : goal.loop-r-init
loop-r-init c = rows_none _ _ c.args.out.now

pub keep_row-requires : goal.keep_row-requires
keep_row-requires c =
    let s = (goal.at.keep_row-requires c).After-shuffle-row in record {
      places_len = c.requires.places_len ∙ sym (long s);
      n_value = rw (part s, long s) c.requires.n_value;
    }

pub loop-r-preserved : goal.loop-r-preserved
loop-r-preserved c =
    let s = (goal.at.loop-r-preserved c).After-shuffle-row in
    let a = c.args in
    let zones = c.shuffle-row.result.zones.now in
    -- the numbers of shuffle t that have a place
    let placed : ℕ → ℕ → ℕ = λ t. placed_number a.places.now a.many (n s) (pair_at a.shuffles.now.shuffles.now (n s) t) in
    row_written placed a.many (r s) c.loop-r.out _ (room s) c.loop-r.invariant
    (c.keep_row.ensures
    ∙ ap (λ (m : ℕ). table (placed_number a.places.now m (length zones) (λ i. get_or zones i 0)) m) (part s)
    ∙ ap (λ (m : ℕ). table (placed_number a.places.now a.many m (λ i. get_or zones i 0)) a.many) (long s)
    ∙ table_cong _ _ a.many 0 (same s))

pub returns : goal.returns
returns c = rows_done _ _ _ c.loop-r.r c.loop-r.out (omega arith) (omega (arith, c.requires.out_len)) c.loop-r.invariant
