-- `put_back_rows` meets its contract. The loop's invariant: the rows of the classes passed are written. Assumes nothing.
use mathlib.Core.Path.{◌≡◌, refl, ap, ◌∙◌}
use mathlib.Core.Bool.{Bool, true, false, cond}
use mathlib.Core.List.{List}
use Prim.Native.Nat.{ℕ, ◌+◌, ◌*◌, ◌-◌, ◌≤◌, ◌<◌}
use native.Mathlib.Nat as N
use native.Mathlib.Omega.{arith}
use borrow.Author.Tests.{ltb-true}
use lib.Dec.{ltb}
use lib.IntN.{ℤ, pos}
use lib.ListN.{length, get_or, take, drop, length-drop}
use lib.Seq.{get_or-take, get_or-drop, length-take-le}
use Rattle.whole.specs.Table.{table, at}
use Rattle.whole.proofs.Table.{table_cong}
use Rattle.whole.proofs.TableRows.{rows_none, row_written, rows_done}
use Rattle.account.specs.Steps.{at_place}
use Rattle.account.proofs.keeping.put_back_rows.Goals as goal

-- from a place to another, so many further on
apart : (a b : ℕ) → a + b - a ≡ b
apart a b = omega arith

-- nine rows of m
nine : (m k : ℕ) → k < 9 → k * m + m ≤ 9 * m
nine m k h = omega (arith, N.mul-le-mul_right m h)

-- what is put back of a part is put back of the row that the part is
module _
    (places : List ℕ) (numbers part : List ℤ) (from many : ℕ)
    (e : part ≡ take many (drop from numbers)) (room : from + many ≤ length numbers) where
  long : length part ≡ many
  long = ap length e ∙ length-take-le many (drop from numbers) (omega (arith, room, length-drop from numbers))

  held : (p : ℕ) (b : Bool) → ltb p many ≡ b → cond b (at part p) (pos 0) ≡ cond b (at numbers (from + p)) (pos 0)
  held p true h =
      ap (λ l. at l p) e ∙ get_or-take many (drop from numbers) p (pos 0) (ltb-true p many h) ∙ get_or-drop from numbers p (pos 0)
  held p false h = refl

  abbrev by_part : ℕ → ℤ
  by_part = at_place places (length part) (at part)

  abbrev by_row : ℕ → ℤ
  by_row = at_place places many (λ a. at numbers (from + a))

  same : (i : ℕ) → by_part i ≡ by_row i
  same i = ap (λ m. at_place places m (at part) i) long ∙ held (get_or places i 0) (ltb (get_or places i 0) many) refl

  of_row : (out : List ℤ) → out ≡ table by_part (length places) → out ≡ table by_row (length places)
  of_row out t = t ∙ table_cong by_part by_row (length places) (pos 0) (λ i h. same i)

pub loop-k-init : goal.loop-k-init
loop-k-init c = rows_none _ _ c.args.out.now

pub loop-k-preserved : goal.loop-k-preserved
loop-k-preserved c =
    let a = c.args in
    let l = c.loop-k in
    let n = length a.places.now in
    let f : ℕ → ℕ → ℤ = λ k. at_place a.places.now a.many (λ p. at a.numbers.now (k * a.many + p)) in
    let part = ap (λ t. take t (drop (l.k * a.many) a.numbers.now)) (apart (l.k * a.many) a.many) in
    let from_ends : l.k * a.many + a.many ≤ length a.numbers.now =
    omega (arith, nine a.many l.k c.loop-k-test.true, c.requires.numbers_len) in
    let room : l.k * n + n ≤ length l.out = omega (arith, nine n l.k c.loop-k-test.true, c.requires.out_len) in
    row_written f n l.k l.out _ room l.invariant
    (of_row a.places.now a.numbers.now _ (l.k * a.many) a.many part from_ends _ c.put_back.ensures)

pub returns : goal.returns
returns c = rows_done _ _ _ c.loop-k.k c.loop-k.out (omega arith) (omega (arith, c.requires.out_len)) c.loop-k.invariant
