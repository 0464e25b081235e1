-- `row_of` meets its contract: the k-th three of the sums are those at the places of class k. Assumes nothing.
use mathlib.Core.Path.{◌≡◌, refl, ap, ◌∙◌}
use mathlib.Core.List.{List, []}
use Prim.Native.Nat.{ℕ, zero, suc, ◌+◌, ◌*◌, ◌<◌}
use native.Mathlib.Omega.{arith}
use lib.IntN.{ℤ, pos}
use lib.ListN.{take, drop, get_or}
use lib.Seq.{get_or-take, get_or-drop, drop-drop}
use Rattle.std.specs.Simd.{first_chunks}
use Rattle.std.proofs.Common.{rules}
use Rattle.whole.specs.Table.{at}
use Rattle.account.proofs.class_row.row_of.Goals as goal

-- the k-th three of some numbers
three : (m k : ℕ) (l : List ℤ) → k < m → get_or (first_chunks 3 m l) k [] ≡ take 3 (drop (3 * k) l)
three zero k l h = let z : ⊥ = omega arith in absurd z
three (suc m) zero l h = refl
three (suc m) (suc k) l h =
    let e : 3 + 3 * k ≡ 3 * suc k = omega arith in
    three m k (drop 3 l) (omega arith) ∙ ap (take 3) (drop-drop (3 * k) 3 l ∙ ap (λ m. drop m l) e)

-- the t-th of them
sum_read :
    (l : List ℤ) (rows : List (List ℤ)) (m k t p : ℕ) → rows ≡ first_chunks 3 m l → k < m → t < 3 → 3 * k + t ≡ p →
    get_or (get_or rows k []) t (pos 0) ≡ at l p
sum_read l rows m k t p e h s q =
    ap (λ r. get_or (get_or r k []) t (pos 0)) e
    ∙ ap (λ r. get_or r t (pos 0)) (three m k l h)
    ∙ get_or-take 3 (drop (3 * k) l) t (pos 0) s
    ∙ get_or-drop (3 * k) l t (pos 0)
    ∙ ap (at l) q

pub returns : goal.returns
returns c =
    let e = c.as_chunks.ensures.front in
    let weight = sum_read c.args.sums.now _ _ c.args.k 0 (c.args.k * 3) e (omega (arith, c.told-sums)) (omega arith) (omega arith) in
    let cross = sum_read c.args.sums.now _ _ c.args.k 1 (c.args.k * 3 + 1) e (omega (arith, c.told-sums)) (omega arith) (omega arith) in
    let squares = sum_read c.args.sums.now _ _ c.args.k 2 (c.args.k * 3 + 2) e (omega (arith, c.told-sums)) (omega arith) (omega arith) in
    rw (weight, cross, squares) (search rules)
