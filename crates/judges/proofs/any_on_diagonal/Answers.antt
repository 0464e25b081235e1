-- `any_on_diagonal` meets its contract: each piece begins at a place of the diagonal, and no place behind the list's end is one of a piece.
-- Assumes nothing.
use Rattle.std.proofs.Common.{rules, ◌≡◌, refl, sym, ap, ◌∙◌, Bool, true, false, List, ℕ, zero, suc, ◌+◌, ◌-◌, ◌*◌, ◌≤◌, ◌<◌, min, arith, ltb, length, get_or}
use Rattle.std.proofs.iter.runs.Made.{chains}
use Rattle.std.proofs.lemmas.Bool.{MatchBool-at_false}
use Rattle.std.specs.Slice.Iter.{chunk_count}
use native.Mathlib.Decide.{dec_lt}
use native.Mathlib.Nat as N
use lib.ListN.{get_or-eq_default}
use Rattle.whole.specs.Search.{some, any_on_diagonal}
use Rattle.whole.specs.Table.{pair_at}
use Rattle.whole.proofs.Search.{some_found, none_some}
use Rattle.whole.proofs.Chains.{item_there}
use Rattle.judges.proofs.any_on_diagonal.Goals as goal
use Rattle.judges.proofs.any_on_diagonal.Goals.{After-any}

-- a piece begins at each such place of the list
counted : (k size long : ℕ) → 0 < size → k * size < long → k < chunk_count long size
counted k size long h there =
    let e : (k + 1) * size ≤ long + size - 1 = omega arith in
    omega (arith, (N.le-div_iff_mul-le h).1 e, N.mul-le-mul_left k h)

-- and it is the diagonal's, also where n + 1 is too much for a number
diagonal : (n k most size long : ℕ) → size ≡ min (n + 1) most → long ≤ most → k * size < long → k * size ≡ k * n + k
diagonal n zero most size long e l there = omega arith
diagonal n (suc k) most size long e l there =
    let next : size ≡ n + 1 = omega (arith, e, l, there, N.mul-le-mul_right {m = 1} {n = suc k} size (omega arith)) in
    ap (λ s. suc k * s) next ∙ omega arith

module _ (c : After-any) where
  abbrev n : ℕ
  n = c.args.n

  abbrev weights : List ℕ
  weights = c.args.weights.now

  abbrev size : ℕ
  size = c.saturating_add.result

  abbrev test : ℕ → Bool
  test i = ltb 0 (pair_at weights n i i)

  tested : (k : ℕ) → k * size < length weights → ltb 0 (get_or weights (k * size) 0) ≡ test k
  unfolding pair_at
  tested k there = ap (λ p. ltb 0 (get_or weights p 0)) (diagonal n k _ size (length weights) c.saturating_add.ensures (search rules) there)

  found : c.any.result ≡ true → (k : ℕ) × (k < n) × (k * size < length weights) × (ltb 0 (get_or weights (k * size) 0) ≡ true)
  found e = search (rules, chains)

  passed : c.any.result ≡ false → (k : ℕ) → k < n → k * size < length weights → ltb 0 (get_or weights (k * size) 0) ≡ false
  passed e k h there =
      let p = c.any.ensures.runs.0 in
      let cut = counted k size (length weights) (search rules) there in
      let some : k < p.len = search (rules, chains) in
      let gives = (MatchBool-at_false _ _ e c.any.ensures.runs.2).1 (search rules) k in
      let piece = item_there p k some in
      search (rules, chains)

  none : c.any.result ≡ false → (k : ℕ) → k < n → test k ≡ false
  unfolding pair_at
  none e k h = go (dec_lt (k * size) (length weights))
    where
      go : Dec (k * size < length weights) → test k ≡ false
      go (yes p) = sym (tested k p) ∙ passed e k h p
      go (no p) =
          let farther : k * size ≤ k * (n + 1) = N.mul-le-mul_left k (omega (arith, c.saturating_add.ensures)) in
          ap (ltb 0) (get_or-eq_default weights 0 (omega (arith, p, farther)))

pub returns : goal.returns
unfolding any_on_diagonal
returns c = go c.any.result refl
  where
    go : (b : Bool) → c.any.result ≡ b → c.any.result ≡ some (test c) c.args.n
    go true e = let w = found c e in e ∙ some_found (test c) c.args.n w.0 w.1 (sym (tested c w.0 w.2) ∙ w.3)
    go false e = e ∙ sym (none_some (test c) c.args.n (none c e))
