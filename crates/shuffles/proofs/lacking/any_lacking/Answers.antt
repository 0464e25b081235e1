-- `any_lacking` meets its contract: the pieces are the rows. Assumes nothing.
use Rattle.std.proofs.Common.{rules, ◌≡◌, refl, sym, ◌∙◌, Bool, true, false, List, ℕ, ◌+◌, ◌*◌, ◌/◌, ◌≤◌, ◌<◌, arith, length, get_or}
use Rattle.std.proofs.iter.runs.Made.{chains}
use Rattle.std.proofs.lemmas.Bool.{MatchBool-at_true, MatchBool-at_false}
use lib.ListN.{take, drop}
use native.Mathlib.Nat as N
use Rattle.whole.specs.Order.{lacks}
use Rattle.whole.specs.Search.{some}
use Rattle.whole.specs.Table.{pair_at}
use Rattle.whole.proofs.Search.{some_found, none_some}
use Rattle.whole.proofs.Chains.{item_there, said, found as at_hit}
use Rattle.shuffles.proofs.ShuffleList.{row_lacks}
use Rattle.shuffles.proofs.lacking.any_lacking.Goals as goal
use Rattle.shuffles.proofs.lacking.any_lacking.Goals.{After-any}

module _ (c : After-any) where
  abbrev n : ℕ
  n = c.args.n

  abbrev shuffles : List ℕ
  shuffles = c.args.shuffles.now

  abbrev part : ℕ → List ℕ
  part r = take n (drop (r * n) shuffles)

  abbrev test : ℕ → Bool
  test r = lacks (pair_at shuffles n r) n

  found : c.any.result ≡ true → (r : ℕ) × (r < length shuffles / n) × (lacks (λ i. get_or (part r) i 0) (length (part r)) ≡ true)
  found e =
      let p = c.any.ensures.runs.0 in
      let hit = MatchBool-at_true _ _ e c.any.ensures.runs.2 (search rules) in
      let early : hit.0 < length shuffles / n = search (rules, chains) in
      let piece = item_there p hit.0 hit.1 in
      let cut = said _ ((c.chunks_exact.ensures.runs p p.seen (search rules)).2 hit.0) piece.1 in
      let gives = at_hit _ hit.2 piece.1 in
      let same : piece.0.now ≡ part hit.0 = search rules in
      (hit.0, early, rw (← same) (search rules))

  passed : c.any.result ≡ false → (r : ℕ) → r < length shuffles / n → lacks (λ i. get_or (part r) i 0) (length (part r)) ≡ false
  passed e r h =
      let p = c.any.ensures.runs.0 in
      let some : r < p.len = search (rules, chains) in
      let gives = (MatchBool-at_false _ _ e c.any.ensures.runs.2).1 (search rules) r in
      let piece = item_there p r some in
      search (rules, chains)

  room : (r : ℕ) → r < length shuffles / n → r * n + n ≤ length shuffles
  room r h = omega (arith, N.mul-le-mul_right {m = r + 1} {n = length shuffles / n} n (omega arith), N.div-mul-le_self (length shuffles) n)

pub returns : goal.returns
returns c = go c.any.result refl
  where
    go : (b : Bool) → c.any.result ≡ b → c.any.result ≡ some (test c) (length c.args.shuffles.now / c.args.n)
    go true e =
        let w = found c e in
        e ∙ some_found (test c) _ w.0 w.1 (sym (row_lacks c.args.shuffles.now c.args.n w.0 (room c w.0 w.1)) ∙ w.2)
    go false e =
        e ∙ sym (none_some (test c) _ (λ r h. sym (row_lacks c.args.shuffles.now c.args.n r (room c r h)) ∙ passed c e r h))
