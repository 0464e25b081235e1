-- A list of shuffles: how many it holds, where they stand in it, and the marks of the zones that one names. Assumes nothing.
use mathlib.Core.Path.{◌≡◌, refl, sym, ap, ◌∙◌}
use mathlib.Core.Bool.{Bool, true, false, not, cond}
use mathlib.Core.List.{List}
use Prim.Native.Nat.{ℕ, min, ◌+◌, ◌*◌, ◌≤◌, ◌<◌, ◌/◌}
use native.Mathlib.Decide.{ℕ_discrete}
use native.Mathlib.Nat as N
use native.Mathlib.Omega.{arith}
use borrow.Author.Tests.{eq-eqb, ne_eqb, le-ltb, ltb-true, ltb-false}
use lib.Dec.{ltb, eqb}
use lib.ListN.{length, get_or, set, take, drop, length-drop}
use lib.Seq.{get_or-set_same, get_or-set_other, get_or-take, get_or-drop, length-take-le}
use Rattle.whole.specs.Order.{lacks}
use Rattle.whole.specs.Search.{some}
use Rattle.whole.specs.Table.{pair_at}
use Rattle.whole.proofs.Search.{some_found, some_same, some_cong}
use Rattle.shuffles.specs.Shuffles.{shuffle_count}
use Rattle.shuffles.specs.Steps.{Row, Shuffle, Shuffles, mark_of}

-- ---- how many there are
pub at_most_499 : (n length : ℕ) → shuffle_count n length ≤ 499
unfolding shuffle_count
at_most_499 n length = go (ltb 499 (length / n)) refl
  where
    go : (b : Bool) → ltb 499 (length / n) ≡ b → cond b 499 (length / n) ≤ 499
    go true e = omega arith
    go false e = ltb-false 499 (length / n) e

-- where there are no more whole rows, all are shuffles
pub all_rows : (n length : ℕ) → length / n ≤ 499 → shuffle_count n length ≡ length / n
unfolding shuffle_count
all_rows n length h = rw (le-ltb 499 (length / n) h) refl

-- as the code counts them
pub rows_least : (n length : ℕ) → min (length / n) 499 ≡ shuffle_count n length
unfolding shuffle_count
rows_least n length = go (ltb 499 (length / n)) refl
  where
    go : (b : Bool) → ltb 499 (length / n) ≡ b → min (length / n) 499 ≡ cond b 499 (length / n)
    go true e = let h = ltb-true 499 (length / n) e in omega (arith, h)
    go false e = let h = ltb-false 499 (length / n) e in omega (arith, h)

-- a list that fits has nothing beside its shuffles
pub whole_rows : (n length : ℕ) → 0 < n → length ≡ shuffle_count n length * n → shuffle_count n length ≡ length / n
whole_rows n length h e = sym (N.mul-div_cancel (shuffle_count n length) h) ∙ ap (λ t. t / n) (sym e)

-- a list of so many whole rows has so many shuffles
pub rows_counted : (n length rows : ℕ) → 0 < n → rows ≤ 499 → length ≡ rows * n → shuffle_count n length ≡ rows
rows_counted n length rows h k e =
    let g : length / n ≡ rows = ap (λ t. t / n) e ∙ N.mul-div_cancel rows h in
    all_rows n length (omega arith) ∙ g

-- ---- where they stand: row r ends within 31,936 places
pub row_end : {shuffles : List ℕ} {n r : ℕ} → Row shuffles n r → r * n + n ≤ 31936
row_end {n} {r} w = omega (arith, N.mul-le-mul {n₂ = 499} {m₂ = 64} w.early w.zones)

pub row_there :
    (shuffles : List ℕ) (n rows r : ℕ) → n ≤ 64 → rows ≤ 499 → length shuffles ≡ rows * n → r < rows → Row shuffles n r
row_there shuffles n rows r zones few count h =
    record { zones = zones; early = omega arith; there = omega (arith, N.mul-le-mul_right n h) }

pub shuffle_there : (shuffles : List ℕ) (n rows r : ℕ) → Shuffles shuffles n rows → r < rows → Shuffle shuffles n r
shuffle_there shuffles n rows r w h =
    record { row = row_there shuffles n rows r w.zones w.few w.count h; full = w.full r h }

-- ---- marking the numbers that a row names, in marks for all bytes: one more number of the row
module _ (row : ℕ → ℕ) (i : ℕ) (named : List ℕ)
    (so_far : (k : ℕ) → k < 256 → get_or named k 0 ≡ mark_of (some (λ i. eqb (row i) k) i)) where
  pub marked : row i < length named → (k : ℕ) → k < 256 → get_or (set named (row i) 1) k 0 ≡ mark_of (some (λ i. eqb (row i) k) (i + 1))
  marked h k p = pick (ℕ_discrete (row i) k)
    where
      pick : Dec (row i ≡ k) → get_or (set named (row i) 1) k 0 ≡ mark_of (some (λ i. eqb (row i) k) (i + 1))
      pick (yes e) =
          rw e (get_or-set_same named k 1 0 (omega arith))
          ∙ ap mark_of (some_found (λ i. eqb (row i) k) (i + 1) i (omega arith) (eq-eqb (row i) k e))
      pick (no e) =
          get_or-set_other named (row i) k 1 0 (λ f. e (sym f))
          ∙ so_far k p
          ∙ ap mark_of (some_same (λ i. eqb (row i) k) i (ne_eqb (row i) k e))

-- a number that is not marked is not named
pub unnamed : (b : Bool) → eqb (mark_of b) 0 ≡ not b
unnamed true = refl
unnamed false = refl

-- ---- row r taken out of the list lacks what the row in the list lacks
module _ (shuffles : List ℕ) (n r : ℕ) (there : r * n + n ≤ length shuffles) where
  abbrev pub part : List ℕ
  part = take n (drop (r * n) shuffles)

  row_long : length part ≡ n
  row_long = length-take-le n (drop (r * n) shuffles) (omega (arith, length-drop (r * n) shuffles))

  row_at : (i : ℕ) → i < n → get_or part i 0 ≡ pair_at shuffles n r i
  unfolding pair_at
  row_at i h = get_or-take n (drop (r * n) shuffles) i 0 h ∙ get_or-drop (r * n) shuffles i 0

  pub row_lacks : lacks (λ i. get_or part i 0) (length part) ≡ lacks (pair_at shuffles n r) n
  unfolding lacks
  row_lacks =
      rw row_long
      (some_cong _ _ n
      (λ k p. ap not (some_cong _ _ n (λ i q. ap (λ z. eqb z k) (row_at i q)))))
