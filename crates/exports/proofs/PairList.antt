-- Pairs put into a list, by their bits or by their sides, one after the other, two places each: what each place holds after the first k pairs. Assumes nothing.
use mathlib.Core.Path.{◌≡◌, refl, sym, ap, ◌∙◌}
use mathlib.Core.List.{List}
use Prim.Native.Nat.{ℕ, zero, suc, ◌+◌, ◌*◌, ◌/◌, ◌%◌, ◌≤◌, ◌<◌}
use native.Mathlib.Decide.{dec_lt}
use native.Mathlib.Omega.{arith}
use lib.Ieee.{Float}
use Rattle.nearest.specs.declared.Side.{Side}
use lib.ListN.{length, get_or, length-set}
use lib.Seq.{get_or-set_same, get_or-set_other}
use Rattle.whole.specs.Table.{table_rows}
use Rattle.whole.proofs.TableRows.{split, rows_length, rows_at, rows_flat}
use Rattle.coefficients.specs.declared.Coefficient.{Coefficient}
use Rattle.coefficients.specs.declared.Coefficient.TheVariants.{Figure, Weightless}
use Rattle.coefficients.specs.declared.Pair.{Pair}
use Rattle.exports.specs.Floats.{put_or, coefficient_at, pairs_over}
use Rattle.exports.specs.Steps.{put_figure}

-- the k-th entry of a list
abbrev entry_at : List ℕ → ℕ → ℕ
entry_at list k = get_or list k 0

-- what a figure puts
module _ (puts : Float → Side → ℕ) where
  -- ---- a coefficient at its place
  pub figure_length : (l : List ℕ) (place : ℕ) (c : Coefficient) → length (put_figure puts l place c) ≡ length l
  figure_length l place (Figure x side) = length-set l place (puts x side)
  figure_length l place Weightless = refl

  figure_here :
      (l : List ℕ) (place : ℕ) (c : Coefficient) → place < length l →
      entry_at (put_figure puts l place c) place ≡ put_or puts (entry_at l place) c
  figure_here l place (Figure x side) h = get_or-set_same l place (puts x side) 0 h
  figure_here l place Weightless h = refl

  figure_other : (l : List ℕ) (place t : ℕ) (c : Coefficient) → (t ≡ place → ⊥) → entry_at (put_figure puts l place c) t ≡ entry_at l t
  figure_other l place t (Figure x side) f = get_or-set_other l place t (puts x side) 0 f
  figure_other l place t Weightless f = refl

module _ (puts : Float → Side → ℕ) (many : ℕ) (pair : ℕ → Pair) (kept : List ℕ) where
  -- what a place of the whole list holds in the end
  abbrev entry : ℕ → ℕ → ℕ
  entry k place = put_or puts (entry_at kept (k * 2 + place)) (coefficient_at (pair k) place)

  -- the first k pairs are put
  pub record PutSoFar (now : List ℕ) (k : ℕ) : Type 0 where
    pub passed : k ≤ many
    pub count : length now ≡ many * 2
    pub put : (i place : ℕ) → i < k → place < 2 → entry_at now (i * 2 + place) ≡ entry i place
    pub rest : (t : ℕ) → k * 2 ≤ t → entry_at now t ≡ entry_at kept t

  pub none_put : length kept ≡ many * 2 → PutSoFar kept 0
  none_put e = record {
    passed = omega arith;
    count = e;
    put = λ i place h p. let z : ⊥ = omega arith in absurd z;
    rest = λ t h. refl;
  }

  module _ (now : List ℕ) (k : ℕ) (so_far : PutSoFar now k) (more : k < many) where
    abbrev halfway : List ℕ
    halfway = put_figure puts now (k * 2) (pair k).moran

    abbrev next : List ℕ
    next = put_figure puts halfway (k * 2 + 1) (pair k).geary

    elsewhere : (t : ℕ) → (t ≡ k * 2 → ⊥) → (t ≡ k * 2 + 1 → ⊥) → entry_at next t ≡ entry_at now t
    elsewhere t f g = figure_other puts halfway (k * 2 + 1) t (pair k).geary g ∙ figure_other puts now (k * 2) t (pair k).moran f

    own : (place : ℕ) → place < 2 → entry_at next (k * 2 + place) ≡ entry k place
    own zero h =
        let e : k * 2 + 0 ≡ k * 2 = omega arith in
        rw e
        (figure_other puts halfway (k * 2 + 1) (k * 2) (pair k).geary (λ z. omega arith)
        ∙ figure_here puts now (k * 2) (pair k).moran (omega (arith, so_far.count))
        ∙ ap (λ x. put_or puts x (pair k).moran) (so_far.rest (k * 2) (omega arith)))
    own (suc zero) h =
        figure_here puts halfway (k * 2 + 1) (pair k).geary (omega (arith, so_far.count, figure_length puts now (k * 2) (pair k).moran))
        ∙ ap (λ x. put_or puts x (pair k).geary)
        (figure_other puts now (k * 2) (k * 2 + 1) (pair k).moran (λ z. omega arith) ∙ so_far.rest (k * 2 + 1) (omega arith))
    own (suc (suc place)) h = let z : ⊥ = omega arith in absurd z

    pub one_put : PutSoFar next (k + 1)
    one_put = record {
      passed = omega arith;
      count = figure_length puts halfway (k * 2 + 1) (pair k).geary ∙ figure_length puts now (k * 2) (pair k).moran ∙ so_far.count;
      put = λ i place h p. pick i place p (dec_lt i k) h;
      rest = λ t h. elsewhere t (λ z. omega arith) (λ z. omega arith) ∙ so_far.rest t (omega arith);
    }
      where
        pick : (i place : ℕ) → place < 2 → Dec (i < k) → i < k + 1 → entry_at next (i * 2 + place) ≡ entry i place
        pick i place p (yes q) h = elsewhere (i * 2 + place) (λ z. omega arith) (λ z. omega arith) ∙ so_far.put i place q p
        pick i place p (no q) h =
            let e : i ≡ k = omega arith in
            rw e (own place p)

    -- as the code has it, from an item that is the pair
    pub next_put :
        {left : List ℕ} {item : Pair} → item ≡ pair k →
        left ≡ put_figure puts (put_figure puts now (k * 2) item.moran) (k * 2 + 1) item.geary → PutSoFar left (k + 1)
    next_put e f = rw (f, e) one_put

  pub all_put : (now : List ℕ) → PutSoFar now many → now ≡ pairs_over puts many pair kept
  unfolding pairs_over
  all_put now p =
      rows_flat entry many 2 0 now p.count
      (λ t h. let s = split many 2 t h in
      ap (entry_at now) (sym s.whole) ∙ p.put _ _ s.row s.column)

-- ---- one pair over two places
pub one_pair :
    (puts : Float → Side → ℕ) (pair : Pair) (kept : List ℕ) → length kept ≡ 2 →
    put_figure puts (put_figure puts kept 0 pair.moran) 1 pair.geary ≡ pairs_over puts 1 (λ k. pair) kept
one_pair puts pair kept e =
    all_put puts 1 (λ k. pair) kept _ (one_put puts 1 (λ k. pair) kept kept 0 (none_put puts 1 (λ k. pair) kept e) (omega arith))

-- ---- the same pairs give the same list
pub pairs_same :
    (puts : Float → Side → ℕ) (many : ℕ) (f g : ℕ → Pair) (kept : List ℕ) → ((k : ℕ) → k < many → f k ≡ g k) →
    pairs_over puts many f kept ≡ pairs_over puts many g kept
unfolding pairs_over
pairs_same puts many f g kept h =
    rows_flat (entry puts many g kept) many 2 0 (table_rows (entry puts many f kept) many 2)
    (rows_length (entry puts many f kept) many 2)
    (λ t p. let s = split many 2 t p in
    ap (entry_at (table_rows (entry puts many f kept) many 2)) (sym s.whole)
    ∙ rows_at (entry puts many f kept) many 2 _ _ 0 s.row s.column
    ∙ ap (λ (pair : Pair). put_or puts (entry_at kept (t / 2 * 2 + t % 2)) (coefficient_at pair (t % 2))) (h _ s.row))
