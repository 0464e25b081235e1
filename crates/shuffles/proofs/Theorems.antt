-- What holds of a list of shuffles: it fits exactly where it is 0 to 499 whole rows, each row of a list that is not refused has each zone
-- number once, and once n is good the number 2 says that it does not fit. Assumes nothing.
use mathlib.Core.Path.{◌≡◌, refl, sym, ap, ◌∙◌}
use mathlib.Core.Bool.{Bool, true, false, cond}
use mathlib.Core.List.{List, [], ◌∷◌}
use Prim.Native.Nat.{ℕ, ◌*◌, ◌≤◌, ◌<◌}
use native.Mathlib.Omega.{arith}
use borrow.Author.Tests.{le-ltb}
use lib.ListN.{length}
use Rattle.whole.specs.Order.{lacks}
use Rattle.whole.specs.Rules.{first_broken, misfits, size_rules}
use Rattle.whole.specs.Table.{pair_at}
use Rattle.whole.proofs.Permutation.{Permutation, stands, full}
use Rattle.whole.proofs.Rules.{holds, first_none, fits, sizes_hold}
use Rattle.whole.proofs.Search.{some_none}
use Rattle.shuffles.specs.Shuffles.{shuffle_count, any_lacking, row_refusal, shuffle_refusal}
use Rattle.shuffles.specs.Steps.{Shuffles}
use Rattle.shuffles.proofs.ShuffleList.{rows_counted}
-- stated where it is proved: no more than 499 shuffles are counted
pub use Rattle.shuffles.proofs.ShuffleList.{at_most_499}

-- ---- a list of shuffles fits exactly where it is 0 to 499 whole rows: so many as there are, no more than 499 (`at_most_499`)
pub rows_fit : (n length rows : ℕ) → 0 < n → rows ≤ 499 → length ≡ rows * n → length ≡ shuffle_count n length * n
rows_fit n length rows h k e = e ∙ ap (λ r. r * n) (sym (rows_counted n length rows h k e))

-- ---- where nothing is refused
module _ (n : ℕ) (shuffles : List ℕ) (taken : shuffle_refusal n shuffles ≡ 0) where
  abbrev rows : ℕ
  rows = shuffle_count n (length shuffles)

  -- the r-th shuffle
  abbrev row : ℕ → ℕ → ℕ
  row = pair_at shuffles n

  pub list_taken : Shuffles shuffles n rows
  unfolding shuffle_refusal any_lacking
  list_taken =
      let lengths : List (ℕ × ℕ) = (length shuffles, rows * n) ∷ [] in
      let both = first_none ((any_lacking n shuffles, 13) ∷ []) 0 (size_rules n lengths) (tt, (tt, tt)) taken in
      let sizes = sizes_hold n lengths both.0 in
      let none = (holds (any_lacking n shuffles) 12 0 both.1).0 in record {
        zones = sizes.zones;
        few = at_most_499 n (length shuffles);
        count = (fits (length shuffles) (rows * n) [] sizes.fitting).0;
        full = λ r h. some_none (λ r. lacks (row r) n) rows r none h;
      }

  -- there is nothing beside the rows
  pub shuffle_rows : length shuffles ≡ rows * n
  shuffle_rows = list_taken.count

  -- each row has each zone number once
  pub every_shuffle : (r : ℕ) → r < rows → Permutation (row r) (stands (row r) n) n
  every_shuffle r h = full (row r) n (list_taken.full r h)

-- ---- once n is good: 2 where the list does not fit, and else 13 decides
module _ (n : ℕ) (shuffles : List ℕ) (two : 2 ≤ n) (zones : n ≤ 64) where
  abbrev misfit : Bool
  misfit = misfits ((length shuffles, shuffle_count n (length shuffles) * n) ∷ [])

  abbrev lacking : ℕ
  lacking = first_broken ((any_lacking n shuffles, 13) ∷ [])

  two_rules : shuffle_refusal n shuffles ≡ cond misfit 2 lacking
  unfolding shuffle_refusal
  two_rules = rw (le-ltb n 2 two, le-ltb 64 n zones) refl

  pub refused_by_2 : shuffle_refusal n shuffles ≡ 2 → misfit ≡ true
  refused_by_2 e = go misfit (any_lacking n shuffles) (sym two_rules ∙ e)
    where
      go : (a b : Bool) → ◌≡◌ {A = ℕ} (cond a 2 (cond b 13 0)) 2 → a ≡ true
      go true b e = refl
      go false true e = let z : ⊥ = omega arith in absurd z
      go false false e = let z : ⊥ = omega arith in absurd z

  module _ (not_2 : shuffle_refusal n shuffles ≡ 2 → ⊥) where
    pub list_fits : misfit ≡ false
    list_fits = go misfit (λ e. not_2 (two_rules ∙ ap (λ (a : Bool). cond {A = ℕ} a 2 lacking) e))
      where
        go : (a : Bool) → (a ≡ true → ⊥) → a ≡ false
        go true f = absurd (f refl)
        go false f = refl

    pub decided_by_13 : shuffle_refusal n shuffles ≡ lacking
    decided_by_13 = two_rules ∙ ap (λ (a : Bool). cond {A = ℕ} a 2 lacking) list_fits

  -- ---- the same by the judge of the rows alone
  rows_rule : row_refusal n (length shuffles) ≡ cond misfit 2 0
  unfolding row_refusal
  rows_rule = rw (le-ltb n 2 two, le-ltb 64 n zones) refl

  -- a number that is not 0 says that the list does not fit, and is 2
  pub rows_refused_by_2 : (r : ℕ) → r ≡ row_refusal n (length shuffles) → (r ≡ 0 → ⊥) → (r ≡ 2) × (misfit ≡ true)
  rows_refused_by_2 r e some = go misfit (e ∙ rows_rule)
    where
      go : (a : Bool) → r ≡ cond a 2 0 → (r ≡ 2) × (a ≡ true)
      go true h = (h, refl)
      go false h = absurd (some h)

  pub rows_taken : 0 ≡ row_refusal n (length shuffles) → misfit ≡ false
  rows_taken e = go misfit (e ∙ rows_rule)
    where
      go : (a : Bool) → ◌≡◌ {A = ℕ} 0 (cond a 2 0) → a ≡ false
      go true h = let z : ⊥ = omega (arith, h) in absurd z
      go false h = refl

  pub then_13 : misfit ≡ false → shuffle_refusal n shuffles ≡ lacking
  then_13 fit = two_rules ∙ ap (λ (a : Bool). cond {A = ℕ} a 2 lacking) fit
