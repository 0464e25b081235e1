-- A table that is filled from the front. Assumes nothing.
use mathlib.Core.Path.{◌≡◌, refl, sym, ap}
use mathlib.Core.List.{List, [], ◌∷◌, ◌++◌}
use Prim.Native.Nat.{ℕ, zero, suc, ◌+◌, ◌<◌}
use native.Mathlib.Numerals.{add-one}
use lib.ListN.{length, set, take}
use lib.Seq.{take-suc-set}
use Rattle.whole.specs.Table.{table}

module _ {A : Type 0} where
  -- none is filled yet
  pub filled_none : (f : ℕ → A) → [] ≡ table f 0
  unfolding table
  filled_none f = refl

  -- a table of one more
  more : (f : ℕ → A) (n : ℕ) → table f (suc n) ≡ table f n ++ (f n ∷ [])
  unfolding table
  more f zero = refl
  more f (suc n) = ap (λ l. f zero ∷ l) (more (λ k. f (suc k)) n)

  -- one more is filled
  pub filled_next :
      (f : ℕ → A) (l : List A) (k : ℕ) (v : A) → k < length l → v ≡ f k → take k l ≡ table f k →
      take (k + 1) (set l k v) ≡ table f (k + 1)
  filled_next f l k v h is before = rw (add-one, take-suc-set, before, is) (sym (more f k))
