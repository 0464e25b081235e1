-- A lent front of a list, as it comes back: it holds so many of what was written. Assumes nothing.
use mathlib.Core.Path.{◌≡◌, refl, sym, ap, ◌∙◌}
use mathlib.Core.List.{List, ◌++◌}
use Prim.Native.Nat.{ℕ, ◌≤◌}
use lib.ListN.{length, take, drop}
use lib.Seq.{length-take-le}
use Rattle.whole.specs.Table.{table, over}
use Rattle.whole.proofs.Table.{table_length, is_table}
use Rattle.words.specs.Words.{byte_at}

module _ {A : Type 0} where
  pub front_is : (f : ℕ → A) (k : ℕ) (part old : List A) → k ≤ length old → part ≡ table f (length (take k old)) → part ≡ table f k
  front_is f k part old h e = e ∙ ap (table f) (length-take-le k old h)

  -- a front that came back as a list of its length
  pub front_over : (k : ℕ) (new part old : List A) → length new ≡ k → part ≡ new → part ++ drop k old ≡ over new old
  front_over k new part old l e = ap (λ p. p ++ drop k old) e ∙ ap (λ m. new ++ drop m old) (sym l)

  pub table_over :
      (f : ℕ → A) (k : ℕ) (part old : List A) → k ≤ length old → part ≡ table f (length (take k old)) →
      part ++ drop k old ≡ over (table f k) old
  table_over f k part old h e = front_over k (table f k) part old (table_length f k) (front_is f k part old h e)

-- one that came back with the numbers of just as many bytes holds these bytes
pub bytes_over :
    (k : ℕ) (bytes part old : List ℕ) → k ≤ length old → length bytes ≡ k → part ≡ table (byte_at bytes) (length (take k old)) →
    part ++ drop k old ≡ over bytes old
bytes_over k bytes part old h l e =
    front_over k bytes part old l (front_is (byte_at bytes) k part old h e ∙ sym (is_table (byte_at bytes) k 0 bytes l (λ i p. refl)))
