-- What calls have put into a page, one after the other. Assumes nothing.
use mathlib.Core.Path.{◌≡◌, refl, sym, ap, ◌∙◌}
use mathlib.Core.List.{List, [], ◌∷◌, ◌++◌, append_assoc, append-nil}
use Prim.Native.Nat.{ℕ, ◌+◌, ◌*◌, ◌≤◌, ◌<◌}
use native.Mathlib.Nat.{mul-suc}
use native.Mathlib.Omega.{arith}
use lib.ListN.{length, get_or, take, length-append}
use lib.Seq.{sets}
use Rattle.whole.specs.Table.{each, over}
use Rattle.whole.proofs.Table.{table_length, table_at}
use Rattle.whole.proofs.Stores.{Stored, stored_next, stored_over, front_next, front_all, each_none, each_both}
use Rattle.pages.specs.Pages.{Puts}
use Rattle.pages.proofs.Widths.{fitting}
use Rattle.report.specs.Steps.{Put}
use Rattle.report.specs.Text.{numbered}

module _ {old : List ℕ} {at : ℕ} where
  -- before the first call
  pub put_none : {most : ℕ} → Put old old at at most []
  put_none = record { same = refl; behind = omega arith; few = omega arith }

  module _ {new : List ℕ} {place most : ℕ} {text : List ℕ} (put : Put old new at place most text) where
    -- a wider bound
    pub put_most : {wider : ℕ} → most ≤ wider → Put old new at place wider text
    put_most h = record { same = put.same; behind = put.behind; few = omega (arith, put.few, h) }

    -- the same text, said otherwise
    pub put_as : {other : List ℕ} → text ≡ other → Put old new at place most other
    put_as e = record { same = put.same ∙ ap (sets old at) e; behind = put.behind ∙ ap (λ l. at + length l) e; few = put.few }

    stored : Stored old at text new
    stored = record { same = put.same }

    -- one text right behind another
    pub put_then :
        {newer : List ℕ} {end more : ℕ} {further : List ℕ} → Put new newer place end more further →
        Put old newer at end (most + more) (text ++ further)
    put_then {further = further} next = record {
      same = (stored_next further stored next.same put.behind refl).same;
      behind = omega (arith, put.behind, next.behind, length-append text further);
      few = omega (arith, put.few, next.few);
    }

-- ---- what a call of `pages` has put, where there is room for it
pub put_of :
    {old new text : List ℕ} {at place : ℕ} (most : ℕ) → Puts old new at place text → length text ≤ most → at + most ≤ length old →
    Put old new at place most text
put_of most puts h room =
    let end = fitting puts (omega (arith, h, room)) in
    record { same = puts.same; behind = end; few = omega (arith, end, h) }

-- the text of a line that is put in four parts
pub line_parts : (word before after end : List ℕ) → ((word ++ before) ++ after) ++ end ≡ word ++ ((before ++ after) ++ end)
line_parts word before after end = ap (λ l. l ++ end) (append_assoc word before after) ∙ append_assoc word (before ++ after) end

-- ---- at the front of a page that has room
module _ {old new : List ℕ} {place most : ℕ} {text : List ℕ} (put : Put old new 0 place most text) (h : length text ≤ length old) where
  pub put_over : new ≡ over text old
  put_over = let s : Stored old 0 text new = record { same = put.same } in stored_over s h

-- ---- a text for each item of a list, of at most `size` bytes each
module _ {A : Type 0} (text : A → List ℕ) where
  each_one : (x : A) → each text (x ∷ []) ≡ text x
  unfolding each
  each_one x = append-nil (text x)

  module _ {old : List ℕ} {at : ℕ} where
    -- before the loop
    pub put_each_none : {most : ℕ} → Put old old at at most (each text [])
    put_each_none = put_as put_none (sym (each_none text))

    -- a turn
    pub put_each_next :
        {size : ℕ} {now next : List ℕ} {place end : ℕ} (items : List A) (i : ℕ) (d : A) → i < length items →
        Put old now at place (size * i) (each text (take i items)) → Put now next place end size (text (get_or items i d)) →
        Put old next at end (size * (i + 1)) (each text (take (i + 1) items))
    put_each_next {size} items i d h before put =
        let x = get_or items i d in
        put_as (put_most (put_then before put) (omega (arith, mul-suc size i)))
        (sym
        (ap (each text) (front_next items i d h)
        ∙ each_both text (take i items) (x ∷ [])
        ∙ ap (λ l. each text (take i items) ++ l) (each_one x)))

    -- after the loop
    pub put_each_all :
        {now : List ℕ} {place : ℕ} (size : ℕ) (items : List A) (i : ℕ) → i ≡ length items →
        Put old now at place (size * i) (each text (take i items)) → Put old now at place (size * length items) (each text items)
    put_each_all size items i e put = put_as (put_most put (omega (arith, ap (λ k. size * k) e))) (ap (each text) (front_all items i e))

-- ---- a text for each of 0, 1, .., n − 1, of at most `size` bytes each
module _ (text : ℕ → List ℕ) {old : List ℕ} {at : ℕ} where
  -- a turn
  pub put_numbered_next :
      {size : ℕ} {now next : List ℕ} {place end : ℕ} (n i : ℕ) → i < n →
      Put old now at place (size * i) (each text (take i (numbered n))) → Put now next place end size (text i) →
      Put old next at end (size * (i + 1)) (each text (take (i + 1) (numbered n)))
  put_numbered_next n i h before put =
      put_each_next text (numbered n) i 0 (omega (arith, table_length (λ k. k) n)) before
      (put_as put (ap text (sym (table_at (λ k. k) n i 0 h))))

  -- after the loop
  pub put_numbered_all :
      {now : List ℕ} {place : ℕ} (size n i : ℕ) → i ≡ n →
      Put old now at place (size * i) (each text (take i (numbered n))) → Put old now at place (size * n) (each text (numbered n))
  put_numbered_all size n i e put =
      let whole = table_length (λ k. k) n in
      put_most (put_each_all text size (numbered n) i (e ∙ sym whole) put) (omega (arith, ap (λ k. size * k) whole))
