-- What calls have put into a page, one after the other. Assumes nothing.
use mathlib.Core.Logic.{⊎_elim}
use mathlib.Core.Path.{◌≡◌, refl, sym, ap, ◌∙◌}
use mathlib.Core.List.{List, [], ◌∷◌, ◌++◌, append-nil, append_assoc}
use Prim.Native.Nat.{ℕ, suc, ◌+◌, ◌-◌, ◌≤◌, ◌<◌, min}
use native.Mathlib.Nat.{eq-zero-or-pos}
use native.Mathlib.Numerals.{add-one}
use native.Mathlib.Omega.{arith}
use lib.ListN.{length, get_or, set, take, drop, length-append, length-take, length-drop, take-append-drop, drop_of_length-le}
use lib.Seq.{sets, length-sets, set_out, sets-eq, length-take-le, take-suc, take-suc-set}
use borrow.Rule.Slice.PartMut.{put_mid, Post-is}
use Rattle.whole.specs.Table.{each}
use Rattle.whole.proofs.Stores.{Stored, stored_next, front_next, front_all, each_none, each_both}
use Rattle.pages.specs.Pages.{Puts}

-- stores beyond the end of a list change nothing
sets_beyond : (text list : List ℕ) (at : ℕ) → length list ≤ at → sets list at text ≡ list
sets_beyond [] list at h = refl
sets_beyond (x ∷ text) list at h =
    ap (λ l. sets l (suc at) text) (set_out list at x h) ∙ sets_beyond text list (suc at) (omega arith)

-- a place beyond the end is the end
sets_end : (text list : List ℕ) (at : ℕ) → sets list (min at (length list)) text ≡ sets list at text
sets_end text list at =
    ⊎_elim (λ h. ap (λ k. sets list k text) {x = min at (length list)} {y = at} (omega arith))
    (λ h. sets_beyond text list (min at (length list)) (omega arith) ∙ sym (sets_beyond text list at (omega arith)))
    (eq-zero-or-pos (at - length list))

-- ---- one call after the other
module _ {old : List ℕ} {at : ℕ} where
  -- before the first call
  pub puts_none : {place : ℕ} → place ≡ min at (length old) → Puts old old at place []
  puts_none e = record { same = refl; behind = omega arith }

  module _ {new : List ℕ} {place : ℕ} {text : List ℕ} (puts : Puts old new at place text) where
    -- a page keeps its length
    pub puts_length : length new ≡ length old
    puts_length = ap length puts.same ∙ length-sets old at text

    -- the same text, said otherwise
    pub puts_as : {other : List ℕ} → text ≡ other → Puts old new at place other
    puts_as e = record { same = puts.same ∙ ap (sets old at) e; behind = puts.behind ∙ ap (λ l. min (at + length l) (length old)) e }

    stored : Stored old at text new
    stored = record { same = puts.same }

    -- one text right behind another
    pub puts_then :
        {newer : List ℕ} {end : ℕ} {further : List ℕ} → Puts new newer place end further → Puts old newer at end (text ++ further)
    puts_then {newer} {end} {further} next =
        let reached : place ≡ min (at + length text) (length new) = omega (arith, puts.behind, puts_length) in
        let put = next.same ∙ ap (λ k. sets new k further) reached ∙ sets_end further new (at + length text) in record {
          same = (stored_next further stored put refl refl).same;
          behind = omega (arith, puts.behind, next.behind, puts_length, length-append text further);
        }

-- ---- a text of which the page takes as much as fits
module _ (old text : List ℕ) (at start fits : ℕ) (from : start ≡ min at (length old)) (most : fits ≡ min (length text) (length old - start))
    {new : List ℕ} (put : new ≡ sets old start (take fits text)) where
  taken : Puts old new start (start + fits) (take fits text)
  taken = record { same = put; behind = omega (arith, length-take fits text) }

  left_out : Puts new new (start + fits) (start + fits) (drop fits text)
  left_out = record {
    same =
        ⊎_elim (λ h. ap (sets new (start + fits)) (sym (drop_of_length-le text {i = fits} (omega arith))))
        (λ h. sym (sets_beyond (drop fits text) new (start + fits) (omega (arith, puts_length taken))))
        (eq-zero-or-pos (length text - fits));
    behind = omega (arith, puts_length taken, length-drop fits text);
  }

  puts_fitting : Puts old new at (start + fits) text
  puts_fitting =
      let whole = puts_as (puts_then taken left_out) (take-append-drop fits text) in record {
        same = whole.same ∙ ap (λ k. sets old k text) from ∙ sets_end text old at;
        behind = omega (arith, whole.behind);
      }

-- as much as fits, copied into the part of the page that it takes
pub puts_copied :
    (old text part : List ℕ) (at start fits : ℕ) → start ≡ min at (length old) → fits ≡ min (length text) (length old - start) →
    part ≡ take fits text → Puts old (put_mid start (start + fits - start) old part) at (start + fits) text
puts_copied old text part at start fits from most copied =
    let long : length (take fits text) ≡ fits = length-take-le fits text (omega arith) in
    puts_fitting old text at start fits from most
    (rw copied
    (ap (λ l. take start old ++ (take fits text ++ l)) (Post-is start (start + fits) old (omega arith))
    ∙ ap (λ k. take start old ++ (take fits text ++ drop (start + k) old)) (sym long)
    ∙ sym (append_assoc (take start old) (take fits text) _)
    ∙ sym (sets-eq (take fits text) old start (omega arith))))

-- bytes copied one by one: one more
pub copied_next :
    (bytes places : List ℕ) (k byte : ℕ) → k < length bytes → k < length places → byte ≡ get_or bytes k 0 →
    take k places ≡ take k bytes → take (k + 1) (set places k byte) ≡ take (k + 1) bytes
copied_next bytes places k byte h room is before =
    rw (add-one, take-suc-set places k byte room, before, is) (sym (take-suc bytes k 0 h))

-- ---- a text for each item of a list
module _ {A : Type 0} (text : A → List ℕ) where
  each_one : (x : A) → each text (x ∷ []) ≡ text x
  unfolding each
  each_one x = append-nil (text x)

  module _ {old : List ℕ} {at : ℕ} where
    -- before the loop
    pub puts_each_none : {place : ℕ} → place ≡ min at (length old) → Puts old old at place (each text [])
    puts_each_none e = puts_as (puts_none e) (sym (each_none text))

    -- a turn
    pub puts_each_next :
        {now next : List ℕ} {place end : ℕ} (items : List A) (i : ℕ) (d : A) → i < length items →
        Puts old now at place (each text (take i items)) → Puts now next place end (text (get_or items i d)) →
        Puts old next at end (each text (take (i + 1) items))
    puts_each_next items i d h before puts =
        let x = get_or items i d in
        puts_as (puts_then before puts)
        (sym
        (ap (each text) (front_next items i d h)
        ∙ each_both text (take i items) (x ∷ [])
        ∙ ap (λ l. each text (take i items) ++ l) (each_one x)))

    -- after the loop
    pub puts_each_all :
        {now : List ℕ} {place : ℕ} (items : List A) (i : ℕ) → i ≡ length items → Puts old now at place (each text (take i items)) →
        Puts old now at place (each text items)
    puts_each_all items i e puts = puts_as puts (ap (each text) (front_all items i e))
