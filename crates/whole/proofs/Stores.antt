-- Stores one after the other: what a loop or a row of calls that stores bytes has put so far; and the bytes of each item. Assumes nothing.
use mathlib.Core.Path.{◌≡◌, refl, sym, ap, ◌∙◌}
use mathlib.Core.List.{List, [], ◌∷◌, ◌++◌, append_assoc, append-nil}
use Prim.Native.Nat.{ℕ, suc, ◌+◌, ◌*◌, ◌≤◌, ◌<◌}
use native.Mathlib.Nat.{mul-suc, mul-zero}
use native.Mathlib.Numerals.{add-one}
use native.Mathlib.Omega.{arith}
use lib.ListN.{length, get_or, take, drop, set, length-append, drop_of_length-le}
use lib.Seq.{sets, length-sets, sets-eq, set_comm, take-suc, take_all, length-take-le}
use Rattle.whole.specs.Table.{each, over}

sets_both : (a b old : List ℕ) (at : ℕ) → sets old at (a ++ b) ≡ sets (sets old at a) (at + length a) b
sets_both [] b old at = let e : at + 0 ≡ at = omega arith in rw e
sets_both (x ∷ a) b old at =
    sets_both a b (set old at x) (suc at)
    ∙ ap (λ k. sets (sets (set old at x) (suc at) a) k b) {x = suc at + length a} {y = at + suc (length a)} (omega arith)

-- the last of several may be stored first
sets_last : (a old : List ℕ) (b at : ℕ) → sets old at (a ++ (b ∷ [])) ≡ sets (set old (at + length a) b) at a
sets_last [] old b at = let e : at + 0 ≡ at = omega arith in rw e
sets_last (x ∷ a) old b at =
    sets_last a (set old at x) b (suc at)
    ∙ ap (λ k. sets (set (set old at x) k b) (suc at) a) {x = suc at + length a} {y = at + suc (length a)} (omega arith)
    ∙ ap (λ l. sets l (suc at) a) (set_comm old at (at + suc (length a)) x b (λ e. omega arith))

-- the list holds `bytes` from a place on, and else what it held before
pub record Stored (old : List ℕ) (at : ℕ) (bytes now : List ℕ) : Type 0 where
  pub same : now ≡ sets old at bytes

module _ {old : List ℕ} {at : ℕ} where
  pub stored_length : {bytes now : List ℕ} → Stored old at bytes now → length now ≡ length old
  stored_length {bytes} s = ap length s.same ∙ length-sets old at bytes

  -- before the first store
  pub stored_none : (bytes : List ℕ) → bytes ≡ [] → Stored old at bytes old
  stored_none bytes e = record { same = ap (sets old at) (sym e) }

  -- further bytes right behind those
  pub stored_next :
      {first both now next : List ℕ} {place : ℕ} (second : List ℕ) → Stored old at first now → next ≡ sets now place second →
      place ≡ at + length first → both ≡ first ++ second → Stored old at both next
  stored_next {first} {both} {now} {next} {place} second s f p q = record {
    same =
        f
        ∙ ap (λ l. sets l place second) s.same
        ∙ ap (λ k. sets (sets old at first) k second) p
        ∙ sym (sets_both first second old at)
        ∙ ap (sets old at) (sym q);
  }

  -- what was to be stored
  pub stored_all : {bytes now : List ℕ} (all : List ℕ) → Stored old at bytes now → bytes ≡ all → now ≡ sets old at all
  stored_all all s e = s.same ∙ ap (sets old at) e

-- at the front of a list
pub stored_over : {old bytes now : List ℕ} → Stored old 0 bytes now → length bytes ≤ length old → now ≡ over bytes old
stored_over {old} {bytes} s h =
    s.same ∙ sets-eq bytes old 0 (omega arith) ∙ ap (λ k. bytes ++ drop k old) {x = 0 + length bytes} {y = length bytes} (omega arith)

-- in all of its places
pub stored_whole : {old bytes now : List ℕ} → Stored old 0 bytes now → length bytes ≡ length old → now ≡ bytes
stored_whole {old} {bytes} s e =
    stored_over s (omega arith) ∙ ap (λ l. bytes ++ l) (drop_of_length-le old {i = length bytes} (omega arith)) ∙ append-nil bytes

-- the bytes are stored from the last to the first: with those that are left, the list will hold them all
pub record Unstored (old : List ℕ) (at : ℕ) (bytes now left : List ℕ) : Type 0 where
  pub same : sets now at left ≡ sets old at bytes

module _ {old : List ℕ} {at : ℕ} {bytes : List ℕ} where
  pub unstored_length : {now left : List ℕ} → Unstored old at bytes now left → length now ≡ length old
  unstored_length {now} {left} u = sym (length-sets now at left) ∙ ap length u.same ∙ length-sets old at bytes

  -- before the first store
  pub unstored_all : Unstored old at bytes old bytes
  unstored_all = record { same = refl }

  -- the last of those that are left
  pub unstored_last :
      {now left next : List ℕ} {place : ℕ} (front : List ℕ) (last : ℕ) → Unstored old at bytes now left →
      next ≡ set now place last → place ≡ at + length front → left ≡ front ++ (last ∷ []) → Unstored old at bytes next front
  unstored_last {now} {left} {next} {place} front last u f p q = record {
    same =
        ap (λ l. sets l at front) (f ∙ ap (λ k. set now k last) p)
        ∙ sym (sets_last front now last at)
        ∙ ap (sets now at) (sym q)
        ∙ u.same;
  }

  -- where none is left
  pub unstored_none : {now left : List ℕ} → Unstored old at bytes now left → left ≡ [] → Stored old at bytes now
  unstored_none {now} u e = record { same = ap (sets now at) (sym e) ∙ u.same }

-- ---- one more of a list, and all
pub front_next : {A : Type 0} (l : List A) (i : ℕ) (d : A) → i < length l → take (i + 1) l ≡ take i l ++ (get_or l i d ∷ [])
front_next l i d h = ap (λ k. take k l) (add-one i) ∙ take-suc l i d h

pub front_all : {A : Type 0} (l : List A) (i : ℕ) → i ≡ length l → take i l ≡ l
front_all l i e = take_all i l (omega arith)

-- ---- where two functions give the same bytes of each item
pub each_same :
    {A : Type 0} (f g : A → List ℕ) (d : A) (items : List A) → ((k : ℕ) → k < length items → f (get_or items k d) ≡ g (get_or items k d)) →
    each f items ≡ each g items
unfolding each
each_same f g d [] h = refl
each_same f g d (x ∷ items) h =
    ap (λ l. l ++ each f items) (h 0 (omega arith)) ∙ ap (λ l. g x ++ l) (each_same f g d items (λ k p. h (suc k) (omega arith)))

-- ---- the bytes of items, one after the other
module _ {A : Type 0} (bytes : A → List ℕ) where
  pub each_none : each bytes [] ≡ []
  unfolding each
  each_none = refl

  pub each_both : (a b : List A) → each bytes (a ++ b) ≡ each bytes a ++ each bytes b
  unfolding each
  each_both [] b = refl
  each_both (x ∷ a) b = ap (λ l. bytes x ++ l) (each_both a b) ∙ sym (append_assoc (bytes x) (each bytes a) (each bytes b))

  each_one : (x : A) → each bytes (x ∷ []) ≡ bytes x
  unfolding each
  each_one x = append-nil (bytes x)

  -- of items that have so many bytes each
  module _ (size : ℕ) (sized : (x : A) → length (bytes x) ≡ size) where
    pub each_length : (xs : List A) → length (each bytes xs) ≡ size * length xs
    unfolding each
    each_length [] = sym (mul-zero size)
    each_length (x ∷ xs) =
        length-append (bytes x) (each bytes xs) ∙ omega (arith, sized x, each_length xs, mul-suc size (length xs))

    -- a loop stores one item more
    pub item_next :
        {old now next : List ℕ} {at : ℕ} (items : List A) (i : ℕ) (d : A) → i < length items →
        Stored old at (each bytes (take i items)) now → next ≡ sets now (at + size * i) (bytes (get_or items i d)) →
        Stored old at (each bytes (take (i + 1) items)) next
    item_next {at = at} items i d h s f =
        let x = get_or items i d in
        let front = length-take-le i items (omega arith) in
        stored_next (bytes x) s f (ap (λ k. at + k) (ap (λ k. size * k) (sym front) ∙ sym (each_length (take i items))))
        (ap (each bytes) (front_next items i d h)
        ∙ each_both (take i items) (x ∷ [])
        ∙ ap (λ l. each bytes (take i items) ++ l) (each_one x))
