-- Bytes put behind each other into lent room: what is stored, and the place behind it. Assumes nothing.
use mathlib.Core.Path.{◌≡◌, refl, sym, ap, ◌∙◌}
use mathlib.Core.List.{List, [], ◌∷◌, ◌++◌, append_assoc, append-nil}
use Prim.Native.Nat.{ℕ, ◌+◌, ◌-◌, ◌≤◌, ◌<◌}
use native.Mathlib.Omega.{arith}
use borrow.Rule.Slice.PartMut.{put_mid, Post-is}
use lib.ListN.{length, get_or, take, drop, length-append, take-append-drop}
use lib.Seq.{sets, sets-eq}
use Rattle.whole.specs.Table.{each, over}
use Rattle.writer.specs.Steps.{Room, Puts}
use Rattle.writer.specs.declared.putting.Out.{Out}
use Rattle.whole.proofs.Stores.{Stored, stored_length, stored_none, stored_next, stored_all, stored_over, front_next, each_both}

-- bytes that are copied into a part of a list, just as long
pub part_stored :
    (bytes list : List ℕ) (at : ℕ) → at + length bytes ≤ length list →
    put_mid at (at + length bytes - at) list bytes ≡ sets list at bytes
part_stored bytes list at room =
    let end = at + length bytes in
    ap (λ l. take at list ++ (bytes ++ l)) (Post-is at end list (omega arith))
    ∙ sym (append_assoc (take at list) bytes (drop end list))
    ∙ sym (sets-eq bytes list at room)

module _ {old : Out} where
  stored : {bytes : List ℕ} {now : Out} → Puts old bytes now → Stored old.bytes.now old.at bytes now.bytes.now
  stored p = record { same = p.after }

  -- before the first byte
  pub puts_none : (bytes : List ℕ) → bytes ≡ [] → Puts old bytes old
  puts_none bytes e = record { same = refl; place = omega (arith, ap length e); after = stored_all bytes (stored_none [] refl) (sym e) }

  -- further bytes
  pub puts_next :
      {first both : List ℕ} {now next : Out} (second : List ℕ) → Puts old first now → Puts now second next → both ≡ first ++ second →
      Puts old both next
  puts_next {first} second p q e = record {
    same = q.same ∙ p.same;
    place = omega (arith, p.place, q.place, ap length e, length-append first second);
    after = (stored_next second (stored p) q.after p.place e).same;
  }

  -- there is room for them where there is room for all
  pub puts_room :
      {first : List ℕ} {now : Out} (second all : List ℕ) → Puts old first now → length first + length second ≤ length all → Room old all →
      Room now second
  puts_room second all p h room = omega (arith, p.place, stored_length (stored p))

  -- at the front of the room
  pub puts_over :
      {bytes : List ℕ} {now : Out} → Puts old bytes now → old.at ≡ 0 → length bytes ≤ length old.bytes.now →
      now.bytes.now ≡ over bytes old.bytes.now
  puts_over {bytes} p e h = stored_over (record { same = p.after ∙ ap (λ k. sets old.bytes.now k bytes) e }) h

-- the bytes of items, up to one of them
module _ {A : Type 0} (bytes : A → List ℕ) (items : List A) where
  abbrev pub up_to : ℕ → List ℕ
  up_to i = each bytes (take i items)

  module _ (i : ℕ) (h : i < length items) (x : A) (read : x ≡ get_or items i x) where
    one : each bytes (x ∷ []) ≡ bytes x
    unfolding each
    one = append-nil (bytes x)

    pub one_more : up_to (i + 1) ≡ up_to i ++ bytes x
    one_more =
        ap (each bytes) (front_next items i x h)
        ∙ ap (λ y. each bytes (take i items ++ (y ∷ []))) (sym read)
        ∙ each_both bytes (take i items) (x ∷ [])
        ∙ ap (λ l. up_to i ++ l) one

    pub within : length (up_to i) + length (bytes x) ≤ length (each bytes items)
    within =
        let rest = drop (i + 1) items in
        let all = ap (each bytes) (sym (take-append-drop (i + 1) items)) ∙ each_both bytes (take (i + 1) items) rest in
        omega (
          arith,
          ap length all,
          length-append (up_to (i + 1)) (each bytes rest),
          ap length one_more,
          length-append (up_to i) (bytes x),
        )
