-- Bytes put into a part of a list that is just as long: they are stored from where it begins. Assumes nothing.
use mathlib.Core.Path.{◌≡◌, refl, sym, ap, ◌∙◌}
use mathlib.Core.List.{List, ◌++◌, append_assoc}
use Prim.Native.Nat.{ℕ, ◌+◌, ◌-◌, ◌≤◌}
use native.Mathlib.Omega.{arith}
use borrow.Rule.Slice.PartMut.{mid_of, put_mid, mid_len, Post-is}
use lib.ListN.{length, take, drop}
use lib.Seq.{sets, sets-eq}
use Rattle.whole.specs.Table.{table}
use Rattle.whole.proofs.Table.{is_table}
use Rattle.words.specs.Words.{byte_at}

module _ (bytes list part : List ℕ) (at : ℕ) (room : at + length bytes ≤ length list) where
  abbrev end : ℕ
  end = at + length bytes

  pub part_filled :
      part ≡ table (λ k. byte_at bytes k) (length (mid_of at (end - at) list)) → put_mid at (end - at) list part ≡ sets list at bytes
  part_filled e =
      let long : length (mid_of at (end - at) list) ≡ length bytes = mid_len at end list room ∙ omega arith in
      let whole : part ≡ bytes =
      e ∙ ap (table (λ k. byte_at bytes k)) long ∙ sym (is_table (λ k. byte_at bytes k) (length bytes) 0 bytes refl (λ k h. refl)) in
      ap (λ l. take at list ++ (l ++ drop (end - at) (drop at list))) whole
      ∙ ap (λ l. take at list ++ (bytes ++ l)) (Post-is at end list (omega arith))
      ∙ sym (append_assoc (take at list) bytes (drop end list))
      ∙ sym (sets-eq bytes list at room)
