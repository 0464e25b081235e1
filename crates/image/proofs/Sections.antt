-- A section that breaks no rule. Assumes nothing.
use mathlib.Core.Path.{◌≡◌}
use mathlib.Core.Bool.{Bool, false}
use mathlib.Core.List.{List}
use Prim.Native.Nat.{ℕ, suc, ◌+◌, ◌*◌, ◌≤◌}
use native.Mathlib.Omega.{arith}
use borrow.Author.Tests.{le-ltb, ltb-false}
use lib.Dec.{ltb}
use lib.ListN.{length}
use Rattle.whole.specs.Rules.{Rule, first_broken}
use Rattle.whole.proofs.Rules.{holds}
use Rattle.image.specs.Image.{count, section_rules}

-- a section that breaks no rule is whole, its count allowed and its items without fault
pub record Sound (size : ℕ) (broken : Bool) (of_items : List Rule) (b : List ℕ) : Type 0 where
  pub whole : 2 + size * count b ≤ length b
  pub counted : broken ≡ false
  pub listed : first_broken of_items ≡ 0

pub sound :
    (size : ℕ) (broken : Bool) (number : ℕ) (of_items : List Rule) (b : List ℕ) →
    first_broken (section_rules size (broken, suc number) of_items b) ≡ 0 → Sound size broken of_items b
sound size broken number of_items b e =
    let first = holds (ltb (length b) 2) 13 _ e in
    let second = holds broken number _ first.1 in
    let third = holds (ltb (length b) (2 + size * count b)) 13 _ second.1 in
    record { whole = ltb-false (length b) (2 + size * count b) third.0; counted = second.0; listed = third.1 }

-- and a section like that breaks none
pub sound_section :
    (size : ℕ) (broken : Bool) (number : ℕ) (of_items : List Rule) (b : List ℕ) → Sound size broken of_items b →
    first_broken (section_rules size (broken, number) of_items b) ≡ 0
sound_section size broken number of_items b s =
    let w = s.whole in
    rw (le-ltb (length b) 2 (omega arith), s.counted, le-ltb (length b) (2 + size * count b) w) s.listed
