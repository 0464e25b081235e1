-- `widened` meets its contract. Assumes nothing.
use mathlib.Core.Path.{refl, sym}
use mathlib.Core.Logic.{inl, inr}
use native.Mathlib.Nat.{mul-one}
use borrow.Author.Rules.{rules}
use Rattle.nearest.proofs.division.widened.Goals as goal

pub returns-then-q-lt1024 : goal.returns-then-q-lt1024
returns-then-q-lt1024 c = record { same = refl; often = inr refl; least = search rules; most = search rules }

pub returns-else-q-lt1024 : goal.returns-else-q-lt1024
returns-else-q-lt1024 c = record { same = sym (mul-one _); often = inl refl; least = search rules; most = search rules }
