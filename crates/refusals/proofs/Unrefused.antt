-- An answer whose number is 0 is no refusal, so that it can be unwrapped. Assumes nothing.
use mathlib.Core.Path.{◌≡◌}
use borrow.Author.Rules.{rules}
use Rattle.std.specs.Prelude.{Result, Ok, Err}
use Rattle.std.specs.Result.{IsOk}
use Rattle.refusals.specs.declared.Refusal.{Refusal}
use Rattle.refusals.specs.Refusals.{number_of}
use Rattle.refusals.proofs.Refusals.{not_refused}

pub unrefused : {A : Type 0} (r : Result A Refusal) → number_of r ≡ 0 → IsOk r
unrefused (Ok worked) e = search rules
unrefused (Err refusal) e = absurd (not_refused refusal e)
