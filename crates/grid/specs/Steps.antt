-- What the private functions ask of each other; no part of the public promise. Assumes nothing.
use Rattle.std.specs.Prelude.{cond, ℕ, ltb, ℤ, pos, negsuc, Option, Some, None}

-- where a step leads in a line of so many cells, if not out of it
abbrev pub landing : ℕ → ℤ → Option ℕ
landing cells (pos t) = cond (ltb t cells) (Some t) None
landing cells (negsuc t) = None
