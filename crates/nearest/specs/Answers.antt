-- What the call answers: its refusal, and the float with the side of the ratio that it lies on. Assumes nothing.
use Rattle.std.specs.Prelude.{◌≡◌, ◌||◌, List, [], ◌∷◌, ℕ, Float, ℤ, pos, nat_abs, Result, Ok, Err}
use Rattle.std.specs.Float.{binary64}
use Rattle.std.specs.Float.Ieee.{round, to_bits}
use Rattle.std.specs.Int.Signed.{lt_z}
use Rattle.whole.specs.Integer.{below_zero, beyond}
use Rattle.whole.specs.Rules.{Rule, first_broken, unless_refused, ratio_limit}
use Rattle.nearest.specs.Nearest.{IsNearest}
use Rattle.nearest.specs.Sides.{side_of}
use Rattle.nearest.specs.declared.Rounded.{Rounded}
use Rattle.nearest.specs.declared.Side.{Side}
use Rattle.refusals.specs.declared.Refusal.{Refusal}

-- ---- what an answer says, by its cases

-- the float and its side, none where the call is refused
unfoldable pub figures_of : Result Rounded Refusal → List Rounded
figures_of (Err refusal) = []
figures_of (Ok x) = x ∷ []

-- where there is a float, its bits are those of the nearest, and its side is where these lie
abbrev pub NearestIn : ℤ → ℤ → Result Rounded Refusal → Type 0
NearestIn p q (Err refusal) = Unit
NearestIn p q (Ok x) = IsNearest p q (to_bits binary64 x.float) × (x.side ≡ side_of p q (to_bits binary64 x.float))

-- ---- what they must be

-- 18: the divisor is below 1, or p or q is beyond 6×10^18 in size
unfoldable pub nearest_rules : ℤ → ℤ → List Rule
nearest_rules p q = (lt_z q (pos 1) || beyond ratio_limit p || beyond ratio_limit q, 18) ∷ []

-- the refusal, 0 where no rule is broken
unfoldable pub nearest_refusal : ℤ → ℤ → ℕ
nearest_refusal p q = first_broken (nearest_rules p q)

-- the nearest float to p / q, as the kit has it: p / q, which is exact, rounded once
unfoldable pub nearest_float : ℤ → ℤ → Float
nearest_float p q = round binary64 (below_zero p) (nat_abs p) (nat_abs q)

-- its 64 bits
abbrev pub nearest_bits : ℤ → ℤ → ℕ
nearest_bits p q = to_bits binary64 (nearest_float p q)

-- the side of p / q that it lies on
unfoldable pub nearest_side : ℤ → ℤ → Side
nearest_side p q = side_of p q (nearest_bits p q)

-- both
abbrev pub nearest_rounded : ℤ → ℤ → Rounded
nearest_rounded p q = record { float = nearest_float p q; side = nearest_side p q }

-- what the call answers
unfoldable pub nearest_figures : ℤ → ℤ → List Rounded
nearest_figures p q = unless_refused (nearest_refusal p q) (nearest_rounded p q ∷ []) []
