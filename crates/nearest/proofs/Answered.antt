-- The call's two ways out, and what its contract promises of each. Assumes nothing.
use mathlib.Core.Path.{◌≡◌, refl, sym, ap, ◌∙◌, subst}
use mathlib.Core.List.{[], ◌∷◌}
use lib.Ieee.{binary64, round, to_bits}
use lib.IntN.{ℤ, nat_abs}
use Rattle.std.specs.Prelude.{Result, Ok, Err}
use Rattle.whole.specs.Integer.{below_zero}
use Rattle.whole.proofs.Size.{one_above, one_some}
use Rattle.refusals.specs.Refusals.{number_by, number_of}
use Rattle.refusals.specs.declared.Refusal.{Refusal}
use Rattle.refusals.proofs.Refusals.{left_by, worked_by}
use Rattle.nearest.specs.Answers.{figures_of, NearestIn, nearest_refusal, nearest_float, nearest_side, nearest_rounded, nearest_figures}
use Rattle.nearest.specs.Nearest.{IsNearest}
use Rattle.nearest.specs.declared.Rounded.{Rounded}
use Rattle.nearest.proofs.Accepted.{accepted, under}
use Rattle.nearest.proofs.NearestFloat.{round_nearest}

-- the float of numbers that are let in is the nearest
pub float_nearest : (p q : ℤ) → nearest_refusal p q ≡ 0 → IsNearest p q (to_bits binary64 (nearest_float p q))
unfolding nearest_float
float_nearest p q z =
    let a = accepted p q z in
    subst (λ (z : ℤ). IsNearest p z (to_bits binary64 (round binary64 (below_zero p) (nat_abs p) (nat_abs q)))) (sym (one_above q a.one))
    (round_nearest p (nat_abs q) (under (nat_abs p) a.p_near) (one_some q a.one) (under (nat_abs q) a.q_near))

module _ (p q : ℤ) where
  -- what the call promises of its answer
  abbrev pub Promised : Result Rounded Refusal → Type 0
  Promised r = (number_of r ≡ nearest_refusal p q) × ((figures_of r ≡ nearest_figures p q) × NearestIn p q r)

  pub refused : (refusal : Refusal) → number_by refusal ≡ nearest_refusal p q → Promised (Err refusal)
  unfolding figures_of nearest_figures
  refused refusal e = (e, (sym (left_by _ _ _ refusal e), tt))

  pub rounded : (x : Rounded) → 0 ≡ nearest_refusal p q → x ≡ nearest_rounded p q → Promised (Ok x)
  unfolding figures_of nearest_figures nearest_side
  rounded x z e =
      (z, (ap (λ (y : Rounded). y ∷ []) e ∙ sym (worked_by _ _ _ z), rw e (float_nearest p q (sym z), refl)))
