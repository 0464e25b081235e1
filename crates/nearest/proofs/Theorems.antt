-- What the buyer asks for by name, and the laws for callers, over the definitions of Bits, Nearest and Answers. Assumes nothing.
use mathlib.Core.Path.{◌≡◌, refl, sym, ap, ◌∙◌, subst}
use mathlib.Core.Bool.{Bool, true, false, not}
use Prim.Native.Nat.{ℕ, zero, suc, ◌*◌, ◌^◌, ◌≤◌}
use native.Mathlib.Omega.{arith}
use borrow.Author.Tests.{le-ltb}
use lib.Dec.{T, leb→le}
use lib.Ieee.{binary64, round, neg, of_bits, to_bits, is_nan}
use lib.Ieee.Bits.{of_bits-to_bits}
use lib.Ieee.Fits.{round-fits}
use lib.Ieee.Scale.{round_same}
use lib.IntN.{ℤ, pos, negsuc, nat_abs, neg_ℤ, ◌*ℤ◌, ◌-ℤ◌, +ℤ_invr}
use lib.ListN.{length}
use lib.Signed.{lt_z, ◌≤ℤ◌}
use Rattle.std.specs.Prelude.{Result, Ok, Err}
use Rattle.whole.specs.Integer.{below_zero}
use Rattle.whole.specs.Rules.{ratio_limit}
use Rattle.whole.proofs.Integer.{equal_of_diff, *_assoc, *_left_comm}
use Rattle.whole.proofs.Size.{zero_of_size, size_*, one_above, one_some, one_*, sign_*}
use Rattle.nearest.specs.Bits.{negative, Finite, value_of}
use Rattle.nearest.specs.Nearest.{distance, IsNearest}
use Rattle.nearest.specs.Sides.{side_of, other_side}
use Rattle.nearest.specs.declared.Rounded.{Rounded}
use Rattle.nearest.specs.declared.Side.TheVariants.{Equal, Below, Above}
use Rattle.refusals.specs.Refusals.{number_of}
use Rattle.refusals.specs.declared.Refusal.{Refusal}
use Rattle.refusals.proofs.Refusals.{cause_unique}
use Rattle.nearest.specs.Answers.{figures_of, NearestIn, nearest_refusal, nearest_float, nearest_bits, nearest_side, nearest_rounded, nearest_figures}
use Rattle.nearest.proofs.Accepted.{accepted, under, let_in}
use Rattle.nearest.proofs.Answered.{rounded}
use Rattle.nearest.proofs.Fields.{finite_number}
use Rattle.nearest.proofs.NearestFloat.{zero_round}
use Rattle.nearest.proofs.Sides.{at_equal, at_below, at_above, only_equal, only_below, only_above, side_at_zero, turned_side}
use Rattle.nearest.proofs.Signed.{neg_neg, neg_round, round_number}
use Rattle.nearest.proofs.Unique as unique
-- stated where they are proved. `float_nearest`: where nothing is refused, the float that the definition names is the nearest
pub use Rattle.nearest.proofs.Answered.{float_nearest}
-- the gap is that to the neighbouring float: the float of the bits b + 1 is larger by the gap, which is not 0, and no float lies between
-- that of b and those of b + 1 and b - 1
pub use Rattle.nearest.proofs.Neighbours.{gap_adds, gap_above, neighbour_outward, neighbour_inward}

-- a divisor from 1 is its size
by_size : (p q : ℤ) → pos 1 ≤ℤ q → (b : ℕ) → IsNearest p q b → IsNearest p (pos (nat_abs q)) b
by_size p q h b B = subst (λ (z : ℤ). IsNearest p z b) (one_above q h) B

-- ---- the properties fix the 64 bits: two floats that both have them are the same
pub nearest_unique : (p q : ℤ) → pos 1 ≤ℤ q → (b c : ℕ) → IsNearest p q b → IsNearest p q c → b ≡ c
nearest_unique p q h b c B C =
    unique.one_nearest p (nat_abs q) (one_some q h) b c (by_size p q h b B) (by_size p q h c C)

-- `float_nearest` has them for the float that the definition names, so its bits are the only ones
pub nearest_only : (p q : ℤ) → nearest_refusal p q ≡ 0 → (b : ℕ) → IsNearest p q b → b ≡ to_bits binary64 (nearest_float p q)
nearest_only p q taken b B =
    nearest_unique p q (accepted p q taken).one b (to_bits binary64 (nearest_float p q)) B (float_nearest p q taken)

-- ---- rule 18 lets in every divisor from 1, where neither number is beyond the limit
pub not_refused : (p q : ℤ) → pos 1 ≤ℤ q → nat_abs p ≤ ratio_limit → nat_abs q ≤ ratio_limit → nearest_refusal p q ≡ 0
not_refused p q h P Q = sym (let_in p q (rw (from_one q h, le-ltb ratio_limit (nat_abs p) P, le-ltb ratio_limit (nat_abs q) Q) refl))
  where
    from_one : (q : ℤ) → pos 1 ≤ℤ q → lt_z q (pos 1) ≡ false
    from_one (pos n) h = le-ltb n 1 (leb→le 1 n h.le)
    from_one (negsuc n) h = absurd h.le

-- ---- the float depends on the ratio alone
pub same_ratio : (p q p' q' : ℤ) → pos 1 ≤ℤ q → pos 1 ≤ℤ q' → p *ℤ q' ≡ p' *ℤ q → nearest_float p q ≡ nearest_float p' q'
unfolding nearest_float
same_ratio p q p' q' h h' e =
    let sizes : nat_abs p * nat_abs q' ≡ nat_abs p' * nat_abs q = sym (size_* p q') ∙ ap nat_abs e ∙ size_* p' q in
    let signs : below_zero p ≡ below_zero p' = sym (sign_* p q' h') ∙ ap below_zero e ∙ sign_* p' q h in
    ap (λ (s : Bool). round binary64 s (nat_abs p) (nat_abs q)) signs
    ∙ round_same binary64 (below_zero p') (nat_abs p) (nat_abs q) (nat_abs p') (nat_abs q') (one_some q h) (one_some q' h') sizes

-- so that k × p over k × q is p over q
pub scaled_ratio : (k p q : ℤ) → pos 1 ≤ℤ k → pos 1 ≤ℤ q → nearest_float (k *ℤ p) (k *ℤ q) ≡ nearest_float p q
scaled_ratio k p q h g = same_ratio (k *ℤ p) (k *ℤ q) p q (one_* k q h g) g (*_assoc k p q ∙ *_left_comm k p q)

-- ---- its sign is that of p, and 0 has none
pub sign_of : (p q : ℤ) → nearest_refusal p q ≡ 0 → (p ≡ pos 0 → ⊥) → negative (to_bits binary64 (nearest_float p q)) ≡ below_zero p
sign_of p q taken some =
    let b = to_bits binary64 (nearest_float p q) in
    let h = (accepted p q taken).one in
    unique.sign_is p (nat_abs q) (one_some q h) b ((by_size p q h b (float_nearest p q taken)).formed some)

pub opposite : (p q : ℤ) → (p ≡ pos 0 → ⊥) → nearest_float (neg_ℤ p) q ≡ neg (nearest_float p q)
unfolding nearest_float
opposite (pos zero) q some = absurd (some refl)
opposite (pos (suc a)) q some = sym (neg_round binary64 (suc a) (nat_abs q))
opposite (negsuc a) q some = sym (neg_neg (round binary64 false (suc a) (nat_abs q))) ∙ ap neg (neg_round binary64 (suc a) (nat_abs q))

pub plain_zero : (q : ℤ) → pos 1 ≤ℤ q → nearest_float (pos 0) q ≡ of_bits binary64 0
unfolding nearest_float
plain_zero q h = sym (zero_round (nat_abs q) (one_some q h))

-- ---- its side tells the truth, both ways: a ratio that some float is equal to is answered equal, and no other is
pub equal_exactly :
    (p q : ℤ) → nearest_refusal p q ≡ 0 → (b : ℕ) → Finite b → value_of b *ℤ q ≡ p *ℤ pos (2 ^ 1074) → nearest_side p q ≡ Equal
unfolding nearest_side side_of
equal_exactly p q taken b F e =
    let near = (float_nearest p q taken).best b F in
    let far : distance p q b ≡ 0 = ap nat_abs (ap (λ (z : ℤ). z -ℤ p *ℤ pos (2 ^ 1074)) e ∙ +ℤ_invr (p *ℤ pos (2 ^ 1074))) in
    let none : distance p q (nearest_bits p q) ≡ 0 = omega arith in
    at_equal _ _ (equal_of_diff _ _ (zero_of_size _ none))

pub equal_only : (p q : ℤ) → nearest_side p q ≡ Equal → value_of (nearest_bits p q) *ℤ q ≡ p *ℤ pos (2 ^ 1074)
unfolding nearest_side side_of
equal_only p q e = only_equal (value_of (nearest_bits p q) *ℤ q) (p *ℤ pos (2 ^ 1074)) e

-- it is below exactly where the float is less than the ratio, and above exactly where it is greater
pub below_exactly : (p q : ℤ) → lt_z (value_of (nearest_bits p q) *ℤ q) (p *ℤ pos (2 ^ 1074)) ≡ true → nearest_side p q ≡ Below
unfolding nearest_side side_of
below_exactly p q h = at_below _ _ h

pub below_only : (p q : ℤ) → nearest_side p q ≡ Below → lt_z (value_of (nearest_bits p q) *ℤ q) (p *ℤ pos (2 ^ 1074)) ≡ true
unfolding nearest_side side_of
below_only p q e = only_below (value_of (nearest_bits p q) *ℤ q) (p *ℤ pos (2 ^ 1074)) e

pub above_exactly : (p q : ℤ) → lt_z (p *ℤ pos (2 ^ 1074)) (value_of (nearest_bits p q) *ℤ q) ≡ true → nearest_side p q ≡ Above
unfolding nearest_side side_of
above_exactly p q h = at_above _ _ h

pub above_only : (p q : ℤ) → nearest_side p q ≡ Above → lt_z (p *ℤ pos (2 ^ 1074)) (value_of (nearest_bits p q) *ℤ q) ≡ true
unfolding nearest_side side_of
above_only p q e = only_above (value_of (nearest_bits p q) *ℤ q) (p *ℤ pos (2 ^ 1074)) e

-- 0 is equal, and of a ratio and its negative one lies above where the other lies below
pub zero_equal : (q : ℤ) → pos 1 ≤ℤ q → nearest_side (pos 0) q ≡ Equal
zero_equal q h = sym (side_at_zero q h (pos 0) refl)

pub opposite_side : (p q : ℤ) → nearest_refusal p q ≡ 0 → nearest_side (neg_ℤ p) q ≡ other_side (nearest_side p q)
opposite_side p q taken = let a = accepted p q taken in turned_side q a.one p (under _ a.p_near) (under _ a.q_near)

-- ---- it is no NaN, so its bits can be read, and they give the float back
pub not_nan : (p q : ℤ) → T (not (is_nan (nearest_float p q)))
unfolding nearest_float
not_nan p q = round_number binary64 (below_zero p) (nat_abs p) (nat_abs q)

pub answered_not_nan : (p q : ℤ) (r : Result Rounded Refusal) (x : Rounded) → NearestIn p q r → r ≡ Ok x → T (not (is_nan x.float))
answered_not_nan p q r x h e = finite_number x.float (subst (NearestIn p q) e h).0.finite

pub read_back : (p q : ℤ) → of_bits binary64 (to_bits binary64 (nearest_float p q)) ≡ nearest_float p q
unfolding nearest_float
read_back p q = of_bits-to_bits binary64 (nearest_float p q) (round-fits binary64 (below_zero p) (nat_abs p) (nat_abs q))

-- ---- an answer is known by its number and its figures, so that the contract leaves no second answer open
pub answer_unique : (a b : Result Rounded Refusal) → number_of a ≡ number_of b → figures_of a ≡ figures_of b → a ≡ b
unfolding figures_of
answer_unique (Err k) (Err l) e f = ap Err (cause_unique k l e)
answer_unique (Err k) (Ok y) e f = let z : ◌≡◌ {A = ℕ} 0 1 = ap length f in absurd (omega arith)
answer_unique (Ok x) (Err l) e f = let z : ◌≡◌ {A = ℕ} 1 0 = ap length f in absurd (omega arith)
answer_unique (Ok x) (Ok y) e f = ap Ok (cc)

-- so that where nothing is refused, the answer is the nearest float and its side
pub answer_rounded :
    (p q : ℤ) → nearest_refusal p q ≡ 0 → (r : Result Rounded Refusal) → number_of r ≡ nearest_refusal p q →
    figures_of r ≡ nearest_figures p q → r ≡ Ok (nearest_rounded p q)
answer_rounded p q taken r n f =
    let s = rounded p q (nearest_rounded p q) (sym taken) refl in
    answer_unique r (Ok (nearest_rounded p q)) (n ∙ sym s.0) (f ∙ sym s.1.0)
