-- The bits of what `round` makes of p / q are those of the nearest float. Assumes nothing.
use mathlib.Core.Path.{◌≡◌, refl, sym, ap, ◌∙◌}
use mathlib.Core.Logic.{inl, inr, ⊎_elim}
use mathlib.Core.Bool.{Bool, false}
use Prim.Native.Nat.{ℕ, zero, suc, ◌+◌, ◌-◌, ◌*◌, ◌%◌, ◌^◌, ◌≤◌, ◌<◌, zero-le}
use native.Mathlib.Nat as N
use native.Mathlib.Omega.{arith}
use lib.Dec.{lit<, lit≤}
use lib.Ieee.{binary64, round, of_bits, to_bits}
use lib.Ieee.Fits.{round-fits}
use lib.Ieee.Scale.{round_same}
use lib.IntN.{ℤ, pos, negsuc, nat_abs}
use lib.Pow.{pow_pos}
use Rattle.whole.specs.Integer.{below_zero}
use Rattle.nearest.specs.Bits.{negative, field, digits, Finite, size_of, signed, value_of}
use Rattle.nearest.specs.Nearest.{distance, gap, Half, Formed, IsNearest}
use Rattle.nearest.proofs.Between.{Down, Up, none_between, down_short, down_far, up_past, up_far, nearer, across}
use Rattle.nearest.proofs.Distance.{apart, signed_apart, distance_is, one_sign, any_signs}
use Rattle.nearest.proofs.Fields.{Read, read}
use Rattle.nearest.proofs.Neighbours.{gap_outward, gap_inward, gap_some, gap_least}
use Rattle.nearest.proofs.Rounding.{Kept, kept}

-- ---- half of a gap. x is the float's size and n that of p / q, and r of the gap u is left over, all multiplied out by q

-- the float is short of p / q by r
short : (far r u m : ℕ) → far ≡ r → r * 2 ≤ u → (r * 2 ≡ u → m % 2 ≡ 0) → Half far u m
short far r u m e h t = (omega arith, λ f. t (omega arith))

-- it is past p / q by u - r
past : (far r u m : ℕ) → r < u → far ≡ u - r → u ≤ r * 2 → (r * 2 ≡ u → m % 2 ≡ 0) → Half far u m
past far r u m l e h t = (omega arith, λ f. t (omega arith))

-- it would be short by r, but is not short: so r is 0
equal : (x n r far u m : ℕ) → n ≡ x + r → n ≤ x → far ≡ r → 0 < u → Half far u m
equal x n r far u m e h f k = (omega arith, λ t. absurd (omega arith))

-- it is past p / q, so it is not short of it
never : (x n u r : ℕ) → r < u → x ≡ n + (u - r) → x ≤ n → ⊥
never x n u r l e h = omega arith

module _ (p : ℤ) (q : ℕ) (Q : 0 < q) (x : Kept (nat_abs p) q) (b : ℕ) (is : Read b (below_zero p) (x.m * 2 ^ x.k)) where
  -- what p / q is, and how much a step of m is, multiplied out
  abbrev n : ℕ
  n = nat_abs p * 2 ^ 1074

  abbrev u : ℕ
  u = q * 2 ^ x.k

  far : distance p (pos q) b ≡ apart (x.m * 2 ^ x.k * q) n
  far =
      distance_is p q b
      ∙ ap (λ (s : Bool). signed_apart s (size_of b * q) (below_zero p) n) is.sign
      ∙ one_sign (below_zero p) (size_of b * q) n
      ∙ ap (λ (z : ℕ). apart (z * q) n) is.size

  -- ---- no float is nearer
  best : (other : ℕ) → Finite other → distance p (pos q) b ≤ distance p (pos q) other
  best other F =
      let out = none_between (field other) (digits other) x.w x.k (N.mod-lt other (pow_pos 52)) x.least in
      let same = nearer n q x.w x.k x.r x.m x.split x.over x.taken (size_of other) out in
      let cross = across n q x.w x.k x.r x.m x.split x.over x.taken (size_of other * q) in
      rw (far, distance_is p q other)
      (any_signs (negative other) (below_zero p) (size_of other * q) n (apart (x.m * 2 ^ x.k * q) n) same cross)

  -- ---- its form
  value_at : (m k : ℕ) → x.m * 2 ^ x.k ≡ m * 2 ^ k → value_of b ≡ signed (below_zero p) (m * 2 ^ k)
  value_at m k e = ap (λ (s : Bool). signed s (size_of b)) is.sign ∙ ap (signed (below_zero p)) (is.size ∙ e)

  down_at : Down x.m x.w x.r u → n ≡ size_of b * q + x.r
  down_at d = down_short n q x.w x.k x.r x.m x.split x.over d ∙ ap (λ (z : ℕ). z * q + x.r) (sym is.size)

  up_at : Up x.m x.w x.r u → size_of b * q ≡ n + (u - x.r)
  up_at d = ap (λ (z : ℕ). z * q) is.size ∙ up_past n q x.w x.k x.r x.m x.split x.over d

  short_by : Down x.m x.w x.r u → distance p (pos q) b ≡ x.r
  short_by d = far ∙ down_far n q x.w x.k x.r x.m x.split x.over d

  past_by : Up x.m x.w x.r u → distance p (pos q) b ≡ u - x.r
  past_by d = far ∙ up_far n q x.w x.k x.r x.m x.split x.over d

  -- where m has 53 digits
  module _ (L : 2 ^ 52 ≤ x.m) (H : x.m < 2 ^ 53) where
    outward : size_of b * q ≤ n → Half (distance p (pos q) b) (gap b * q) x.m
    outward o =
        let g = gap_outward b x.m x.k is.finite is.size L H in
        rw (g, N.mul_comm (2 ^ x.k) q)
        (⊎_elim
        (λ (d : Down x.m x.w x.r u). short (distance p (pos q) b) x.r u x.m (short_by d) d.near d.tie)
        (λ (d : Up x.m x.w x.r u). absurd (never (size_of b * q) n u x.r x.over (up_at d) o))
        x.taken)

    inward_up : Up x.m x.w x.r u → Half (distance p (pos q) b) (gap (b - 1) * q) x.m
    inward_up d =
        let l : 2 ^ 52 < x.m = N.lt_of_le_of_lt x.least (N.le_of_eq (sym d.taken)) in
        let g = gap_inward b x.m x.k is.finite is.size l H in
        rw (g, N.mul_comm (2 ^ x.k) q) (past (distance p (pos q) b) x.r u x.m x.over (past_by d) d.near d.tie)

    inward_down : Down x.m x.w x.r u → n ≤ size_of b * q → Half (distance p (pos q) b) (gap (b - 1) * q) x.m
    inward_down d i =
        let some = gap_some b x.m x.k is.finite is.size L H in
        equal (size_of b * q) n x.r (distance p (pos q) b) (gap (b - 1) * q) x.m (down_at d) i (short_by d) (N.mul-pos some Q)

    small : Formed p (pos q) b
    small = record {
      m = x.m;
      k = x.k;
      value = value_at x.m x.k refl;
      least = L;
      most = H;
      outward = outward;
      inward = λ i. ⊎_elim (λ (d : Down x.m x.w x.r u). inward_down d i) inward_up x.taken;
    }

  -- where m is 2^53, that is 2^52 × 2
  module _ (E : x.m ≡ 2 ^ 53) where
    doubled : x.m * 2 ^ x.k ≡ 2 ^ 52 * 2 ^ suc x.k
    doubled =
        ap (λ (z : ℕ). z * 2 ^ x.k) E
        ∙ N.mul_assoc (2 ^ 52) 2 (2 ^ x.k)
        ∙ ap (λ (z : ℕ). 2 ^ 52 * z) (N.mul_comm 2 (2 ^ x.k) ∙ sym (N.pow-suc 2 x.k))

    only_up : Up x.m x.w x.r u
    only_up =
        ⊎_elim
        (λ (d : Down x.m x.w x.r u). absurd (no x.m x.w E d.taken x.most))
        (λ (d : Up x.m x.w x.r u). d)
        x.taken
      where
        no : (m w : ℕ) → m ≡ 2 ^ 53 → m ≡ w → w < 2 ^ 53 → ⊥
        no m w e f l = omega arith

    gap_at : gap (b - 1) * q ≡ u
    gap_at =
        ap (λ (z : ℕ). z * q) (gap_least b x.k is.finite (is.size ∙ doubled)) ∙ N.mul_comm (2 ^ x.k) q

    large : Formed p (pos q) b
    large = record {
      m = 2 ^ 52;
      k = suc x.k;
      value = value_at (2 ^ 52) (suc x.k) doubled;
      least = lit≤ tt;
      most = lit< tt;
      outward = λ o. absurd (never (size_of b * q) n u x.r x.over (up_at only_up) o);
      inward = λ i. rw gap_at (past (distance p (pos q) b) x.r u (2 ^ 52) x.over (past_by only_up) only_up.near (λ t. refl));
    }

  formed : Formed p (pos q) b
  formed = elim (N.eq-or-lt_of_le x.top) [ inl e ↦ large e | inr h ↦ small least h ]
    where
      least : 2 ^ 52 ≤ x.m
      least =
          ⊎_elim
          (λ (d : Down x.m x.w x.r u). N.le_trans x.least (N.le_of_eq (sym d.taken)))
          (λ (d : Up x.m x.w x.r u). N.le_trans x.least (N.le_trans (N.le-suc x.w) (N.le_of_eq (sym d.taken))))
          x.taken

  nearest_bits : 0 < nat_abs p → IsNearest p (pos q) b
  nearest_bits P = record { finite = is.finite; zero = λ e. absurd (no (nat_abs p) P (ap nat_abs e)); formed = λ some. formed; best = best }
    where
      no : (a : ℕ) → 0 < a → a ≡ 0 → ⊥
      no a h e = omega arith

-- ---- p is not 0
some_nearest :
    (p : ℤ) (q : ℕ) → 0 < nat_abs p → nat_abs p < 2 ^ 63 → 0 < q → q < 2 ^ 63 →
    IsNearest p (pos q) (to_bits binary64 (round binary64 (below_zero p) (nat_abs p) q))
some_nearest p q P P' Q Q' =
    let s = below_zero p in
    let x = kept (nat_abs p) q P P' Q Q' in
    let y = round binary64 s (nat_abs p) q in
    nearest_bits p q Q x (to_bits binary64 y) (read y s (x.m * 2 ^ x.k) (round-fits binary64 s (nat_abs p) q) (x.value s)) P

-- ---- p is 0
zero_one : of_bits binary64 0 ≡ round binary64 false 0 1
unfolding of_bits round
zero_one = refl

pub zero_round : (q : ℕ) → 0 < q → of_bits binary64 0 ≡ round binary64 false 0 q
zero_round q Q = zero_one ∙ round_same binary64 false 0 1 0 q (N.zero-lt-suc 0) Q (N.zero-mul q ∙ sym (N.zero-mul 1))

pub zero_bits : (q : ℕ) → 0 < q → to_bits binary64 (round binary64 false 0 q) ≡ 0
unfolding to_bits of_bits
zero_bits q Q = ap (to_bits binary64) (sym (zero_round q Q))

zero_nearest : (q : ℕ) → IsNearest (pos 0) (pos q) 0
zero_nearest q = record {
  finite = (lit< tt, lit< tt);
  zero = λ e. refl;
  formed = λ some. absurd (some refl);
  best = λ other F. rw (distance_is (pos 0) q 0, N.zero-mul q) zero-le;
}

-- ---- any p
pub round_nearest :
    (p : ℤ) (q : ℕ) → nat_abs p < 2 ^ 63 → 0 < q → q < 2 ^ 63 →
    IsNearest p (pos q) (to_bits binary64 (round binary64 (below_zero p) (nat_abs p) q))
round_nearest (pos zero) q P Q Q' = rw (zero_bits q Q) (zero_nearest q)
round_nearest (pos (suc a)) q P Q Q' = some_nearest (pos (suc a)) q (N.zero-lt-suc a) P Q Q'
round_nearest (negsuc a) q P Q Q' = some_nearest (negsuc a) q (N.zero-lt-suc a) P Q Q'
