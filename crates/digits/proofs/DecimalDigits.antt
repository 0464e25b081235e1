-- The decimal digits of a number: the two laws that describe them, how many they are, those of a number with a sign, and that the library
-- has the same. Assumes nothing.
use mathlib.Core.Logic.{◌⊎◌, inl, inr, ⊎_elim}
use mathlib.Core.Path.{◌≡◌, refl, sym, ap, ◌∙◌}
use mathlib.Core.Bool.{Bool, true, false, true≢false, false≢true}
use mathlib.Core.List.{[], ◌∷◌, ◌++◌}
use Prim.Native.Nat.{ℕ, zero, suc, ◌+◌, ◌*◌, ◌/◌, ◌%◌, ◌^◌, ◌≤◌, ◌<◌}
use native.Mathlib.Nat.{pow-suc}
use native.Mathlib.Omega.{arith}
use borrow.Author.Tests.{ltb-true, ltb-false, lt-ltb, le-ltb}
use lib.Dec.{ltb}
use lib.IntN.{ℤ, pos, negsuc, nat_abs}
use lib.ListN.{length, length-append}
use mir.Syntax.{w64}
use mir.Val.{SFits}
use Rattle.std.specs.Fmt.{signed_decimal, decimal as written_decimal}
use Rattle.std.proofs.lemmas.Fmt.{decimal_by_steps}
use Rattle.whole.specs.Integer.{below_zero}
use Rattle.digits.specs.Digits.{digit, digits_of, unsigned, decimal}

-- ---- any two bounds beyond the number give the same digits
pub one_or_more : (n : ℕ) → (n < 10) ⊎ (10 ≤ n)
one_or_more n = go (ltb n 10) refl
  where
    go : (t : Bool) → ltb n 10 ≡ t → (n < 10) ⊎ (10 ≤ n)
    go true e = inl (ltb-true n 10 e)
    go false e = inr (ltb-false n 10 e)

one : (a n : ℕ) → n < 10 → digits_of (suc a) n ≡ digit n ∷ []
one a n h = rw (lt-ltb n 10 h)

more : (a n : ℕ) → 10 ≤ n → digits_of (suc a) n ≡ digits_of a (n / 10) ++ (digit (n % 10) ∷ [])
more a n h = rw (le-ltb n 10 h)

bound : (a b n : ℕ) → n < a → n < b → digits_of a n ≡ digits_of b n
bound zero b n h k = absurd (omega arith)
bound (suc a) zero n h k = absurd (omega arith)
bound (suc a) (suc b) n h k =
    ⊎_elim (λ l. one a n l ∙ sym (one b n l))
    (λ l. more a n l
    ∙ ap (λ d. d ++ (digit (n % 10) ∷ [])) (bound a b (n / 10) (omega arith) (omega arith))
    ∙ sym (more b n l))
    (one_or_more n)

-- ---- the digits of a number without a sign
pub unsigned_one : (n : ℕ) → n < 10 → unsigned n ≡ digit n ∷ []
unfolding unsigned
unsigned_one n h = one n n h

pub unsigned_more : (n : ℕ) → 10 ≤ n → unsigned n ≡ unsigned (n / 10) ++ (digit (n % 10) ∷ [])
unfolding unsigned
unsigned_more n h =
    more n n h ∙ ap (λ d. d ++ (digit (n % 10) ∷ [])) (bound n (suc (n / 10)) (n / 10) (omega arith) (omega arith))

-- how many
pub places_one : (n : ℕ) → n < 10 → length (unsigned n) ≡ 1
places_one n h = ap length (unsigned_one n h)

pub places_more : (n : ℕ) → 10 ≤ n → length (unsigned n) ≡ length (unsigned (n / 10)) + 1
places_more n h = ap length (unsigned_more n h) ∙ length-append (unsigned (n / 10)) (digit (n % 10) ∷ [])

pub places_some : (n : ℕ) → 1 ≤ length (unsigned n)
places_some n = ⊎_elim (λ l. omega (arith, places_one n l)) (λ l. omega (arith, places_more n l)) (one_or_more n)

places_few : (m n : ℕ) → n < 10 ^ suc m → length (unsigned n) ≤ suc m
places_few zero n h = omega (arith, places_one n h)
places_few (suc m) n h =
    ⊎_elim (λ l. omega (arith, places_one n l))
    (λ l. let p = pow-suc 10 (suc m) in omega (arith, places_more n l, places_few m (n / 10) (omega arith))) (one_or_more n)

-- as many as the tens that its size holds, and one
pub places_at : (n k : ℕ) → 10 ^ k ≤ n → n < 10 * 10 ^ k → length (unsigned n) ≡ k + 1
places_at n zero l h = omega (arith, places_one n (omega arith))
places_at n (suc k) l h =
    let p = pow-suc 10 k in
    omega (arith, places_more n (omega arith), places_at (n / 10) k (omega arith) (omega arith))

-- the size of a signed number of 64 bits has at most 19 digits
pub places_19 : (n : ℕ) → n ≤ 2 ^ 63 → length (unsigned n) ≤ 19
places_19 n h = places_few 18 n (omega arith)

-- ---- a number with a sign
pub size_most : (z : ℤ) → SFits w64 z → nat_abs z ≤ 2 ^ 63
size_most (pos n) f = omega (arith, f.sfits)
size_most (negsuc n) f = omega (arith, f.sfits)

pub decimal_below : (z : ℤ) → below_zero z ≡ true → decimal z ≡ 45 ∷ unsigned (nat_abs z)
unfolding decimal
decimal_below (pos n) e = absurd (false≢true e)
decimal_below (negsuc n) e = refl

pub decimal_not_below : (z : ℤ) → below_zero z ≡ false → decimal z ≡ unsigned (nat_abs z)
unfolding decimal
decimal_not_below (pos n) e = refl
decimal_not_below (negsuc n) e = absurd (true≢false e)

-- ---- as the library writes them
plain : (d : ℕ) → d < 10 → 48 + d ≡ digit d
plain d h = rw (lt-ltb d 10 h)

unsigned_written : (n : ℕ) → n < 2 ^ 64 → unsigned n ≡ written_decimal n
unsigned_written =
    decimal_by_steps (λ n text. unsigned n ≡ text) (λ n h. unsigned_one n h ∙ ap (λ d. d ∷ []) (sym (plain n h)))
    (λ n text h e. unsigned_more n h ∙ ap (λ d. d ++ (digit (n % 10) ∷ [])) e
    ∙ ap (λ d. text ++ (d ∷ [])) (sym (plain (n % 10) (omega arith))))

-- a signed number of 64 bits
pub written : (z : ℤ) → SFits w64 z → signed_decimal z ≡ decimal z
unfolding decimal
written (pos n) f = sym (unsigned_written n (omega (arith, f.sfits)))
written (negsuc n) f = ap (λ d. 45 ∷ d) (sym (unsigned_written (suc n) (omega (arith, f.sfits))))
