-- The last digits of a number, the lowest first, as a loop fills a text with them, and the same the other way round. Assumes nothing.
use mathlib.Core.Logic.{⊎_elim}
use mathlib.Core.Path.{◌≡◌, refl, sym, ap, ◌∙◌}
use mathlib.Core.List.{List, [], ◌∷◌, ◌++◌, append_assoc, reverse}
use Prim.Native.Nat.{ℕ, zero, suc, ◌+◌, ◌-◌, ◌/◌, ◌%◌, ◌<◌}
use native.Mathlib.Numerals.{add-one}
use native.Mathlib.Omega.{arith}
use lib.ListN.{length, set, take}
use lib.Seq.{take-suc-set}
use Rattle.std.proofs.lemmas.Grind.{reverse_onto}
use Rattle.digits.specs.Digits.{digit, low_digits, unsigned, hexadecimal_digits}
use Rattle.digits.proofs.DecimalDigits.{one_or_more, unsigned_one, unsigned_more, places_one, places_more, places_some}

-- ---- the first places are filled, and the digits of the rest follow them
lowest : (base k rest : ℕ) → 0 < k → low_digits base k rest ≡ digit (rest % base) ∷ low_digits base (k - 1) (rest / base)
lowest base zero rest h = absurd (omega arith)
lowest base (suc k) rest h = let e : suc k - 1 ≡ k = omega arith in rw e

-- one more is filled
pub low_next :
    (base : ℕ) (text all : List ℕ) (i m rest v : ℕ) → i < length text → i < m → v ≡ digit (rest % base) →
    take i text ++ low_digits base (m - i) rest ≡ all → take (i + 1) (set text i v) ++ low_digits base (m - (i + 1)) (rest / base) ≡ all
low_next base text all i m rest v h more is before =
    let left : m - i - 1 ≡ m - suc i = omega arith in
    let e = rw left at (lowest base (m - i) rest (omega arith)) in
    rw (add-one, take-suc-set, is, append_assoc) (rw e at before)

-- ---- the other way round
turned : (base k n : ℕ) → reverse (low_digits base (suc k) n) ≡ reverse (low_digits base k (n / base)) ++ (digit (n % base) ∷ [])
turned base k n = reverse_onto (low_digits base k (n / base)) (digit (n % base)) []

pub hexadecimal_low : (k n : ℕ) → reverse (low_digits 16 k n) ≡ hexadecimal_digits k n
hexadecimal_low zero n = refl
hexadecimal_low (suc k) n = turned 16 k n ∙ ap (λ l. l ++ (digit (n % 16) ∷ [])) (hexadecimal_low k (n / 16))

pub unsigned_low : (k n : ℕ) → k ≡ length (unsigned n) → reverse (low_digits 10 k n) ≡ unsigned n
unsigned_low zero n e = absurd (omega (arith, places_some n))
unsigned_low (suc k) n e =
    ⊎_elim
    (λ l. let z : k ≡ 0 = omega (arith, places_one n l) in
    let same : n % 10 ≡ n = omega arith in
    rw z (ap (λ d. digit d ∷ []) same ∙ sym (unsigned_one n l)))
    (λ l.
    turned 10 k n
    ∙ ap (λ l. l ++ (digit (n % 10) ∷ [])) (unsigned_low k (n / 10) (omega (arith, places_more n l)))
    ∙ sym (unsigned_more n l))
    (one_or_more n)
