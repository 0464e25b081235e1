-- Bytes beyond the end, and the bounds of the numbers. Assumes nothing.
use mathlib.Core.Logic.{⊎_elim}
use mathlib.Core.Path.{◌≡◌, sym, ap, ◌∙◌}
use mathlib.Core.List.{List}
use Prim.Native.Nat.{ℕ, ◌+◌, ◌-◌, ◌*◌, ◌≤◌, min}
use native.Mathlib.Nat.{eq-zero-or-pos}
use native.Mathlib.Omega.{arith}
use lib.ListN.{length, get_or-eq_default}
use Rattle.words.specs.Words.{byte_at, word_at}

pub byte_beyond : (bytes : List ℕ) (at : ℕ) → length bytes ≤ at → byte_at bytes at ≡ 0
byte_beyond bytes at h = get_or-eq_default bytes 0 h

-- a place too large for the machine is beyond the end, as its greatest number is
pub byte_far :
    (bytes : List ℕ) (place at : ℕ) → length bytes ≤ 18446744073709551615 → at ≡ min place 18446744073709551615 →
    byte_at bytes at ≡ byte_at bytes place
byte_far bytes place at h e =
    ⊎_elim (λ l. ap (byte_at bytes) {x = at} {y = place} (omega arith))
    (λ l. byte_beyond bytes at (omega arith) ∙ sym (byte_beyond bytes place (omega arith)))
    (eq-zero-or-pos (place - 18446744073709551615))

pub word_beyond : (bytes : List ℕ) (at : ℕ) → length bytes ≤ at → word_at bytes at ≡ 0
unfolding word_at
word_beyond bytes at h =
    omega (
      arith,
      byte_beyond bytes at h,
      byte_beyond bytes (at + 1) (omega arith),
      byte_beyond bytes (at + 2) (omega arith),
      byte_beyond bytes (at + 3) (omega arith),
    )

-- and so is one of four bytes
pub word_far :
    (bytes : List ℕ) (k at : ℕ) → length bytes ≤ 18446744073709551615 → at ≡ min (k * 4) 18446744073709551615 →
    word_at bytes at ≡ word_at bytes (4 * k)
word_far bytes k at h e =
    ⊎_elim (λ l. ap (word_at bytes) {x = at} {y = 4 * k} (omega arith))
    (λ l. word_beyond bytes at (omega arith) ∙ sym (word_beyond bytes (4 * k) (omega arith)))
    (eq-zero-or-pos (k * 4 - 18446744073709551615))
