-- An array whose items a closure gives that stays as it is: each item is what its call gives. Assumes nothing.
use mathlib.Core.Path.{◌≡◌, refl, ◌∙◌, subst}
use mathlib.Core.List.{List}
use Prim.Native.Nat.{ℕ, zero, suc, ◌+◌, ◌≤◌, ◌<◌}
use native.Mathlib.Nat as N
use native.Mathlib.Omega.{arith}
use denote.Param.Members.{Mut}
use lib.ListN.{get_or}
use Rattle.std.specs.Array.{IsFromFnResult, IsFromFnResultFrom}
use Rattle.std.specs.Fn.{Called}
use Rattle.whole.specs.Table.{table}
use Rattle.whole.proofs.Table.{is_table}

module _ {F B : Type 0} (g : Mut F (ℕ × Unit {0}) B) (f : F) (wanted : ℕ → B) (ys : List B) (n : ℕ)
    (step : (k : ℕ) (y : B) (q : F) → k < n → Called g f (k, tt) y q → (q ≡ f) × (y ≡ wanted k)) where
  -- the last m of them, which begin at the i-th
  given :
      (m i : ℕ) (p : F) → i + m ≤ n → p ≡ f → IsFromFnResultFrom g p ys i m → (k : ℕ) → k < m → (d : B) →
      get_or ys (i + k) d ≡ wanted (i + k)
  given zero i p few same e k h d = let z : ⊥ = omega arith in absurd z
  given (suc m) i p few same e zero h d =
      let called = subst (λ z. Called g z (i, tt) e.1 e.0) same e.3 in
      rw (N.add-zero i) (e.2.1 d ∙ (step i e.1 e.0 (omega arith) called).1)
  given (suc m) i p few same e (suc k) h d =
      let called = subst (λ z. Called g z (i, tt) e.1 e.0) same e.3 in
      let next : i + suc k ≡ i + 1 + k = omega arith in
      rw next (given m (i + 1) e.0 (omega arith) (step i e.1 e.0 (omega arith) called).0 e.4 k (omega arith) d)

  pub table_given : B → IsFromFnResult g f ys n → ys ≡ table wanted n
  table_given d e = is_table wanted n d ys e.long (λ k h. rw (← N.zero-add k) (given n 0 f (omega arith) refl e.each k h d))
