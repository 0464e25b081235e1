-- `scaled` meets its contract: one cast and one product, and both are exact. Assumes nothing.
use Prim.Native.Nat.{ℕ, ◌^◌, ◌≤◌}
use mathlib.Core.Path.{◌≡◌}
use mathlib.Core.Logic.{◌⊎◌, ⊎_elim}
use native.Mathlib.Omega.{arith}
use lib.Dec.{le→leb}
use lib.Ieee.{binary64, in_float}
use Rattle.nearest.proofs.Powers.{cast}
use Rattle.nearest.proofs.scaling.scaled.Goals as goal

few : (j : ℕ) → (j ≡ 0) ⊎ (j ≡ 10) → j ≤ 10
few j h = ⊎_elim (λ z. omega arith) (λ z. omega arith) h

pub int_to_float-result : goal.int_to_float-result
unfolding in_float
int_to_float-result c = le→leb c.args.m (2 ^ 53) c.requires.m_bound

pub power-requires : goal.power-requires
power-requires c = record { doublings_bound = few c.args.doublings c.requires.doublings_value; halvings_bound = c.requires.halvings_bound }

pub returns : goal.returns
returns c =
    let a = c.args in
    let p = c.requires in
    cast binary64 a.m a.doublings a.halvings c.power.result p.m_nonzero p.m_bound c.power.ensures
