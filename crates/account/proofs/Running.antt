-- The sums that the loops run, from the lists that the code reads: each stays within an i64. Assumes nothing.
use mathlib.Core.Path.{◌≡◌}
use mathlib.Core.List.{List}
use Prim.Native.Nat.{ℕ, ◌≤◌, ◌<◌}
use native.Mathlib.Nat as N
use native.Mathlib.Omega.{arith}
use lib.IntN.{ℤ, pos, nat_abs, ◌-ℤ◌, ◌*ℤ◌}
use mir.Syntax.{w64}
use Rattle.whole.specs.Integer.{square}
use Rattle.whole.specs.Sum.{sum}
use Rattle.whole.proofs.Accumulate.{Bounded}
use Rattle.whole.proofs.Machine.{Is, val, told, rd, is_*, r64}
use Rattle.whole.proofs.Size.{size_*_le}
use Rattle.whole.proofs.SumSize.{sum_size}
use Rattle.whole.specs.Table.{at, pair_at}
use Rattle.account.specs.Measures.{row_of, local_of}
use Rattle.account.specs.Steps.{Sized, Valued, Weighted, Job}
use Rattle.account.proofs.Sizes.{total_size, spread_size, square_size, row_size, rows_size, local_size}
use Rattle.account.proofs.Reading.{weight_le}

-- ---- S and M
module _ (values : List ℤ) (n : ℕ) (v : Valued values n) where
  pub total_runs : Bounded w64 (at values) n 6400000
  total_runs = record { bound = total_size (at values) n v.zones v.near.size; small = tt }

  pub square_runs : Bounded w64 (λ i. square (at values i)) n 640000000000
  square_runs = record {
    bound = λ m le.
        let near : (k : ℕ) → k < m → nat_abs (square (at values k)) ≤ 10000000000 = λ k p.
        let h = v.near.size k (omega arith) in size_*_le (at values k) (at values k) 100000 100000 h h in
        omega (arith, sum_size (λ i. square (at values i)) m 10000000000 near, v.zones);
    small = tt;
  }

  pub spread_runs : Bounded w64 (λ j. sum (λ i. square (at values i -ℤ at values j)) j) n 80640000000000
  spread_runs = record { bound = spread_size (at values) n v.zones v.near.size; small = tt }

-- ---- the rows of P, and P
module _ (weights : List ℕ) (n : ℕ) (w : Weighted weights n) where
  pub neighbours_run :
      (d : List ℤ) (i : ℕ) → Sized 12800000 d n → i < n → Bounded w64 (λ j. pos (pair_at weights n i j) *ℤ at d j) n 7372800000
  neighbours_run d i s h = record {
    bound =
        λ m k. row_size (pair_at weights n) (λ i j. at d j) n 12800000 w.zones (weight_le weights n w)
        (λ i j p q. s.size j q) i m h k;
    small = tt;
  }

  -- d(i) times the weighted neighbours, as the machine has them
  pub local_is :
      (d : List ℤ) (i : ℕ) → Sized 12800000 d n → i < n → {y : ℤ} → y ≡ row_of (pair_at weights n) (λ i j. at d j) i n →
      Is (r64 (at d i) *ℤ r64 y) (local_of (pair_at weights n) (at d) n i) 94371840000000000
  unfolding local_of row_of
  local_is d i s h e =
      is_* (rd w64 (val (at d i) 12800000 (s.size i h)) tt)
      (rd w64 (told _ 7372800000 e ((neighbours_run d i s h).bound n (N.le_refl n))) tt)

  pub cross_runs : (d : List ℤ) → Sized 12800000 d n → Bounded w64 (local_of (pair_at weights n) (at d) n) n 6039797760000000000
  cross_runs d s = record {
    bound =
        λ m le.
        let small = local_size (pair_at weights n) n w.zones (weight_le weights n w) (at d) s.size in
        omega (arith, sum_size (local_of (pair_at weights n) (at d) n) m 94371840000000000 (λ k p. small k (omega arith)), w.zones);
    small = tt;
  }

-- ---- P, from the local numerators
pub locals_run : (locals : List ℤ) (n : ℕ) → n ≤ 64 → Sized 94371840000000000 locals n → Bounded w64 (at locals) n 6039797760000000000
locals_run locals n zones s = record {
  bound = λ m le. omega (arith, sum_size (at locals) m 94371840000000000 (λ k p. s.size k (omega arith)));
  small = tt;
}

-- ---- G and its rows
module _ (values : List ℤ) (weights : List ℕ) (n : ℕ) (r : Job values weights n) where
  differences : (i j : ℕ) → i < n → j < n → nat_abs (square (at values i -ℤ at values j)) ≤ 40000000000
  differences = square_size (at values) n r.valued.zones r.valued.near.size

  pub row_squares_run :
      (i : ℕ) → i < n → Bounded w64 (λ j. pos (pair_at weights n i j) *ℤ square (at values i -ℤ at values j)) n 23040000000000
  row_squares_run i h = record {
    bound =
        λ m k. row_size (pair_at weights n) (λ i j. square (at values i -ℤ at values j)) n 40000000000
        r.weighted.zones (weight_le weights n r.weighted) differences i m h k;
    small = tt;
  }

  pub squares_run : Bounded w64 (λ i. row_of (pair_at weights n) (λ i j. square (at values i -ℤ at values j)) i n) n 1474560000000000
  squares_run = record {
    bound =
        rows_size (pair_at weights n) (λ i j. square (at values i -ℤ at values j)) n 40000000000
        r.weighted.zones (weight_le weights n r.weighted) differences;
    small = tt;
  }
