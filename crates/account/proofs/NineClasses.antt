-- The nine classes together: each weight counts in one class, so that their sums add up to those of the job. Assumes nothing.
use mathlib.Core.Path.{◌≡◌}
use mathlib.Core.List.{List}
use Prim.Native.Nat.{ℕ, ◌*◌, ◌+◌, ◌≤◌, ◌<◌}
use native.Mathlib.Omega.{arith}
use lib.IntN.{ℤ, pos, ◌*ℤ◌}
use lib.ListN.{get_or}
use Rattle.whole.specs.Sum.{sum}
use Rattle.whole.specs.Table.{at, pair_at}
use Rattle.whole.proofs.Lists.{within}
use Rattle.account.specs.Measures.{deviation_of, weight_of, cross_of, squares_of, local_of}
use Rattle.account.specs.Answers.{class_row}
use Rattle.account.specs.Classes.{class_weight, zones_class_row, zones_class_local}
use Rattle.account.proofs.Adding.{counts_once, weight_parts, cross_parts, squares_parts, local_parts}

module _ (n : ℕ) (values : List ℤ) (weights classes : List ℕ) (low : (p : ℕ) → p < n * n → get_or classes p 0 ≤ 8) where
  shared :
      (z : ℤ) (i j : ℕ) → i < n → j < n →
      sum (λ k. pos (class_weight weights classes n k i j) *ℤ z) 9 ≡ pos (pair_at weights n i j) *ℤ z
  unfolding pair_at class_weight
  shared z i j p q =
      counts_once (pair_at classes n i j) (pair_at weights n i j) 9 z (omega (arith, low (i * n + j) (within n i j p q)))

  pub weights_together : sum (λ k. (zones_class_row n values weights classes k).weight) 9 ≡ weight_of (pair_at weights n) n
  unfolding zones_class_row class_row
  weights_together = weight_parts (class_weight weights classes n) (pair_at weights n) 9 n shared

  pub crosses_together :
      sum (λ k. (zones_class_row n values weights classes k).cross) 9 ≡ cross_of (pair_at weights n) (deviation_of (at values) n) n
  unfolding zones_class_row class_row
  crosses_together = cross_parts (class_weight weights classes n) (pair_at weights n) 9 n shared (deviation_of (at values) n)

  pub squares_together : sum (λ k. (zones_class_row n values weights classes k).squares) 9 ≡ squares_of (pair_at weights n) (at values) n
  unfolding zones_class_row class_row
  squares_together = squares_parts (class_weight weights classes n) (pair_at weights n) 9 n shared (at values)

  pub locals_together :
      (i : ℕ) → i < n →
      sum (λ k. zones_class_local n values weights classes k i) 9 ≡ local_of (pair_at weights n) (deviation_of (at values) n) n i
  unfolding zones_class_local
  locals_together i p = local_parts (class_weight weights classes n) (pair_at weights n) 9 n shared (deviation_of (at values) n) i p
