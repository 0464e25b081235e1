-- The deviations and the local numerators as the code holds them in lists, and what is known of the sums that are told. Assumes nothing.
use mathlib.Core.Path.{◌≡◌, refl, ◌∙◌}
use mathlib.Core.List.{List, [], ◌∷◌, ◌++◌}
use Prim.Native.Nat.{ℕ, ◌≤◌, ◌<◌}
use native.Mathlib.Nat as N
use lib.IntN.{ℤ, pos, nat_abs}
use lib.ListN.{length}
use mir.Syntax.{w64}
use Rattle.whole.specs.Sum.{sum}
use Rattle.whole.specs.Table.{table, at, pair_at}
use Rattle.whole.proofs.Machine.{Is, told, rd, r64}
use Rattle.whole.proofs.Sum.{sum_cong}
use Rattle.whole.proofs.Table.{table_length, table_at, table_held, table_cong}
use Rattle.account.specs.Measures.{total_of, deviation_of, spread_of, weight_of, cross_of, squares_of, local_of}
use Rattle.account.specs.Answers.{listed, zones_figures, zones_local}
use Rattle.account.specs.Steps.{zones_locals, Sized, Valued, Weighted, Job}
use Rattle.account.proofs.Adding.{local_alike, locals_sum}
use Rattle.account.proofs.Reading.{table_sized, weight_le}
use Rattle.account.proofs.Running.{total_runs}
use Rattle.account.proofs.Sizes.{deviation_size, spread_of_size, weight_size, squares_size, local_size, cross_size}

-- ---- the local numerators of a job by their places
pub zones_locals_length : (n : ℕ) (values : List ℤ) (weights : List ℕ) → length (zones_locals n values weights) ≡ n
unfolding zones_locals zones_local
zones_locals_length n values weights = table_length (local_of (pair_at weights n) (deviation_of (at values) n) n) n

pub zones_locals_at :
    (n : ℕ) (values : List ℤ) (weights : List ℕ) (i : ℕ) → i < n →
    at (zones_locals n values weights) i ≡ local_of (pair_at weights n) (deviation_of (at values) n) n i
unfolding zones_locals zones_local
zones_locals_at n values weights i h = table_at (local_of (pair_at weights n) (deviation_of (at values) n) n) n i (pos 0) h

-- ---- in the code's lists

-- the local numerators of any deviations add up to their P
pub numerators_cross :
    (f : ℕ → ℕ → ℕ) (n : ℕ) (d : ℕ → ℤ) (out : List ℤ) → out ≡ table (local_of f d n) n → sum (at out) n ≡ cross_of f d n
numerators_cross f n d out q = sum_cong _ _ n (table_held (local_of f d n) n (pos 0) out q) ∙ locals_sum f d n

-- where the deviations are as small as a job's, so are the numerators, and the P that is told fits
module _ (weights : List ℕ) (n : ℕ) (w : Weighted weights n) (d : ℕ → ℤ) (small : (i : ℕ) → i < n → nat_abs (d i) ≤ 12800000) where
  pub numerators_sized : (out : List ℤ) → out ≡ table (local_of (pair_at weights n) d n) n → Sized 94371840000000000 out n
  numerators_sized out q =
      table_sized 94371840000000000 n (local_of (pair_at weights n) d n) out q
      (local_size (pair_at weights n) n w.zones (weight_le weights n w) d small)

  pub deviations_cross_told : {y : ℤ} → y ≡ cross_of (pair_at weights n) d n → Is y (cross_of (pair_at weights n) d n) 6039797760000000000
  deviations_cross_told e = told _ 6039797760000000000 e (cross_size (pair_at weights n) n w.zones (weight_le weights n w) d small)

pub deviations_sized :
    (values : List ℤ) (n : ℕ) (d : List ℤ) → Valued values n → d ≡ table (deviation_of (at values) n) n → Sized 12800000 d n
deviations_sized values n d v e =
    table_sized 12800000 n (deviation_of (at values) n) d e (deviation_size (at values) n v.zones v.near.size)

-- as the machine reads one
pub deviation_is :
    (values : List ℤ) (n : ℕ) (d : List ℤ) → Valued values n → d ≡ table (deviation_of (at values) n) n →
    (i : ℕ) → i < n → Is (r64 (at d i)) (deviation_of (at values) n i) 12800000
deviation_is values n d v e i h =
    let small = deviation_size (at values) n v.zones v.near.size i h in
    rd w64 (told (deviation_of (at values) n i) 12800000 (table_held (deviation_of (at values) n) n (pos 0) d e i h) small) tt

module _ (values : List ℤ) (weights : List ℕ) (n : ℕ) (r : Job values weights n) where
  -- worked from the list of deviations
  pub locals_are :
      (d out : List ℤ) → d ≡ table (deviation_of (at values) n) n → out ≡ table (local_of (pair_at weights n) (at d) n) n →
      out ≡ zones_locals n values weights
  unfolding zones_locals zones_local
  locals_are d out e q =
      let f = pair_at weights n in
      let deviation = deviation_of (at values) n in
      q ∙ table_cong _ _ n (pos 0) (local_alike f n (at d) deviation (table_held deviation n (pos 0) d e))

  module _ (out : List ℤ) (q : out ≡ zones_locals n values weights) where
    pub locals_sized : Sized 94371840000000000 out n
    unfolding zones_locals zones_local
    locals_sized =
        let v = r.valued in
        let small = deviation_size (at values) n v.zones v.near.size in
        numerators_sized weights n r.weighted (deviation_of (at values) n) small out q

    -- they add up to P
    pub locals_cross : sum (at out) n ≡ cross_of (pair_at weights n) (deviation_of (at values) n) n
    unfolding zones_locals zones_local
    locals_cross = numerators_cross (pair_at weights n) n (deviation_of (at values) n) out q

-- ---- what is taken of the values that go with S is what is taken of the job's own
pub summed_alike :
    {A : Type 0} (f : List ℤ → ℕ → A) {x values : List ℤ} {m n : ℕ} → m ≡ n → x ≡ values → f x m ≡ f values n
summed_alike f e q = rw (e, q) refl

-- ---- y, told to be one of the sums, is that number and within an i64
module _ (values : List ℤ) (n : ℕ) (v : Valued values n) where
  pub total_told : {y : ℤ} → y ≡ total_of (at values) n → Is y (total_of (at values) n) 6400000
  unfolding total_of
  total_told e = told _ 6400000 e ((total_runs values n v).bound n (N.le_refl n))

  -- S as it is handed on
  pub total_held : {y : ℤ} → y ≡ total_of (at values) n → r64 y ≡ total_of (at values) n
  total_held e = (rd w64 (total_told e) tt).same

  pub spread_told : {y : ℤ} → y ≡ spread_of (at values) n → Is y (spread_of (at values) n) 80640000000000
  spread_told e = told _ 80640000000000 e (spread_of_size (at values) n v.zones v.near.size)

pub weight_told :
    (weights : List ℕ) (n : ℕ) → Weighted weights n → {y : ℤ} → y ≡ weight_of (pair_at weights n) n →
    Is y (weight_of (pair_at weights n) n) 36864
weight_told weights n w e = told _ 36864 e (weight_size (pair_at weights n) n w.zones (weight_le weights n w))

module _ (values : List ℤ) (weights : List ℕ) (n : ℕ) (r : Job values weights n) where
  pub cross_told :
      {y : ℤ} → y ≡ cross_of (pair_at weights n) (deviation_of (at values) n) n →
      Is y (cross_of (pair_at weights n) (deviation_of (at values) n) n) 6039797760000000000
  cross_told e =
      let v = r.valued in
      let small = deviation_size (at values) n v.zones v.near.size in
      deviations_cross_told weights n r.weighted (deviation_of (at values) n) small e

  pub squares_told :
      {y : ℤ} → y ≡ squares_of (pair_at weights n) (at values) n → Is y (squares_of (pair_at weights n) (at values) n) 1474560000000000
  squares_told e =
      told _ 1474560000000000 e
      (squares_size (pair_at weights n) n r.valued.zones (weight_le weights n r.weighted) (at values) r.valued.near.size)

-- ---- listed numbers that are those of the job
pub same_figures :
    (n : ℕ) (values : List ℤ) (weights : List ℕ) (missing : ℕ) (s m w p g : ℤ) → s ≡ total_of (at values) n → m ≡ spread_of (at values) n →
    w ≡ weight_of (pair_at weights n) n → p ≡ cross_of (pair_at weights n) (deviation_of (at values) n) n →
    g ≡ squares_of (pair_at weights n) (at values) n →
    listed (record { total = s; spread = m; weight = w; cross = p; squares = g; kept = n; missing = missing })
    ≡ zones_figures n values weights ++ (pos missing ∷ [])
unfolding zones_figures
same_figures n values weights missing s m w p g e1 e2 e3 e4 e5 = rw (e1, e2, e3, e4, e5) refl
