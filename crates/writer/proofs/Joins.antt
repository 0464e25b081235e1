-- The joins of a table of weights, as a loop over its rows and one over the weights of a row meet them. Assumes nothing.
use mathlib.Core.Path.{◌≡◌, refl, sym, ap, ◌∙◌}
use mathlib.Core.Bool.{cond}
use mathlib.Core.List.{List, [], ◌∷◌, ◌++◌, append_assoc}
use Prim.Native.Nat.{ℕ, zero, suc, ◌+◌, ◌*◌, ◌/◌, ◌%◌, ◌≤◌, ◌<◌}
use native.Mathlib.Nat as N
use native.Mathlib.Omega.{arith}
use borrow.Author.Tests.{lt-ltb}
use lib.Dec.{ltb}
use lib.Arith.{digits_div, digits_mod}
use lib.ListN.{length, get_or, take, drop, length-append, length-drop, take-append-drop}
use lib.Seq.{length-take-le, take-add, drop-cons}
use Rattle.std.specs.List.{count_by}
use Rattle.std.proofs.lemmas.List.Recursion.{is_count_by}
use Rattle.whole.specs.Table.{each}
use Rattle.image.specs.Joins.{joins_from, joins_of}
use Rattle.image.specs.Image.{join_bytes}
use Rattle.writer.specs.Steps.{bytes_of, row_bytes}
use Rattle.whole.proofs.Stores.{each_both}

-- the row and the column that a place is counted by; in a table of up to 64 zones they are bytes
module _ (n p from to : ℕ) (whole : from * n + to ≡ p) (column : to < n) where
  row_is : p / n ≡ from
  row_is = ap (λ q. q / n) (sym whole) ∙ digits_div from column

  column_is : p % n ≡ to
  column_is = ap (λ q. q % n) (sym whole) ∙ digits_mod from column

module _ (n : ℕ) where
  -- the joins of a weight, before others
  joins_first : (p w : ℕ) (l : List ℕ) → joins_from n p (w ∷ l) ≡ joins_from n p (w ∷ []) ++ joins_from n (p + 1) l
  unfolding joins_from
  joins_first p zero l = refl
  joins_first p (suc w) l = refl

  joins_both : (p : ℕ) (a b : List ℕ) → joins_from n p (a ++ b) ≡ joins_from n p a ++ joins_from n (p + length a) b
  unfolding joins_from
  joins_both p [] b = ap (λ k. joins_from n k b) {x = p} {y = p + 0} (omega arith)
  joins_both p (w ∷ a) b =
      let place : p + 1 + length a ≡ p + suc (length a) = omega arith in
      let first = joins_from n p (w ∷ []) in
      joins_first p w (a ++ b)
      ∙ ap (λ l. first ++ l) (joins_both (p + 1) a b ∙ ap (λ k. joins_from n (p + 1) a ++ joins_from n k b) place)
      ∙ sym (append_assoc first (joins_from n (p + 1) a) (joins_from n (p + suc (length a)) b))
      ∙ ap (λ l. l ++ joins_from n (p + suc (length a)) b) (sym (joins_first p w a))

  -- at most one for each weight
  from_few : (p : ℕ) (weights : List ℕ) → length (joins_from n p weights) ≤ length weights
  unfolding joins_from
  from_few p [] = omega arith
  from_few p (zero ∷ weights) = omega (arith, from_few (p + 1) weights)
  from_few p (suc w ∷ weights) = omega (arith, from_few (p + 1) weights)

  pub joins_few : (weights : List ℕ) → length (joins_of n weights) ≤ length weights
  joins_few weights = from_few 0 weights

  -- one for each weight above 0, wherever they stand
  anywhere : (p q : ℕ) (weights : List ℕ) → length (joins_from n p weights) ≡ length (joins_from n q weights)
  unfolding joins_from
  anywhere p q [] = refl
  anywhere p q (zero ∷ weights) = anywhere (p + 1) (q + 1) weights
  anywhere p q (suc w ∷ weights) = ap suc (anywhere (p + 1) (q + 1) weights)

  one_more : (w : ℕ) (weights : List ℕ) →
      length (joins_of n (w ∷ weights)) ≡ cond (ltb 0 w) (1 + length (joins_of n weights)) (length (joins_of n weights))
  unfolding joins_from
  one_more zero weights = anywhere 1 0 weights
  one_more (suc w) weights = rw (lt-ltb 0 (suc w) (omega arith)) (omega (arith, anywhere 1 0 weights))

  none : length (joins_of n []) ≡ 0
  unfolding joins_from
  none = refl

  pub joins_counted : (weights : List ℕ) → length (joins_of n weights) ≡ count_by (λ w. ltb 0 w) weights
  joins_counted weights = is_count_by (λ l. length (joins_of n l)) (λ w. ltb 0 w) none one_more weights

  -- one weight
  one_put : (p w : ℕ) → each join_bytes (joins_from n p (w ∷ [])) ≡ bytes_of (p / n) (p % n) w
  unfolding joins_from each
  one_put p zero = refl
  one_put p (suc w) = refl

  -- the bytes of weights from a place on, and of the first p of them
  module _ (q : ℕ) (weights : List ℕ) where
    abbrev pub bytes_from : List ℕ
    bytes_from = each join_bytes (joins_from n q weights)

  bytes_both : (q : ℕ) (a b : List ℕ) → bytes_from q (a ++ b) ≡ bytes_from q a ++ bytes_from (q + length a) b
  bytes_both q a b = ap (each join_bytes) (joins_both q a b) ∙ each_both join_bytes (joins_from n q a) (joins_from n (q + length a) b)

  module _ (q : ℕ) (weights : List ℕ) where
    abbrev pub bytes_before : ℕ → List ℕ
    bytes_before p = bytes_from q (take p weights)

    pub none_put : bytes_before 0 ≡ []
    unfolding joins_from each
    none_put = refl

    -- some more of them
    part_put : (p m : ℕ) → p ≤ length weights → bytes_before (p + m) ≡ bytes_before p ++ bytes_from (q + p) (take m (drop p weights))
    part_put p m h =
        ap (bytes_from q) (take-add p m weights)
        ∙ bytes_both q (take p weights) (take m (drop p weights))
        ∙ ap (λ k. bytes_before p ++ bytes_from (q + k) (take m (drop p weights))) (length-take-le p weights h)

    part_within :
        (p m : ℕ) → p ≤ length weights →
        length (bytes_before p) + length (bytes_from (q + p) (take m (drop p weights))) ≤ length (bytes_from q weights)
    part_within p m h =
        let more = bytes_from (q + p) (take m (drop p weights)) in
        let front = take (p + m) weights in
        let rest = bytes_from (q + length front) (drop (p + m) weights) in
        let whole = ap (bytes_from q) (sym (take-append-drop (p + m) weights)) ∙ bytes_both q front (drop (p + m) weights) in
        omega (
          arith,
          ap length whole,
          length-append (bytes_before (p + m)) rest,
          ap length (part_put p m h),
          length-append (bytes_before p) more,
        )

    -- one weight more
    module _ (p from to : ℕ) (h : p < length weights) (whole : from * n + to ≡ q + p) (column : to < n) where
      one_there : bytes_from (q + p) (take 1 (drop p weights)) ≡ bytes_of from to (get_or weights p 0)
      one_there =
          ap (λ l. bytes_from (q + p) (take 1 l)) (drop-cons weights p 0 h)
          ∙ one_put (q + p) (get_or weights p 0)
          ∙ ap (λ r. bytes_of r ((q + p) % n) (get_or weights p 0)) (row_is n (q + p) from to whole column)
          ∙ ap (λ c. bytes_of from c (get_or weights p 0)) (column_is n (q + p) from to whole column)

      pub weight_more : bytes_before (p + 1) ≡ bytes_before p ++ bytes_of from to (get_or weights p 0)
      weight_more = part_put p 1 (omega arith) ∙ ap (λ l. bytes_before p ++ l) one_there

      pub weight_within : length (bytes_before p) + length (bytes_of from to (get_or weights p 0)) ≤ length (bytes_from q weights)
      weight_within = omega (arith, part_within p 1 (omega arith), ap length one_there)

-- one row more of a table
module _ (n : ℕ) (weights : List ℕ) (from m : ℕ) (row : from < n) (there : length weights ≡ n * n) (e : m ≡ n) where
  inside : (from + 1) * n ≤ n * n
  inside = N.mul-le-mul {n₂ = n} {m₂ = n} (omega arith) (omega arith)

  length_is : length (take m (drop (from * n) weights)) ≡ n
  length_is = ap (λ k. length (take k (drop (from * n) weights))) e ∙ length-take-le n (drop (from * n) weights) (omega (arith, length-drop (from * n) weights, inside))

  row_there : row_bytes from (take m (drop (from * n) weights)) ≡ bytes_from n (0 + from * n) (take n (drop (from * n) weights))
  row_there =
      let row = take n (drop (from * n) weights) in
      rw length_is (ap (λ k. bytes_from n (from * n) (take k (drop (from * n) weights))) e)
      ∙ ap (λ q. bytes_from n q row) {x = from * n} {y = 0 + from * n} (omega arith)

  pub row_more :
      bytes_before n 0 weights ((from + 1) * n) ≡ bytes_before n 0 weights (from * n) ++ row_bytes from (take m (drop (from * n) weights))
  row_more =
      ap (bytes_before n 0 weights) {x = (from + 1) * n} {y = from * n + n} (omega arith)
      ∙ part_put n 0 weights (from * n) n (omega (arith, inside))
      ∙ ap (λ l. bytes_before n 0 weights (from * n) ++ l) (sym row_there)

  pub row_within :
      length (bytes_before n 0 weights (from * n)) + length (row_bytes from (take m (drop (from * n) weights)))
      ≤ length (each join_bytes (joins_of n weights))
  row_within = omega (arith, part_within n 0 weights (from * n) n (omega (arith, inside)), ap length row_there)
