-- Theorems of the Gabriel network and of the bands. Assumes nothing.
use mathlib.Core.Path.{◌≡◌, refl, sym, ap, ◌∙◌}
use mathlib.Core.Bool.{true, false, not}
use mathlib.Core.List.{List, [], ◌∷◌}
use Prim.Native.Nat.{ℕ, ◌≤◌, ◌<◌}
use native.Mathlib.Omega.{arith}
use borrow.Author.Tests.{ne_eqb, not-false}
use lib.IntN.{ℤ, ◌+ℤ◌, ◌-ℤ◌}
use lib.ListN.{length}
use lib.Signed.{lt_z}
use Rattle.whole.specs.Integer.{square}
use Rattle.whole.specs.Network.{Network}
use Rattle.whole.specs.Rules.{Applies}
use Rattle.whole.specs.Search.{any_above, any_on_diagonal}
use Rattle.whole.specs.Table.{table_rows, pair_at}
use Rattle.whole.proofs.Integer.{+_swap}
use Rattle.whole.proofs.Network.{square_at, never_4, never_5, network_listed}
use Rattle.whole.proofs.Rules.{first_least, first_applies, kept_when_refused, worked_when_taken}
use Rattle.whole.proofs.Search.{some_none, none_some, all_within}
use Rattle.whole.proofs.TableRows.{rows_length, rows_each}
use Rattle.whole.proofs.Size.{+_above}
use Rattle.places.specs.Places.{across, up, squared_distance, place_rules, call_rules}
use Rattle.places.specs.Gabriel.{in_circle, gabriel_weight, gabriel_network, gabriel_refusal, gabriel_left}
use Rattle.places.specs.Bands.{pair_class, band_classes, bands_broken, band_refusal, bands_left}
use Rattle.places.proofs.Circles.{third_in, third_is, none_in, weight_free, free_weight, weights_network, along, twice, less_halved}
use Rattle.places.proofs.Classes.{pair_itself, pair_most, pair_both_ways}
use Rattle.places.proofs.Distance.{distance_both_ways, squares_above, distance_above}

-- ---- the Gabriel network

abbrev weight : List ℤ → ℕ → ℕ → ℕ → ℕ
weight places n = gabriel_weight (squared_distance places) n

joined_network : (n : ℕ) (places : List ℤ) → Network (weight places n) n
joined_network n places = weights_network (squared_distance places) (distance_both_ways places) n

-- the weights are 0 or 1, the same both ways, and 0 on the diagonal
pub gabriel_is_network : (n : ℕ) (places : List ℤ) → Network (pair_at (gabriel_network n places) n) n
unfolding gabriel_network
gabriel_is_network n places = network_listed (weight places n) n (joined_network n places)

-- so neither 4 nor 5 applies to them
pub gabriel_never_4 : (n : ℕ) (places : List ℤ) → any_above 9 (gabriel_network n places) ≡ false
unfolding gabriel_network
gabriel_never_4 n places = never_4 (weight places n) n (joined_network n places)

pub gabriel_never_5 : (n : ℕ) (places : List ℤ) → any_on_diagonal n (gabriel_network n places) ≡ false
unfolding gabriel_network
gabriel_never_5 n places = never_5 (weight places n) n (joined_network n places)

-- two zones are joined exactly when for every third zone C the squared distance AB is less than AC squared plus BC squared
pub gabriel_joined :
    (n : ℕ) (places : List ℤ) (a b : ℕ) → a < n → b < n → (a ≡ b → ⊥) → pair_at (gabriel_network n places) n a b ≡ 1 →
    (c : ℕ) → c < n → (c ≡ a → ⊥) → (c ≡ b → ⊥) →
    lt_z (squared_distance places a b) (squared_distance places a c +ℤ squared_distance places b c) ≡ true
unfolding gabriel_network in_circle
gabriel_joined n places a b h k apart joined c l p q =
    let d = squared_distance places in
    let free = free_weight d a b n (sym (square_at (weight places n) n a b h k) ∙ joined) in
    not-false (lt_z (d a b) (d a c +ℤ d b c))
    (sym (third_is d a b c p (ne_eqb c b q)) ∙ some_none (third_in d a b) n c free l)

pub gabriel_joins :
    (n : ℕ) (places : List ℤ) (a b : ℕ) → a < n → b < n → (a ≡ b → ⊥) →
    ((c : ℕ) → c < n → (c ≡ a → ⊥) → (c ≡ b → ⊥) →
    lt_z (squared_distance places a b) (squared_distance places a c +ℤ squared_distance places b c) ≡ true) →
    pair_at (gabriel_network n places) n a b ≡ 1
unfolding gabriel_network
gabriel_joins n places a b h k apart free =
    let d = squared_distance places in
    square_at (weight places n) n a b h k
    ∙ weight_free d a b n apart (none_some (third_in d a b) n (λ c l. none_in d a b c (free c l)))

-- ---- the circle that has a and b at the ends of a diameter

-- four times the squared distance of c from its midpoint
abbrev pub from_midpoint : List ℤ → ℕ → ℕ → ℕ → ℤ
from_midpoint places a b c =
    square ((across places c +ℤ across places c) -ℤ (across places a +ℤ across places b))
    +ℤ square ((up places c +ℤ up places c) -ℤ (up places a +ℤ up places b))

circle :
    (places : List ℤ) (a b c : ℕ) →
    from_midpoint places a b c +ℤ squared_distance places a b
    ≡ (squared_distance places a c +ℤ squared_distance places b c) +ℤ (squared_distance places a c +ℤ squared_distance places b c)
unfolding squared_distance
circle places a b c =
    let x = across places in
    let y = up places in
    +_swap (square ((x c +ℤ x c) -ℤ (x a +ℤ x b))) (square ((y c +ℤ y c) -ℤ (y a +ℤ y b))) (square (x a -ℤ x b)) (square (y a -ℤ y b))
    ∙ cc (along (x a) (x b) (x c), along (y a) (y b) (y c))
    ∙ twice (square (x a -ℤ x c)) (square (x b -ℤ x c)) (square (y a -ℤ y c)) (square (y b -ℤ y c))

-- c is inside it or on it, as the network has it, exactly when that is not above d(a,b), four times the squared radius
pub in_circle_is :
    (places : List ℤ) (a b c : ℕ) →
    in_circle (squared_distance places) a b c ≡ not (lt_z (squared_distance places a b) (from_midpoint places a b c))
unfolding in_circle
in_circle_is places a b c =
    let d = squared_distance places in
    let x = across places in
    let y = up places in
    ap not
    (less_halved (d a b) (d a c +ℤ d b c) (from_midpoint places a b c) (distance_above places a b)
    (+_above (d a c) (d b c) (distance_above places a c) (distance_above places b c))
    (squares_above ((x c +ℤ x c) -ℤ (x a +ℤ x b)) ((y c +ℤ y c) -ℤ (y a +ℤ y b)))
    (circle places a b c))

-- ---- the bands

-- what the list holds of two zones; the classes are at most 8, the same both ways, and 0 on the diagonal
pub band_classes_at :
    (n : ℕ) (places : List ℤ) (bands : List ℕ) (a b : ℕ) → a < n → b < n →
    pair_at (band_classes n places bands) n a b ≡ pair_class bands (squared_distance places) a b
unfolding band_classes
band_classes_at n places bands a b h k = square_at (pair_class bands (squared_distance places)) n a b h k

pub bands_both_ways :
    (n : ℕ) (places : List ℤ) (bands : List ℕ) (a b : ℕ) → a < n → b < n →
    pair_at (band_classes n places bands) n a b ≡ pair_at (band_classes n places bands) n b a
bands_both_ways n places bands a b h k =
    band_classes_at n places bands a b h k
    ∙ pair_both_ways bands (squared_distance places) a b (distance_both_ways places a b)
    ∙ sym (band_classes_at n places bands b a k h)

pub bands_diagonal : (n : ℕ) (places : List ℤ) (bands : List ℕ) (a : ℕ) → a < n → pair_at (band_classes n places bands) n a a ≡ 0
bands_diagonal n places bands a h =
    band_classes_at n places bands a a h h ∙ sym (pair_itself bands (squared_distance places) a a refl)

-- so 9 does not apply to them
pub bands_never_9 : (n : ℕ) (places : List ℤ) (bands : List ℕ) → length bands ≤ 8 → any_above 8 (band_classes n places bands) ≡ false
unfolding band_classes
bands_never_9 n places bands few =
    let f = pair_class bands (squared_distance places) in
    let low = rows_each f (λ k. k ≤ 8) n n 0 (λ a b p q. omega (arith, pair_most bands (squared_distance places) a b)) in
    all_within 8 (table_rows f n n) (λ t p. low t (omega (arith, rows_length f n n)))

-- ---- what the two calls leave in the lent list
module _ (n : ℕ) (places : List ℤ) (weights left : List ℕ) (e : left ≡ gabriel_left n places weights) where
  pub network_left : gabriel_refusal n places (length weights) ≡ 0 → left ≡ gabriel_network n places
  unfolding gabriel_left
  network_left z = e ∙ worked_when_taken _ _ _ z

  pub network_leaves : (gabriel_refusal n places (length weights) ≡ 0 → ⊥) → left ≡ weights
  unfolding gabriel_left
  network_leaves f = e ∙ kept_when_refused _ _ _ f

module _ (n : ℕ) (places : List ℤ) (bands classes left : List ℕ) (e : left ≡ bands_left n places bands classes) where
  pub classes_left : band_refusal n places bands (length classes) ≡ 0 → left ≡ band_classes n places bands
  unfolding bands_left
  classes_left z = e ∙ worked_when_taken _ _ _ z

  pub classes_leaves : (band_refusal n places bands (length classes) ≡ 0 → ⊥) → left ≡ classes
  unfolding bands_left
  classes_leaves f = e ∙ kept_when_refused _ _ _ f

-- ---- a refusal is the least number that applies

pub gabriel_refusal_applies :
    (n : ℕ) (places : List ℤ) (room : ℕ) → (gabriel_refusal n places room ≡ 0 → ⊥) →
    Applies (gabriel_refusal n places room) (call_rules n places room [])
unfolding gabriel_refusal
gabriel_refusal_applies n places room f = first_applies (call_rules n places room []) f

pub gabriel_refusal_least :
    (n : ℕ) (places : List ℤ) (room number : ℕ) → Applies number (call_rules n places room []) → gabriel_refusal n places room ≤ number
unfolding gabriel_refusal call_rules place_rules
gabriel_refusal_least n places room number = first_least 0 number (call_rules n places room []) (tt, (tt, (tt, (tt, tt))))

pub band_refusal_applies :
    (n : ℕ) (places : List ℤ) (bands : List ℕ) (room : ℕ) → (band_refusal n places bands room ≡ 0 → ⊥) →
    Applies (band_refusal n places bands room) (call_rules n places room ((bands_broken bands, 12) ∷ []))
unfolding band_refusal
band_refusal_applies n places bands room f = first_applies (call_rules n places room ((bands_broken bands, 12) ∷ [])) f

pub band_refusal_least :
    (n : ℕ) (places : List ℤ) (bands : List ℕ) (room number : ℕ) →
    Applies number (call_rules n places room ((bands_broken bands, 12) ∷ [])) → band_refusal n places bands room ≤ number
unfolding band_refusal call_rules place_rules
band_refusal_least n places bands room number =
    first_least 0 number (call_rules n places room ((bands_broken bands, 12) ∷ [])) (tt, (tt, (tt, (tt, (tt, tt)))))
