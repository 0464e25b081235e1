-- Every number that the reader and the writer can give is one of their lists. Assumes nothing.
use mathlib.Core.Path.{◌≡◌, refl}
use mathlib.Core.Bool.{Bool, true, false}
use mathlib.Core.List.{List, [], ◌∷◌, ◌++◌}
use Prim.Native.Nat.{ℕ, zero, suc, ◌*◌}
use lib.Dec.{T}
use lib.IntN.{ℤ}
use Rattle.whole.specs.Rules.{Rule, first_broken, in_turn}
use Rattle.places.specs.Places.{place_rules_of, places_in_turn}
use Rattle.image.specs.Joins.{join_rules, weight_rules}
use Rattle.image.specs.Image.{
  count,
  items,
  join_in,
  places_in,
  from_categories,
  from_joins,
  from_places,
  from_bands,
  from_shuffles,
  in_values,
  in_categories,
  in_joins,
  in_places,
  in_bands,
  in_shuffles,
  at_the_end,
  image_rules,
  Job,
  value_rules,
}
use Rattle.image.specs.Numbers.{among, reader_numbers, writer_numbers}
use Rattle.image.specs.Reader.{Buffers, read_rules, read_refusal}
use Rattle.image.specs.Writer.{lent_job, part_rules, write_rules, write_refusal}
use Rattle.image.specs.declared.Given.{Given}
use Rattle.image.proofs.Accepted.{after_values, after_categories, after_joins, after_places, after_bands}
use Rattle.image.proofs.Parts as parts

-- ---- rules whose numbers are all of a list
module _ (numbers : List ℕ) where
  abbrev Within : List Rule → Type 0
  Within [] = Unit
  Within (rule ∷ rules) = T (among rule.1 (0 ∷ numbers)) × Within rules

  both : (rules rest : List Rule) → Within rules → Within rest → Within (rules ++ rest)
  both [] rest g h = h
  both (rule ∷ rules) rest g h = (g.0, both rules rest g.1 h)

  each : (rules : ℕ → List Rule) → ((k : ℕ) → Within (rules k)) → (k : ℕ) → Within (in_turn rules k)
  unfolding in_turn
  each rules h zero = tt
  each rules h (suc k) = both (in_turn rules k) (rules k) (each rules h k) (h k)

  is_true : (b : Bool) → T b → b ≡ true
  is_true true t = refl
  is_true false t = absurd t

  first_listed : (rules : List Rule) → Within rules → among (first_broken rules) (0 ∷ numbers) ≡ true
  first_listed [] g = refl
  first_listed ((true, number) ∷ rules) g = is_true (among number (0 ∷ numbers)) g.0
  first_listed ((false, number) ∷ rules) g = first_listed rules g.1

-- ---- the reader
places_within : (places : List ℤ) → Within reader_numbers (places_in_turn places)
unfolding places_in_turn place_rules_of
places_within places = each reader_numbers (place_rules_of places) (λ a. (tt, (tt, tt))) _

joins_within : (n : ℕ) (b : List ℕ) → Within reader_numbers (in_joins n b)
unfolding in_joins join_rules
joins_within n b =
    (tt, (tt, (tt, each reader_numbers (join_rules n (join_in (items b))) (λ k. (tt, (tt, (tt, (tt, tt))))) (count b))))

image_within : (image : List ℕ) → Within reader_numbers (image_rules image)
unfolding image_rules in_values in_categories in_places in_bands in_shuffles
image_within image =
    let n = count image in
    let numbers = reader_numbers in
    both numbers (in_values image) (after_values image) (tt, (tt, (tt, (tt, tt))))
    (both numbers (in_categories n (from_categories image)) (after_categories image) (tt, (tt, (tt, (tt, tt))))
    (both numbers (in_joins n (from_joins image)) (after_joins image) (joins_within n (from_joins image))
    (both numbers (in_places n (from_places image)) (after_places image) (tt, (tt, (tt, places_within (places_in (from_places image)))))
    (both numbers (in_bands (count (from_places image)) (from_bands image)) (after_bands image) (tt, (tt, (tt, (tt, tt))))
    (both numbers (in_shuffles n (from_shuffles image)) (at_the_end image) (tt, (tt, (tt, (tt, tt)))) (tt, (tt, (tt, tt))))))))

-- every string of bytes is a job or has one of the reader's numbers
pub reading_total : (image : List ℕ) (lent : Buffers) → among (read_refusal image lent) (0 ∷ reader_numbers) ≡ true
unfolding read_refusal read_rules
reading_total image lent = first_listed reader_numbers (read_rules image lent) (tt, image_within image)

-- ---- the writer
places_written : (places : List ℤ) → Within writer_numbers (places_in_turn places)
unfolding places_in_turn place_rules_of
places_written places = each writer_numbers (place_rules_of places) (λ a. (tt, (tt, tt))) _

weights_written : (n : ℕ) (weights : List ℕ) (k : ℕ) → Within writer_numbers (in_turn (weight_rules n weights) k)
unfolding weight_rules
weights_written n weights k = each writer_numbers (weight_rules n weights) (λ p. (tt, (tt, tt))) k

parts_within : (given : Given) (job : Job) → Within writer_numbers (part_rules given job)
unfolding part_rules
parts_within given job =
    let n = given.values in
    let numbers = writer_numbers in
    both numbers (value_rules job.values) (parts.after_values given job) (tt, tt)
    (both numbers (parts.of_categories given job) (parts.after_categories given job) (tt, (tt, tt))
    (both numbers (parts.of_weights given job) (parts.after_weights given job) (weights_written n job.weights (n * n))
    (both numbers (parts.of_places given job) (parts.after_places given job) (tt, places_written job.places)
    (tt, (tt, (tt, (tt, tt)))))))

-- every job is written or has one of the writer's numbers
pub writing_total : (given : Given) (lent : Buffers) (room : ℕ) → among (write_refusal given lent room) (0 ∷ writer_numbers) ≡ true
unfolding write_refusal write_rules
writing_total given lent room =
    first_listed writer_numbers (write_rules given lent room) (
      tt,
      (
        tt,
        both writer_numbers (part_rules given (lent_job given lent)) _ (parts_within given (lent_job given lent))
            (tt, (tt, (tt, tt))),
      ),
    )
