-- The parts of a job that the writer takes, one by one. Assumes nothing.
use mathlib.Core.Path.{◌≡◌, ◌∙◌}
use mathlib.Core.Bool.{Bool, false, ◌&&◌, ◌||◌}
use mathlib.Core.List.{List, ◌∷◌, ◌++◌}
use Prim.Native.Nat.{ℕ, ◌*◌}
use lib.Dec.{eqb, ltb}
use Rattle.whole.specs.Rules.{Rule, first_broken, in_turn}
use Rattle.whole.proofs.InTurn.{Numbered, none_of_both, second_decides, numbered_both, in_turn_numbered}
use Rattle.whole.proofs.Rules.{holds}
use Rattle.places.specs.Places.{places_in_turn}
use Rattle.image.specs.Joins.{weight_rules}
use Rattle.image.specs.Image.{
  Job,
  none_or_all_rule,
  band_count_rule,
  shuffle_count_rule,
  value_rules,
  category_rules,
  band_rules,
  shuffle_rules,
}
use Rattle.image.specs.Writer.{part_rules}
use Rattle.image.specs.declared.Given.{Given}
use Rattle.image.proofs.Accepted.{part_only, places_numbered}
use Rattle.image.proofs.Weights.{weight_numbered}

pub record Parted (given : Given) (job : Job) : Type 0 where
  pub values : first_broken (value_rules job.values) ≡ 0
  pub categories_count : part_only given.values given.categories ≡ false
  pub categories : first_broken (category_rules job.categories) ≡ 0
  pub weights : first_broken (in_turn (weight_rules given.values job.weights) (given.values * given.values)) ≡ 0
  pub places_count : part_only given.values given.places ≡ false
  pub places : first_broken (places_in_turn job.places) ≡ 0
  pub bands_count : (ltb 8 given.bands || (ltb 0 given.bands && eqb given.places 0)) ≡ false
  pub bands : first_broken (band_rules job.bands) ≡ 0
  pub shuffles_count : ltb 499 given.shuffles ≡ false
  pub shuffles : first_broken (shuffle_rules given.values job.shuffles) ≡ 0

module _ (given : Given) (job : Job) where
  -- the rules of each part, and of those after it
  abbrev pub of_shuffles : List Rule
  of_shuffles = shuffle_count_rule given.shuffles ∷ shuffle_rules given.values job.shuffles

  abbrev pub of_bands : List Rule
  of_bands = band_count_rule given.places given.bands ∷ band_rules job.bands

  abbrev pub of_places : List Rule
  of_places = none_or_all_rule given.values given.places ∷ places_in_turn job.places

  abbrev pub of_weights : List Rule
  of_weights = in_turn (weight_rules given.values job.weights) (given.values * given.values)

  abbrev pub of_categories : List Rule
  of_categories = none_or_all_rule given.values given.categories ∷ category_rules job.categories

  abbrev pub after_places : List Rule
  after_places = of_bands ++ of_shuffles

  abbrev pub after_weights : List Rule
  after_weights = of_places ++ after_places

  abbrev pub after_categories : List Rule
  after_categories = of_weights ++ after_weights

  abbrev pub after_values : List Rule
  after_values = of_categories ++ after_categories

  pub weights_numbered : Numbered of_weights
  weights_numbered = in_turn_numbered (weight_rules given.values job.weights) (weight_numbered given.values job.weights) _

  pub parts_numbered : Numbered (part_rules given job)
  unfolding part_rules
  parts_numbered =
      numbered_both (value_rules job.values) after_values (tt, tt)
      (numbered_both of_categories after_categories (tt, (tt, tt))
      (numbered_both of_weights after_weights weights_numbered
      (numbered_both of_places after_places (tt, places_numbered job.places) (tt, (tt, (tt, (tt, tt)))))))

  pub parted : first_broken (part_rules given job) ≡ 0 → Parted given job
  unfolding part_rules
  parted e =
      let v = none_of_both after_values (value_rules job.values) (tt, tt) e in
      let c = none_of_both after_categories of_categories (tt, (tt, tt)) v.1 in
      let w = none_of_both after_weights of_weights weights_numbered c.1 in
      let p = none_of_both after_places of_places (tt, places_numbered job.places) w.1 in
      let b = none_of_both of_shuffles of_bands (tt, (tt, tt)) p.1 in
      let categories = holds (part_only given.values given.categories) 14 _ c.0 in
      let places = holds (part_only given.values given.places) 14 _ p.0 in
      let bands = holds (ltb 8 given.bands || (ltb 0 given.bands && eqb given.places 0)) 11 _ b.0 in
      let shuffles = holds (ltb 499 given.shuffles) 14 _ b.1 in record {
        values = v.0;
        categories_count = categories.0;
        categories = categories.1;
        weights = w.0;
        places_count = places.0;
        places = places.1;
        bands_count = bands.0;
        bands = bands.1;
        shuffles_count = shuffles.0;
        shuffles = shuffles.1;
      }

  -- a count that is allowed, and then items without fault
  counted_none :
      (broken : Bool) (number : ℕ) (rules : List Rule) → broken ≡ false → first_broken rules ≡ 0 →
      first_broken ((broken, number) ∷ rules) ≡ 0
  counted_none broken number rules e f = rw e f

  pub parts_let_in : Parted given job → first_broken (part_rules given job) ≡ 0
  unfolding part_rules
  parts_let_in p =
      second_decides after_values (value_rules job.values) (tt, tt) p.values
      ∙ second_decides after_categories of_categories (tt, (tt, tt))
      (counted_none _ 15 (category_rules job.categories) p.categories_count p.categories)
      ∙ second_decides after_weights of_weights weights_numbered p.weights
      ∙ second_decides after_places of_places (tt, places_numbered job.places)
      (counted_none _ 15 (places_in_turn job.places) p.places_count p.places)
      ∙ second_decides of_shuffles of_bands (tt, (tt, tt)) (counted_none _ 12 (band_rules job.bands) p.bands_count p.bands)
      ∙ counted_none _ 15 (shuffle_rules given.values job.shuffles) p.shuffles_count p.shuffles
