-- `judge` meets its contract: section after section, each judged after those that passed. Assumes nothing.
use mathlib.Core.Path.{◌≡◌, refl, ap, ◌∙◌}
use mathlib.Core.List.{List, [], ◌++◌}
use Prim.Native.Nat.{ℕ}
use native.Mathlib.Omega.{arith}
use lib.ListN.{length}
use Rattle.std.proofs.lemmas.Grind.{common_steps}
use Rattle.std.proofs.lemmas.Result.{err_from_is_err_and}
use Rattle.whole.specs.Rules.{first_broken}
use Rattle.whole.specs.Table.{table}
use Rattle.account.specs.Refusals.{sum_rules}
use Rattle.image.specs.Joins.{weights_of}
use Rattle.image.specs.Image.{
  signed_words,
  count,
  after,
  from_categories,
  from_joins,
  from_places,
  from_bands,
  from_shuffles,
  rest,
  in_values,
  in_categories,
  in_joins,
  in_places,
  in_bands,
  in_shuffles,
  at_the_end,
  image_rules,
}
use Rattle.image.proofs.Accepted.{
  values_numbered,
  categories_numbered,
  joins_numbered,
  in_places_numbered,
  bands_numbered,
  shuffles_numbered,
  after_values,
  after_categories,
  after_joins,
  after_places,
  after_bands,
}
use Rattle.reader.specs.Steps.{Held, Joins, Summable, join_at}
use Rattle.reader.specs.declared.sections.Section.{Section}
use Rattle.reader.proofs.Chain.{Left, stopped, passed, zones, summable, trailing, by_sums, laid}
use Rattle.reader.proofs.judging.judge.Goals as goal
use Rattle.reader.proofs.judging.judge.Goals.{In_ok-values, In_ok-categories, In_ok-joins, In_ok-places, In_ok-bands, In_ok-shuffles}

-- ---- what is left after each section, and where the next begins

module _ (c : In_ok-values) where
  abbrev image : List ℕ
  image = c.args.image.now

  abbrev n : ℕ
  n = c.in_ok-values.values.count

  n_is : n ≡ count image
  n_is = c.in_ok-values.ensures.taken.0.counted

  begin_categories : c.in_ok-values.rest.now ≡ from_categories image
  begin_categories = c.in_ok-values.ensures.taken.1

  no_values : Left image (in_values image ++ after_values image)
  unfolding image_rules
  no_values = record { same = refl }

  left_1 : Left image (after_values image)
  left_1 =
      passed image (λ _ b. in_values b) 0 image (after_values image) no_values {n = 0} refl refl (values_numbered image)
      c.in_ok-values.ensures.number

module _ (c : In_ok-categories) where
  abbrev to_1 : In_ok-values
  to_1 = (goal.at.In_ok-categories c).In_ok-values

  begin_joins : c.in_ok-categories.rest.now ≡ from_joins (image to_1)
  begin_joins = c.in_ok-categories.ensures.taken.1 ∙ ap (after 1) (begin_categories to_1)

  left_2 : Left (image to_1) (after_categories (image to_1))
  left_2 =
      let b = from_categories (image to_1) in
      passed (image to_1) in_categories (count (image to_1)) b (after_categories (image to_1)) (left_1 to_1) (n_is to_1) (begin_categories to_1)
      (categories_numbered (count (image to_1)) b) c.in_ok-categories.ensures.number

module _ (c : In_ok-joins) where
  abbrev to_2 : In_ok-categories
  to_2 = (goal.at.In_ok-joins c).In_ok-categories

  begin_places : c.in_ok-joins.rest.now ≡ from_places (image (to_1 to_2))
  begin_places = c.in_ok-joins.ensures.taken.1 ∙ ap (after 3) (begin_joins to_2)

  left_3 : Left (image (to_1 to_2)) (after_joins (image (to_1 to_2)))
  left_3 =
      let i = image (to_1 to_2) in
      passed i in_joins (count i) (from_joins i) (after_joins i) (left_2 to_2) (n_is (to_1 to_2)) (begin_joins to_2)
      (joins_numbered (count i) (from_joins i)) c.in_ok-joins.ensures.number

module _ (c : In_ok-places) where
  abbrev to_3 : In_ok-joins
  to_3 = (goal.at.In_ok-places c).In_ok-joins

  abbrev image_3 : List ℕ
  image_3 = image (to_1 (to_2 to_3))

  begin_bands : c.in_ok-places.rest.now ≡ from_bands image_3
  begin_bands = c.in_ok-places.ensures.taken.1 ∙ ap (after 8) (begin_places to_3)

  places_is : c.in_ok-places.places.count ≡ count (from_places image_3)
  places_is = c.in_ok-places.ensures.taken.0.counted ∙ ap count (begin_places to_3)

  left_4 : Left image_3 (after_places image_3)
  left_4 =
      passed image_3 in_places (count image_3) (from_places image_3) (after_places image_3) (left_3 to_3) (n_is (to_1 (to_2 to_3)))
      (begin_places to_3) (in_places_numbered (count image_3) (from_places image_3)) c.in_ok-places.ensures.number

module _ (c : In_ok-bands) where
  abbrev to_4 : In_ok-places
  to_4 = (goal.at.In_ok-bands c).In_ok-places

  begin_shuffles : c.in_ok-bands.rest.now ≡ from_shuffles (image_3 to_4)
  begin_shuffles = c.in_ok-bands.ensures.taken.1 ∙ ap (after 4) (begin_bands to_4)

  left_5 : Left (image_3 to_4) (after_bands (image_3 to_4))
  left_5 =
      let i = image_3 to_4 in
      passed i in_bands (count (from_places i)) (from_bands i) (after_bands i) (left_4 to_4) (places_is to_4) (begin_bands to_4)
      (bands_numbered (count (from_places i)) (from_bands i)) c.in_ok-bands.ensures.number

module _ (c : In_ok-shuffles) where
  abbrev to_5 : In_ok-bands
  to_5 = (goal.at.In_ok-shuffles c).In_ok-bands

  abbrev first : In_ok-values
  first = to_1 (to_2 (to_3 (to_4 to_5)))

  abbrev at_joins : In_ok-joins
  at_joins = to_3 (to_4 to_5)

  begin_end : c.in_ok-shuffles.rest.now ≡ rest (image first)
  begin_end = c.in_ok-shuffles.ensures.taken.1 ∙ rw (n_is first, begin_shuffles to_5) refl

  left_6 : Left (image first) (at_the_end (image first))
  left_6 =
      let i = image first in
      passed i in_shuffles (count i) (from_shuffles i) (at_the_end i) (left_5 to_5) (n_is first) (begin_shuffles to_5)
      (shuffles_numbered (count i) (from_shuffles i)) c.in_ok-shuffles.ensures.number

  values_held : Held 4 (image first) first.in_ok-values.values
  values_held = first.in_ok-values.ensures.taken.0

  seen : Joins (from_joins (image first)) at_joins.in_ok-joins.joins.now
  seen = rw (← begin_joins (to_2 at_joins)) at_joins.in_ok-joins.ensures.taken.0

-- ---- a section that is refused
pub returns-in_err-values-clause-number : goal.returns-in_err-values-clause-number
unfolding image_rules
returns-in_err-values-clause-number c =
    let p = err_from_is_err_and c.from_residual.result c.from_residual.ensures.1 in
    let i = c.args.image.now in
    rw (p.1, p.2)
    (stopped i (λ _ b. in_values b) 0 i (after_values i) (record { same = refl }) {n = 0} refl refl c.in_err-values.field-0.0 c.in_err-values.ensures.number)

pub returns-in_err-categories-clause-number : goal.returns-in_err-categories-clause-number
returns-in_err-categories-clause-number c =
    let p = err_from_is_err_and c.from_residual-in_err-categories.result c.from_residual-in_err-categories.ensures.1 in
    let l = (goal.at.returns-in_err-categories-clause-number c).In_ok-values in
    rw (p.1, p.2)
    (stopped (image l) in_categories (count (image l)) _ (after_categories (image l)) (left_1 l) (n_is l) (begin_categories l)
    c.in_err-categories.field-0.0 c.in_err-categories.ensures.number)

pub returns-in_err-joins-clause-number : goal.returns-in_err-joins-clause-number
returns-in_err-joins-clause-number c =
    let p = err_from_is_err_and c.from_residual-in_err-joins.result c.from_residual-in_err-joins.ensures.1 in
    let l = (goal.at.returns-in_err-joins-clause-number c).In_ok-categories in
    let i = image (to_1 l) in
    rw (p.1, p.2)
    (stopped i in_joins (count i) _ (after_joins i) (left_2 l) (n_is (to_1 l)) (begin_joins l) c.in_err-joins.field-0.0 c.in_err-joins.ensures.number)

pub returns-in_err-places-clause-number : goal.returns-in_err-places-clause-number
returns-in_err-places-clause-number c =
    let p = err_from_is_err_and c.from_residual-in_err-places.result c.from_residual-in_err-places.ensures.1 in
    let l = (goal.at.returns-in_err-places-clause-number c).In_ok-joins in
    let i = image (to_1 (to_2 l)) in
    rw (p.1, p.2)
    (stopped i in_places (count i) _ (after_places i) (left_3 l) (n_is (to_1 (to_2 l))) (begin_places l) c.in_err-places.field-0.0 c.in_err-places.ensures.number)

pub returns-in_err-bands-clause-number : goal.returns-in_err-bands-clause-number
returns-in_err-bands-clause-number c =
    let p = err_from_is_err_and c.from_residual-in_err-bands.result c.from_residual-in_err-bands.ensures.1 in
    let l = (goal.at.returns-in_err-bands-clause-number c).In_ok-places in
    let i = image_3 l in
    rw (p.1, p.2)
    (stopped i in_bands (count (from_places i)) _ (after_bands i) (left_4 l) (places_is l) (begin_bands l) c.in_err-bands.field-0.0 c.in_err-bands.ensures.number)

pub returns-in_err-shuffles-clause-number : goal.returns-in_err-shuffles-clause-number
returns-in_err-shuffles-clause-number c =
    let p = err_from_is_err_and c.from_residual-in_err-shuffles.result c.from_residual-in_err-shuffles.ensures.1 in
    let l = (goal.at.returns-in_err-shuffles-clause-number c).In_ok-bands in
    let i = image_3 (to_4 l) in
    rw (p.1, p.2)
    (stopped i in_shuffles (count i) _ (at_the_end i) (left_5 l) (n_is (to_1 (to_2 (to_3 (to_4 l))))) (begin_shuffles l)
    c.in_err-shuffles.field-0.0 c.in_err-shuffles.ensures.number)

-- ---- the zones are as many as a section that passed has
pub invariant_of-zones : goal.invariant_of-zones
invariant_of-zones c =
    let l = (goal.at.invariant_of-zones c).In_ok-values in
    let z = zones (image l) _ [] l.in_ok-values.ensures.taken.0 l.in_ok-values.ensures.number in record { some = z.0; few = z.1 }

-- ---- the end
module _ (c : In_ok-shuffles) where
  abbrev i : List ℕ
  i = image (first c)

  abbrev v : Section
  v = (first c).in_ok-values.values

  abbrev joins : List (List ℕ)
  joins = (at_joins c).in_ok-joins.joins.now

  summed : Summable v.count v.items.now joins
  summed =
      summable i v joins (values_held c) (first c).in_ok-values.ensures.number (seen c)
      (rw (← begin_joins (to_2 (at_joins c))) (at_joins c).in_ok-joins.ensures.number)

  ended :
      length c.in_ok-shuffles.rest.now ≡ 0 →
      first_broken (sum_rules v.count (signed_words v.count v.items.now) (weights_of v.count (table (join_at joins) (length joins))))
      ≡ first_broken (image_rules i)
  ended = by_sums i v joins (values_held c) (first c).in_ok-values.ensures.number (seen c) (left_6 c) _ (begin_end c)

pub returns-then-not-is_empty-clause-number : goal.returns-then-not-is_empty-clause-number
returns-then-not-is_empty-clause-number c =
    let l = (goal.at.returns-then-not-is_empty-clause-number c).In_ok-shuffles in
    trailing (i l) (v l) (joins l) (values_held l) (first l).in_ok-values.ensures.number (seen l) (left_6 l) _ (begin_end l)
    (grind (arith, common_steps))

pub judge_sums-requires : goal.judge_sums-requires
judge_sums-requires c = summed ((goal.at.judge_sums-requires c).In_ok-shuffles)

pub returns-in_err-judge_sums-clause-number : goal.returns-in_err-judge_sums-clause-number
returns-in_err-judge_sums-clause-number c =
    let p = err_from_is_err_and c.from_residual-in_err-judge_sums.result c.from_residual-in_err-judge_sums.ensures.1 in
    let e = ended ((goal.at.returns-in_err-judge_sums-clause-number c).In_ok-shuffles) (grind (arith, common_steps)) in
    rw (p.1, p.2) (c.in_err-judge_sums.ensures ∙ e)

pub returns-clause-number : goal.returns-clause-number
returns-clause-number c =
    let e = ended ((goal.at.returns-clause-number c).In_ok-shuffles) (grind (arith, common_steps)) in
    c.in_ok-judge_sums.ensures ∙ e

pub returns-clause-laid : goal.returns-clause-laid
returns-clause-laid c =
    let l = (goal.at.returns-clause-laid c).In_ok-shuffles in
    let b = to_5 l in
    let p = to_4 b in
    let k = to_2 (at_joins l) in
    laid (i l) _ (values_held l) (rw (← begin_categories (first l)) k.in_ok-categories.ensures.taken.0) (seen l)
    (rw (← begin_places (at_joins l)) p.in_ok-places.ensures.taken.0) (rw (← begin_bands p) b.in_ok-bands.ensures.taken.0)
    (rw (← begin_shuffles b, ← n_is (first l)) l.in_ok-shuffles.ensures.taken.0) (returns-clause-number c)
