-- `bands` meets its contract: judged first, the places and then the bands, and worked only where no rule is broken. Assumes nothing.
use mathlib.Core.Path.{◌≡◌, sym, ap, ◌∙◌}
use mathlib.Core.List.{List, [], ◌∷◌}
use Prim.Native.Nat.{◌*◌}
use lib.ListN.{length}
use Rattle.std.proofs.lemmas.Result.{err_from_is_err_and}
use Rattle.whole.specs.Rules.{Rule}
use Rattle.refusals.proofs.Refusals.{left_by, worked_by, not_refused}
use Rattle.places.specs.Bands.{bands_broken, band_classes, band_refusal, bands_left}
use Rattle.places.proofs.Accepted.{Banded, bands_accepted, by_places, by_rest}
use Rattle.places.proofs.Coordinates.{zones_count, worked_from}
use Rattle.places.proofs.bands.Goals as goal
use Rattle.places.proofs.bands.Goals.{Start, In_ok-judge_bands}

-- the last rule
abbrev last : Start → List Rule
last s = (bands_broken s.args.bands.now, 12) ∷ []

pub returns-in_err-zones : goal.returns-in_err-zones
unfolding band_refusal bands_left
returns-in_err-zones c =
    let p = err_from_is_err_and c.from_residual.result c.from_residual.ensures.1 in
    let e = by_places _ _ _ (last ((goal.at.returns-in_err-zones c).Start)) _ c.in_err-zones.ensures.number (not_refused _) in
    rw (p.1, p.2) (record { number = e; lent = sym (left_by _ _ _ _ e) })

pub returns-in_err-judge_bands : goal.returns-in_err-judge_bands
unfolding band_refusal bands_left
returns-in_err-judge_bands c =
    let r = c.from_residual-in_err-judge_bands in
    let p = err_from_is_err_and r.result r.ensures.1 in
    let rule = last ((goal.at.returns-in_err-judge_bands c).Start) in
    let e = by_rest _ _ _ rule _ (sym c.in_ok-zones.ensures.number) c.in_err-judge_bands.ensures in
    rw (p.1, p.2) (record { number = e; lent = sym (left_by _ _ _ _ e) })

-- nothing is refused, and the zones whose pairs are classed are those of the places
module _ (c : In_ok-judge_bands) where
  none : 0 ≡ band_refusal c.args.n c.args.places.now c.args.bands.now (length c.args.classes.now)
  unfolding band_refusal
  none = by_rest _ _ _ (last ((goal.at.In_ok-judge_bands c).Start)) _ (sym c.in_ok-zones.ensures.number) c.in_ok-judge_bands.ensures

  good : Banded c.args.n c.args.places.now c.args.bands.now (length c.args.classes.now)
  good = bands_accepted _ _ _ _ (sym none)

pub class_pairs-requires : goal.class_pairs-requires
class_pairs-requires c =
    let g = good ((goal.at.class_pairs-requires c).In_ok-judge_bands) in
    record {
      bands_len_bound = g.few_bands;
      classes_len = g.good.sizes.room_fit ∙ ap (λ k. k * k) (sym (zones_count _ _ _ c.in_ok-zones.ensures.zones g.good.sizes.places_fit));
    }

pub returns : goal.returns
unfolding bands_left
returns c =
    let t = (goal.at.returns c).In_ok-judge_bands in
    record {
      number = none t;
      lent =
          c.class_pairs.ensures
          ∙ worked_from _ _ _ c.in_ok-zones.ensures.zones (good t).good.sizes.places_fit (λ k p. band_classes k p c.args.bands.now)
          ∙ sym (worked_by _ _ _ (none t));
    }
