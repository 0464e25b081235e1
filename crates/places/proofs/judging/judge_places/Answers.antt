-- `judge_places` meets its contract: the sizes' number where there is one, else 10, 11 or none, and then the zones. Assumes nothing.
use mathlib.Core.Path.{◌≡◌, refl, sym, ap, ◌∙◌}
use mathlib.Core.Bool.{false}
use mathlib.Core.List.{[], ◌∷◌}
use Prim.Native.Nat.{◌*◌}
use lib.ListN.{length}
use Rattle.std.proofs.lemmas.Result.{err_from_is_err_and}
use Rattle.whole.specs.Rules.{first_broken, size_rules}
use Rattle.whole.specs.Search.{any_beyond}
use Rattle.refusals.proofs.Refusals.{not_refused}
use Rattle.places.specs.Places.{any_at_one_place, place_rules}
use Rattle.places.specs.Steps.{coordinates}
use Rattle.places.proofs.Accepted.{sizes_of, fitting, by_sizes, by_halves, then_places}
use Rattle.places.proofs.Coordinates.{worked_from, taken_all}
use Rattle.places.proofs.judging.judge_places.Goals as goal
use Rattle.places.proofs.judging.judge_places.Goals.{After-as_chunks, After-any_at_one_place, Else-any_beyond, In_ok-judge_lent}

-- the sizes that were judged are those of the call
sizes : (c : After-as_chunks) →
    first_broken (size_rules c.args.n
    ((length c.as_chunks.result.0.now, c.args.n) ∷ (length c.as_chunks.result.1.now, 0) ∷ (c.args.room, c.args.n * c.args.n) ∷ []))
    ≡ first_broken (sizes_of c.args.n (length c.args.places.now) c.args.room)
sizes c = rw (c.as_chunks.ensures.front_len, c.as_chunks.ensures.back_len) (by_halves c.args.n (length c.args.places.now) c.args.room)

-- the sizes are good, and then no coordinate is too far out
sizes_good : (c : In_ok-judge_lent) → first_broken (sizes_of c.args.n (length c.args.places.now) c.args.room) ≡ 0
sizes_good c = sym (c.in_ok-judge_lent.ensures ∙ sizes ((goal.at.In_ok-judge_lent c).After-as_chunks))

near : (c : Else-any_beyond) → any_beyond 30000 c.args.places.now ≡ false
near c = sym c.any_beyond.ensures ∙ c.if-any_beyond.false

-- the zones that were taken are all of the places
module _ (c : In_ok-judge_lent) where
  places_fit : length c.args.places.now ≡ 2 * c.args.n
  places_fit = (fitting c.args.n (length c.args.places.now) c.args.room (sizes_good c)).places_fit

  all : coordinates c.as_chunks.result.0.now ≡ c.args.places.now
  all = taken_all c.as_chunks.result.0.now c.args.places.now c.as_chunks.ensures.front c.args.n places_fit

-- so what is answered of them is that of the places
placed : (c : After-any_at_one_place) → c.any_at_one_place.result ≡ any_at_one_place c.args.n c.args.places.now
placed c =
    let t = (goal.at.After-any_at_one_place c).In_ok-judge_lent in
    c.any_at_one_place.ensures ∙ worked_from _ _ _ (all t) (places_fit t) any_at_one_place

pub returns-in_err-judge_lent-clause-number : goal.returns-in_err-judge_lent-clause-number
returns-in_err-judge_lent-clause-number c =
    let p = err_from_is_err_and c.from_residual.result c.from_residual.ensures.1 in
    let t = (goal.at.returns-in_err-judge_lent-clause-number c).After-as_chunks in
    rw (p.1, p.2) (by_sizes _ _ _ [] _ (c.in_err-judge_lent.ensures ∙ sizes t) (not_refused _))

pub returns-then-any_beyond-clause-number : goal.returns-then-any_beyond-clause-number
unfolding place_rules
returns-then-any_beyond-clause-number c =
    let t = (goal.at.returns-then-any_beyond-clause-number c).In_ok-judge_lent in
    then_places _ _ _ [] _ (sizes_good t) (rw (sym c.any_beyond.ensures ∙ c.if-any_beyond.true) refl)

pub returns-then-any_at_one_place-clause-number : goal.returns-then-any_at_one_place-clause-number
unfolding place_rules
returns-then-any_at_one_place-clause-number c =
    let t = goal.at.returns-then-any_at_one_place-clause-number c in
    then_places _ _ _ [] _ (sizes_good t.In_ok-judge_lent)
    (rw (near t.Else-any_beyond, sym (placed t.After-any_at_one_place) ∙ c.if-any_at_one_place.true) refl)

pub invariant_of-result : goal.invariant_of-result
invariant_of-result c =
    let t = goal.at.invariant_of-result c in
    record { near = ap (any_beyond 30000) (all t.In_ok-judge_lent) ∙ near t.Else-any_beyond }

pub returns : goal.returns
unfolding place_rules
returns c =
    let t = goal.at.returns c in
    record {
      number =
          then_places _ _ _ [] _ (sizes_good t.In_ok-judge_lent)
          (rw (near t.Else-any_beyond, sym (placed t.After-any_at_one_place) ∙ c.if-any_at_one_place.false) refl);
      zones = all t.In_ok-judge_lent;
    }
