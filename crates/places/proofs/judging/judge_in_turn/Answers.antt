-- `judge_in_turn` meets its contract. The loop's invariant: no zone passed breaks 10 or 11. Assumes nothing.
use mathlib.Core.Path.{◌≡◌, sym, ap, ◌∙◌}
use mathlib.Core.Bool.{true, false}
use mathlib.Core.List.{List, [], ◌∷◌}
use Prim.Native.Nat.{ℕ, ◌/◌, ◌<◌}
use native.Mathlib.Omega.{arith}
use lib.IntN.{ℤ}
use lib.ListN.{length}
use Rattle.whole.specs.Rules.{first_broken}
use Rattle.whole.specs.Search.{some, any_beyond}
use Rattle.whole.proofs.InTurn.{Numbered, turn_none, turn_next, turn_found, turn_done}
use Rattle.places.specs.Places.{across, up, at_one_place, place_rules_of, places_in_turn}
use Rattle.places.proofs.Coordinates.{Zones, earlier_is, taken}
use Rattle.places.proofs.judging.judge_in_turn.Goals as goal
use Rattle.places.proofs.judging.judge_in_turn.Goals.{In-loop-a, After-any_beyond, After-contains}

numbered : (places : List ℤ) (a : ℕ) → Numbered (place_rules_of places a)
unfolding place_rules_of
numbered places a = (tt, (tt, tt))

-- what the two tests say of zone a's rules
module _ (places : List ℤ) (a : ℕ) (beyond : any_beyond 30000 (across places a ∷ up places a ∷ []) ≡ false) where
  met : some (at_one_place places a) a ≡ true → 11 ≡ first_broken (place_rules_of places a)
  unfolding place_rules_of
  met e = rw (beyond, e)

  alone : some (at_one_place places a) a ≡ false → first_broken (place_rules_of places a) ≡ 0
  unfolding place_rules_of
  alone e = rw (beyond, e)

far : (places : List ℤ) (a : ℕ) → any_beyond 30000 (across places a ∷ up places a ∷ []) ≡ true → 10 ≡ first_broken (place_rules_of places a)
unfolding place_rules_of
far places a e = rw e

-- ---- a turn of the loop
module _ (c : In-loop-a) where
  abbrev places : List ℤ
  places = c.args.places.now

  read : Zones c.as_chunks.result.0.now places
  read = taken c.as_chunks.result.0.now places c.as_chunks.ensures.front

  inside : c.loop-a.a < length places / 2
  inside = omega (arith, c.as_chunks.ensures.front_len)

beyond_is :
    (c : After-any_beyond) →
    c.any_beyond.result ≡ any_beyond 30000 (across c.args.places.now c.loop-a.a ∷ up c.args.places.now c.loop-a.a ∷ [])
beyond_is c = c.any_beyond.ensures ∙ ap (any_beyond 30000) (read ((goal.at.After-any_beyond c).In-loop-a) c.loop-a.a (omega arith))

earlier : (c : After-contains) → c.contains.result ≡ some (at_one_place c.args.places.now c.loop-a.a) c.loop-a.a
earlier c =
    c.contains.ensures.value ∙ earlier_is _ c.args.places.now (read ((goal.at.After-contains c).In-loop-a)) c.loop-a.a (omega arith)

pub loop-a-init : goal.loop-a-init
loop-a-init c = turn_none (place_rules_of _) (numbered _)

pub returns-then-any_beyond : goal.returns-then-any_beyond
unfolding places_in_turn
returns-then-any_beyond c =
    let t = (goal.at.returns-then-any_beyond c).After-any_beyond in
    turn_found (place_rules_of _) (numbered _) _ c.loop-a.a 10 (inside ((goal.at.returns-then-any_beyond c).In-loop-a)) c.loop-a.invariant
    (far _ _ (sym (beyond_is t) ∙ c.if-any_beyond.true)) (λ z. omega arith)

pub returns-then-contains : goal.returns-then-contains
unfolding places_in_turn
returns-then-contains c =
    let t = goal.at.returns-then-contains c in
    turn_found (place_rules_of _) (numbered _) _ c.loop-a.a 11 (inside t.In-loop-a) c.loop-a.invariant
    (met _ _ (sym (beyond_is t.After-any_beyond) ∙ c.if-any_beyond.false) (sym (earlier t.After-contains) ∙ c.if-contains.true))
    (λ z. omega arith)

pub loop-a-preserved : goal.loop-a-preserved
loop-a-preserved c =
    let t = goal.at.loop-a-preserved c in
    turn_next (place_rules_of _) (numbered _) c.loop-a.a c.loop-a.invariant
    (alone _ _ (sym (beyond_is t.After-any_beyond) ∙ c.if-any_beyond.false) (sym (earlier t.After-contains) ∙ c.if-contains.false))

pub returns : goal.returns
unfolding places_in_turn
returns c = turn_done (place_rules_of _) (numbered _) c.loop-a.a _ (omega (arith, c.as_chunks.ensures.front_len)) c.loop-a.invariant
