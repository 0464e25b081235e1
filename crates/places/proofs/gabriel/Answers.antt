-- `gabriel` meets its contract: judged first, and worked only where no rule is broken. Assumes nothing.
use mathlib.Core.Path.{◌≡◌, sym, ap, ◌∙◌}
use Prim.Native.Nat.{◌*◌}
use lib.ListN.{length}
use Rattle.std.proofs.lemmas.Result.{err_from_is_err_and}
use Rattle.refusals.proofs.Refusals.{left_by, worked_by}
use Rattle.places.specs.Gabriel.{gabriel_network, gabriel_refusal, gabriel_left}
use Rattle.places.proofs.Accepted.{Fitting, gabriel_accepted}
use Rattle.places.proofs.Coordinates.{zones_count, worked_from}
use Rattle.places.proofs.gabriel.Goals as goal
use Rattle.places.proofs.gabriel.Goals.{In_ok-zones}

pub returns-in_err-zones : goal.returns-in_err-zones
unfolding gabriel_refusal gabriel_left
returns-in_err-zones c =
    let p = err_from_is_err_and c.from_residual.result c.from_residual.ensures.1 in
    let e = c.in_err-zones.ensures.number in
    rw (p.1, p.2) (record { number = e; lent = sym (left_by _ _ _ _ e) })

-- nothing is refused, and the zones that are joined are those of the places
module _ (c : In_ok-zones) where
  none : 0 ≡ gabriel_refusal c.args.n c.args.places.now (length c.args.weights.now)
  unfolding gabriel_refusal
  none = c.in_ok-zones.ensures.number

  sizes : Fitting c.args.n (length c.args.places.now) (length c.args.weights.now)
  sizes = (gabriel_accepted _ _ _ (sym none)).sizes

pub join_pairs-requires : goal.join_pairs-requires
join_pairs-requires c =
    let s = sizes ((goal.at.join_pairs-requires c).In_ok-zones) in
    s.room_fit ∙ ap (λ k. k * k) (sym (zones_count _ _ _ c.in_ok-zones.ensures.zones s.places_fit))

pub returns : goal.returns
unfolding gabriel_left
returns c =
    let t = (goal.at.returns c).In_ok-zones in
    record {
      number = none t;
      lent =
          c.join_pairs.ensures
          ∙ worked_from _ _ _ c.in_ok-zones.ensures.zones (sizes t).places_fit gabriel_network
          ∙ sym (worked_by _ _ _ (none t));
    }
