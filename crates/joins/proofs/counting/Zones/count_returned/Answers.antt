-- `count_returned` meets its contract: the weights that count are made at the front of room of its own, and counted there. Assumes nothing.
use Rattle.std.proofs.Common.{rules, ap, ◌∙◌, length}
use Rattle.whole.specs.Search.{any_above}
use Rattle.kept.proofs.Reduced.{reduced_length, reduced_above}
use Rattle.kept.proofs.Sized.{Reduces, reduces}
use Rattle.joins.specs.Joins.{join_table}
use Rattle.joins.proofs.counting.Zones.count_returned.Goals as goal
use Rattle.joins.proofs.counting.Zones.count_returned.Goals.{After-reduce}

-- nothing is refused, so that the weights that count are made
made :
    (c : After-reduce) →
    let z = c.args.self.now in
    Reduces z.n c.args.values.now z.weights.now c.reduce.new.counting c.reduce.result
made c =
    let z = c.args.self.now in
    reduces _ c.reduce.ensures.number c.reduce.ensures.lent
    (record { two = c.requires.two; zones = z.few; values_fit = c.requires.values_len; weights_fit = z.weights_fit; lent_fit = search rules })

pub unwrap-requires : goal.unwrap-requires
unwrap-requires c = (made ((goal.at.unwrap-requires c).After-reduce)).taken

pub invariant_of-zones : goal.invariant_of-zones
invariant_of-zones c =
    let z = c.args.self.now in
    let m = (made ((goal.at.invariant_of-zones c).After-reduce)).made in record {
      few = z.few;
      categories_fit = z.categories_fit;
      weights_fit = ap length m ∙ reduced_length z.n c.args.values.now z.weights.now;
      light = ap (any_above 9) m ∙ reduced_above z.n c.args.values.now z.weights.now 9 z.weights_fit z.light;
      low = z.low;
    }

pub returns : goal.returns
returns c =
    let z = c.args.self.now in
    c.count_joins.ensures ∙ ap (join_table z.n z.categories.now) (made ((goal.at.returns c).After-reduce)).made
