-- `print_answer` is safe: by the contract of `nearest` its float is no NaN, so that its bits can be read. Assumes nothing.
use Rattle.nearest.proofs.Theorems.{answered_not_nan}
use Rattle.ratios.proofs.print_answer.Goals as goal

pub float_to_bits-x : goal.float_to_bits-x
float_to_bits-x g c = answered_not_nan _ _ _ _ c.nearest.ensures.nearest c.in-Ok.is
