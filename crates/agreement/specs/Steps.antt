-- What the private functions ask of each other; no part of the public promise. Assumes nothing.
use Rattle.std.specs.Prelude.{◌≡◌, List, [], ℕ, ◌*◌, ℤ, length}
use Rattle.whole.specs.Rules.{first_broken}
use Rattle.nearest.specs.declared.Side.{Side}
use Rattle.account.specs.Classes.{class_rules}
use Rattle.agreement.specs.EveryFigure.{job_lists}

-- a job that the class account accepted, and lists that the other three calls can be lent
pub record Callable (n : ℕ) (values : List ℤ) (weights classes : List ℕ) (locals : List ℤ)
    (figures : List ℕ) (sides : List Side) (parts : List ℕ) (part_sides : List Side) (plain_rows plain_locals : List ℤ)
    (plain_figures : List ℕ) (plain_sides : List Side) : Type 0 where
  pub accepted : first_broken (class_rules n values weights classes []) ≡ 0
  pub locals_fit : length locals ≡ n
  pub figures_fit : length figures ≡ n
  pub sides_fit : length sides ≡ n
  pub parts_fit : length parts ≡ 9 * n
  pub part_sides_fit : length part_sides ≡ 9 * n
  pub plain_rows_fit : length plain_rows ≡ 27
  pub plain_locals_fit : length plain_locals ≡ n
  pub plain_figures_fit : length plain_figures ≡ n
  pub plain_sides_fit : length plain_sides ≡ n

-- what these lists then hold
pub record OthersLeft (n : ℕ) (values : List ℤ) (weights classes : List ℕ) (locals : List ℤ)
    (figures : List ℕ) (sides : List Side) (parts : List ℕ) (part_sides : List Side) (plain_rows plain_locals : List ℤ)
    (plain_figures : List ℕ) (plain_sides : List Side) : Type 0 where
  pub in_locals : locals ≡ (job_lists n values weights classes).locals
  pub in_figures : figures ≡ (job_lists n values weights classes).figures
  pub in_sides : sides ≡ (job_lists n values weights classes).sides
  pub in_parts : parts ≡ (job_lists n values weights classes).parts
  pub in_part_sides : part_sides ≡ (job_lists n values weights classes).part_sides
  pub in_plain_rows : plain_rows ≡ (job_lists n values weights classes).plain_rows
  pub in_plain_locals : plain_locals ≡ (job_lists n values weights classes).plain_locals
  pub in_plain_figures : plain_figures ≡ (job_lists n values weights classes).plain_figures
  pub in_plain_sides : plain_sides ≡ (job_lists n values weights classes).plain_sides
