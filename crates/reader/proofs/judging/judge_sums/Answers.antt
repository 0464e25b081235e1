-- `judge_sums` meets its contract: the job's judge is asked of copies that break none of 1 to 5, so that 6 and 7 decide. Assumes nothing.
use mathlib.Core.Path.{◌≡◌, refl, ap, ◌∙◌}
use mathlib.Core.Bool.{false}
use mathlib.Core.List.{List}
use Prim.Native.Nat.{ℕ, ◌≤◌}
use borrow.Author.Rules.{rules}
use lib.IntN.{ℤ}
use lib.ListN.{length}
use Rattle.refusals.specs.Refusals.{number_of}
use Rattle.whole.specs.Rules.{first_broken}
use Rattle.whole.specs.Table.{table}
use Rattle.whole.proofs.Table.{table_length}
use Rattle.judges.specs.Values.{any_value_beyond}
use Rattle.account.specs.Refusals.{sum_rules, job_refusal}
use Rattle.image.specs.Image.{signed_words}
use Rattle.image.specs.Joins.{weights_of}
use Rattle.image.proofs.JoinWeight.{weights_length}
use Rattle.image.proofs.Weights.{joins_light, joins_clear, sums_decide}
use Rattle.reader.specs.Steps.{Joinable, join_at}
use Rattle.reader.proofs.judging.judge_sums.Goals as goal

-- what the job's judge answers of copies that are the values and the weights
judged :
    (n : ℕ) (values given : List ℤ) (joins : List (List ℕ)) (weights : List ℕ) → let l = table (join_at joins) (length joins) in 2 ≤ n →
    any_value_beyond values ≡ false → Joinable n joins → length values ≡ n → given ≡ values → weights ≡ weights_of n l →
    job_refusal n given weights ≡ first_broken (sum_rules n values (weights_of n l))
judged n values given joins weights two near good long v w =
    let l = table (join_at joins) (length joins) in
    ap (λ t. job_refusal n t weights) v
    ∙ ap (job_refusal n values) w
    ∙ sums_decide n values (weights_of n l) two good.zones long (weights_length n l) near
    (joins_light n (join_at joins) (length joins) good.sound) (joins_clear n (join_at joins) (length joins) good.sound)

pub returns : goal.returns
returns c =
    let a = c.args in
    let values = signed_words a.n a.items.now in
    let l = table (join_at a.joins.now) (length a.joins.now) in
    let told : number_of c.judge_entries.result ≡ job_refusal a.n values c.put_joins.new.weights = search rules in
    told ∙ judged a.n values values a.joins.now _ c.requires.two c.requires.near c.requires.joins (table_length _ a.n) refl c.put_joins.ensures
