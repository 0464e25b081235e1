-- What the calls answer that find the kept zones of a job, and what they leave in the list that they are lent. Kept are those that touch
-- some other by the weights that count. Assumes nothing.
use Rattle.std.specs.Prelude.{cond, List, [], ◌∷◌, ℕ, ◌*◌, ℤ, length, Result, Ok, Err}
use Rattle.refusals.specs.declared.Refusal.{Refusal}
use Rattle.whole.specs.Rules.{first_broken, size_rules, unless_refused}
use Rattle.whole.specs.Table.{table, over}
use Rattle.kept.specs.Kept.{keeps, kept_zones, kept_count}
use Rattle.kept.specs.Returned.{reduced}

-- ---- what is refused

-- 1 and 2, of a call that is lent n values, n × n weights and one list more, which must have so many places; the refusal is 0 where no
-- rule is broken
unfoldable pub lists_refusal : ℕ → ℕ → ℕ → ℕ → ℕ → ℕ
lists_refusal n values weights lent places = first_broken (size_rules n ((values, n) ∷ (weights, n * n) ∷ (lent, places) ∷ []))

-- ---- the kept zones in a list: 64 places are lent

-- how many zones are kept, none where the call is refused
unfoldable pub many_in : Result ℕ Refusal → List ℕ
many_in (Ok many) = many ∷ []
many_in (Err refusal) = []

module _ (n : ℕ) (values : List ℤ) (weights zones : List ℕ) where
  abbrev pub keep_refusal : ℕ
  keep_refusal = lists_refusal n (length values) (length weights) (length zones) 64

  unfoldable pub keep_many : List ℕ
  keep_many = unless_refused keep_refusal (kept_count n (reduced n values weights) ∷ []) []

  -- what the lent list holds after the call: the kept zones, rising, at its front
  unfoldable pub keep_left : List ℕ
  keep_left = unless_refused keep_refusal (over (kept_zones n (reduced n values weights)) zones) zones

-- ---- a mark for each zone: n places are lent

module _ (n : ℕ) (values : List ℤ) (weights marks : List ℕ) where
  abbrev pub marks_refusal : ℕ
  marks_refusal = lists_refusal n (length values) (length weights) (length marks) n

  -- what the lent list holds after the call: 1 for a zone that is kept, 0 for one that is left out
  unfoldable pub marks_left : List ℕ
  marks_left = unless_refused marks_refusal (table (λ i. cond (keeps n (reduced n values weights) i) 1 0) n) marks

-- ---- the weights that count: n × n places are lent

module _ (n : ℕ) (values : List ℤ) (weights counting : List ℕ) where
  abbrev pub reduce_refusal : ℕ
  reduce_refusal = lists_refusal n (length values) (length weights) (length counting) (n * n)

  -- what the lent list holds after the call
  unfoldable pub reduce_left : List ℕ
  reduce_left = unless_refused reduce_refusal (reduced n values weights) counting
