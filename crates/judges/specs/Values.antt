-- Values, and the one of them that marks a value not returned (request A.7), to which rule 3 does not apply. Assumes nothing.
use Rattle.std.specs.Prelude.{Bool, not, ◌&&◌, List, ℕ, ℤ, negsuc, length}
use Rattle.whole.specs.Integer.{beyond, equal}
use Rattle.whole.specs.Search.{some}
use Rattle.whole.specs.Table.{at}

-- the value that marks a value not returned: −2,147,483,648
abbrev pub not_returned : ℤ
not_returned = negsuc 2147483647

-- the value of zone i is not returned
unfoldable pub missing : List ℤ → ℕ → Bool
missing values i = equal (at values i) not_returned

-- rule 3: some value that is returned is beyond 100,000 in size
unfoldable pub any_value_beyond : List ℤ → Bool
any_value_beyond values = some (λ k. not (missing values k) && beyond 100000 (at values k)) (length values)
