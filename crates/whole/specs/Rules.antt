-- Numbered rules, the refusal that they lead to, and what a refusal leaves. Assumes nothing.
use Rattle.std.specs.Prelude.{◌≡◌, Bool, true, false, not, cond, ◌||◌, List, [], ◌∷◌, ◌++◌, ◌⊎◌, ℕ, zero, suc, ltb, eqb}

-- a rule: whether it is broken, and its number
abbrev pub Rule : Type 0
Rule = Bool × ℕ

-- the number of the first rule that is broken, 0 where none is
abbrev pub first_broken : List Rule → ℕ
first_broken [] = 0
first_broken (rule ∷ rules) = cond rule.0 rule.1 (first_broken rules)

-- the rules of item 0, then those of item 1, .., then those of item k − 1
unfoldable pub in_turn : (ℕ → List Rule) → ℕ → List Rule
in_turn rules zero = []
in_turn rules (suc k) = in_turn rules k ++ rules k

-- the number applies: a rule with that number is broken
abbrev pub Applies : ℕ → List Rule → Type 0
Applies number [] = ⊥
Applies number (rule ∷ rules) = ((rule.0 ≡ true) × (rule.1 ≡ number)) ⊎ Applies number rules

-- `worked` where nothing is refused, and `kept` where the call is refused
abbrev pub unless_refused : {A : Type 0} → ℕ → A → A → A
unless_refused refusal worked kept = cond (eqb refusal 0) worked kept

-- ---- the first two rules of document 01, which every call that is lent lists has

-- n is outside the range
abbrev pub outside : ℕ → ℕ → ℕ → Bool
outside lowest highest n = ltb n lowest || ltb highest n

-- a list has another length than it must: each pair is a list's length and the length that it must have
abbrev pub misfits : List (ℕ × ℕ) → Bool
misfits [] = false
misfits (one ∷ others) = not (eqb one.0 one.1) || misfits others

-- 1 and 2: n outside 2 to 64, and a lent list not of its exact length
abbrev pub size_rules : ℕ → List (ℕ × ℕ) → List Rule
size_rules n lengths = (outside 2 64 n, 1) ∷ (misfits lengths, 2) ∷ []

-- ---- the limit that the account's numbers keep and part 2 judges by

-- 6×10^18, which no numerator and no divisor exceeds in size
abbrev pub ratio_limit : ℕ
ratio_limit = 6000000000000000000
