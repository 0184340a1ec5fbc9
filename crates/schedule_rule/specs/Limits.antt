-- That the limit is met where an answer, a root or an end says so.
use Rattle.std.specs.Prelude.{◌≡◌, ℕ, ◌≤◌, Bool, true, false, List, length}
use Rattle.task_meaning.specs.Worths.{Accepted}
use Rattle.table_core.specs.Asking.{Answer, Refusal, IsNull, IsLimit}
use Rattle.table_core.specs.Holdings.{RootSays, Record, Null, Limit, Skipped}
use Rattle.table_core.specs.Lists.{Each}
use Rattle.table_core.specs.Story.{Outcome, Gave, WasCut, End}

-- what a pass was answered, and what it has of the turn
pub record Told : Type 0 where
  pub answers : List Answer
  pub turn : List (List RootSays)

abbrev pub is_limit : Refusal → Bool
is_limit IsNull = false
is_limit IsLimit = true

-- a root was refused by the limit
abbrev pub is_limit_root : RootSays → Bool
is_limit_root (Record unit) = false
is_limit_root Null = false
is_limit_root Limit = true
is_limit_root (Skipped root) = false

-- a task was cut by the limit, its own or that of a predecessor
abbrev pub is_limit_end : Outcome → Bool
is_limit_end (Gave value) = false
is_limit_end (WasCut cut refusal) = is_limit refusal

-- as many calls are accepted as there may be
abbrev pub IsMet : ℕ → List Accepted → Type 0
IsMet limit calls = limit ≤ length calls

-- what a pass was told of the limit is so
pub record ToldSound (limit : ℕ) (calls : List Accepted) (h : Told) : Type 0 where
  pub answers : Each (λ (a : Answer). is_limit a.refusal ≡ true → IsMet limit calls) h.answers
  pub roots : Each (Each (λ says. is_limit_root says ≡ true → IsMet limit calls)) h.turn

pub record LimitsSound (limit : ℕ) (calls : List Accepted) (ends : List End) (vs : List Told) : Type 0 where
  pub told : Each (ToldSound limit calls) vs
  pub ended : Each (λ (e : End). is_limit_end e.outcome ≡ true → IsMet limit calls) ends
