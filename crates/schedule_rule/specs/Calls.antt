-- What is said of accepted calls and of ends by number. Calls are numbered from 1; a task has the number of its first activation.
use Rattle.std.specs.Prelude.{◌≡◌, ◌≢◌, ℕ, ◌<◌, ◌≤◌, ◌==◌, ◌&&◌, Bool, nat_lt, nat_le, List, [], ◌∷◌, length, Option, Some, None, slice_get, IfSome}
use Rattle.record_core.specs.Sums.{total, below}
use Rattle.record_core.specs.Counting.{Has, one_if}
use Rattle.record_core.specs.Numbers.{by_number}
use Rattle.task_syntax.specs.Valid.{Agrees}
use Rattle.task_syntax.specs.declared.program.Sort.{Sort}
use Rattle.task_syntax.specs.declared.program.Sort.TheVariants as sort
use Rattle.task_syntax.specs.declared.program.Kind.{Kind}
use Rattle.task_syntax.specs.declared.program.Program.{Program}
use Rattle.task_meaning.specs.Frame.{CallOf}
use Rattle.task_meaning.specs.Worths.{Accepted, OfCall, OfAll, Respawn}
use Rattle.table_core.specs.Lists.{Each}
use Rattle.table_core.specs.Story.{Outcome, End, Fact, IsAccepted, IsOver, IsTask}

-- the sort of an argument, by the future that it has
abbrev pub sort_passed : Option ℕ → Sort
sort_passed None = sort.Number
sort_passed (Some t) = sort.Future

-- The program has the kind, and the arguments agree with those of the kind in number and sort.
pub record IsCallOf (p : Program) (call : CallOf ℕ) : Type 0 where
  pub kind : call.kind < length p.kinds
  pub numbers : (k : Kind) → slice_get p.kinds call.kind ≡ Some k → length call.numbers ≡ k.arguments
  pub futures : (k : Kind) → slice_get p.kinds call.kind ≡ Some k → Agrees sort_passed k call.futures

-- what is accepted is something that the program may ask for
abbrev pub Suits : Program → Accepted → Type 0
Suits p (OfCall call waits) = IsCallOf p call
Suits p (OfAll members) = Unit {0}
Suits p (Respawn task waits) = Unit {0}

-- this is the member with the number n
abbrev pub AtNumber : {A : Type 0} → List A → ℕ → A → Type 0
AtNumber l n x = by_number l n ≡ Some x

-- the task of what was accepted under the number n
abbrev pub task_in : Option Accepted → ℕ → ℕ
task_in (Some (Respawn task waits)) n = task
task_in (Some (OfCall call waits)) n = n
task_in (Some (OfAll members)) n = n
task_in None n = n

-- an aggregate begins behind its first member
abbrev pub first_in : List ℕ → Option ℕ
first_in [] = None
first_in (member ∷ more) = Some member

-- the predecessor of what was accepted
abbrev pub after_in : Option Accepted → Option ℕ
after_in (Some (Respawn task waits)) = waits
after_in (Some (OfCall call waits)) = waits
after_in (Some (OfAll members)) = first_in members
after_in None = None

module _ (calls : List Accepted) where
  abbrev pub task_of : ℕ → ℕ
  task_of n = task_in (by_number calls n) n

  abbrev pub after_of : ℕ → Option ℕ
  after_of n = after_in (by_number calls n)

  -- the number is that of an accepted call
  abbrev pub is_number : ℕ → Bool
  is_number n = nat_lt 0 n && nat_le n (length calls)

  abbrev pub IsNumber : ℕ → Type 0
  IsNumber n = (1 ≤ n) × (n ≤ length calls)

  -- and a task's first
  abbrev pub IsTaskOf : ℕ → Type 0
  IsTaskOf t = IsNumber t × (task_of t ≡ t)

  -- the second, t, is a task; it was accepted before the first, the number n
  abbrev pub IsBefore : ℕ → ℕ → Type 0
  IsBefore n t = (t < n) × IsTaskOf t

  -- what the call of number n names was accepted before it; an aggregate has 1 to 8 members
  abbrev pub NamesEarlier : ℕ → Accepted → Type 0
  NamesEarlier n (OfCall call waits) = Each (λ o. IfSome o (IsBefore n)) call.futures × IfSome waits (IsBefore n)
  NamesEarlier n (OfAll members) = (1 ≤ length members) × (length members ≤ 8) × Each (IsBefore n) members
  NamesEarlier n (Respawn task waits) = IsBefore n task × IfSome waits (IsBefore n)

  -- how many activations of the task t were accepted before the number n
  abbrev pub begun : ℕ → ℕ → ℕ
  begun t = below (λ n. one_if (task_of n == t))

  -- Calls name earlier tasks, and an aggregate's activations are behind its members, one after the other.
  pub record CallsSound : Type 0 where
    pub earlier : (n : ℕ) (call : Accepted) → AtNumber calls n call → NamesEarlier n call
    pub in_turn : (t n : ℕ) (members : List ℕ) (waits : Option ℕ) → AtNumber calls t (OfAll members) → AtNumber calls n (Respawn t waits)
        → (begun t n < length members) × (waits ≡ slice_get members (begun t n))

  -- of the task of this number no later number is
  abbrev pub IsLast : ℕ → Type 0
  IsLast n = (m : ℕ) → IsNumber m → n < m → task_of m ≢ task_of n

-- how many ends are of the task t
abbrev pub ends_of : ℕ → List End → ℕ
ends_of t = total (λ e. one_if (e.task == t))

-- the task ended so
abbrev pub Ended : List End → ℕ → Outcome → Type 0
Ended ends t outcome = Has (record { task = t; outcome = outcome }) ends

abbrev pub IsComplete : List End → ℕ → Type 0
IsComplete ends t = (outcome : Outcome) × Ended ends t outcome

-- what a pass knows of the story is so
abbrev pub IsSo : List Accepted → List End → Fact → Type 0
IsSo calls ends (IsAccepted n call) = AtNumber calls n call
IsSo calls ends (IsOver t outcome) = Ended ends t outcome
IsSo calls ends (IsTask t) = IsTaskOf calls t

-- Each number stands in one pass's calls, as it was accepted.
pub record CallersSound (calls : List Accepted) (vs : List (List (ℕ × Accepted))) : Type 0 where
  pub once : (n : ℕ) → total (λ known. total (λ x. one_if (x.0 == n)) known) vs ≡ one_if (is_number calls n)
  pub same : Each (Each (λ x. AtNumber calls x.0 x.1)) vs
