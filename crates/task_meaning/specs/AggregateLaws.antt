-- An aggregate under way: what it still gives, and how many activations it still counts.
use Rattle.std.specs.Prelude.{◌≡◌, ℕ, suc, ◌-◌, ◌<◌, ◌↔◌, Option, Some, None, List, map, length, drop, slice_get}
use Rattle.task_syntax.specs.Places.{Each}
use Rattle.task_syntax.specs.Form.{IsWellFormed}
use Rattle.task_syntax.specs.declared.value.Value.{Value}
use Rattle.task_syntax.specs.declared.value.Value.TheVariants.{Number}
use Rattle.task_syntax.specs.declared.program.Program.{Program}
use Rattle.task_syntax.specs.declared.columns.Columns.{Columns}
use Rattle.task_meaning.specs.Meant.{Counts, Meant, counted, total, gives, adding, future_at, behind, behind_all}
use Rattle.task_meaning.specs.Frame.{FrameOf, set_future}
use Rattle.task_meaning.specs.Worths.{Accepted, worths}
use Rattle.task_meaning.specs.Acts.{Gathers, ActsAt}
use Rattle.task_meaning.specs.Leads.{no_counts}
use Rattle.task_meaning.specs.FrameLaws.{WorthGives, HasWorth}
use Rattle.task_meaning.specs.FrameCounts.{RestCounts}
use Rattle.task_meaning.specs.AcceptedLaws.{IsAggregateAt}

-- What follows from an aggregate whose activation is behind a task, where the first `next` members are dealt with:
-- it waits for the others, one activation for each, and is worth 0.
abbrev pub rest_of_members : Program → Columns → ℕ → List Accepted → Option ℕ → List ℕ → ℕ → Meant
rest_of_members p c n accepted waits members next =
    behind waits (worths p c n accepted)
    (behind_all (drop next members) (worths p c n accepted) (adding (counted 0 (length members - next)) (gives (Number 0))))

-- some fuel gives the value, or the counts, of what follows from an aggregate under way
abbrev pub MembersGive : Program → Columns → List Accepted → Option ℕ → List ℕ → ℕ → Value → Type 0
MembersGive p c accepted waits members next v = (n : ℕ) × ((rest_of_members p c n accepted waits members next).value ≡ Some v)

abbrev pub MembersCount : Program → Columns → List Accepted → Option ℕ → List ℕ → ℕ → Counts → Type 0
MembersCount p c accepted waits members next k = (n : ℕ) × ((rest_of_members p c n accepted waits members next).counts ≡ Some k)

-- each of these tasks has a worth
abbrev pub HaveWorths : Program → Columns → List Accepted → List ℕ → Type 0
HaveWorths p c accepted tasks = Each tasks (λ t. HasWorth p c accepted (Some t))

-- each of the tasks before a position has a worth
abbrev pub HaveWorthsBefore : Program → Columns → List Accepted → ℕ → List ℕ → Type 0
HaveWorthsBefore p c accepted position tasks = (at t : ℕ) → at < position → slice_get tasks at ≡ Some t → HasWorth p c accepted (Some t)

-- an aggregate is worth 0, and that exactly where each member has a worth
abbrev pub AggregatesNeedAllWorths : Type 0
AggregatesNeedAllWorths = (p : Program) (c : Columns) (accepted : List Accepted) (position : ℕ) (members : List ℕ) (v : Value)
    → IsAggregateAt accepted position members
    → WorthGives p c accepted (suc position) v ↔ (HaveWorths p c accepted members × (Number 0 ≡ v))

-- Where the members so far have worths, an aggregate under way gives what its call gives: it is behind the next member,
-- and then has the later ones to wait for.
abbrev pub MembersGiveWorth : Type 0
MembersGiveWorth = (p : Program) (c : Columns) (accepted : List Accepted) (position : ℕ) (members : List ℕ) (next u : ℕ) (v : Value)
    → IsAggregateAt accepted position members → HaveWorthsBefore p c accepted next members → slice_get members next ≡ Some u
    → WorthGives p c accepted (suc position) v ↔ MembersGive p c accepted (Some u) members (suc next) v

-- an aggregate under way needs the worths that are missing, and counts one activation for each member that is left
abbrev pub MembersLeftGive : Type 0
MembersLeftGive = (p : Program) (c : Columns) (accepted : List Accepted) (waits : Option ℕ) (members : List ℕ) (next : ℕ) (v : Value)
    → MembersGive p c accepted waits members next v
    ↔ (HasWorth p c accepted waits × HaveWorths p c accepted (drop next members) × (Number 0 ≡ v))

abbrev pub MembersLeftCount : Type 0
MembersLeftCount = (p : Program) (c : Columns) (accepted : List Accepted) (waits : Option ℕ) (members : List ℕ) (next : ℕ) (k : Counts)
    → MembersCount p c accepted waits members next k
    ↔ (HasWorth p c accepted waits × HaveWorths p c accepted (drop next members) × (record { tasks = 0; activations = length members - next } ≡ k))

-- it goes on behind the next member: the value stays, and one activation is counted
abbrev pub MembersKeepRest : Type 0
MembersKeepRest = (p : Program) (c : Columns) (accepted : List Accepted) (waits : Option ℕ) (members : List ℕ) (next u : ℕ) (v : Value)
    → slice_get members next ≡ Some u → HasWorth p c accepted waits
    → MembersGive p c accepted waits members next v ↔ MembersGive p c accepted (Some u) members (suc next) v

abbrev pub MembersAddCounts : Type 0
MembersAddCounts = (p : Program) (c : Columns) (accepted : List Accepted) (waits : Option ℕ) (members : List ℕ) (next u : ℕ) (k : Counts)
    → slice_get members next ≡ Some u → HasWorth p c accepted waits
    → MembersCount p c accepted waits members next k
    ↔ ((j : Counts) × MembersCount p c accepted (Some u) members (suc next) j × (k ≡ total (record { tasks = 0; activations = 1 }) j))

-- without a further member it ends: it gives 0, and no more is counted
abbrev pub LastMembersGive : Type 0
LastMembersGive = (p : Program) (c : Columns) (accepted : List Accepted) (waits : Option ℕ) (members : List ℕ) (next : ℕ) (v : Value)
    → slice_get members next ≡ None → HasWorth p c accepted waits → MembersGive p c accepted waits members next v ↔ (Number 0 ≡ v)

abbrev pub LastMembersCount : Type 0
LastMembersCount = (p : Program) (c : Columns) (accepted : List Accepted) (waits : Option ℕ) (members : List ℕ) (next : ℕ) (k : Counts)
    → slice_get members next ≡ None → HasWorth p c accepted waits → MembersCount p c accepted waits members next k ↔ (no_counts ≡ k)

-- at the line of an aggregate: one task and one activation, what the aggregate counts behind its first member, and what is
-- counted from the next frame
abbrev pub AggregatesBeginCounts : Type 0
AggregatesBeginCounts =
    (p : Program) (c : Columns) (accepted : List Accepted) (position : ℕ) (waits : Option ℕ) (q : FrameOf ℕ) (to : ℕ) (members tasks : List ℕ) (u : ℕ) (k : Counts)
    → IsWellFormed p → ActsAt p c q (Gathers to members) → map (future_at q.futures) members ≡ map Some tasks → IsAggregateAt accepted position tasks
    → slice_get tasks 0 ≡ Some u
    → RestCounts p c accepted waits q k
    ↔ ((i : Counts) × (j : Counts) × MembersCount p c accepted (Some u) tasks 1 i
    × RestCounts p c accepted waits (set_future q to (Some (suc position))) j
    × (k ≡ total (record { tasks = 1; activations = 1 }) (total i j)))
