-- What a call or a place means: a value, and the counts of what is done on the way.
use Rattle.std.specs.Prelude.{ℕ, ◌+◌, Option, Some, None, List, [], ◌∷◌, slice_index_or}
use Rattle.task_syntax.specs.declared.value.Value.{Value}
use Rattle.task_syntax.specs.declared.value.Value.TheVariants.{Number, Trapped}

-- how many tasks there are, and how many activations start
pub record Counts : Type 0 where
  pub tasks : ℕ
  pub activations : ℕ

-- the value, where there is one, and the counts, where all that is called has a value
pub record Meant : Type 0 where
  pub value : Option Value
  pub counts : Option Counts

abbrev pub counted : ℕ → ℕ → Option Counts
counted tasks activations = Some (record { tasks = tasks; activations = activations })

-- both counts together
abbrev pub total : Counts → Counts → Counts
total a b = record { tasks = a.tasks + b.tasks; activations = a.activations + b.activations }

-- both counts together, where both are given
abbrev pub plus : Option Counts → Option Counts → Option Counts
plus None b = None
plus (Some a) None = None
plus (Some a) (Some b) = Some (total a b)

-- no value
abbrev pub nothing : Meant
nothing = record { value = None; counts = None }

-- this value at once
abbrev pub gives : Value → Meant
gives v = record { value = Some v; counts = counted 0 0 }

-- this value and these counts
abbrev pub given : Value → Counts → Meant
given v k = record { value = Some v; counts = Some k }

-- the same value, and more is counted
abbrev pub adding : Option Counts → Meant → Meant
adding more m = record { value = m.value; counts = plus more m.counts }

-- goes on with the value, where there is one
abbrev pub with_value : Option Value → (Value → Meant) → Meant
with_value None go = nothing
with_value (Some v) go = go v

-- goes on with the number; a trap ends it
abbrev pub with_number : Value → (ℕ → Meant) → Meant
with_number (Number n) go = go n
with_number (Trapped t) go = gives (Trapped t)

-- what the future at a position names
abbrev pub future_at : {A : Type 0} → List (Option A) → ℕ → Option A
future_at futures x = slice_index_or futures x None

-- m, where the future that it waits for has a value
abbrev pub behind : Option ℕ → List (Option Value) → Meant → Meant
behind None futures m = m
behind (Some x) futures m = with_value (future_at futures x) (λ v. m)

-- m, where each of these futures has a value
abbrev pub behind_all : List ℕ → List (Option Value) → Meant → Meant
behind_all [] futures m = m
behind_all (x ∷ more) futures m = behind (Some x) futures (behind_all more futures m)
