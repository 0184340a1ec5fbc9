-- What the roots of a program mean. They are called in order, and each is passed the values of the earlier ones that it names.
use Rattle.std.specs.Prelude.{◌≡◌, ℕ, Option, Some, None, List, [], ◌∷◌, ◌++◌, map}
use Rattle.task_syntax.specs.declared.value.Value.{Value}
use Rattle.task_syntax.specs.declared.program.RootArgument.{RootArgument}
use Rattle.task_syntax.specs.declared.program.RootArgument.TheVariants as root_argument
use Rattle.task_syntax.specs.declared.program.Root.{Root as RootLine}
use Rattle.task_syntax.specs.declared.program.Program.{Program}
use Rattle.task_syntax.specs.declared.columns.Columns.{Columns}
use Rattle.task_meaning.specs.Meant.{Counts, Meant, counted, plus, future_at, behind}
use Rattle.task_meaning.specs.Frame.{CallOf}
use Rattle.task_meaning.specs.Meaning.{mean}

abbrev pub root_number : RootArgument → ℕ
root_number (root_argument.Number n) = n
root_number (root_argument.Root r) = 0

abbrev pub root_future : {A : Type 0} → List (Option A) → RootArgument → Option A
root_future earlier (root_argument.Number n) = None
root_future earlier (root_argument.Root r) = future_at earlier r

-- the call of a root
abbrev pub root_call : {A : Type 0} → List (Option A) → RootLine → CallOf A
root_call earlier root = record { kind = root.kind; numbers = map root_number root.arguments; futures = map (root_future earlier) root.arguments }

abbrev pub values_of : List Meant → List (Option Value)
values_of ms = map (λ (m : Meant). m.value) ms

-- what a root means behind earlier ones of these values
abbrev pub mean_root : Program → Columns → ℕ → List (Option Value) → RootLine → Meant
mean_root p c n earlier root = behind root.behind earlier (mean p c n (root_call earlier root))

-- what these roots mean, behind what the earlier ones mean
abbrev pub mean_roots_from : Program → Columns → ℕ → List Meant → List RootLine → List Meant
mean_roots_from p c n earlier [] = earlier
mean_roots_from p c n earlier (root ∷ roots) = mean_roots_from p c n (earlier ++ mean_root p c n (values_of earlier) root ∷ []) roots

-- what the roots of the program mean
abbrev pub mean_roots : Program → Columns → ℕ → List Meant
mean_roots p c n = mean_roots_from p c n [] p.roots

abbrev pub all_counts : List Meant → Option Counts
all_counts [] = counted 0 0
all_counts (m ∷ ms) = plus m.counts (all_counts ms)

-- the value of the root at a position, and the counts of all roots together
abbrev pub root_value : Program → Columns → ℕ → ℕ → Option Value
root_value p c n at = future_at (values_of (mean_roots p c n)) at

abbrev pub roots_counts : Program → Columns → ℕ → Option Counts
roots_counts p c n = all_counts (mean_roots p c n)

-- some fuel gives the value of a root, or the counts of all
abbrev pub RootGives : Program → Columns → ℕ → Value → Type 0
RootGives p c at v = (n : ℕ) × (root_value p c n at ≡ Some v)

abbrev pub RootsCount : Program → Columns → Counts → Type 0
RootsCount p c counts = (n : ℕ) × (roots_counts p c n ≡ Some counts)
