-- The turn of asking for roots, and the root words.
use Rattle.std.specs.Prelude.{◌≡◌, ℕ, zero, suc, ◌<◌, ◌≤◌, List, [], ◌∷◌, length, nat_lt, Some, slice_get}
use Rattle.record_core.specs.Sums.{total, below}
use Rattle.record_core.specs.Counting.{At, one_if}
use Rattle.record_core.specs.RootEnds.{roots_named}
use Rattle.kt_words.specs.declared.plan.Plan.{Plan}
use Rattle.kt_words.specs.declared.root_status.RootStatus.{RootStatus}
use Rattle.kt_words.specs.declared.root_status.RootStatus.TheVariants as status
use Rattle.kt_words.specs.RootWords.{packed_root}
use Rattle.task_syntax.specs.declared.program.Program.{Program}
use Rattle.task_syntax.specs.declared.program.Root.{Root}
use Rattle.table_core.specs.Addresses.{units_of}
use Rattle.table_core.specs.Lists.{Each}
use Rattle.table_core.specs.Holdings.{RootSays, Record, Null, Limit, Skipped}

-- what a pass has of the turn, and how many roots it knows to be asked for
pub record Turn : Type 0 where
  pub turn : List (List RootSays)
  pub asked : ℕ

-- the word of a root that was asked for
abbrev pub status_of : RootSays → RootStatus
status_of (Record unit) = status.Record unit
status_of Null = status.Null
status_of Limit = status.Limit
status_of (Skipped root) = status.Skipped root

abbrev pub root_word : RootSays → ℕ
root_word says = packed_root (status_of says)

-- the root words where these roots are asked for: 0 behind them
abbrev pub word_at : List RootSays → ℕ → ℕ
word_at [] r = 0
word_at (s ∷ ss) zero = root_word s
word_at (s ∷ ss) (suc r) = word_at ss r

-- how many root words are not 0
abbrev pub asked_in : (ℕ → ℕ) → ℕ
asked_in roots = below (λ r. one_if (nat_lt 0 (roots r))) 16

-- root r has a record
abbrev pub HasRecord : List RootSays → ℕ → Type 0
HasRecord asked r = (u : ℕ) × At asked r (Record u)

-- of the roots that root `at` names, in the order of its line, j is the first without a record
pub record FirstMissing (p : Program) (asked : List RootSays) (at j : ℕ) : Type 0 where
  pub line : Root
  pub is_line : slice_get p.roots at ≡ Some line
  pub position : ℕ
  pub stands : At (roots_named line) position j
  pub earlier : j < at
  pub missing : ¬ HasRecord asked j
  pub before : (k i : ℕ) → k < position → At (roots_named line) k i → HasRecord asked i

pub record RootsSound (p : Program) (g : Plan) (roots : ℕ → ℕ) (vs : List Turn) : Type 0 where
  -- one pass has the turn, and knows what each root word says
  pub one : total (λ v. length v.turn) vs ≡ 1
  pub says : Each (λ v. Each (λ asked. (r : ℕ) → r < 16 → roots r ≡ word_at asked r) v.turn) vs
  pub few : Each (λ v. Each (λ asked. length asked ≤ g.roots) v.turn) vs
  -- the record of a root is one of the table's
  pub near : Each (λ v. Each (λ asked. (r u : ℕ) → At asked r (Record u) → u < units_of g) v.turn) vs
  -- a root that was skipped names another, and that one was the first without a record
  pub skipped : Each (λ v. Each (λ asked. (r j : ℕ) → At asked r (Skipped j) → FirstMissing p asked r j) v.turn) vs
  -- so many roots as a pass knows to be asked for are asked for
  pub known : Each (λ v. v.asked ≤ asked_in roots) vs
