-- What the checker knows along the code of a state, against the ways that arrive at each place.
use Rattle.std.specs.Prelude.{◌≡◌, ℕ, ◌+◌, ◌<◌, ◌≤◌, ◌&&◌, Bool, true, false, Option, Some, None, List, length, slice_get, vec_len}
use Rattle.task_syntax.specs.Places.{instr_at}
use Rattle.task_syntax.specs.Form.{Leaves}
use Rattle.task_syntax.specs.Facts.{Facts, after, at_start}
use Rattle.task_syntax.specs.Valid.{Way, JumpsTo}
use Rattle.task_syntax.specs.declared.instr.Instr.{Instr}
use Rattle.task_syntax.specs.declared.program.State.{State}
use Rattle.task_check.specs.declared.known.Known.{Known}
use Rattle.task_check.specs.Known.{Question, IsAbout, says, knows, answer_after, AnswersBy}

-- there are facts in S, and a question about the first n variables is answered yes exactly where all of them say so
pub record Agreed (n : ℕ) (S : Facts → Type 0) (answer : Question → Bool) : Type 0 where
  pub some : (f : Facts) × S f
  pub sound : (q : Question) → IsAbout n q → answer q ≡ true → (f : Facts) → S f → says q f ≡ true
  pub whole : (q : Question) → IsAbout n q → ((f : Facts) → S f → says q f ≡ true) → answer q ≡ true

-- the facts that ways bring to a place from the start, or from one of the first lines
pub data Arrives (state : State) (lines : ℕ) : ℕ → Facts → Type 0 where
  at_first : Arrives state lines 0 (at_start state)
  by_line : {at : ℕ} {f : Facts} (instr : Instr) → at < lines → Way state at f → instr_at state at ≡ Some instr → ¬ Leaves instr → Arrives state lines (at + 1) (after instr f)
  by_jump : {at : ℕ} {f : Facts} (instr : Instr) (to : ℕ) → at < lines → Way state at f → instr_at state at ≡ Some instr → JumpsTo instr to → Arrives state lines to f

-- what the checker keeps for a place, where the facts in S arrive there
abbrev pub IsArrived : ℕ → (Facts → Type 0) → Option Known → Type 0
IsArrived n S None = (f : Facts) → ¬ S f
IsArrived n S (Some k) = (vec_len k.members ≡ n) × Agreed n S (λ q. knows q k)

-- the same for each place from the first lines on
pub record AreArrived (n : ℕ) (state : State) (lines : ℕ) (kept : List (Option Known)) : Type 0 where
  pub long : length kept ≡ length state.code
  pub sized : (at : ℕ) (o : Known) → slice_get kept at ≡ Some (Some o) → vec_len o.members ≡ n
  pub each : (at : ℕ) (slot : Option Known) → lines ≤ at → slice_get kept at ≡ Some slot → IsArrived n (Arrives state lines at) slot

-- k is known beside what was kept
abbrev pub IsJoined : ℕ → Option Known → Known → Option Known → Type 0
IsJoined n None k slot = slot ≡ Some k
IsJoined n (Some o) k slot = (j : Known) × (slot ≡ Some j) × (vec_len j.members ≡ n) × AnswersBy n (λ q. knows q o && knows q k) j

-- k was brought to the places of which To holds, and the others stayed
pub record Brings (n : ℕ) (To : ℕ → Type 0) (k : Known) (old new : List (Option Known)) : Type 0 where
  pub long : length new ≡ length old
  pub brought : (at : ℕ) (before slot : Option Known) → slice_get old at ≡ Some before → slice_get new at ≡ Some slot → To at → IsJoined n before k slot
  pub kept : (at : ℕ) → ¬ To at → slice_get new at ≡ slice_get old at

-- the place behind a line that goes on
abbrev pub GoesOnTo : Instr → ℕ → ℕ → Type 0
GoesOnTo instr at to = (to ≡ at + 1) × ¬ Leaves instr

-- what gives these answers was brought there
abbrev pub Passes : ℕ → (Question → Bool) → (ℕ → Type 0) → List (Option Known) → List (Option Known) → Type 0
Passes n answer To old new = (k : Known) × (vec_len k.members ≡ n) × AnswersBy n answer k × Brings n To k old new

-- what is known was brought there
abbrev pub PassesOn : Known → (ℕ → Type 0) → List (Option Known) → List (Option Known) → Type 0
PassesOn k To old new = Passes (vec_len k.members) (λ q. knows q k) To old new

-- what is known behind the instruction was brought to the next place, where it goes on
abbrev pub GoesOn : Known → Instr → ℕ → List (Option Known) → List (Option Known) → Type 0
GoesOn k instr at old new = Passes (vec_len k.members) (answer_after instr (λ q. knows q k)) (GoesOnTo instr at) old new

-- there are n member lists, and nothing is held or settled
abbrev pub KnowsNothing : ℕ → Known → Type 0
KnowsNothing n k = (vec_len k.members ≡ n) × AnswersBy n (λ q. false) k

-- k was brought to one place
abbrev pub BringsTo : ℕ → Known → List (Option Known) → List (Option Known) → Type 0
BringsTo to k old new = Brings (vec_len k.members) (λ at. at ≡ to) k old new

-- nothing is kept for any place
abbrev pub AreEmpty : List (Option Known) → Type 0
AreEmpty kept = (at : ℕ) (slot : Option Known) → slice_get kept at ≡ Some slot → slot ≡ None

-- what is kept has member lists for n variables
abbrev pub AreSized : ℕ → List (Option Known) → Type 0
AreSized n kept = (at : ℕ) (o : Known) → slice_get kept at ≡ Some (Some o) → vec_len o.members ≡ n

-- what was kept for a place is taken, and the other places stay
pub record Takes (n at : ℕ) (k : Known) (old new : List (Option Known)) : Type 0 where
  pub sized : vec_len k.members ≡ n
  pub was_known : (o : Known) → slice_get old at ≡ Some (Some o) → k ≡ o
  pub was_none : slice_get old at ≡ Some None → (q : Question) → IsAbout n q → knows q k ≡ false
  pub long : length new ≡ length old
  pub emptied : slice_get new at ≡ Some None
  pub others : (to : ℕ) → ¬ (to ≡ at) → slice_get new to ≡ slice_get old to
