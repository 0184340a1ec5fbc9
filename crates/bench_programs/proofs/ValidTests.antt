-- A test that only valid kinds pass, by the facts that all ways bring. It knows the instructions that the families have.
use Rattle.std.proofs.Common.{◌≡◌, ℕ, zero, suc, ◌<◌, Bool, true, false, ◌&&◌, ◌||◌, nat_eq, nat_lt, nat_le, Option, Some, None, option_map, List, [], ◌∷◌, length, slice_get, refl, sym, ◌∙◌, ap, subst, inl, inr, IfSome, eqb-true, ltb-true, leb-true}
use Rattle.std.specs.List.{list_all}
use Rattle.task_syntax.specs.Places.{EachAt, Each}
use Rattle.task_syntax.specs.Facts.{Facts, has, members_of}
use Rattle.task_syntax.specs.Valid.{Way, Held, Settled, Member, WillSettle, Agrees, EachSettledArgument, HeldArgument, WillSettleArgument, SpawnsSoundly, RespawnsSoundly, IsSoundInstr, IsSoundState, IsSoundKind, sort_of}
use Rattle.task_syntax.specs.declared.instr.Argument.{Argument}
use Rattle.task_syntax.specs.declared.instr.Argument.TheVariants as argument
use Rattle.task_syntax.specs.declared.instr.Instr.{Instr}
use Rattle.task_syntax.specs.declared.instr.Instr.TheVariants.{Spawn, All, Copy, Drop, Get, Again}
use Rattle.task_syntax.specs.declared.instr.Line.{Line}
use Rattle.task_syntax.specs.declared.program.Sort.{Sort}
use Rattle.task_syntax.specs.declared.program.Sort.TheVariants.{Number, Future}
use Rattle.task_syntax.specs.declared.program.Variable.{Variable as VariableOf}
use Rattle.task_syntax.specs.declared.program.State.{State}
use Rattle.task_syntax.specs.declared.program.Kind.{Kind}
use Rattle.task_syntax.specs.declared.program.Program.{Program}
use Rattle.task_syntax.proofs.Bools.{both, either}
use Rattle.bench_programs.proofs.ListTests.{all_from, each-at-from, each-from}
use Rattle.bench_programs.proofs.OneWay.{facts_of, is_one_way, way-brings}

-- x is settled by these facts, or is the predecessor or a member of it
abbrev will_settle : Facts → Option ℕ → ℕ → Bool
will_settle f None x = has x f.settled
will_settle f (Some g) x = has x f.settled || (nat_eq g x || has x (members_of g f.members))

abbrev is_held : Facts → Option ℕ → Bool
is_held f None = true
is_held f (Some x) = has x f.held

-- ---- what stands at a place is there on all ways

module _ (state : State) (one_way : is_one_way state ≡ true) (at : ℕ) (f : Facts) (stands : slice_get (facts_of state) at ≡ Some f) where
  -- a way to the place brings these facts
  the-facts : (g : Facts) → Way state at g → f ≡ g
  the-facts g way = let brought = way-brings state one_way at g way in cc

  -- what these facts hold, settle or list is so on all ways
  held-at : (x : ℕ) → has x f.held ≡ true → Held state at x
  held-at x h g way = subst (λ k. has x k.held ≡ true) (the-facts g way) h

  settled-at : (x : ℕ) → has x f.settled ≡ true → Settled state at x
  settled-at x h g way = subst (λ k. has x k.settled ≡ true) (the-facts g way) h

  member-at : (g x : ℕ) → has x (members_of g f.members) ≡ true → Member state at g x
  member-at of x h g way = subst (λ k. has x (members_of of k.members) ≡ true) (the-facts g way) h

  -- what passes will be settled on all ways
  will-settle : (behind : Option ℕ) (x : ℕ) → will_settle f behind x ≡ true → WillSettle state at behind x
  will-settle None x h = settled-at x h
  will-settle (Some g) x h = elim (either (has x f.settled) (nat_eq g x || has x (members_of g f.members)) h) [
    | inl settled ↦ inl (settled-at x settled)
    | inr later ↦ inr (elim (either (nat_eq g x) (has x (members_of g f.members)) later) [
      | inl same ↦ inl (eqb-true g x same)
      | inr member ↦ inr (member-at g x member)
    ])
  ]

  -- a predecessor that passes is held on all ways
  behind-held : (behind : Option ℕ) → is_held f behind ≡ true → IfSome behind (Held state at)
  behind-held None h = tt
  behind-held (Some x) h = held-at x h

-- ---- arguments

abbrev same_sort : Sort → Sort → Bool
same_sort Number Number = true
same_sort Future Future = true
same_sort _ _ = false

-- sorts that pass are the same
sort-same : (some other : Sort) → same_sort some other ≡ true → some ≡ other
sort-same Number Number h = refl
sort-same Future Future h = refl
sort-same Number Future h = cc
sort-same Future Number h = cc

-- each argument has the sort of its variable
abbrev sorts_meet : {A : Type 0} → (A → Sort) → List A → List VariableOf → Bool
sorts_meet sort_by [] variables = true
sorts_meet sort_by (a ∷ more) [] = true
sorts_meet sort_by (a ∷ more) (v ∷ variables) = same_sort v.sort (sort_by a) && sorts_meet sort_by more variables

-- arguments that pass have the sorts of their variables
sorts-meet : {A : Type 0} (sort_by : A → Sort) (arguments : List A) (variables : List VariableOf) → sorts_meet sort_by arguments variables ≡ true
    → (at : ℕ) (a : A) (v : VariableOf) → slice_get arguments at ≡ Some a → slice_get variables at ≡ Some v → v.sort ≡ sort_by a
sorts-meet sort_by [] variables h at a v e g = cc
sorts-meet sort_by (b ∷ more) [] h at a v e g = cc
sorts-meet sort_by (b ∷ more) (w ∷ variables) h zero a v e g =
    let t : (same_sort w.sort (sort_by b) ≡ true) × (sorts_meet sort_by more variables ≡ true) = both _ _ h in
    let met : w.sort ≡ sort_by b = sort-same w.sort (sort_by b) t.0 in
    let argument_is : b ≡ a = cc in
    let variable_is : w ≡ v = cc in
    ap (λ (u : VariableOf). u.sort) (sym variable_is) ∙ (met ∙ ap sort_by argument_is)
sorts-meet sort_by (b ∷ more) (w ∷ variables) h (suc at) a v e g =
    let t : (same_sort w.sort (sort_by b) ≡ true) × (sorts_meet sort_by more variables ≡ true) = both _ _ h in
    sorts-meet sort_by more variables t.1 at a v e g

abbrev pub agrees : {A : Type 0} → (A → Sort) → Kind → List A → Bool
agrees sort_by kind arguments = nat_eq (length arguments) kind.arguments && sorts_meet sort_by arguments kind.variables

-- arguments that pass agree with the kind
pub agrees-from : {A : Type 0} (sort_by : A → Sort) (kind : Kind) (arguments : List A) → agrees sort_by kind arguments ≡ true → Agrees sort_by kind arguments
agrees-from sort_by kind arguments h =
    let t : (nat_eq (length arguments) kind.arguments ≡ true) × (sorts_meet sort_by arguments kind.variables ≡ true) = both _ _ h in
    (eqb-true (length arguments) kind.arguments t.0, sorts-meet sort_by arguments kind.variables t.1)

-- the entry state of a kind settles nothing
abbrev is_empty : List ℕ → Bool
is_empty [] = true
is_empty (x ∷ xs) = false

abbrev pub settles_nothing : Kind → Bool
settles_nothing kind = elim kind.states [ [] ↦ true | entry ∷ more ↦ is_empty entry.settled ]

-- where the entry state settles nothing, nothing is asked of arguments
pub settles-nothing : {A : Type 0} (kind : Kind) (arguments : List A) (P : A → Type 0) → settles_nothing kind ≡ true → EachSettledArgument kind arguments P
settles-nothing {A} kind arguments P h entry e = by kind.states h e where
  nothing : (settled : List ℕ) → is_empty settled ≡ true → Each settled (λ x. (a : A) → slice_get arguments x ≡ Some a → P a)
  nothing [] h at x e = cc
  nothing (y ∷ ys) h at x e = cc

  by : (states : List State) → elim states [ [] ↦ true | first ∷ more ↦ is_empty first.settled ] ≡ true → slice_get states 0 ≡ Some entry
      → Each entry.settled (λ x. (a : A) → slice_get arguments x ≡ Some a → P a)
  by [] g s = cc
  by (first ∷ more) g s = let same : first ≡ entry = cc in nothing entry.settled (subst (λ (k : State). is_empty k.settled ≡ true) same g)

-- ---- instructions

abbrev is_number_argument : Argument → Bool
is_number_argument (argument.Number a) = true
is_number_argument (argument.Future x) = false

-- a number needs no future
number-held : (state : State) (at : ℕ) (a : Argument) → is_number_argument a ≡ true → HeldArgument state at a
number-held state at (argument.Number a) h = tt
number-held state at (argument.Future x) h = cc

-- a spawn passes numbers alone, and what it starts settles nothing
abbrev spawn_sound : Kind → List Argument → Bool
spawn_sound kind arguments = agrees sort_of kind arguments && (list_all is_number_argument arguments && settles_nothing kind)

-- a spawn that passes is sound
spawn-sound : (state : State) (at : ℕ) (kind : Kind) (arguments : List Argument) → spawn_sound kind arguments ≡ true → SpawnsSoundly kind state at arguments None
spawn-sound state at kind arguments h =
    let t : (agrees sort_of kind arguments ≡ true) × ((list_all is_number_argument arguments && settles_nothing kind) ≡ true) = both _ _ h in
    let u : (list_all is_number_argument arguments ≡ true) × (settles_nothing kind ≡ true) = both _ _ t.1 in
    record {
      agrees = agrees-from sort_of kind arguments t.0;
      held = each-from is_number_argument (HeldArgument state at) arguments (number-held state at) u.0;
      behind_held = tt;
      settled = settles-nothing kind arguments (WillSettleArgument state at None) u.1;
    }

abbrev respawn_sound : Facts → State → Option ℕ → Bool
respawn_sound f target behind =
    is_held f behind && (list_all (λ x. has x f.held) target.holds && list_all (will_settle f behind) target.settled)

-- what is found passes a test
abbrev found_passes : {X : Type 0} → (X → Bool) → Option X → Bool
found_passes test None = false
found_passes test (Some x) = test x

-- where what is found passes, so does what it is
found-passes : {X : Type 0} (test : X → Bool) (found : Option X) (x : X) → found_passes test found ≡ true → found ≡ Some x → test x ≡ true
found-passes test None x h e = cc
found-passes test (Some y) x h e = let same : y ≡ x = cc in subst (λ z. test z ≡ true) same h

abbrev instr_sound : Program → Kind → Facts → Instr → Bool
instr_sound p kind f (Spawn to callee arguments None priority retry) = found_passes (λ k. spawn_sound k arguments) (slice_get p.kinds callee)
instr_sound p kind f (Spawn to callee arguments (Some behind) priority retry) = false
instr_sound p kind f (All to members priority retry) = list_all (λ x. has x f.held) members
instr_sound p kind f (Copy to source) = has source f.held
instr_sound p kind f (Drop future) = has future f.held
instr_sound p kind f (Get to future) = has future f.held && has future f.settled
instr_sound p kind f (Again target behind priority) = found_passes (λ state. respawn_sound f state behind) (slice_get kind.states target)
instr_sound p kind f _ = true

module _ (p : Program) (kind : Kind) (state : State) (one_way : is_one_way state ≡ true) where
  -- a respawn that passes is sound
  respawn-sound : (at : ℕ) (f : Facts) → slice_get (facts_of state) at ≡ Some f → (target : State) (behind : Option ℕ)
      → respawn_sound f target behind ≡ true → RespawnsSoundly target state at behind
  respawn-sound at f stands target behind h =
      let t : (is_held f behind ≡ true) × ((list_all (λ x. has x f.held) target.holds && list_all (will_settle f behind) target.settled) ≡ true) = both _ _ h in
      let u : (list_all (λ x. has x f.held) target.holds ≡ true) × (list_all (will_settle f behind) target.settled ≡ true) = both _ _ t.1 in
      record {
        behind_held = behind-held state one_way at f stands behind t.0;
        held = each-from (λ x. has x f.held) (Held state at) target.holds (held-at state one_way at f stands) u.0;
        settled = each-from (will_settle f behind) (WillSettle state at behind) target.settled (will-settle state one_way at f stands behind) u.1;
      }

  -- an instruction that passes by the facts of its place is sound
  instr-sound : (at : ℕ) (f : Facts) → slice_get (facts_of state) at ≡ Some f → (instr : Instr) → instr_sound p kind f instr ≡ true → IsSoundInstr p kind state at instr
  instr-sound at f stands (Spawn to callee arguments None priority retry) h = λ k e.
      spawn-sound state at k arguments (found-passes (λ k. spawn_sound k arguments) (slice_get p.kinds callee) k h e)
  instr-sound at f stands (Spawn to callee arguments (Some behind) priority retry) h = cc
  instr-sound at f stands (All to members priority retry) h = each-from (λ x. has x f.held) (Held state at) members (held-at state one_way at f stands) h
  instr-sound at f stands (Copy to source) h = held-at state one_way at f stands source h
  instr-sound at f stands (Drop future) h = held-at state one_way at f stands future h
  instr-sound at f stands (Get to future) h = let t : (has future f.held ≡ true) × (has future f.settled ≡ true) = both _ _ h in
      (held-at state one_way at f stands future t.0, settled-at state one_way at f stands future t.1)
  instr-sound at f stands (Again target behind priority) h = λ next e.
      respawn-sound at f stands next behind (found-passes (λ state. respawn_sound f state behind) (slice_get kind.states target) next h e)
  instr-sound at f stands instr h = tt

-- ---- states and kinds

-- the line is sound by the facts that stand at its place
abbrev line_sound : Program → Kind → State → ℕ → Line → Bool
line_sound p kind state at line = found_passes (λ f. instr_sound p kind f line.instr) (slice_get (facts_of state) at)

abbrev state_sound : Program → Kind → State → Bool
state_sound p kind state = is_one_way state && (list_all (λ x. has x state.holds) state.settled && all_from (line_sound p kind state) 0 state.code)

-- a line that passes is sound
line-sound : (p : Program) (kind : Kind) (state : State) → is_one_way state ≡ true → (at : ℕ) (line : Line)
    → line_sound p kind state at line ≡ true → IsSoundInstr p kind state at line.instr
line-sound p kind state one_way at line h = by (slice_get (facts_of state) at) refl h where
  by : (found : Option Facts) → slice_get (facts_of state) at ≡ found → found_passes (λ f. instr_sound p kind f line.instr) found ≡ true
      → IsSoundInstr p kind state at line.instr
  by None e g = cc
  by (Some f) e g = instr-sound p kind state one_way at f e line.instr g

-- a state that passes is sound
state-sound : (p : Program) (kind : Kind) (state : State) → state_sound p kind state ≡ true → IsSoundState p kind state
state-sound p kind state h =
    let t : (is_one_way state ≡ true) × ((list_all (λ x. has x state.holds) state.settled && all_from (line_sound p kind state) 0 state.code) ≡ true) = both _ _ h in
    let u : (list_all (λ x. has x state.holds) state.settled ≡ true) × (all_from (line_sound p kind state) 0 state.code ≡ true) = both _ _ t.1 in
    let lines = each-at-from (line_sound p kind state) (λ at line. IsSoundInstr p kind state at line.instr) state.code (line-sound p kind state t.0) u.1 in
    record {
      settled_held = each-from (λ x. has x state.holds) (λ x. has x state.holds ≡ true) state.settled (λ x w. w) u.0;
      instrs = λ at instr e. by lines at instr (slice_get state.code at) refl e;
    }
  where
    by : EachAt state.code (λ at line. IsSoundInstr p kind state at line.instr) → (at : ℕ) (instr : Instr) (found : Option Line)
        → slice_get state.code at ≡ found → option_map (λ (l : Line). l.instr) found ≡ Some instr → IsSoundInstr p kind state at instr
    by lines at instr (Some line) e g = let same : line.instr ≡ instr = cc in subst (IsSoundInstr p kind state at) same (lines at line e)
    by lines at instr None e g = cc

-- the entry state holds arguments alone
abbrev entry_sound : Kind → Bool
entry_sound kind = elim kind.states [ [] ↦ true | entry ∷ more ↦ list_all (λ x. nat_lt x kind.arguments) entry.holds ]

-- an entry state that passes holds arguments alone
entry-sound : (kind : Kind) → entry_sound kind ≡ true → (first : State) → slice_get kind.states 0 ≡ Some first → Each first.holds (λ x. x < kind.arguments)
entry-sound kind h first e = by kind.states h e where
  by : (states : List State) → elim states [ [] ↦ true | entry ∷ more ↦ list_all (λ x. nat_lt x kind.arguments) entry.holds ] ≡ true
      → slice_get states 0 ≡ Some first → Each first.holds (λ x. x < kind.arguments)
  by [] g s = cc
  by (entry ∷ more) g s = let same : entry ≡ first = cc in
      each-from (λ x. nat_lt x kind.arguments) (λ x. x < kind.arguments) first.holds (λ x w. ltb-true x kind.arguments w)
      (subst (λ (k : State). list_all (λ x. nat_lt x kind.arguments) k.holds ≡ true) same g)

abbrev pub kind_sound : Program → Kind → Bool
kind_sound p kind = nat_le (length kind.variables) 63 && (entry_sound kind && list_all (state_sound p kind) kind.states)

-- a kind that passes is sound
pub kind-sound : (p : Program) (kind : Kind) → kind_sound p kind ≡ true → IsSoundKind p kind
kind-sound p kind h =
    let t : (nat_le (length kind.variables) 63 ≡ true) × ((entry_sound kind && list_all (state_sound p kind) kind.states) ≡ true) = both _ _ h in
    let u : (entry_sound kind ≡ true) × (list_all (state_sound p kind) kind.states ≡ true) = both _ _ t.1 in
    record {
      few_variables = leb-true (length kind.variables) 63 t.0;
      entry = entry-sound kind u.0;
      states = each-from (state_sound p kind) (IsSoundState p kind) kind.states (state-sound p kind) u.1;
    }
