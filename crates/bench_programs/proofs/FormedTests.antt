-- A test that only well-formed kinds pass. It knows the instructions that the families have.
use Rattle.std.proofs.Common.{◌≡◌, ℕ, zero, suc, ◌+◌, ◌^◌, Bool, true, false, ◌&&◌, not, nat_eq, nat_lt, nat_le, ◌||◌, Option, Some, None, option_map, List, [], ◌∷◌, map, length, slice_get, refl, sym, ◌∙◌, ap, arith, IfSome, ltb-true, leb-true, eq-eqb, add-one}
use Rattle.std.specs.List.{list_all}
use Rattle.task_syntax.specs.Names.{is_name, same_bytes, IsName}
use Rattle.task_syntax.specs.Places.{EachAt, Each, AllDiffer, IsNumberAt, IsFutureAt, sort_at, instr_at}
use Rattle.task_syntax.specs.Form.{IsFormedOperand, IsFormedArgument, IsFormedInstr, IsLabel, Ends, Leaves, IsFormedState, IsFormedKind, IsFormedRoot, IsWellFormed, labels_of, lines_of}
use Rattle.task_syntax.specs.declared.instr.Operand.{Operand}
use Rattle.task_syntax.specs.declared.instr.Operand.TheVariants.{Literal, Variable}
use Rattle.task_syntax.specs.declared.instr.Argument.{Argument}
use Rattle.task_syntax.specs.declared.instr.Argument.TheVariants as argument
use Rattle.task_syntax.specs.declared.instr.Instr.{Instr}
use Rattle.task_syntax.specs.declared.instr.Instr.TheVariants.{Math, If, Goto, Label, Spawn, All, Get, Again, Done}
use Rattle.task_syntax.specs.declared.instr.Line.{Line}
use Rattle.task_syntax.specs.declared.program.Sort.{Sort}
use Rattle.task_syntax.specs.declared.program.Sort.TheVariants.{Number, Future}
use Rattle.task_syntax.specs.declared.program.Variable.{Variable as VariableOf}
use Rattle.task_syntax.specs.declared.program.State.{State}
use Rattle.task_syntax.specs.declared.program.Kind.{Kind}
use Rattle.task_syntax.specs.declared.program.Root.{Root}
use Rattle.task_syntax.specs.declared.program.Program.{Program}
use Rattle.task_syntax.proofs.Bools.{both}
use Rattle.bench_programs.proofs.ListTests.{all_passed, passed-at, all_from, each-at-from, each-from, all_differ, differ-from, same_bytes-whole}

-- ---- variables

abbrev is_number : Option Sort → Bool
is_number (Some Number) = true
is_number _ = false

-- what passes the test is a number, or a future
number-is : (found : Option Sort) → is_number found ≡ true → found ≡ Some Number
number-is (Some Number) h = refl
number-is (Some Future) h = cc
number-is None h = cc

abbrev is_future : Option Sort → Bool
is_future (Some Future) = true
is_future _ = false

future-is : (found : Option Sort) → is_future found ≡ true → found ≡ Some Future
future-is (Some Future) h = refl
future-is (Some Number) h = cc
future-is None h = cc

abbrev is_number_at : Kind → ℕ → Bool
is_number_at kind at = is_number (sort_at kind at)

abbrev is_future_at : Kind → ℕ → Bool
is_future_at kind at = is_future (sort_at kind at)

-- the same at a position of a kind
number-at : (kind : Kind) (at : ℕ) → is_number_at kind at ≡ true → IsNumberAt kind at
number-at kind at h = number-is (sort_at kind at) h

future-at : (kind : Kind) (at : ℕ) → is_future_at kind at ≡ true → IsFutureAt kind at
future-at kind at h = future-is (sort_at kind at) h

abbrev operand_formed : Kind → Operand → Bool
operand_formed kind (Literal n) = nat_lt n (2 ^ 64)
operand_formed kind (Variable at) = is_number_at kind at

-- an operand that passes is one of the kind
operand-formed : (kind : Kind) (operand : Operand) → operand_formed kind operand ≡ true → IsFormedOperand kind operand
operand-formed kind (Literal n) h = ltb-true n (2 ^ 64) h
operand-formed kind (Variable at) h = number-at kind at h

abbrev argument_formed : Kind → Argument → Bool
argument_formed kind (argument.Number a) = operand_formed kind a
argument_formed kind (argument.Future at) = is_future_at kind at

-- an argument that passes is one of the kind
argument-formed : (kind : Kind) (passed : Argument) → argument_formed kind passed ≡ true → IsFormedArgument kind passed
argument-formed kind (argument.Number a) h = operand-formed kind a h
argument-formed kind (argument.Future at) h = future-at kind at h

abbrev behind_formed : Kind → Option ℕ → Bool
behind_formed kind None = true
behind_formed kind (Some at) = is_future_at kind at

-- a predecessor that passes is a future of the kind
behind-formed : (kind : Kind) (behind : Option ℕ) → behind_formed kind behind ≡ true → IfSome behind (IsFutureAt kind)
behind-formed kind None h = tt
behind-formed kind (Some at) h = future-at kind at h

-- ---- instructions

abbrev is_label : Instr → Bool
is_label (Label name) = true
is_label _ = false

-- an instruction that passes is a label
label-is : (instr : Instr) → is_label instr ≡ true → IsLabel instr
label-is (Label name) h = tt
label-is instr h = cc

abbrev is_label_found : Option Instr → Bool
is_label_found (Some instr) = is_label instr
is_label_found None = false

-- a label that is found is there
label-found : (found : Option Instr) → is_label_found found ≡ true → (instr : Instr) × (found ≡ Some instr) × IsLabel instr
label-found (Some instr) h = (instr, refl, label-is instr h)
label-found None h = cc

abbrev instr_formed : Program → Kind → State → ℕ → Instr → Bool
instr_formed p kind state at (Math op to left right) = is_number_at kind to && (operand_formed kind left && operand_formed kind right)
instr_formed p kind state at (If relation left right target) =
    operand_formed kind left && (operand_formed kind right && (nat_lt at target && is_label_found (instr_at state target)))
instr_formed p kind state at (Label name) = is_name name
instr_formed p kind state at (Spawn to callee arguments None priority retry) =
    is_future_at kind to && (nat_lt callee (length p.kinds) && (nat_le (length arguments) 16 && list_all (argument_formed kind) arguments))
instr_formed p kind state at (All to members priority retry) =
    is_future_at kind to && (nat_lt 0 (length members) && (nat_le (length members) 8 && list_all (is_future_at kind) members))
instr_formed p kind state at (Get to future) = is_number_at kind to && is_future_at kind future
instr_formed p kind state at (Again target behind priority) = nat_lt target (length kind.states) && behind_formed kind behind
instr_formed p kind state at (Done value) = operand_formed kind value
instr_formed p kind state at _ = false

-- an instruction that passes is well formed at its place
instr-formed : (p : Program) (kind : Kind) (state : State) (at : ℕ) (instr : Instr) → instr_formed p kind state at instr ≡ true → IsFormedInstr p kind state at instr
instr-formed p kind state at (Math op to left right) h = let a : (is_number_at kind to ≡ true) × ((operand_formed kind left && operand_formed kind right) ≡ true) = both _ _ h in
    let b : (operand_formed kind left ≡ true) × (operand_formed kind right ≡ true) = both _ _ a.1 in
    (number-at kind to a.0, operand-formed kind left b.0, operand-formed kind right b.1)
instr-formed p kind state at (If relation left right target) h =
    let a : (operand_formed kind left ≡ true) × ((operand_formed kind right && (nat_lt at target && is_label_found (instr_at state target))) ≡ true) = both _ _ h in
    let b : (operand_formed kind right ≡ true) × ((nat_lt at target && is_label_found (instr_at state target)) ≡ true) = both _ _ a.1 in
    let c : (nat_lt at target ≡ true) × (is_label_found (instr_at state target) ≡ true) = both _ _ b.1 in
    (operand-formed kind left a.0, operand-formed kind right b.0, (ltb-true at target c.0, label-found (instr_at state target) c.1))
instr-formed p kind state at (Label name) h = h
instr-formed p kind state at (Spawn to callee arguments None priority retry) h =
    let a : (is_future_at kind to ≡ true) × ((nat_lt callee (length p.kinds) && (nat_le (length arguments) 16 && list_all (argument_formed kind) arguments)) ≡ true) = both _ _ h in
    let b : (nat_lt callee (length p.kinds) ≡ true) × ((nat_le (length arguments) 16 && list_all (argument_formed kind) arguments) ≡ true) = both _ _ a.1 in
    let c : (nat_le (length arguments) 16 ≡ true) × (list_all (argument_formed kind) arguments ≡ true) = both _ _ b.1 in (
      future-at kind to a.0,
      ltb-true callee (length p.kinds) b.0,
      leb-true (length arguments) 16 c.0,
      each-from (argument_formed kind) (IsFormedArgument kind) arguments (argument-formed kind) c.1,
      tt,
    )
instr-formed p kind state at (All to members priority retry) h =
    let a : (is_future_at kind to ≡ true) × ((nat_lt 0 (length members) && (nat_le (length members) 8 && list_all (is_future_at kind) members)) ≡ true) = both _ _ h in
    let b : (nat_lt 0 (length members) ≡ true) × ((nat_le (length members) 8 && list_all (is_future_at kind) members) ≡ true) = both _ _ a.1 in
    let c : (nat_le (length members) 8 ≡ true) × (list_all (is_future_at kind) members ≡ true) = both _ _ b.1 in (
      future-at kind to a.0,
      ltb-true 0 (length members) b.0,
      leb-true (length members) 8 c.0,
      each-from (is_future_at kind) (IsFutureAt kind) members (future-at kind) c.1,
    )
instr-formed p kind state at (Get to future) h = let a : (is_number_at kind to ≡ true) × (is_future_at kind future ≡ true) = both _ _ h in
    (number-at kind to a.0, future-at kind future a.1)
instr-formed p kind state at (Again target behind priority) h =
    let a : (nat_lt target (length kind.states) ≡ true) × (behind_formed kind behind ≡ true) = both _ _ h in
    (ltb-true target (length kind.states) a.0, behind-formed kind behind a.1)
instr-formed p kind state at (Done value) h = operand-formed kind value h
instr-formed p kind state at instr h = cc

-- ---- code: what stands where

abbrev instr_in : List Line → ℕ → Option Instr
instr_in code at = option_map (λ (l : Line). l.instr) (slice_get code at)

abbrev leaves : Instr → Bool
leaves (Goto target) = true
leaves (Again target behind priority) = true
leaves (Done value) = true
leaves _ = false

-- an instruction that leaves passes
leaves-is : (instr : Instr) → Leaves instr → leaves instr ≡ true
leaves-is (Goto target) h = refl
leaves-is (Again target behind priority) h = refl
leaves-is (Done value) h = refl
leaves-is instr h = absurd h

-- behind a line that leaves stands a label
abbrev left_by_label : List Line → Bool
left_by_label [] = true
left_by_label (line ∷ []) = true
left_by_label (line ∷ next ∷ more) = (not (leaves line.instr) || is_label next.instr) && left_by_label (next ∷ more)

-- in code that passes, a label follows each line that leaves
left-by-label : (code : List Line) (at : ℕ) (instr next : Instr) → left_by_label code ≡ true
    → instr_in code at ≡ Some instr → Leaves instr → instr_in code (suc at) ≡ Some next → IsLabel next
left-by-label [] at instr next h e l f = cc
left-by-label (line ∷ []) zero instr next h e l f = cc
left-by-label (line ∷ []) (suc at) instr next h e l f = cc
left-by-label (line ∷ following ∷ more) zero instr next h e l f =
    let a : ((not (leaves line.instr) || is_label following.instr) ≡ true) × (left_by_label (following ∷ more) ≡ true) = both _ _ h in
    let same : line.instr ≡ instr = cc in
    let left : leaves line.instr ≡ true = ap leaves same ∙ leaves-is instr l in
    let then : following.instr ≡ next = cc in
    label-is next (ap is_label (sym then) ∙ labelled (leaves line.instr) (is_label following.instr) left a.0) where
      labelled : (a b : Bool) → a ≡ true → (not a || b) ≡ true → b ≡ true
      labelled true b e h = h
      labelled false b e h = cc
left-by-label (line ∷ following ∷ more) (suc at) instr next h e l f =
    let a : ((not (leaves line.instr) || is_label following.instr) ≡ true) × (left_by_label (following ∷ more) ≡ true) = both _ _ h in
    left-by-label (following ∷ more) at instr next a.1 e l f

abbrev ends : Instr → Bool
ends (Again target behind priority) = true
ends (Done value) = true
ends _ = false

-- an instruction that passes ends an activation
ends-is : (instr : Instr) → ends instr ≡ true → Ends instr
ends-is (Again target behind priority) h = tt
ends-is (Done value) h = tt
ends-is instr h = cc

-- the last line ends an activation
abbrev ends_last : List Line → Bool
ends_last [] = false
ends_last (line ∷ []) = ends line.instr
ends_last (line ∷ next ∷ more) = ends_last (next ∷ more)

-- code that passes ends in a line that ends an activation
ends-last : (code : List Line) → ends_last code ≡ true → (at : ℕ) × (last : Instr) × (length code ≡ at + 1) × (instr_in code at ≡ Some last) × Ends last
ends-last [] h = cc
ends-last (line ∷ []) h = (0, line.instr, refl, refl, ends-is line.instr h)
ends-last (line ∷ next ∷ more) h = let r = ends-last (next ∷ more) h in (suc r.0, r.1, omega (arith, r.2), r.3, r.4)

-- ---- states and kinds

abbrev code_formed : Program → Kind → State → Bool
code_formed p kind state = all_from (λ at line. instr_formed p kind state at line.instr) 0 state.code

-- code that passes is well formed line by line
code-formed : (p : Program) (kind : Kind) (state : State) → code_formed p kind state ≡ true → EachAt state.code (λ at line. IsFormedInstr p kind state at line.instr)
code-formed p kind state h = each-at-from (λ at line. instr_formed p kind state at line.instr) (λ at line. IsFormedInstr p kind state at line.instr) state.code
    (λ at line. instr-formed p kind state at line.instr) h

-- futures of the kind, each of them once
abbrev futures_formed : Kind → List ℕ → Bool
futures_formed kind futures = list_all (is_future_at kind) futures && all_differ nat_eq futures

-- futures that pass are futures of the kind, and differ
futures-formed : (kind : Kind) (futures : List ℕ) → futures_formed kind futures ≡ true → Each futures (IsFutureAt kind) × AllDiffer futures
futures-formed kind futures h = let a : (list_all (is_future_at kind) futures ≡ true) × (all_differ nat_eq futures ≡ true) = both _ _ h in
    (each-from (is_future_at kind) (IsFutureAt kind) futures (future-at kind) a.0, differ-from nat_eq (λ x. eq-eqb x x refl) futures a.1)

-- names that pass differ
names-differ : (names : List (List ℕ)) → all_differ same_bytes names ≡ true → AllDiffer names
names-differ names h = differ-from same_bytes same_bytes-whole names h

-- ---- a state, a kind, and a program but for its roots

abbrev state_tests : Program → Kind → State → List Bool
state_tests p kind state =
    is_name state.name ∷ futures_formed kind state.holds ∷ futures_formed kind state.settled ∷ nat_le (length state.code) 64 ∷
    code_formed p kind state ∷ all_differ same_bytes (labels_of state.code) ∷ left_by_label state.code ∷ ends_last state.code ∷ []

abbrev state_formed : Program → Kind → State → Bool
state_formed p kind state = all_passed (state_tests p kind state)

-- a state that passes is well formed
state-formed : (p : Program) (kind : Kind) (state : State) → state_formed p kind state ≡ true → IsFormedState p kind state
state-formed p kind state h = let passed = passed-at (state_tests p kind state) in
    let holds = futures-formed kind state.holds (passed 1 _ h refl) in
    let settled = futures-formed kind state.settled (passed 2 _ h refl) in
    record {
      name = passed 0 _ h refl;
      holds = holds.0;
      holds_differ = holds.1;
      settled = settled.0;
      settled_differ = settled.1;
      fits = leb-true (length state.code) 64 (passed 3 _ h refl);
      instrs = code-formed p kind state (passed 4 _ h refl);
      labels_differ = names-differ (labels_of state.code) (passed 5 _ h refl);
      left_by_label = λ at instr next e l f. left-by-label state.code at instr next (passed 6 _ h refl) e l (ap (instr_in state.code) (sym (add-one at)) ∙ f);
      ends = ends-last state.code (passed 7 _ h refl);
    }

abbrev same_variable : VariableOf → VariableOf → Bool
same_variable v w = same_bytes v.name w.name

abbrev kind_tests : Program → Kind → List Bool
kind_tests p kind =
    is_name kind.name ∷ nat_le kind.arguments 16 ∷ nat_le kind.arguments (length kind.variables) ∷ nat_le (length kind.variables) 255 ∷
    list_all (λ (v : VariableOf). is_name v.name) kind.variables ∷ all_differ same_variable kind.variables ∷
    nat_le (length kind.states) 32 ∷ nat_lt 0 (length kind.states) ∷ all_differ same_bytes (map (λ (s : State). s.name) kind.states) ∷
    list_all (state_formed p kind) kind.states ∷ []

abbrev kind_formed : Program → Kind → Bool
kind_formed p kind = all_passed (kind_tests p kind)

-- a kind that passes is well formed
kind-formed : (p : Program) (kind : Kind) → kind_formed p kind ≡ true → IsFormedKind p kind
kind-formed p kind h = let passed = passed-at (kind_tests p kind) in
    record {
      name = passed 0 _ h refl;
      arguments_fit = leb-true kind.arguments 16 (passed 1 _ h refl);
      arguments_are_variables = leb-true kind.arguments (length kind.variables) (passed 2 _ h refl);
      variables_fit = leb-true (length kind.variables) 255 (passed 3 _ h refl);
      variable_names = each-from (λ (v : VariableOf). is_name v.name) (λ (v : VariableOf). IsName v.name) kind.variables (λ v w. w) (passed 4 _ h refl);
      variables_differ = differ-from same_variable (λ v. same_bytes-whole v.name) kind.variables (passed 5 _ h refl);
      states_fit = leb-true (length kind.states) 32 (passed 6 _ h refl);
      has_state = ltb-true 0 (length kind.states) (passed 7 _ h refl);
      state_names_differ = names-differ (map (λ (s : State). s.name) kind.states) (passed 8 _ h refl);
      states = each-from (state_formed p kind) (IsFormedState p kind) kind.states (state-formed p kind) (passed 9 _ h refl);
    }

abbrev program_tests : Program → List Bool
program_tests p =
    nat_le (length p.kinds) 64 ∷ all_differ same_bytes (map (λ (k : Kind). k.name) p.kinds) ∷ list_all (kind_formed p) p.kinds ∷
    nat_le (length p.roots) 16 ∷ all_differ same_bytes (map (λ (r : Root). r.name) p.roots) ∷ all_differ nat_eq (lines_of p) ∷ []

abbrev pub program_formed : Program → Bool
program_formed p = all_passed (program_tests p)

-- a program that passes is well formed, where its roots are
pub program-formed : (p : Program) → program_formed p ≡ true → EachAt p.roots (IsFormedRoot p) → IsWellFormed p
program-formed p h roots = let passed = passed-at (program_tests p) in
    record {
      kinds_fit = leb-true (length p.kinds) 64 (passed 0 _ h refl);
      kind_names_differ = names-differ (map (λ (k : Kind). k.name) p.kinds) (passed 1 _ h refl);
      kinds = each-from (kind_formed p) (IsFormedKind p) p.kinds (kind-formed p) (passed 2 _ h refl);
      roots_fit = leb-true (length p.roots) 16 (passed 3 _ h refl);
      root_names_differ = names-differ (map (λ (r : Root). r.name) p.roots) (passed 4 _ h refl);
      roots = roots;
      lines_differ = differ-from nat_eq (λ x. eq-eqb x x refl) (lines_of p) (passed 5 _ h refl);
    }
