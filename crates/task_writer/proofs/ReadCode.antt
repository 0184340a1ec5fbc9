-- The instructions of a state are read back.
use Rattle.task_writer.proofs.Vocabulary.{Sort, ◌≡◌, ℕ, zero, suc, ◌+◌, ◌-◌, add-one, Bool, true, false, Option, Some, None, List, [], ◌∷◌, ◌++◌, map, slice_get, refl, sym, ◌∙◌, ap, subst, arith, length-map, IfSome, same_bytes, EachAt, Each, AllDiffer, IsFormedKind, IsNumberAt, IsFutureAt, IsFormedOperand, IsFormedArgument, IsFormedInstr, IsLabel, IsLabelAhead, labels_of, State, Kind, Program, Operand, Argument, Instr, Line, differ-tail, differ-head, What, Positions, number_place, future_place, operand_of, argument_of, instr_of, is_label, steps_to, code_from, line-at, same-name, same-bytes, numbered_code, option_map, Names, name_at, kind_names, variable_names, state_names, label_names, label_of, names_in, term_of, passed_of, step_of, code_lines, some-same}
use Rattle.task_syntax.specs.declared.instr.Instr.TheVariants.{Set, Math, If, Goto, Label, Cell, Rows, Spawn, All, Copy, Drop, Get, Again, Done}
use Rattle.task_writer.proofs.Itemized.{items_at}
use Rattle.task_writer.proofs.Named.{name-found}
use Rattle.task_writer.proofs.ReadPlaces.{position-place, variable-place, stands-at}

-- ---- the parts of an instruction

-- the names of the kinds of a program, and those of the variables and the states of a kind
abbrev pub positions_of : Program → Kind → Positions
positions_of p kind = record { kinds = kind_names p.kinds; variables = kind.variables; states = state_names kind.states }

abbrev pub at_variable : Kind → ℕ → List ℕ
at_variable kind at = name_at (variable_names kind.variables) at

pub map-back : {A B : Type 0} (read : B → A) (write : A → B) (P : A → Type 0) → ((a : A) → P a → read (write a) ≡ a)
    → (more : List A) → Each more P → map read (map write more) ≡ more
map-back read write P back [] each = refl
map-back read write P back (a ∷ more) each = rw (back a (each zero a refl), map-back read write P back more (λ i. each (suc i))) refl

pub option-back : {A B : Type 0} (read : B → A) (write : A → B) (P : A → Type 0) → ((a : A) → P a → read (write a) ≡ a)
    → (o : Option A) → IfSome o P → option_map read (option_map write o) ≡ o
option-back read write P back None some = refl
option-back read write P back (Some a) some = ap Some (back a some)

-- what is written of the positions of an instruction is read as these positions, where kinds, variables and states differ
module _ (p : Program) (kind : Kind) (differ : AllDiffer (kind_names p.kinds)) (formed : IsFormedKind p kind) where
  number-back : (at : ℕ) → IsNumberAt kind at → number_place kind.variables (at_variable kind at) ≡ at
  number-back at n = variable-place kind.variables formed.variables_differ Sort.Number at (stands-at kind.variables Sort.Number at n)

  future-back : (at : ℕ) → IsFutureAt kind at → future_place kind.variables (at_variable kind at) ≡ at
  future-back at n = variable-place kind.variables formed.variables_differ Sort.Future at (stands-at kind.variables Sort.Future at n)

  operand-back : (a : Operand) → IsFormedOperand kind a → operand_of (positions_of p kind) (term_of (variable_names kind.variables) a) ≡ a
  operand-back (Operand.Literal n) f = refl
  operand-back (Operand.Variable at) f = ap Operand.Variable (number-back at f)

  argument-back : (a : Argument) → IsFormedArgument kind a → argument_of (positions_of p kind) (passed_of (variable_names kind.variables) a) ≡ a
  argument-back (Argument.Number a) f = ap Argument.Number (operand-back a f)
  argument-back (Argument.Future at) f = ap Argument.Future (future-back at f)

  pub futures-back : (more : List ℕ) → Each more (IsFutureAt kind) → map (future_place kind.variables) (map (at_variable kind) more) ≡ more
  futures-back = map-back (future_place kind.variables) (at_variable kind) (IsFutureAt kind) future-back

  behind-back : (behind : Option ℕ) → IfSome behind (IsFutureAt kind) → option_map (future_place kind.variables) (option_map (at_variable kind) behind) ≡ behind
  behind-back = option-back (future_place kind.variables) (at_variable kind) (IsFutureAt kind) future-back

  instr-back : (state : State) (at : ℕ) (label_place : List ℕ → ℕ)
      → ((target : ℕ) → IsLabelAhead state at target → label_place (name_at (label_names state.code) target) ≡ target) → (instr : Instr)
      → IsFormedInstr p kind state at instr → instr_of (positions_of p kind) label_place (step_of (names_in (kind_names p.kinds) kind state) instr) ≡ instr
  unfolding instr_of step_of
  instr-back state at label_place labels (Set to value) f = rw (number-back to f.0, operand-back value f.1) refl
  instr-back state at label_place labels (Math op to left right) f = rw (number-back to f.0, operand-back left f.1, operand-back right f.2) refl
  instr-back state at label_place labels (If relation left right target) f = rw (operand-back left f.0, operand-back right f.1, labels target f.2) refl
  instr-back state at label_place labels (Goto target) f = ap Goto (labels target f)
  instr-back state at label_place labels (Label name) f = refl
  instr-back state at label_place labels (Cell to column row) f = rw (number-back to f.0, operand-back row f.2) refl
  instr-back state at label_place labels (Rows to column) f = rw (number-back to f.0) refl
  instr-back state at label_place labels (Spawn to callee arguments behind priority retry) f =
      rw (
        future-back to f.0,
        position-place (kind_names p.kinds) differ callee (rw length-map f.1),
        map-back (argument_of (positions_of p kind)) (passed_of (variable_names kind.variables)) (IsFormedArgument kind) argument-back arguments f.3,
        behind-back behind f.4,
      ) refl
  instr-back state at label_place labels (All to members priority retry) f = rw (future-back to f.0, futures-back members f.3) refl
  instr-back state at label_place labels (Copy to source) f = rw (future-back to f.0, future-back source f.1) refl
  instr-back state at label_place labels (Drop future) f = ap Drop (future-back future f)
  instr-back state at label_place labels (Get to future) f = rw (number-back to f.0, future-back future f.1) refl
  instr-back state at label_place labels (Again target behind priority) f =
      rw (position-place (state_names kind.states) formed.state_names_differ target (rw length-map f.0), behind-back behind f.1) refl
  instr-back state at label_place labels (Done value) f = ap Done (operand-back value f)

-- ---- labels

-- a label among instructions is among the names of their labels
pub label-listed : (code : List Line) (j : ℕ) (line : Line) (name : List ℕ) → slice_get code j ≡ Some line → line.instr ≡ Label name
    → (i : ℕ) × (slice_get (labels_of code) i ≡ Some name)
label-listed [] j line name e is = cc
label-listed (l ∷ code) zero line name e is = let s : l.instr ≡ Label name = ap (λ (x : Line). x.instr) (some-same l line e) ∙ is in rw s (0, refl)
label-listed (l ∷ code) (suc j) line name e is = let r = label-listed code j line name e is in by l.instr refl r.0 r.1 where
  by : (instr : Instr) → l.instr ≡ instr → (i : ℕ) → slice_get (labels_of code) i ≡ Some name → (i : ℕ) × (slice_get (labels_of (l ∷ code)) i ≡ Some name)
  by (Label other) f i g = rw f (suc i, g)
  by _ f i g = rw f (i, g)

-- a label stands as many steps ahead as its place says
abbrev LabelFound : List (List ℕ) → Kind → State → List Line → Type 0
LabelFound kinds kind state code = AllDiffer (labels_of code) → (n : ℕ) (rest : List What) (j : ℕ) (line : Line) (name : List ℕ)
    → slice_get code j ≡ Some line → line.instr ≡ Label name → steps_to name (items_at n (code_lines (names_in kinds kind state) code ++ rest)) ≡ j

-- the instruction before the label is another
passes-on : (names : Names) (l : Line) (code : List Line) → AllDiffer (labels_of (l ∷ code)) → (i : ℕ) (name : List ℕ)
    → slice_get (labels_of code) i ≡ Some name → is_label name (step_of names l.instr) ≡ false
unfolding step_of
passes-on names l code differ i name listed = by l.instr refl where
  other-label : (other : List ℕ) → l.instr ≡ Label other → (b : Bool) → same_bytes name other ≡ b → b ≡ false
  other-label other f true s = absurd (differ-head other (labels_of code) (subst (λ names. AllDiffer names) (by_label other f) differ) i (listed ∙ ap Some (same-name name other s))) where
    by_label : (other : List ℕ) → l.instr ≡ Label other → labels_of (l ∷ code) ≡ other ∷ labels_of code
    by_label other f = rw f refl
  other-label other f false s = refl

  by : (instr : Instr) → l.instr ≡ instr → is_label name (step_of names instr) ≡ false
  by (Label other) f = other-label other f (same_bytes name other) refl
  by _ f = refl

labels-further : (l : Line) (code : List Line) → AllDiffer (labels_of (l ∷ code)) → AllDiffer (labels_of code)
labels-further l code differ = by l.instr refl where
  by : (instr : Instr) → l.instr ≡ instr → AllDiffer (labels_of code)
  by (Label other) f = differ-tail other (labels_of code) (subst (λ names. AllDiffer names) (by_label other f) differ) where
    by_label : (other : List ℕ) → l.instr ≡ Label other → labels_of (l ∷ code) ≡ other ∷ labels_of code
    by_label other f = rw f refl
  by _ f = subst (λ names. AllDiffer names) (rw f refl) differ

pub label-found : (kinds : List (List ℕ)) (kind : Kind) (state : State) (code : List Line) → LabelFound kinds kind state code
unfolding step_of
label-found kinds kind state [] differ n rest j line name e is = cc
label-found kinds kind state (l ∷ code) differ n rest zero line name e is =
    let s : l.instr ≡ Label name = ap (λ (x : Line). x.instr) (some-same l line e) ∙ is in rw (s, same-bytes name) refl
label-found kinds kind state (l ∷ code) differ n rest (suc j) line name e is =
    let r = label-listed code j line name e is in
    let before = passes-on (names_in kinds kind state) l code differ r.0 name r.1 in
    let further = label-found kinds kind state code (labels-further l code differ) (n + 1) rest j line name e is in
    rw (before, further) (add-one j)

-- ---- the code

-- what stands behind the code is no instruction
abbrev pub EndsCode : List What → Type 0
EndsCode (What.State name holds settled ∷ rest) = Unit {0}
EndsCode (What.End ∷ rest) = Unit {0}
EndsCode _ = ⊥

-- these are the lines of the code from a place on
abbrev pub IsFrom : {X : Type 0} → List X → ℕ → List X → Type 0
IsFrom all at rest = (j : ℕ) → slice_get all (at + j) ≡ slice_get rest j

pub from-start : {X : Type 0} (all : List X) → IsFrom all 0 all
from-start all j = let e : 0 + j ≡ j = omega arith in ap (slice_get all) e

pub from-next : {X : Type 0} (all : List X) (at : ℕ) (x : X) (rest : List X) → IsFrom all at (x ∷ rest) → IsFrom all (at + 1) rest
from-next all at x rest from j = let e : at + 1 + j ≡ at + suc j = omega arith in ap (slice_get all) e ∙ from (suc j)

pub from-here : {X : Type 0} (all : List X) (at : ℕ) (x : X) (rest : List X) → IsFrom all at (x ∷ rest) → slice_get all at ≡ Some x
from-here all at x rest from = let e : at ≡ at + 0 = omega arith in ap (slice_get all) e ∙ from zero

is-label : (instr : Instr) → IsLabel instr → (name : List ℕ) × (instr ≡ Label name)
is-label (Label name) label = (name, refl)
is-label _ label = absurd label

-- the label at a target, as it stands in the code behind a place
pub record LabelAt (state : State) (at : ℕ) (code : List Line) (target : ℕ) : Type 0 where
  pub place : ℕ
  pub line : Line
  pub name : List ℕ
  pub sum : at + 1 + place ≡ target
  pub stands : slice_get code place ≡ Some line
  pub is : line.instr ≡ Label name
  pub called : name_at (label_names state.code) target ≡ name

pub label-at : (state : State) (at : ℕ) (code : List Line) → IsFrom state.code (at + 1) code → (target : ℕ) → IsLabelAhead state at target → LabelAt state at code target
label-at state at code from target ahead =
    let l = line-at state.code target ahead.1.0 ahead.1.1 in
    let named = is-label ahead.1.0 ahead.1.2 in
    let is : l.0.instr ≡ Label named.0 = l.2 ∙ named.1 in
    let place = target - (at + 1) in
    let sum : at + 1 + place ≡ target = omega (arith, ahead.0) in
    record {
      place = place;
      line = l.0;
      name = named.0;
      sum = sum;
      stands = sym (from place) ∙ (ap (slice_get state.code) sum ∙ l.1);
      is = is;
      called = name-found (λ (l : Line). label_of l.instr) state.code target l.0 l.1 ∙ ap label_of is;
    }

-- where a label ahead is
label-ahead : (p : Program) (kind : Kind) (state : State) (at : ℕ) (code : List Line) → AllDiffer (labels_of code) → IsFrom state.code (at + 1) code
    → (n : ℕ) (rest : List What) (target : ℕ) → IsLabelAhead state at target
    → at + 1 + steps_to (name_at (label_names state.code) target) (items_at n (code_lines (names_in (kind_names p.kinds) kind state) code ++ rest)) ≡ target
label-ahead p kind state at code differ from n rest target ahead =
    let label = label-at state at code from target ahead in
    rw (label.called, label-found (kind_names p.kinds) kind state code differ n rest label.place label.line label.name label.stands label.is) label.sum

code-ends : (positions : Positions) (at n : ℕ) (rest : List What) → EndsCode rest → code_from positions at (items_at n rest) ≡ []
unfolding code_from
code-ends positions at n (What.State name holds settled ∷ rest) ends = refl
code-ends positions at n (What.End ∷ rest) ends = refl
code-ends positions at n _ ends = absurd ends

pub code-back : (p : Program) (kind : Kind) → AllDiffer (kind_names p.kinds) → IsFormedKind p kind → (state : State)
    → EachAt state.code (λ at line. IsFormedInstr p kind state at line.instr)
    → (code : List Line) (at n : ℕ) (rest : List What) → EndsCode rest → AllDiffer (labels_of code) → IsFrom state.code at code
    → code_from (positions_of p kind) at (items_at n (code_lines (names_in (kind_names p.kinds) kind state) code ++ rest)) ≡ numbered_code n code
unfolding code_from numbered_code
code-back p kind unlike k state formed [] at n rest ends differ from = code-ends (positions_of p kind) at n rest ends
code-back p kind unlike k state formed (l ∷ code) at n rest ends differ from =
    let later = from-next state.code at l code from in
    let apart = labels-further l code differ in
    rw (
      instr-back p kind unlike k state at _ (label-ahead p kind state at code apart later (n + 1) rest) l.instr (formed at l (from-here state.code at l code from)),
      code-back p kind unlike k state formed code (at + 1) (n + 1) rest ends apart later,
    ) refl
