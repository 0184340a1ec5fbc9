-- The names that an instruction is written with are given, and it may be written.
use Rattle.task_writer.proofs.Vocabulary.{Sort, ◌≡◌, ℕ, zero, suc, ◌<◌, true, Option, Some, None, List, [], ◌∷◌, map, length, refl, IfSome, length-map, Each, IsNumberAt, IsFutureAt, IsFormedOperand, IsFormedArgument, IsFormedInstr, IsFormedState, IsFormedKind, IsLabelAhead, State, Kind, Program, Operand, Argument, Instr, is_among, Use, UsesNumber, UsesFuture, term_use, passed_use, behind_uses, step_uses, Known, is_given, AllGiven, given-both, option_map, name_at, kind_names, variable_names, state_names, label_names, names_in, term_of, passed_of, step_of, IsName, What}
use Rattle.task_syntax.specs.declared.instr.Instr.TheVariants.{Set, Math, If, Goto, Label, Cell, Rows, Spawn, All, Copy, Drop, Get, Again, Done}
use Rattle.task_writer.proofs.ReadPlaces.{position-among, variable-known, stands-at}
use Rattle.task_writer.proofs.ReadCode.{at_variable}
use Rattle.task_writer.proofs.Writable.{IsWritableTerm, IsWritablePassed, IsWritable}
use Rattle.task_writer.proofs.WritableSteps.{label-named, position-named, variable-named, all-writable, map-begun}

-- ---- lists

pub each-in : {A B : Type 0} (k : Known) (use_of : B → Use) (write : A → B) (P : A → Type 0) → ((a : A) → P a → is_given k (use_of (write a)) ≡ true)
    → (more : List A) → Each more P → AllGiven k (map use_of (map write more))
each-in k use_of write P means [] each = tt
each-in k use_of write P means (a ∷ more) each = (means a (each zero a refl), each-in k use_of write P means more (λ i. each (suc i)))

pub behind-in : {A : Type 0} (k : Known) (use_of : List ℕ → Use) (write : A → List ℕ) (P : A → Type 0) → ((a : A) → P a → is_given k (use_of (write a)) ≡ true)
    → (behind : Option A) → IfSome behind P → AllGiven k (behind_uses use_of (option_map write behind))
behind-in k use_of write P means None some = tt
behind-in k use_of write P means (Some a) some = (refl, (means a some, tt))

-- ---- the parts of an instruction

-- what is known are the names of the kinds, and those of the variables and the states of a kind
pub record Knows (k : Known) (p : Program) (kind : Kind) : Type 0 where
  pub kinds : k.kinds ≡ kind_names p.kinds
  pub variables : k.variables ≡ kind.variables
  pub states : k.states ≡ state_names kind.states

-- the name of a future is given
pub future-in : (k : Known) (kind : Kind) → k.variables ≡ kind.variables → (at : ℕ) → IsFutureAt kind at → is_given k (UsesFuture (at_variable kind at)) ≡ true
future-in k kind variables at n = rw variables (variable-known kind.variables Sort.Future at (stands-at kind.variables Sort.Future at n))

-- the name of a kind is given
pub kind-in : (names : List (List ℕ)) (p : Program) → names ≡ kind_names p.kinds → (at : ℕ) → at < length p.kinds
    → is_among names (name_at (kind_names p.kinds) at) ≡ true
kind-in names p e at l = rw e (position-among (kind_names p.kinds) at (rw length-map l))

-- the names of the futures of a list are given
pub futures-in : (k : Known) (kind : Kind) → k.variables ≡ kind.variables → (more : List ℕ) → Each more (IsFutureAt kind)
    → AllGiven k (map UsesFuture (map (at_variable kind) more))
futures-in k kind variables more each =
    each-in k UsesFuture (at_variable kind) (IsFutureAt kind) (λ at f. future-in k kind variables at f) more each

-- ---- the instruction

-- what is written of an instruction whose positions are in range is given, and may be written
module _ (k : Known) (p : Program) (kind : Kind) (knows : Knows k p kind) (named : Each p.kinds (λ (k : Kind). IsName k.name))
    (own : IsFormedKind p kind) (state : State) (formed : IsFormedState p kind state) (at : ℕ)
    (labels : (target : ℕ) → IsLabelAhead state at target → is_among k.labels (name_at (label_names state.code) target) ≡ true) where
  number : (x : ℕ) → IsNumberAt kind x → (is_given k (UsesNumber (at_variable kind x)) ≡ true) × IsName (at_variable kind x)
  number x n = (
    rw knows.variables (variable-known kind.variables Sort.Number x (stands-at kind.variables Sort.Number x n)),
    variable-named kind own.variable_names Sort.Number x n,
  )

  future : (x : ℕ) → IsFutureAt kind x → (is_given k (UsesFuture (at_variable kind x)) ≡ true) × IsName (at_variable kind x)
  future x n = (future-in k kind knows.variables x n, variable-named kind own.variable_names Sort.Future x n)

  term : (a : Operand) → IsFormedOperand kind a → (is_given k (term_use (term_of (variable_names kind.variables) a)) ≡ true) × IsWritableTerm (term_of (variable_names kind.variables) a)
  term (Operand.Literal n) f = (refl, f)
  term (Operand.Variable x) f = number x f

  passed : (a : Argument) → IsFormedArgument kind a → (is_given k (passed_use (passed_of (variable_names kind.variables) a)) ≡ true) × IsWritablePassed (passed_of (variable_names kind.variables) a)
  passed (Argument.Number a) f = term a f
  passed (Argument.Future x) f = future x f

  before : (behind : Option ℕ) → IfSome behind (IsFutureAt kind)
      → AllGiven k (behind_uses UsesFuture (option_map (at_variable kind) behind)) × IfSome (option_map (at_variable kind) behind) IsName
  before None f = (tt, tt)
  before (Some x) f = let a = future x f in ((refl, (a.0, tt)), a.1)

  label : (target : ℕ) → IsLabelAhead state at target → (is_among k.labels (name_at (label_names state.code) target) ≡ true) × IsName (name_at (label_names state.code) target)
  label target ahead = (labels target ahead, label-named p kind state formed.instrs at target ahead)

  pub step-fine : (instr : Instr) → IsFormedInstr p kind state at instr
      → AllGiven k (step_uses (step_of (names_in (kind_names p.kinds) kind state) instr)) × IsWritable (What.Step (step_of (names_in (kind_names p.kinds) kind state) instr))
  unfolding step_of
  step-fine (Set to value) f = let a = number to f.0 in let b = term value f.1 in ((refl, (a.0, (b.0, tt))), (a.1, (b.1, tt)))
  step-fine (Math op to left right) f =
      let a = number to f.0 in let b = term left f.1 in let c = term right f.2 in ((refl, (a.0, (b.0, (c.0, tt)))), (a.1, (b.1, (c.1, tt))))
  step-fine (If relation left right target) f =
      let a = term left f.0 in
      let b = term right f.1 in
      let c = label target f.2 in ((refl, (a.0, (refl, (b.0, (refl, (c.0, tt)))))), (a.1, (tt, (b.1, (tt, (c.1, tt))))))
  step-fine (Goto target) f = let a = label target f in ((refl, (a.0, tt)), (a.1, tt))
  step-fine (Label name) f = (tt, (f, tt))
  step-fine (Cell to column row) f = let a = number to f.0 in let b = term row f.2 in ((refl, (a.0, (refl, (b.0, tt)))), (a.1, (f.1, (b.1, tt))))
  step-fine (Rows to column) f = let a = number to f.0 in ((refl, (a.0, tt)), (a.1, (f.1, tt)))
  step-fine (Spawn to callee arguments behind priority retry) f =
      let a = future to f.0 in
      let b = before behind f.4 in
      let vs = variable_names kind.variables in
      let given = each-in k passed_use (passed_of vs) (IsFormedArgument kind) (λ x g. (passed x g).0) arguments f.3 in
      let writable = all-writable (IsFormedArgument kind) IsWritablePassed (passed_of vs) (λ x g. (passed x g).1) arguments f.3 in (
        (refl, (a.0, (kind-in k.kinds p knows.kinds callee f.1, given-both k _ _ given b.0))),
        (a.1, (position-named (λ (k : Kind). k.name) p.kinds named callee f.1, (writable, (b.1, (tt, (tt, tt)))))),
      )
  step-fine (All to members priority retry) f =
      let a = future to f.0 in
      let writable = all-writable (IsFutureAt kind) IsName (at_variable kind) (λ x g. (future x g).1) members f.3 in
      ((refl, (a.0, futures-in k kind knows.variables members f.3)), (a.1, ((map-begun (at_variable kind) members f.1, writable), (tt, (tt, tt)))))
  step-fine (Copy to source) f = let a = future to f.0 in let b = future source f.1 in ((refl, (a.0, (b.0, tt))), (a.1, (b.1, tt)))
  step-fine (Drop released) f = let a = future released f in ((refl, (a.0, tt)), (a.1, tt))
  step-fine (Get to settled) f = let a = number to f.0 in let b = future settled f.1 in ((refl, (a.0, (b.0, tt))), (a.1, (b.1, tt)))
  step-fine (Again target behind priority) f =
      let b = before behind f.1 in
      let given = position-among (state_names kind.states) target (rw length-map f.0) in
      ((refl, (rw knows.states given, b.0)), (position-named (λ (s : State). s.name) kind.states (λ i state e. (own.states i state e).name) target f.0, (b.1, (tt, tt))))
  step-fine (Done value) f = let a = term value f in ((refl, (a.0, tt)), (a.1, tt))
