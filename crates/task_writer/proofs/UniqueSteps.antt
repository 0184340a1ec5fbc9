-- An instruction whose positions are in range is written with the names that it was read with.
use Rattle.task_writer.proofs.Vocabulary.{◌≡◌, ℕ, zero, suc, ◌+◌, ◌<◌, add-one, Bool, true, false, cond, Option, Some, None, List, [], ◌∷◌, map, length, slice_get, refl, sym, ◌∙◌, ap, subst, length-map, IfSome, same_bytes, both, Each, IsNumberAt, IsFutureAt, IsFormedOperand, IsFormedArgument, IsFormedInstr, IsLabelAhead, Sort, Variable, State, Kind, Program, Term, Passed, Step, is_variable, same_sort, place_of, place_where, number_place, future_place, operand_of, argument_of, instr_of, same-name, some-same, option_map, Set, Math, If, Goto, Label, Cell, Rows, Spawn, All, Copy, Drop, Get, Again, Done, name_at, kind_names, variable_names, state_names, label_names, names_in, term_of, passed_of, step_of}
use Rattle.task_writer.proofs.Named.{name-found}
use Rattle.task_writer.proofs.ReadPlaces.{named-at, stands-at}
use Rattle.task_writer.proofs.ReadCode.{positions_of}

-- ---- places

pub get-later : {A : Type 0} (x : A) (xs : List A) (at : ℕ) → slice_get (x ∷ xs) (at + 1) ≡ slice_get xs at
get-later x xs at = rw add-one

-- what stands at the place of a test passes it
pub place-passes : {A : Type 0} (test : A → Bool) (xs : List A) (x : A) → slice_get xs (place_where test xs) ≡ Some x → test x ≡ true
place-passes test [] x e = cc
place-passes test (a ∷ more) x e = by (test a) refl (place-passes test more x) e where
  by : (b : Bool) → test a ≡ b → (slice_get more (place_where test more) ≡ Some x → test x ≡ true)
      → slice_get (a ∷ more) (cond b 0 (place_where test more + 1)) ≡ Some x → test x ≡ true
  by true t further e = subst (λ y. test y ≡ true) (some-same a x e) t
  by false t further e = further (sym (get-later a more (place_where test more)) ∙ e)

-- a name whose place is in range stands there
pub place-same : (names : List (List ℕ)) (name : List ℕ) → place_of names name < length names → name_at names (place_of names name) ≡ name
place-same names name l =
    let at = place_of names name in sym (same-name name (name_at names at) (place-passes (same_bytes name) names (name_at names at) (named-at names at l)))

-- so does the name of a variable, where one of the sort stands at its place
pub variable-same : (sort : Sort) (name : List ℕ) (variables : List Variable)
    → option_map (λ (v : Variable). v.sort) (slice_get variables (place_where (is_variable sort name) variables)) ≡ Some sort
    → name_at (variable_names variables) (place_where (is_variable sort name) variables) ≡ name
variable-same sort name variables e =
    let at = place_where (is_variable sort name) variables in
    let s = stands-at variables sort at e in
    let b : (same_sort sort s.variable.sort ≡ true) × (same_bytes name s.variable.name ≡ true) =
    both _ _ (place-passes (is_variable sort name) variables s.variable s.stands) in
    name-found (λ (v : Variable). v.name) variables at s.variable s.stands ∙ sym (same-name name s.variable.name b.1)

-- ---- lists

-- each member of a list is written as it was read, where what was read is well formed
pub each-same : {A B : Type 0} (read : A → B) (write : B → A) (P : B → Type 0) → ((a : A) → P (read a) → write (read a) ≡ a)
    → (xs : List A) → Each (map read xs) P → map write (map read xs) ≡ xs
each-same read write P one [] h = refl
each-same read write P one (a ∷ xs) h =
    ap (λ z. z ∷ map write (map read xs)) (one a (h zero (read a) refl)) ∙ ap (λ zs. a ∷ zs) (each-same read write P one xs (λ i. h (suc i)))

-- so is a predecessor
pub behind-same : {A B : Type 0} (read : A → B) (write : B → A) (P : B → Type 0) → ((a : A) → P (read a) → write (read a) ≡ a)
    → (behind : Option A) → IfSome (option_map read behind) P → option_map write (option_map read behind) ≡ behind
behind-same read write P one None h = refl
behind-same read write P one (Some a) h = ap Some (one a h)

-- ---- instructions

-- futures that are in range are written as they were read
pub futures-same : (kind : Kind) (names : List (List ℕ)) → Each (map (future_place kind.variables) names) (IsFutureAt kind)
    → map (name_at (variable_names kind.variables)) (map (future_place kind.variables) names) ≡ names
futures-same kind = each-same (future_place kind.variables) (name_at (variable_names kind.variables)) (IsFutureAt kind)
    (λ name f. variable-same Sort.Future name kind.variables f)

-- an instruction that is well formed is written as it was read
module _ (p : Program) (kind : Kind) (state : State) (at : ℕ) (label_place : List ℕ → ℕ)
    (label : (name : List ℕ) → IsLabelAhead state at (label_place name) → name_at (label_names state.code) (label_place name) ≡ name) where
  number : (name : List ℕ) → IsNumberAt kind (number_place kind.variables name) → name_at (variable_names kind.variables) (number_place kind.variables name) ≡ name
  number name f = variable-same Sort.Number name kind.variables f

  future : (name : List ℕ) → IsFutureAt kind (future_place kind.variables name) → name_at (variable_names kind.variables) (future_place kind.variables name) ≡ name
  future name f = variable-same Sort.Future name kind.variables f

  term : (t : Term) → IsFormedOperand kind (operand_of (positions_of p kind) t) → term_of (variable_names kind.variables) (operand_of (positions_of p kind) t) ≡ t
  term (Term.Literal n) f = refl
  term (Term.Variable name) f = ap (λ n. Term.Variable n) (number name f)

  passed : (a : Passed) → IsFormedArgument kind (argument_of (positions_of p kind) a) → passed_of (variable_names kind.variables) (argument_of (positions_of p kind) a) ≡ a
  passed (Passed.Number t) f = ap (λ x. Passed.Number x) (term t f)
  passed (Passed.Future name) f = ap (λ n. Passed.Future n) (future name f)

  before : (behind : Option (List ℕ)) → IfSome (option_map (future_place kind.variables) behind) (IsFutureAt kind)
      → option_map (name_at (variable_names kind.variables)) (option_map (future_place kind.variables) behind) ≡ behind
  before = behind-same (future_place kind.variables) (name_at (variable_names kind.variables)) (IsFutureAt kind) future

  pub step-same : (step : Step) → IsFormedInstr p kind state at (instr_of (positions_of p kind) label_place step)
      → step_of (names_in (kind_names p.kinds) kind state) (instr_of (positions_of p kind) label_place step) ≡ step
  unfolding instr_of step_of
  step-same (Set to value) f = rw (number to f.0, term value f.1) refl
  step-same (Math operation to left right) f = rw (number to f.0, term left f.1, term right f.2) refl
  step-same (If relation left right target) f = rw (term left f.0, term right f.1, label target f.2) refl
  step-same (Goto target) f = ap (λ n. Goto n) (label target f)
  step-same (Label name) f = refl
  step-same (Cell to column row) f = rw (number to f.0, term row f.2) refl
  step-same (Rows to column) f = rw (number to f.0) refl
  step-same (Spawn to callee arguments behind priority retry) f =
      rw (
        future to f.0,
        place-same (kind_names p.kinds) callee (rw length-map f.1),
        each-same (argument_of (positions_of p kind)) (passed_of (variable_names kind.variables)) (IsFormedArgument kind) passed arguments f.3,
        before behind f.4,
      ) refl
  step-same (All to members priority retry) f = rw (future to f.0, futures-same kind members f.3) refl
  step-same (Copy to source) f = rw (future to f.0, future source f.1) refl
  step-same (Drop released) f = ap (λ n. Drop n) (future released f)
  step-same (Get to settled) f = rw (number to f.0, future settled f.1) refl
  step-same (Again target behind priority) f = rw (place-same (state_names kind.states) target (rw length-map f.0), before behind f.1) refl
  step-same (Done value) f = ap (λ v. Done v) (term value f)
