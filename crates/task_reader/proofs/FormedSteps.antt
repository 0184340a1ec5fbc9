-- An instruction is well formed where its names are known.
use Rattle.task_reader.proofs.Vocabulary.{What, ◌≡◌, ◌≢◌, ℕ, ◌<◌, ◌≤◌, ◌^◌, true, ◌&&◌, Option, Some, None, List, [], ◌∷◌, Ok, map, length, refl, sym, subst, arith, IfSome, nat_lt, option_map, list_all, digits_value, ltb-true, length-map, is_between, is_digit, Each, IsNumberAt, IsFutureAt, IsFormedOperand, IsFormedArgument, IsFormedInstr, IsLabelAhead, Number, Future, State, Kind, Program, both, each-map, each-nil, each-cons, Word, is_among, Term, Passed, Step, Set, Math, If, Goto, Label, Cell, Rows, Spawn, All, Copy, Drop, Get, Again, Done, Scope, has_variable, SpellsNumber, SpellsTerm, SpellsPassed, Spells, EachSpells, MayName, UsesFuture, term_use, passed_use, behind_uses, step_uses, Known, is_given, uses_known, Positions, place_of, number_place, future_place, operand_of, argument_of, instr_of}
use Rattle.task_reader.proofs.Places.{place-within, number-at, future-at}
use Rattle.task_reader.proofs.Known.{AllGiven, all-given, given-parts, each-given}

-- the positions are those of a kind in its program
pub record IsFor (positions : Positions) (p : Program) (kind : Kind) : Type 0 where
  pub kinds : length p.kinds ≡ length positions.kinds
  pub variables : kind.variables ≡ positions.variables
  pub states : length kind.states ≡ length positions.states

-- what is known where the names of a kind have these positions
abbrev pub known_for : Positions → List (List ℕ) → List (List ℕ) → Known
known_for positions labels roots = record { kinds = positions.kinds; variables = positions.variables; states = positions.states; labels = labels; roots = roots }

-- the labels that are known stand ahead, at the places given
abbrev pub LabelsAhead : State → ℕ → List (List ℕ) → (List ℕ → ℕ) → Type 0
LabelsAhead state at labels label_place = (name : List ℕ) → is_among labels name ≡ true → IsLabelAhead state at (label_place name)

pub number-fits : (word : Word) (n : ℕ) → SpellsNumber word n → n < 2 ^ 64
number-fits word n s = let b : ((is_between 1 20 (length word) && list_all is_digit word) ≡ true) × (nat_lt (digits_value 10 word) (2 ^ 64) ≡ true) = both _ _ s.0 in
    subst (λ v. v < 2 ^ 64) s.1 (ltb-true (digits_value 10 word) (2 ^ 64) b.1)

number-formed : (positions : Positions) (p : Program) (kind : Kind) → IsFor positions p kind → (name : List ℕ)
    → has_variable positions.variables Number name ≡ true → IsNumberAt kind (number_place positions.variables name)
number-formed positions p kind for name e =
    subst (λ vs. has_variable vs Number name ≡ true → IsNumberAt kind (number_place vs name)) for.variables (number-at kind name) e

-- a future that is given has a place among the variables
pub future-formed : (positions : Positions) (p : Program) (kind : Kind) → IsFor positions p kind → (name : List ℕ)
    → has_variable positions.variables Future name ≡ true → IsFutureAt kind (future_place positions.variables name)
future-formed positions p kind for name e =
    subst (λ vs. has_variable vs Future name ≡ true → IsFutureAt kind (future_place vs name)) for.variables (future-at kind name) e

-- what is said of an instruction where its names are known
module _ (positions : Positions) (p : Program) (kind : Kind) (for : IsFor positions p kind) (labels roots : List (List ℕ)) where
  abbrev pub k : Known
  k = known_for positions labels roots

  term-formed : (w : Word) (t : Term) → SpellsTerm w t → is_given k (term_use t) ≡ true → IsFormedOperand kind (operand_of positions t)
  term-formed w (Term.Literal n) s e = number-fits w n s
  term-formed w (Term.Variable name) s e = number-formed positions p kind for name e

  passed-formed : (w : Word) (a : Passed) → SpellsPassed w a → is_given k (passed_use a) ≡ true → IsFormedArgument kind (argument_of positions a)
  passed-formed w (Passed.Number t) s e = term-formed w t s e
  passed-formed w (Passed.Future name) s e = future-formed positions p kind for name e

  arguments-formed : (ws : List Word) (arguments : List Passed) → EachSpells SpellsPassed ws arguments → AllGiven k (map passed_use arguments)
      → Each arguments (λ a. IsFormedArgument kind (argument_of positions a))
  arguments-formed ws [] s g = each-nil (λ a. IsFormedArgument kind (argument_of positions a))
  arguments-formed [] (a ∷ more) s g = absurd s
  arguments-formed (w ∷ ws) (a ∷ more) s g = each-cons (λ a. IsFormedArgument kind (argument_of positions a)) a more
      (passed-formed w a s.0 g.0) (arguments-formed ws more s.1 g.1)

  behind-formed : (behind : Option (List ℕ)) → AllGiven k (behind_uses UsesFuture behind) → IfSome (option_map (future_place positions.variables) behind) (IsFutureAt kind)
  behind-formed None g = tt
  behind-formed (Some name) g = future-formed positions p kind for name g.1.0

  -- the futures of a list have places among the variables
  pub futures-formed : (names : List (List ℕ)) → AllGiven k (map UsesFuture names) → Each (map (future_place positions.variables) names) (IsFutureAt kind)
  futures-formed names g = each-map (future_place positions.variables) (IsFutureAt kind) names
      (each-given k UsesFuture (λ name. IsFutureAt kind (future_place positions.variables name)) (λ name e. future-formed positions p kind for name e) names g)

some-members : {A : Type 0} (xs : List A) → xs ≢ [] → 0 < length xs
some-members [] n = absurd (n refl)
some-members (x ∷ xs) n = omega arith

-- an instruction is well formed where its names are known
pub step-formed : (positions : Positions) (p : Program) (kind : Kind) → IsFor positions p kind → (state : State) (at : ℕ) (labels roots : List (List ℕ)) (label_place : List ℕ → ℕ)
    → LabelsAhead state at labels label_place → (s : Scope) (line : ℕ) (words : List Word) (step : Step) → Spells words (What.Step step) → MayName s step
    → uses_known (known_for positions labels roots) line 1 (step_uses step) ≡ Ok tt → IsFormedInstr p kind state at (instr_of positions label_place step)
unfolding instr_of
step-formed positions p kind for state at labels roots label_place ahead s line words step spelled may e =
    given step spelled may (all-given (known_for positions labels roots) line 1 (step_uses step) e)
  where
    given : (step : Step) → Spells words (What.Step step) → MayName s step → AllGiven (known_for positions labels roots) (step_uses step) → IsFormedInstr p kind state at (instr_of positions label_place step)
    given (Set to value) spelled may g = (number-formed positions p kind for to g.1.0, term-formed positions p kind for labels roots spelled.0.1.0.0 value spelled.0.1.0.1 g.1.1.0)
    given (Math operation to left right) spelled may g = (
      number-formed positions p kind for to g.1.0,
      term-formed positions p kind for labels roots spelled.0.1.0.0 left spelled.0.1.0.1 g.1.1.0,
      term-formed positions p kind for labels roots spelled.0.1.1.0.0 right spelled.0.1.1.0.1 g.1.1.1.0,
    )
    given (If relation left right target) spelled may g = (
      term-formed positions p kind for labels roots spelled.0.0.0 left spelled.0.0.1 g.1.0,
      term-formed positions p kind for labels roots spelled.0.1.1.0.0 right spelled.0.1.1.0.1 g.1.1.1.0,
      ahead target g.1.1.1.1.1.0,
    )
    given (Goto target) spelled may g = ahead target g.1.0
    given (Label name) spelled may g = spelled.0.0
    given (Cell to column row) spelled may g =
        (number-formed positions p kind for to g.1.0, spelled.0.1.0, term-formed positions p kind for labels roots spelled.0.1.1.0.0 row spelled.0.1.1.0.1 g.1.1.1.0)
    given (Rows to column) spelled may g = (number-formed positions p kind for to g.1.0, spelled.0.1.0)
    given (Spawn to callee arguments behind priority retry) spelled may g =
        let few : length (map (argument_of positions) arguments) ≤ 16 = rw length-map may in
        let parts = given-parts (known_for positions labels roots) (map passed_use arguments) (behind_uses UsesFuture behind) g.1.1.1 in (
          future-formed positions p kind for to g.1.0,
          subst (λ n. place_of positions.kinds callee < n) (sym for.kinds) (place-within positions.kinds callee g.1.1.0),
          few,
          each-map (argument_of positions) (IsFormedArgument kind) arguments
              (arguments-formed positions p kind for labels roots spelled.0.1.1.0.0 arguments spelled.0.1.1.0.1 parts.0),
          behind-formed positions p kind for labels roots behind parts.1,
        )
    given (All to members priority retry) spelled may g =
        let few : length (map (future_place positions.variables) members) ≤ 8 = rw length-map may in
        let some : 0 < length (map (future_place positions.variables) members) = rw length-map (some-members members spelled.0.1.0.1) in
        (future-formed positions p kind for to g.1.0, some, few, futures-formed positions p kind for labels roots members g.1.1)
    given (Copy to source) spelled may g = (future-formed positions p kind for to g.1.0, future-formed positions p kind for source g.1.1.0)
    given (Drop future) spelled may g = future-formed positions p kind for future g.1.0
    given (Get to future) spelled may g = (number-formed positions p kind for to g.1.0, future-formed positions p kind for future g.1.1.0)
    given (Again target behind priority) spelled may g = (
      subst (λ n. place_of positions.states target < n) (sym for.states) (place-within positions.states target g.1.0),
      behind-formed positions p kind for labels roots behind g.1.1,
    )
    given (Done value) spelled may g = term-formed positions p kind for labels roots spelled.0.0.0 value spelled.0.0.1 g.1.0
