-- The states of a kind are well formed where their names are known.
use Rattle.task_reader.proofs.Vocabulary.{◌≡◌, ℕ, suc, ◌+◌, ◌<◌, add-one, true, Option, Some, List, [], ◌∷◌, ◌++◌, Ok, map, length, slice_get, refl, sym, ◌∙◌, ap, inl, inr, subst, arith, append-nil, option_map, AllDiffer, Each, instr_at, IsFormedInstr, IsFormedState, IsLabel, Leaves, Future, Variable, Instr, Line, State, Kind, Program, differ-nil, differ-map, each-nil, each-cons, Step, Goto, Label, Again, Done, What, Item, Place, Outside, Head, Code, Ended, Scope, has_variable, after, place_behind, IsInState, MayFollow, IsInside, UsesFuture, futures_uses, state_uses, Known, kind_names, state_names, known_at, uses_known, line_known, names_known, Positions, future_place, code_from, state_of, states_from, variables_from, append_assoc}
use Rattle.task_reader.proofs.Places.{future-place-same}
use Rattle.task_reader.proofs.Known.{AllGiven, both-known, all-given, given-parts, each-given, futures-given, same-futures}
use Rattle.task_reader.proofs.FormedSteps.{IsFor, known_for, futures-formed}
use Rattle.task_reader.proofs.Stands.{Stand, item_at, no-outside, kind-behind}
use Rattle.task_reader.proofs.FormedCode.{line-at, GivesCode, gives-code, instrs-formed}

-- the futures of a list of which each is a variable differ in place as they differ in name
futures-differ : (variables : List Variable) (names : List (List ℕ)) → Each names (λ name. has_variable variables Future name ≡ true)
    → AllDiffer names → AllDiffer (map (future_place variables) names)
futures-differ variables names are differ = differ-map (future_place variables) names
    (λ i j x y e f same. future-place-same variables x y (are i x e) (are j y f) same) differ

futures-are : (k : Known) (names : List (List ℕ)) → AllGiven k (map UsesFuture names) → Each names (λ name. has_variable k.variables Future name ≡ true)
futures-are k names g = each-given k UsesFuture (λ name. has_variable k.variables Future name ≡ true) (λ name e. e) names g

left-by-label : (state : State) → ((i : ℕ) (a b : Line) → slice_get state.code i ≡ Some a → Leaves a.instr → slice_get state.code (suc i) ≡ Some b → IsLabel b.instr)
    → (at : ℕ) (instr next : Instr) → instr_at state at ≡ Some instr → Leaves instr → instr_at state (at + 1) ≡ Some next → IsLabel next
left-by-label state left at instr next e leaves f = let a = line-at state.code at instr e in
    let g : option_map (λ (l : Line). l.instr) (slice_get state.code (suc at)) ≡ Some next = subst (λ n. option_map (λ (l : Line). l.instr) (slice_get state.code n) ≡ Some next) (add-one at) f in
    let b = line-at state.code (suc at) next g in
    subst IsLabel b.2 (left at a.0 b.0 a.1 (subst Leaves (sym a.2) leaves) b.1)

pub state-formed : (positions : Positions) (p : Program) (kind : Kind) → IsFor positions p kind → (all : List Item) → kind_names all ≡ positions.kinds
    → (s : Scope) (line : ℕ) (name : List ℕ) (holds settled : List (List ℕ)) (items : List Item) → Stand s (item_at line (What.State name holds settled) ∷ items)
    → names_known all s (item_at line (What.State name holds settled) ∷ items) ≡ Ok tt → s.variables ≡ positions.variables
    → (s.states ++ name ∷ []) ++ state_names items ≡ positions.states → IsFormedState p kind (state_of positions line name holds settled items)
unfolding names_known
state-formed positions p kind for all kinds s line name holds settled items stand looked_up variables states = record {
  name = stand.0.1.0.0;
  holds = futures-formed positions p kind for [] [] holds held;
  holds_differ = futures-differ positions.variables holds (futures-are k holds held) stand.1.3;
  settled = futures-formed positions p kind for [] [] settled settled_known;
  settled_differ = futures-differ positions.variables settled (futures-are k settled settled_known) stand.1.4;
  fits = omega (arith, gives.count, gives.fits (omega arith));
  instrs = λ at l e. let z : 0 + at ≡ at = omega arith in
      subst (λ n. IsFormedInstr p kind state n l.instr) z
      (instrs-formed positions p kind for state all kinds items behind 0 stand.2 parts.1 variables states code at l e);
  labels_differ = subst (λ names. AllDiffer names) (sym gives.labels) (gives.differ differ-nil);
  left_by_label = left-by-label state gives.left;
  ends = elim (gives.ends tt) [
    | inl h ↦ let e : Code ≡ Ended = h.0 in cc
    | inr h ↦ (h.0, h.1.instr, h.2, ap (λ (o : Option Line). option_map (λ (l : Line). l.instr) o) h.3, h.4)
  ];
} where
  state : State
  state = state_of positions line name holds settled items

  behind : Scope
  behind = after s (What.State name holds settled)

  gives : GivesCode positions behind 0 items
  gives = gives-code positions items behind 0 stand.2

  k : Known
  k = known_for positions [] []

  parts : (line_known (known_at all s items) line (What.State name holds settled) ≡ Ok tt) × (names_known all behind items ≡ Ok tt)
  parts = both-known _ (names_known all behind items) looked_up

  lists : AllGiven (known_at all s items) (futures_uses holds) × AllGiven (known_at all s items) (futures_uses settled)
  lists = given-parts (known_at all s items) (futures_uses holds) (futures_uses settled)
      (all-given (known_at all s items) line 1 (state_uses holds settled) parts.0).1.1

  held : AllGiven k (map UsesFuture holds)
  held = same-futures (known_at all s items) k variables holds (futures-given (known_at all s items) holds lists.0)

  settled_known : AllGiven k (map UsesFuture settled)
  settled_known = same-futures (known_at all s items) k variables settled (futures-given (known_at all s items) settled lists.1)

  code : (j : ℕ) → slice_get state.code (0 + j) ≡ slice_get (code_from positions 0 items) j
  code j = let z : 0 + j ≡ j = omega arith in ap (λ n. slice_get state.code n) z

-- ---- all states of a kind

no-variables-step : (line : ℕ) (w : What) (items : List Item) (s : Scope) → Stand s (item_at line w ∷ items) → (s.place ≡ Head → ⊥) → variables_from (item_at line w ∷ items) ≡ []
no-variables-step line (What.Var variables) items s stand n = absurd (n stand.1.0)
no-variables-step line w items s stand n = refl

-- no variable is given behind the head of a kind
no-variables : (items : List Item) (s : Scope) → Stand s items → (s.place ≡ Head → ⊥) → variables_from items ≡ []
no-variables [] s stand n = refl
no-variables (item ∷ items) s stand n = no-variables-step item.line item.what items s stand n

no-head : (step : Step) → place_behind step ≡ Head → ⊥
no-head (Goto target) e = cc
no-head (Again target behind priority) e = cc
no-head (Done value) e = cc
no-head step e = cc

abbrev StatesFormed : Positions → Program → Kind → List Item → List Item → Type 0
StatesFormed positions p kind all items = (s : Scope) → IsInside s.place → Stand s items → names_known all s items ≡ Ok tt
    → s.variables ++ variables_from items ≡ positions.variables → s.states ++ state_names items ≡ positions.states
    → Each (states_from positions items) (IsFormedState p kind)

states-formed-step : (positions : Positions) (p : Program) (kind : Kind) → IsFor positions p kind → (all : List Item) → kind_names all ≡ positions.kinds
    → (line : ℕ) (w : What) (items : List Item) → StatesFormed positions p kind all items → StatesFormed positions p kind all (item_at line w ∷ items)
unfolding states_from names_known uses_known
states-formed-step positions p kind for all kinds line (What.Var more) items further s in_kind stand known variables states =
    further (after s (What.Var more)) in_kind stand.2 known (append_assoc s.variables more (variables_from items) ∙ variables) states
states-formed-step positions p kind for all kinds line (What.State name holds settled) items further s in_kind stand known variables states =
    let behind = after s (What.State name holds settled) in
    let none : variables_from items ≡ [] = no-variables items behind stand.2 (λ (e : Code ≡ Head). cc) in
    let names : (s.states ++ name ∷ []) ++ state_names items ≡ positions.states = append_assoc s.states (name ∷ []) (state_names items) ∙ states in
    let parts = both-known (line_known (known_at all s items) line (What.State name holds settled)) (names_known all behind items) known in
    each-cons (IsFormedState p kind) (state_of positions line name holds settled items) (states_from positions items)
    (state-formed positions p kind for all kinds s line name holds settled items stand known (sym (append-nil s.variables) ∙ variables) names)
    (further behind tt stand.2 parts.1 (ap (λ more. s.variables ++ more) none ∙ variables) names)
states-formed-step positions p kind for all kinds line (What.Step step) items further s in_kind stand known variables states =
    let behind = after s (What.Step step) in
    let none : variables_from items ≡ [] = no-variables items behind stand.2 (no-head step) in
    let parts = both-known (line_known (known_at all s items) line (What.Step step)) (names_known all behind items) known in
    further behind (kind-behind step) stand.2 parts.1 (ap (λ more. s.variables ++ more) none ∙ variables) states
states-formed-step positions p kind for all kinds line What.End items further s in_kind stand known variables states = each-nil (IsFormedState p kind)
states-formed-step positions p kind for all kinds line _ items further s in_kind stand known variables states =
    absurd (no-outside s.place in_kind stand.1.0)

pub states-formed : (positions : Positions) (p : Program) (kind : Kind) → IsFor positions p kind → (all : List Item) → kind_names all ≡ positions.kinds
    → (items : List Item) → StatesFormed positions p kind all items
unfolding states_from
states-formed positions p kind for all kinds [] s in_kind stand known variables states = absurd (no-outside s.place in_kind stand)
states-formed positions p kind for all kinds (item ∷ items) s in_kind stand known variables states =
    states-formed-step positions p kind for all kinds item.line item.what items (states-formed positions p kind for all kinds items) s in_kind stand known variables states

-- ---- a kind has a state

abbrev HasState : Positions → List Item → Type 0
HasState positions items = (s : Scope) → s.place ≡ Head → Stand s items → 0 < length (states_from positions items)

pub no-step : (place : Place) (step : Step) → place ≡ Head → MayFollow place step → ⊥
no-step place (Label name) e may = subst IsInState e may
no-step place step e may = let f : Code ≡ Head = sym may ∙ e in cc

has-state-step : (positions : Positions) (line : ℕ) (w : What) (items : List Item) → HasState positions items → HasState positions (item_at line w ∷ items)
unfolding states_from
has-state-step positions line (What.Var more) items further s head stand = further (after s (What.Var more)) head stand.2
has-state-step positions line (What.State name holds settled) items further s head stand = omega arith
has-state-step positions line (What.Step step) items further s head stand = absurd (no-step s.place step head stand.1.0)
has-state-step positions line What.End items further s head stand = let f : Ended ≡ Head = sym stand.1 ∙ head in cc
has-state-step positions line _ items further s head stand = let f : Outside ≡ Head = sym stand.1.0 ∙ head in cc

pub has-state : (positions : Positions) (items : List Item) → HasState positions items
unfolding states_from
has-state positions [] s head stand = let f : Outside ≡ Head = sym stand ∙ head in cc
has-state positions (item ∷ items) s head stand = has-state-step positions item.line item.what items (has-state positions items) s head stand
