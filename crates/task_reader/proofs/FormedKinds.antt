-- The kinds of a program are well formed where their names are known.
use Rattle.task_reader.proofs.Vocabulary.{◌≡◌, ℕ, ◌≤◌, List, [], ◌∷◌, ◌++◌, Ok, map, length, refl, sym, ◌∙◌, ap, subst, arith, append-nil, length-map, IsName, AllDiffer, Each, IsFormedKind, Sort, Variable, State, Program, each-nil, each-cons, each-append, Word, What, Item, Scope, after, EachSpells, SpellsName, SpellsFuture, SpellsVariable, kind_names, state_names, known_at, uses_known, line_known, names_known, Positions, states_from, variables_from, kind_of, kinds_from, append_assoc, length-append}
use Rattle.task_reader.proofs.Known.{both-known}
use Rattle.task_reader.proofs.FormedSteps.{IsFor}
use Rattle.task_reader.proofs.Stands.{Stand, item_at, AreNames, no-names, state-names, names-of-states}
use Rattle.task_reader.proofs.FormedStates.{states-formed, has-state}

-- variables with names of the language, none twice, and not too many
pub record AreVariables (variables : List Variable) : Type 0 where
  pub differ : AllDiffer variables
  pub fit : length variables ≤ 255
  pub names : Each variables (λ (v : Variable). IsName v.name)

variable-name : (word : Word) (variable : Variable) → SpellsVariable word variable → IsName variable.name
variable-name word variable = by variable.sort where
  by : (s : Sort) → elim s as (λ _. Type 0) [ Sort.Number ↦ SpellsName word variable.name | Sort.Future ↦ SpellsFuture word variable.name ] → IsName variable.name
  by Sort.Number h = h.1
  by Sort.Future h = h.1

variable-names : (words : List Word) (variables : List Variable) → EachSpells SpellsVariable words variables → Each variables (λ (v : Variable). IsName v.name)
variable-names words [] h = each-nil (λ (v : Variable). IsName v.name)
variable-names [] (variable ∷ more) h = absurd h
variable-names (word ∷ words) (variable ∷ more) h = each-cons (λ (v : Variable). IsName v.name) variable more (variable-name word variable h.0) (variable-names words more h.1)

abbrev VariablesFormed : List Item → Type 0
VariablesFormed items = (s : Scope) → Stand s items → AreVariables s.variables → AreVariables (s.variables ++ variables_from items)

variables-formed-step : (line : ℕ) (w : What) (items : List Item) → VariablesFormed items → VariablesFormed (item_at line w ∷ items)
variables-formed-step line (What.Var more) items further s stand are =
    subst AreVariables (append_assoc s.variables more (variables_from items))
    (further (after s (What.Var more)) stand.2 (record {
      differ = stand.1.1;
      fit = stand.1.2;
      names = each-append (λ (v : Variable). IsName v.name) s.variables more are.names (variable-names stand.0.1.0.0.0 more stand.0.1.0.0.2);
    }))
variables-formed-step line w items further s stand are = subst AreVariables (sym (append-nil s.variables)) are

variables-formed : (items : List Item) → VariablesFormed items
variables-formed [] s stand are = subst AreVariables (sym (append-nil s.variables)) are
variables-formed (item ∷ items) s stand are = variables-formed-step item.line item.what items (variables-formed items) s stand are

-- the variables of a kind that its line and those behind it give
pub kind-variables : (s : Scope) (line : ℕ) (name : List ℕ) (arguments : List Variable) (items : List Item) → Stand s (item_at line (What.Kind name arguments) ∷ items)
    → AreVariables (arguments ++ variables_from items)
kind-variables s line name arguments items stand = variables-formed items (after s (What.Kind name arguments)) stand.2
    (record { differ = stand.1.3; fit = omega (arith, stand.1.4); names = variable-names stand.0.1.0.1.0.0 arguments stand.0.1.0.1.0.1 })

kind-formed : (p : Program) (kinds : List (List ℕ)) → length p.kinds ≡ length kinds → (all : List Item) → kind_names all ≡ kinds
    → (s : Scope) (line : ℕ) (name : List ℕ) (arguments : List Variable) (items : List Item) → Stand s (item_at line (What.Kind name arguments) ∷ items)
    → names_known all (after s (What.Kind name arguments)) items ≡ Ok tt → IsFormedKind p (kind_of kinds line name arguments items)
unfolding kind_of
kind-formed p kinds count all names s line name arguments items stand looked_up = record {
  name = stand.0.1.0.0;
  arguments_fit = stand.1.4;
  arguments_are_variables = omega (arith, length-append arguments (variables_from items));
  variables_fit = variables.fit;
  variable_names = variables.names;
  variables_differ = variables.differ;
  states_fit = omega (arith, ap length same, length-map (states_from positions items) (λ (s : State). s.name), state_names_are.fit);
  has_state = has-state positions items head refl stand.2;
  state_names_differ = subst (λ names. AllDiffer names) (sym same) state_names_are.differ;
  states = states-formed positions p (kind_of kinds line name arguments items) for all names items head tt stand.2 looked_up refl refl;
} where
  positions : Positions
  positions = record { kinds = kinds; variables = arguments ++ variables_from items; states = state_names items }

  head : Scope
  head = after s (What.Kind name arguments)

  same : map (λ (s : State). s.name) (states_from positions items) ≡ state_names items
  same = names-of-states positions items

  variables : AreVariables (arguments ++ variables_from items)
  variables = kind-variables s line name arguments items stand

  state_names_are : AreNames 32 (state_names items)
  state_names_are = state-names items head tt stand.2 (no-names 32)

  for : IsFor positions p (kind_of kinds line name arguments items)
  for = record {
    kinds = count;
    variables = refl;
    states = sym (length-map (states_from positions items) (λ (s : State). s.name)) ∙ ap length same;
  }

abbrev KindsFormed : Program → List (List ℕ) → List Item → List Item → Type 0
KindsFormed p kinds all items = (s : Scope) → Stand s items → names_known all s items ≡ Ok tt → Each (kinds_from kinds items) (IsFormedKind p)

kinds-formed-step : (p : Program) (kinds : List (List ℕ)) → length p.kinds ≡ length kinds → (all : List Item) → kind_names all ≡ kinds
    → (line : ℕ) (w : What) (items : List Item) → KindsFormed p kinds all items → KindsFormed p kinds all (item_at line w ∷ items)
unfolding kinds_from names_known uses_known
kinds-formed-step p kinds count all names line (What.Kind name arguments) items further s stand known =
    each-cons (IsFormedKind p) (kind_of kinds line name arguments items) (kinds_from kinds items)
    (kind-formed p kinds count all names s line name arguments items stand known)
    (further (after s (What.Kind name arguments)) stand.2 known)
kinds-formed-step p kinds count all names line w items further s stand known =
    let parts = both-known (line_known (known_at all s items) line w) (names_known all (after s w) items) known in
    further (after s w) stand.2 parts.1

pub kinds-formed : (p : Program) (kinds : List (List ℕ)) → length p.kinds ≡ length kinds → (all : List Item) → kind_names all ≡ kinds
    → (items : List Item) → KindsFormed p kinds all items
unfolding kinds_from
kinds-formed p kinds count all names [] s stand known = each-nil (IsFormedKind p)
kinds-formed p kinds count all names (item ∷ items) s stand known =
    kinds-formed-step p kinds count all names item.line item.what items (kinds-formed p kinds count all names items) s stand known
