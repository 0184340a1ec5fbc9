-- The lines of the program that items stand for are the lines of the items.
use Rattle.task_writer.proofs.Vocabulary.{◌≡◌, ℕ, zero, suc, ◌+◌, ◌<◌, Bool, true, false, cond, Some, List, [], ◌∷◌, ◌++◌, map, length, slice_get, refl, sym, ◌∙◌, ap, subst, arith, append_assoc, length-append, length-map, flat_map, take-append_seam, drop-append_seam, same_bytes, EachAt, Each, IsFormedInstr, IsFormedState, IsFormedKind, IsFormedRoot, IsFormedRootArgument, IsLabelAhead, IsWellFormed, State, Kind, Program, Line, RootTerm, What, Item, first_scope, Positions, names_of_kinds, names_of_states, names_of_roots, place_of, instr_of, steps_to, code_from, state_of, states_from, variables_from, kind_of, kinds_from, root_argument_of, root_of, roots_from, program_of, line-at, same-name, some-same, Stand, item_at, names-of-kinds, names-of-roots, names-of-states, Label, label_names, name_at, kind_names, state_names, root_names, label_of, names_in, code_lines, state_lines, kind_lines, var_lines, root_term_of, root_line, lines_of_program}
use Rattle.task_writer.proofs.Itemized.{by-items}
use Rattle.task_writer.proofs.Named.{name-found}
use Rattle.task_writer.proofs.ReadCode.{positions_of, IsFrom, from-start, from-next, from-here}
use Rattle.task_writer.proofs.ReadRoots.{earlier-name}
use Rattle.task_writer.proofs.UniqueSteps.{get-later, place-passes, place-same, each-same, behind-same, futures-same, step-same}
use Rattle.task_writer.proofs.LinesAhead.{whats, all_words, code_ahead, states_ahead, kinds_ahead, roots_ahead, IsOrdered, lines-ahead}

-- ---- instructions

-- what stands where the steps to a label lead has the name of that label
abbrev IsThere : Positions → List Item → Type 0
IsThere positions items = (at : ℕ) (name : List ℕ) (l : Line) → slice_get (code_from positions at items) (steps_to name items) ≡ Some l → label_of l.instr ≡ name

label-there : (positions : Positions) (items : List Item) → IsThere positions items
unfolding code_from instr_of
label-there positions = by-items (IsThere positions) (λ at name l e. cc) next where
  next : (line : ℕ) (w : What) (items : List Item) → IsThere positions items → IsThere positions (item_at line w ∷ items)
  next line (What.Step (Label other)) items further at name l e = by (same_bytes name other) refl e where
    by : (b : Bool) → same_bytes name other ≡ b
        → slice_get (code_from positions at (item_at line (What.Step (Label other)) ∷ items)) (cond b 0 (steps_to name items + 1)) ≡ Some l → label_of l.instr ≡ name
    by true s e = ap (λ (x : Line). label_of x.instr) (sym (some-same _ l e)) ∙ sym (same-name name other s)
    by false s e = further (at + 1) name l (sym (get-later _ (code_from positions (at + 1) items) (steps_to name items)) ∙ e)
  next line (What.Step other) items further at name l e =
      further (at + 1) name l (sym (get-later _ (code_from positions (at + 1) items) (steps_to name items)) ∙ e)
  next line _ items further at name l e = cc

-- the code is written as it was read, from a place on
abbrev IsCode : Program → Kind → State → List Item → Type 0
IsCode p kind state items = (at : ℕ) → IsFrom state.code at (code_from (positions_of p kind) at items)
    → code_lines (names_in (kind_names p.kinds) kind state) (code_from (positions_of p kind) at items) ≡ code_ahead items

code-same : (p : Program) (kind : Kind) (state : State) → EachAt state.code (λ at line. IsFormedInstr p kind state at line.instr)
    → (items : List Item) → IsCode p kind state items
unfolding code_from
code-same p kind state formed = by-items (IsCode p kind state) (λ at from. refl) next where
  next : (line : ℕ) (w : What) (items : List Item) → IsCode p kind state items → IsCode p kind state (item_at line w ∷ items)
  next line (What.Step step) items further at from =
      let code = code_from (positions_of p kind) (at + 1) items in
      let later = from-next state.code at _ code from in
      let here = formed at _ (from-here state.code at _ code from) in
      let place : List ℕ → ℕ = λ name. at + 1 + steps_to name items in
      let label : (name : List ℕ) → IsLabelAhead state at (place name) → name_at (label_names state.code) (place name) ≡ name =
      λ name ahead. let l = line-at state.code (place name) ahead.1.0 ahead.1.1 in
      name-found (λ (l : Line). label_of l.instr) state.code (place name) l.0 l.1
      ∙ label-there (positions_of p kind) items (at + 1) name l.0 (sym (later (steps_to name items)) ∙ l.1) in
      ap (λ z. What.Step z ∷ code_lines (names_in (kind_names p.kinds) kind state) code) (step-same p kind state at place label step here)
      ∙ ap (λ ws. What.Step step ∷ ws) (further (at + 1) later)
  next line _ items further at from = refl

-- ---- states and kinds

abbrev AreStates : Program → Kind → List Item → Type 0
AreStates p kind items = Each (states_from (positions_of p kind) items) (IsFormedState p kind)
    → flat_map (state_lines (kind_names p.kinds) kind) (states_from (positions_of p kind) items) ≡ states_ahead items

states-same : (p : Program) (kind : Kind) (items : List Item) → AreStates p kind items
unfolding states_from state_lines
states-same p kind = by-items (AreStates p kind) (λ formed. refl) next where
  next : (line : ℕ) (w : What) (items : List Item) → AreStates p kind items → AreStates p kind (item_at line w ∷ items)
  next line (What.State name holds settled) items further formed =
      let state = state_of (positions_of p kind) line name holds settled items in
      let f = formed zero state refl in
      rw (
        futures-same kind holds f.holds,
        futures-same kind settled f.settled,
        code-same p kind state f.instrs items 0 (from-start state.code),
        further (λ i. formed (suc i)),
      ) refl
  next line What.End items further formed = refl
  next line _ items further formed = further formed

positions-same : (p : Program) (kind : Kind) (kinds states : List (List ℕ)) → kinds ≡ kind_names p.kinds → states ≡ state_names kind.states
    → ◌≡◌ {A = Positions} (record { kinds = kinds; variables = kind.variables; states = states }) (positions_of p kind)
positions-same p kind kinds states e f = rw (e, f) refl

abbrev AreKinds : Program → List (List ℕ) → List Item → Type 0
AreKinds p kinds items = Each (kinds_from kinds items) (IsFormedKind p) → flat_map (kind_lines (kind_names p.kinds)) (kinds_from kinds items) ≡ kinds_ahead items

kinds-same : (p : Program) (kinds : List (List ℕ)) → kinds ≡ kind_names p.kinds → (items : List Item) → AreKinds p kinds items
unfolding kinds_from kind_of kind_lines
kinds-same p kinds e = by-items (AreKinds p kinds) (λ formed. refl) next where
  next : (line : ℕ) (w : What) (items : List Item) → AreKinds p kinds items → AreKinds p kinds (item_at line w ∷ items)
  next line (What.Kind name arguments) items further formed =
      let kind = kind_of kinds line name arguments items in
      let own : Positions = record { kinds = kinds; variables = arguments ++ variables_from items; states = names_of_states items } in
      let same = positions-same p kind kinds (names_of_states items) e (sym (names-of-states own items)) in
      let states = subst
      (λ (q : Positions). Each (states_from q items) (IsFormedState p kind) → flat_map (state_lines (kind_names p.kinds) kind) (states_from q items) ≡ states_ahead items)
      (sym same) (states-same p kind items) (formed zero kind refl).states in
      let vars = var_lines (variables_from items) in
      let more = flat_map (kind_lines (kind_names p.kinds)) (kinds_from kinds items) in
      rw (
        take-append_seam arguments (variables_from items),
        drop-append_seam arguments (variables_from items),
        states,
        append_assoc vars (states_ahead items ++ What.End ∷ []) more,
        append_assoc (states_ahead items) (What.End ∷ []) more,
        further (λ i. formed (suc i)),
      ) refl
  next line _ items further formed = further formed

-- ---- roots

-- the name of a root before others is that among all
earlier-same : (earlier more all : List (List ℕ)) (name : List ℕ) → earlier ++ more ≡ all → place_of earlier name < length earlier → name_at all (place_of earlier name) ≡ name
earlier-same earlier more all name e l =
    let at = place_of earlier name in
    let found = name_at (earlier ++ more) at in
    subst (λ ns. name_at ns at ≡ name) e (sym (same-name name found (place-passes (same_bytes name) earlier found (earlier-name earlier more at l))))

abbrev AreRoots : Program → List (List ℕ) → List (List ℕ) → List Item → Type 0
AreRoots p kinds roots items = (earlier : List (List ℕ)) → earlier ++ names_of_roots items ≡ roots
    → EachAt (roots_from kinds earlier items) (λ at root. IsFormedRoot p (length earlier + at) root)
    → map (root_line (kind_names p.kinds) roots) (roots_from kinds earlier items) ≡ roots_ahead items

roots-same : (p : Program) (kinds roots : List (List ℕ)) → kinds ≡ kind_names p.kinds → (items : List Item) → AreRoots p kinds roots items
unfolding roots_from root_of root_line
roots-same p kinds roots e = by-items (AreRoots p kinds roots) (λ earlier names formed. refl) next where
  next : (line : ℕ) (w : What) (items : List Item) → AreRoots p kinds roots items → AreRoots p kinds roots (item_at line w ∷ items)
  next line (What.Root name callee arguments behind priority) items further earlier names formed =
      let root = root_of kinds earlier line name callee arguments behind priority in
      let z : length earlier + 0 ≡ length earlier = omega arith in
      let f = subst (λ n. IsFormedRoot p n root) z (formed zero root refl) in
      let later : EachAt (roots_from kinds (earlier ++ name ∷ []) items) (λ at root. IsFormedRoot p (length (earlier ++ name ∷ []) + at) root) =
      λ at r g. let l = length-append earlier (name ∷ []) in
      let z : length earlier + suc at ≡ length (earlier ++ name ∷ []) + at = omega (arith, l) in subst (λ n. IsFormedRoot p n r) z (formed (suc at) r g) in
      let callee_same : name_at (kind_names p.kinds) (place_of kinds callee) ≡ callee =
      subst (λ ns. name_at (kind_names p.kinds) (place_of ns callee) ≡ callee) (sym e)
      (place-same (kind_names p.kinds) callee (rw length-map (subst (λ ns. place_of ns callee < length p.kinds) e f.kind))) in
      rw (
        callee_same,
        each-same (root_argument_of earlier) (root_term_of roots) (IsFormedRootArgument (length earlier)) term arguments f.arguments,
        behind-same (place_of earlier) (name_at roots) (λ at. at < length earlier) one behind f.behind,
        further (earlier ++ name ∷ []) (append_assoc earlier (name ∷ []) (names_of_roots items) ∙ names) later,
      ) refl where
        one : (name : List ℕ) → place_of earlier name < length earlier → name_at roots (place_of earlier name) ≡ name
        one other l = earlier-same earlier (name ∷ names_of_roots items) roots other names l

        term : (t : RootTerm) → IsFormedRootArgument (length earlier) (root_argument_of earlier t) → root_term_of roots (root_argument_of earlier t) ≡ t
        term (RootTerm.Number n) h = refl
        term (RootTerm.Root other) h = ap (λ n. RootTerm.Root n) (one other h)
  next line _ items further earlier names formed = further earlier names formed

-- ---- all items

pub items-lines : (items : List Item) → Stand first_scope items → IsOrdered (all_words items) → IsWellFormed (program_of items) → lines_of_program (program_of items) ≡ whats items
unfolding lines_of_program program_of
items-lines items stand ordered formed =
    let p = program_of items in
    let named = sym (names-of-kinds (names_of_kinds items) items) in
    let kinds = kinds-same p (names_of_kinds items) named items formed.kinds in
    let roots = roots-same p (names_of_kinds items) (root_names p.roots) named items [] (sym (names-of-roots (names_of_kinds items) items []))
    (λ at root e. let z : at ≡ 0 + at = omega arith in subst (λ n. IsFormedRoot p n root) z (formed.roots at root e)) in
    ap (λ ws. ws ++ map (root_line (kind_names p.kinds) (root_names p.roots)) p.roots) kinds
    ∙ (ap (λ ws. kinds_ahead items ++ ws) roots ∙ lines-ahead items first_scope refl stand ordered)
