-- Numbering a program changes its line numbers alone, and these are not printed.
use Rattle.task_writer.proofs.Vocabulary.{What, ◌≡◌, ℕ, ◌+◌, List, [], ◌∷◌, ◌++◌, map, length, drop, take, refl, sym, ◌∙◌, ap, map-map, flat_map, Line, State, Kind, Root, Program, line_text, header_words, text_of_lines, text_of, numbered_code, numbered_state, numbered_states, numbered_kind, numbered_kinds, numbered_roots, renumbered, unnumbered_line, unnumbered_state, unnumbered_kind, unnumbered_root, unnumbered, AreSameButLines, Names, name_at, label_of, step_of, kind_names, variable_names, state_names, root_names, names_in, code_lines, state_lines, var_lines, kind_lines, root_line, lines_of_program}

-- ---- all else is kept

code-kept : (at : ℕ) (code : List Line) → map unnumbered_line (numbered_code at code) ≡ map unnumbered_line code
unfolding numbered_code
code-kept at [] = refl
code-kept at (l ∷ code) = ap (λ ls. unnumbered_line l ∷ ls) (code-kept (at + 1) code)

with_code : State → List Line → State
with_code s code = record s { line = 0; code = code }

state-kept : (at : ℕ) (s : State) → unnumbered_state (numbered_state at s) ≡ unnumbered_state s
unfolding with_code
state-kept at s = ap (with_code s) (code-kept (at + 1) s.code)

states-kept : (size : State → ℕ) (at : ℕ) (states : List State) → map unnumbered_state (numbered_states size at states) ≡ map unnumbered_state states
unfolding numbered_states
states-kept size at [] = refl
states-kept size at (s ∷ states) =
    ap (λ (t : State). t ∷ map unnumbered_state (numbered_states size (at + size s) states)) (state-kept at s)
    ∙ ap (λ ss. unnumbered_state s ∷ ss) (states-kept size (at + size s) states)

with_states : Kind → List State → Kind
with_states k states = record k { line = 0; states = states }

kind-kept : (kinds : List (List ℕ)) (at : ℕ) (k : Kind) → unnumbered_kind (numbered_kind kinds at k) ≡ unnumbered_kind k
unfolding numbered_kind with_states
kind-kept kinds at k = ap (with_states k) (states-kept _ _ k.states)

kinds-kept : (names : List (List ℕ)) (at : ℕ) (kinds : List Kind) → map unnumbered_kind (numbered_kinds names at kinds) ≡ map unnumbered_kind kinds
unfolding numbered_kinds
kinds-kept names at [] = refl
kinds-kept names at (k ∷ kinds) =
    ap (λ (t : Kind). t ∷ map unnumbered_kind (numbered_kinds names (at + length (kind_lines names k)) kinds)) (kind-kept names at k)
    ∙ ap (λ ks. unnumbered_kind k ∷ ks) (kinds-kept names (at + length (kind_lines names k)) kinds)

roots-kept : (at : ℕ) (roots : List Root) → map unnumbered_root (numbered_roots at roots) ≡ map unnumbered_root roots
unfolding numbered_roots
roots-kept at [] = refl
roots-kept at (r ∷ roots) = ap (λ rs. unnumbered_root r ∷ rs) (roots-kept (at + 1) roots)

program_with : List Kind → List Root → Program
program_with kinds roots = record { kinds = kinds; roots = roots }

pub keeps_the_rest : (p : Program) → AreSameButLines (renumbered p) p
unfolding renumbered program_with
keeps_the_rest p =
    ap (λ ks. program_with ks (map unnumbered_root (renumbered p).roots)) (kinds-kept _ _ p.kinds)
    ∙ ap (λ rs. program_with (map unnumbered_kind p.kinds) rs) (roots-kept _ p.roots)

-- ---- the lines are the same

with_names : Kind → List (List ℕ) → List (List ℕ) → List (List ℕ) → Names
with_names k kinds states labels = record { kinds = kinds; variables = variable_names k.variables; states = states; labels = labels }

state-same : (kinds : List (List ℕ)) (k : Kind) (s : State) → state_lines kinds (unnumbered_kind k) (unnumbered_state s) ≡ state_lines kinds k s
unfolding state_lines with_names
state-same kinds k s =
    let name : State → List ℕ = λ s. s.name in
    let label : Line → List ℕ = λ l. label_of l.instr in
    ap (λ ws. What.State s.name (map (name_at (variable_names k.variables)) s.holds) (map (name_at (variable_names k.variables)) s.settled) ∷ ws)
    (map-map (λ (l : Line). What.Step (step_of (names_in kinds (unnumbered_kind k) (unnumbered_state s)) l.instr)) unnumbered_line s.code
    ∙ (ap (λ ns. code_lines (with_names k kinds ns (map label (map unnumbered_line s.code))) s.code) (map-map name unnumbered_state k.states)
    ∙ ap (λ ls. code_lines (with_names k kinds (state_names k.states) ls) s.code) (map-map label unnumbered_line s.code)))

flat-same : {A B : Type 0} (f : A → List B) (g : A → A) → ((a : A) → f (g a) ≡ f a) → (xs : List A) → flat_map f (map g xs) ≡ flat_map f xs
flat-same f g one [] = refl
flat-same f g one (x ∷ xs) = ap (λ z. z ++ flat_map f (map g xs)) (one x) ∙ ap (λ z. f x ++ z) (flat-same f g one xs)

states-same : (kinds : List (List ℕ)) (k : Kind) (states : List State)
    → flat_map (state_lines kinds (unnumbered_kind k)) (map unnumbered_state states) ≡ flat_map (state_lines kinds k) states
states-same kinds k [] = refl
states-same kinds k (s ∷ states) =
    ap (λ z. z ++ flat_map (state_lines kinds (unnumbered_kind k)) (map unnumbered_state states)) (state-same kinds k s)
    ∙ ap (λ z. state_lines kinds k s ++ z) (states-same kinds k states)

kind-same : (kinds : List (List ℕ)) (k : Kind) → kind_lines kinds (unnumbered_kind k) ≡ kind_lines kinds k
unfolding kind_lines
kind-same kinds k =
    ap (λ ws. What.Kind k.name (take k.arguments k.variables) ∷ (var_lines (drop k.arguments k.variables) ++ (ws ++ What.End ∷ []))) (states-same kinds k k.states)

lines-same : (p : Program) → lines_of_program (unnumbered p) ≡ lines_of_program p
unfolding lines_of_program root_line
lines-same p =
    let kind : Kind → List ℕ = λ k. k.name in
    let root : Root → List ℕ = λ r. r.name in
    let kinds = map unnumbered_kind p.kinds in
    let roots = map unnumbered_root p.roots in
    ap (λ ns. flat_map (kind_lines ns) kinds ++ map (root_line ns (map root roots)) roots) (map-map kind unnumbered_kind p.kinds)
    ∙ (ap (λ ns. flat_map (kind_lines (kind_names p.kinds)) kinds ++ map (root_line (kind_names p.kinds) ns) roots) (map-map root unnumbered_root p.roots)
    ∙ (ap (λ ws. ws ++ map (root_line (kind_names p.kinds) (root_names p.roots)) roots) (flat-same (kind_lines (kind_names p.kinds)) unnumbered_kind (kind-same (kind_names p.kinds)) p.kinds)
    ∙ ap (λ ws. flat_map (kind_lines (kind_names p.kinds)) p.kinds ++ ws) (map-map (root_line (kind_names p.kinds) (root_names p.roots)) unnumbered_root p.roots)))

pub prints_the_same : (p : Program) → text_of (renumbered p) ≡ text_of p
unfolding text_of
prints_the_same p =
    ap (λ ws. line_text header_words ++ text_of_lines ws) (sym (lines-same (renumbered p)) ∙ (ap lines_of_program (keeps_the_rest p) ∙ lines-same p))
