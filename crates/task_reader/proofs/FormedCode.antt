-- The code of a state: its instructions, their labels, and how it is left.
use Rattle.task_reader.proofs.Vocabulary.{steps_ahead, ◌≡◌, ℕ, zero, suc, ◌+◌, ◌≤◌, add-one, Bool, true, false, ◌||◌, cond, Option, Some, List, [], ◌∷◌, ◌++◌, Ok, length, slice_get, refl, sym, ◌∙◌, ap, ◌⊎◌, inl, inr, subst, arith, append-nil, option_map, same_bytes, AllDiffer, IsFormedInstr, IsLabel, Leaves, Ends, IsLabelAhead, Instr, Line, State, Kind, Program, differ-snoc, is_among, Step, Goto, Label, Again, Done, What, Item, Place, Head, Code, Ended, Scope, after, place_behind, MayBegin, IsInState, step_uses, kind_names, state_names, label_names, known_at, uses_known, names_known, Positions, steps_to, instr_of, code_from, append_assoc, some-same, labels_of, labels_behind, step_label, MayStand, MayName, MayFollow}
use Rattle.task_reader.proofs.Places.{same-name}
use Rattle.task_reader.proofs.Known.{both-known}
use Rattle.task_reader.proofs.FormedSteps.{IsFor, known_for, step-formed}
use Rattle.task_reader.proofs.Stands.{Stand, item_at, new-absent, label-of-instr}

-- the line of an instruction at a place
pub line-at : (lines : List Line) (at : ℕ) (instr : Instr) → option_map (λ (l : Line). l.instr) (slice_get lines at) ≡ Some instr
    → (line : Line) × (slice_get lines at ≡ Some line) × (line.instr ≡ instr)
line-at [] at instr e = cc
line-at (l ∷ lines) zero instr e = (l, refl, cc)
line-at (l ∷ lines) (suc at) instr e = line-at lines at instr e

get-later : (l : Line) (lines : List Line) (n : ℕ) → slice_get (l ∷ lines) (n + 1) ≡ slice_get lines n
get-later l lines n = rw add-one

-- ---- the code that items give

pub leaves-behind : (positions : Positions) (label_place : List ℕ → ℕ) (step : Step) → Leaves (instr_of positions label_place step) → place_behind step ≡ Code → ⊥
unfolding instr_of
leaves-behind positions label_place (Goto target) h e = cc
leaves-behind positions label_place (Again target behind priority) h e = cc
leaves-behind positions label_place (Done value) h e = cc
leaves-behind positions label_place step h e = absurd h

ends-behind : (positions : Positions) (label_place : List ℕ → ℕ) (step : Step) → place_behind step ≡ Ended → Ends (instr_of positions label_place step)
unfolding instr_of
ends-behind positions label_place (Again target behind priority) e = tt
ends-behind positions label_place (Done value) e = tt
ends-behind positions label_place step e = cc

abbrev pub LeftByLabel : List Line → Type 0
LeftByLabel lines = (i : ℕ) (a b : Line) → slice_get lines i ≡ Some a → Leaves a.instr → slice_get lines (suc i) ≡ Some b → IsLabel b.instr

-- the last line ends an activation
abbrev pub EndsCode : List Line → Type 0
EndsCode lines = (i : ℕ) × (last : Line) × (length lines ≡ i + 1) × (slice_get lines i ≡ Some last) × Ends last.instr

pub state-behind : (step : Step) → IsInState (place_behind step)
state-behind (Goto target) = tt
state-behind (Again target behind priority) = tt
state-behind (Done value) = tt
state-behind _ = tt

is-ended : (place : Place) → MayBegin place → IsInState place → place ≡ Ended
is-ended Head may in_state = absurd in_state
is-ended Ended may in_state = refl
is-ended place may in_state = absurd may

ends-with : (positions : Positions) (label_place : List ℕ → ℕ) (line : ℕ) (step : Step) (lines : List Line)
    → ((place_behind step ≡ Ended) × (lines ≡ [])) ⊎ EndsCode lines → EndsCode (record { line = line; instr = instr_of positions label_place step } ∷ lines)
ends-with positions label_place line step lines (inl h) = (0, _, rw h.1 refl, refl, ends-behind positions label_place step h.0)
ends-with positions label_place line step lines (inr h) = (suc h.0, h.1, omega (arith, h.2), h.3, h.4)

abbrev IsNoStep : What → Type 0
IsNoStep (What.Step step) = ⊥
IsNoStep _ = Unit {0}

-- a line that is no instruction stands behind the end of a state
ended-before : (s : Scope) (w : What) → MayStand s w → IsInState s.place → IsNoStep w → s.place ≡ Ended
ended-before s (What.Step step) may in_state other = absurd other
ended-before s (What.State name holds settled) may in_state other = is-ended s.place may.0 in_state
ended-before s What.End may in_state other = may
ended-before s _ may in_state other = absurd (subst IsInState may.0 in_state)

step-differ : (step : Step) (s : Scope) (names : List (List ℕ)) → MayName s step → (AllDiffer (labels_behind step s.labels) → AllDiffer (labels_behind step s.labels ++ names))
    → AllDiffer s.labels → AllDiffer (s.labels ++ (step_label step ++ names))
step-differ (Label name) s names may further differ =
    subst (λ names. AllDiffer names) (append_assoc s.labels (name ∷ []) names) (further (differ-snoc s.labels name differ (new-absent name s.labels may)))
step-differ _ s names may further differ = further differ

step-first : (positions : Positions) (label_place : List ℕ → ℕ) (step : Step) (place : Place) → MayFollow place step → (place ≡ Code → ⊥) → IsLabel (instr_of positions label_place step)
unfolding instr_of
step-first positions label_place (Label name) place may n = tt
step-first positions label_place _ place may n = absurd (n may)

step-left : (x : Line) (lines : List Line) → (Leaves x.instr → (b : Line) → slice_get lines 0 ≡ Some b → IsLabel b.instr) → LeftByLabel lines → LeftByLabel (x ∷ lines)
step-left x lines one more zero a b e leaves f = one (subst (λ (l : Line). Leaves l.instr) (sym (some-same x a e)) leaves) b f
step-left x lines one more (suc i) a b e leaves f = more i a b e leaves f

-- what the code is that items give to a state, behind the lines that made the scope
pub record GivesCode (positions : Positions) (s : Scope) (at : ℕ) (items : List Item) : Type 0 where
  pub fits : s.steps ≤ 64 → s.steps + steps_ahead items ≤ 64
  pub count : length (code_from positions at items) ≡ steps_ahead items
  pub labels : labels_of (code_from positions at items) ≡ label_names items
  pub differ : AllDiffer s.labels → AllDiffer (s.labels ++ label_names items)
  -- where no instruction is reached from above, a label comes first
  pub first : (s.place ≡ Code → ⊥) → (l : Line) → slice_get (code_from positions at items) 0 ≡ Some l → IsLabel l.instr
  pub left : LeftByLabel (code_from positions at items)
  pub ends : IsInState s.place → ((s.place ≡ Ended) × (code_from positions at items ≡ [])) ⊎ EndsCode (code_from positions at items)

gives-code-step : (positions : Positions) (line : ℕ) (w : What) (items : List Item) → ((s : Scope) (at : ℕ) → Stand s items → GivesCode positions s at items)
    → (s : Scope) (at : ℕ) → Stand s (item_at line w ∷ items) → GivesCode positions s at (item_at line w ∷ items)
unfolding code_from
gives-code-step positions line (What.Step step) items further s at stand =
    let place : List ℕ → ℕ = λ name. at + 1 + steps_to name items in
    let lines = code_from positions (at + 1) items in
    let more = further (after s (What.Step step)) (at + 1) stand.2 in
    record {
      fits = λ few. let all : (s.steps + 1) + steps_ahead items ≤ 64 = more.fits (omega (arith, stand.1.1)) in omega arith;
      count = omega (arith, more.count);
      labels = label-of-instr positions place line step lines ∙ ap (λ names. step_label step ++ names) more.labels;
      differ = step-differ step s (label_names items) stand.1.2 more.differ;
      first = λ n l e. subst (λ (l : Line). IsLabel l.instr) (some-same _ l e) (step-first positions place step s.place stand.1.0 n);
      left = step-left _ lines (λ leaves. more.first (leaves-behind positions place step leaves)) more.left;
      ends = λ in_state. inr (ends-with positions place line step lines (more.ends (state-behind step)));
    }
gives-code-step positions line w items further s at stand = record {
  fits = λ few. omega arith;
  count = refl;
  labels = refl;
  differ = λ differ. subst (λ names. AllDiffer names) (sym (append-nil s.labels)) differ;
  first = λ n l e. cc;
  left = λ i a b e leaves f. cc;
  ends = λ in_state. inl (ended-before s w stand.1 in_state tt, refl);
}

pub gives-code : (positions : Positions) (items : List Item) (s : Scope) (at : ℕ) → Stand s items → GivesCode positions s at items
unfolding code_from
gives-code positions [] s at stand = record {
  fits = λ few. omega arith;
  count = refl;
  labels = refl;
  differ = λ differ. subst (λ names. AllDiffer names) (sym (append-nil s.labels)) differ;
  first = λ n l e. cc;
  left = λ i a b e leaves f. cc;
  ends = λ in_state. absurd (subst IsInState stand in_state);
}
gives-code positions (item ∷ items) s at stand = gives-code-step positions item.line item.what items (gives-code positions items) s at stand

-- ---- labels

-- a label that is given ahead stands where the steps to it say
abbrev pub LabelStands : Positions → List Item → Type 0
LabelStands positions items = (at : ℕ) (name : List ℕ) → is_among (label_names items) name ≡ true
    → (line : Line) × (slice_get (code_from positions at items) (steps_to name items) ≡ Some line) × (line.instr ≡ Instr.Label name)

label-here : (positions : Positions) (line : ℕ) (other : List ℕ) (items : List Item) → LabelStands positions items → (at : ℕ) (name : List ℕ) (b : Bool) → same_bytes name other ≡ b
    → (b || is_among (label_names items) name) ≡ true
    → (l : Line) × (slice_get (code_from positions at (item_at line (What.Step (Label other)) ∷ items)) (cond b 0 (steps_to name items + 1)) ≡ Some l) × (l.instr ≡ Instr.Label name)
unfolding code_from instr_of
label-here positions line other items further at name true e h = (_, refl, ap Instr.Label (sym (same-name name other e)))
label-here positions line other items further at name false e h = let r = further (at + 1) name h in (r.0, get-later _ (code_from positions (at + 1) items) (steps_to name items) ∙ r.1, r.2)

label-stands-step : (positions : Positions) (line : ℕ) (w : What) (items : List Item) → LabelStands positions items → LabelStands positions (item_at line w ∷ items)
unfolding code_from
label-stands-step positions line (What.Step (Label other)) items further at name h = label-here positions line other items further at name (same_bytes name other) refl h
label-stands-step positions line (What.Step step) items further at name h = let r = further (at + 1) name h in (r.0, get-later _ (code_from positions (at + 1) items) (steps_to name items) ∙ r.1, r.2)
label-stands-step positions line w items further at name h = cc

pub label-stands : (positions : Positions) (items : List Item) → LabelStands positions items
unfolding code_from
label-stands positions [] at name h = cc
label-stands positions (item ∷ items) at name h = label-stands-step positions item.line item.what items (label-stands positions items) at name h

-- ---- the instructions

pub known-is : (positions : Positions) (all : List Item) (s : Scope) (items : List Item) → kind_names all ≡ positions.kinds → s.variables ≡ positions.variables
    → s.states ++ state_names items ≡ positions.states → known_at all s items ≡ known_for positions (label_names items) s.roots
known-is positions all s items a b c = cc

abbrev InstrsFormed : Positions → Program → Kind → State → List Item → List Item → Type 0
InstrsFormed positions p kind state all items = (s : Scope) (at : ℕ) → Stand s items → names_known all s items ≡ Ok tt
    → s.variables ≡ positions.variables → s.states ++ state_names items ≡ positions.states
    → ((j : ℕ) → slice_get state.code (at + j) ≡ slice_get (code_from positions at items) j)
    → (j : ℕ) (line : Line) → slice_get (code_from positions at items) j ≡ Some line → IsFormedInstr p kind state (at + j) line.instr

labels-ahead : (positions : Positions) (state : State) (at : ℕ) (items : List Item) → ((j : ℕ) → slice_get state.code ((at + 1) + j) ≡ slice_get (code_from positions (at + 1) items) j)
    → (name : List ℕ) → is_among (label_names items) name ≡ true → IsLabelAhead state at (at + 1 + steps_to name items)
labels-ahead positions state at items code name h = let r = label-stands positions items (at + 1) name h in
    (omega arith, (r.0.instr, ap (λ (o : Option Line). option_map (λ (l : Line). l.instr) o) (code (steps_to name items) ∙ r.1), label r.0.instr (sym r.2))) where
      label : (found : Instr) → Instr.Label name ≡ found → IsLabel found
      label found e = let P : Instr → Type 0 = IsLabel in subst P e tt

instrs-formed-step : (positions : Positions) (p : Program) (kind : Kind) → IsFor positions p kind → (state : State) (all : List Item) → kind_names all ≡ positions.kinds
    → (line : ℕ) (w : What) (items : List Item) → InstrsFormed positions p kind state all items → InstrsFormed positions p kind state all (item_at line w ∷ items)
unfolding code_from names_known
instrs-formed-step positions p kind for state all kinds line (What.Step step) items further s at stand known variables states code j l e =
    by j l e where
      parts : (uses_known (known_at all s items) line 1 (step_uses step) ≡ Ok tt) × (names_known all (after s (What.Step step)) items ≡ Ok tt)
      parts = both-known (uses_known (known_at all s items) line 1 (step_uses step)) (names_known all (after s (What.Step step)) items) known

      here : uses_known (known_for positions (label_names items) s.roots) line 1 (step_uses step) ≡ Ok tt
      here = subst (λ k. uses_known k line 1 (step_uses step) ≡ Ok tt) (known-is positions all s items kinds variables states) parts.0

      ahead : (j : ℕ) → slice_get state.code ((at + 1) + j) ≡ slice_get (code_from positions (at + 1) items) j
      ahead j = let e : (at + 1) + j ≡ at + suc j = omega arith in ap (λ n. slice_get state.code n) e ∙ code (suc j)

      by : (j : ℕ) (l : Line) → slice_get (code_from positions at (item_at line (What.Step step) ∷ items)) j ≡ Some l → IsFormedInstr p kind state (at + j) l.instr
      by zero l e = let z : at ≡ at + 0 = omega arith in
          subst (λ n. IsFormedInstr p kind state n l.instr) z
          (subst (λ (l : Line). IsFormedInstr p kind state at l.instr) (some-same _ l e)
          (step-formed positions p kind for state at (label_names items) s.roots (λ name. at + 1 + steps_to name items)
          (labels-ahead positions state at items ahead) s line stand.0.0 step stand.0.1 stand.1.2 here))
      by (suc j) l e = let z : (at + 1) + j ≡ at + suc j = omega arith in
          subst (λ n. IsFormedInstr p kind state n l.instr) z
          (further (after s (What.Step step)) (at + 1) stand.2 parts.1 variables states ahead j l e)
instrs-formed-step positions p kind for state all kinds line w items further s at stand known variables states code j l e = cc

pub instrs-formed : (positions : Positions) (p : Program) (kind : Kind) → IsFor positions p kind → (state : State) (all : List Item) → kind_names all ≡ positions.kinds
    → (items : List Item) → InstrsFormed positions p kind state all items
unfolding code_from
instrs-formed positions p kind for state all kinds [] s at stand known variables states code j l e = cc
instrs-formed positions p kind for state all kinds (item ∷ items) s at stand known variables states code j l e =
    instrs-formed-step positions p kind for state all kinds item.line item.what items
    (instrs-formed positions p kind for state all kinds items) s at stand known variables states code j l e
