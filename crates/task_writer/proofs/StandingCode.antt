-- The lines of a state of a well-formed program may stand one behind the other, and name what is given.
use Rattle.task_writer.proofs.Vocabulary.{◌≡◌, ℕ, suc, ◌+◌, Some, List, [], ◌∷◌, ◌++◌, length, slice_get, refl, sym, ◌∙◌, ap, subst, arith, append_assoc, append-nil, length-map, length-append, AllDiffer, instr_at, IsFormedInstr, IsFormedState, IsFormedKind, Each, IsName, IsLabel, IsLabelAhead, Ends, Leaves, labels_of, State, Kind, Program, Instr, Line, What, Place, Outside, Code, Jumped, Ended, Scope, place_behind, labels_behind, after, IsNew, IsInState, MayFollow, MayName, MayStand, RowsSpellFrom, option_map, Names, name_at, kind_names, label_names, names_in, step_of, code_lines, some-same, get-at, true, Ok, Item, AllGiven, known_among, known_at, line_uses, names_known, given-known, names_of_kinds, names_of_states, names_of_labels, is_among, state_names, map, line_words}
use Rattle.task_syntax.specs.declared.instr.Instr.TheVariants.{If, Goto, Label, Spawn, All, Again, Done}
use Rattle.task_writer.proofs.Itemized.{items_at, numbered}
use Rattle.task_writer.proofs.Writable.{IsWritable}
use Rattle.task_writer.proofs.PlainLines.{line-spelled}
use Rattle.task_writer.proofs.Found.{get-behind, get-next, new-before, length-front}
use Rattle.task_writer.proofs.Skipped.{skipped, skips-code}
use Rattle.task_writer.proofs.ReadPlaces.{name-among}
use Rattle.task_writer.proofs.ReadCode.{EndsCode, IsFrom, label-listed, label-at}
use Rattle.task_writer.proofs.KnownSteps.{Knows, step-fine}

-- the lines may be written and may stand, the names that they use are given where the kinds have these names, and the last
-- line closes what is open
abbrev pub Stands : List (List ℕ) → Scope → ℕ → List What → Type 0
Stands kinds s m [] = s.place ≡ Outside
Stands kinds s m (w ∷ ws) = IsWritable w × MayStand s w × AllGiven (known_among kinds s (items_at (m + 1) ws)) (line_uses w) × Stands kinds (after s w) (m + 1) ws

pub rows-spell : (kinds : List (List ℕ)) (ws : List What) (s : Scope) (m : ℕ) → Stands kinds s m ws → RowsSpellFrom s (numbered m (map line_words ws)) (items_at m ws)
rows-spell kinds [] s m h = h
rows-spell kinds (w ∷ ws) s m h = (refl, line-spelled w h.0, h.1, rows-spell kinds ws (after s w) (m + 1) h.3)

pub names-given : (all : List Item) (kinds : List (List ℕ)) → names_of_kinds all ≡ kinds → (ws : List What) (s : Scope) (m : ℕ) → Stands kinds s m ws
    → names_known all s (items_at m ws) ≡ Ok tt
unfolding names_known
names-given all kinds e [] s m h = refl
names-given all kinds e (w ∷ ws) s m h =
    let ahead = items_at (m + 1) ws in
    let given = given-known (known_at all s ahead) m 1 (line_uses w) (subst (λ ks. AllGiven (known_among ks s ahead) (line_uses w)) (sym e) h.2) in
    rw given (names-given all kinds e ws (after s w) (m + 1) h.3)

-- ---- places

any-follows : (n : Names) (b : Instr) → MayFollow Code (step_of n b)
unfolding step_of
any-follows n (Label name) = tt
any-follows n _ = refl

label-follows : (n : Names) (place : Place) → IsInState place → (b : Instr) → IsLabel b → MayFollow place (step_of n b)
unfolding step_of
label-follows n place is (Label name) h = is
label-follows n place is _ h = absurd h

follows : (n : Names) (a b : Instr) → (Leaves a → IsLabel b) → MayFollow (place_behind (step_of n a)) (step_of n b)
unfolding step_of
follows n (Goto target) b h = label-follows n Jumped tt b (h tt)
follows n (Again target behind priority) b h = label-follows n Ended tt b (h tt)
follows n (Done value) b h = label-follows n Ended tt b (h tt)
follows n _ b h = any-follows n b

ends-place : (n : Names) (a : Instr) → Ends a → place_behind (step_of n a) ≡ Ended
unfolding step_of
ends-place n (Again target behind priority) h = refl
ends-place n (Done value) h = refl
ends-place n _ h = absurd h

-- ---- labels

labels-append : (xs ys : List Line) → labels_of (xs ++ ys) ≡ labels_of xs ++ labels_of ys
labels-append [] ys = refl
labels-append (l ∷ xs) ys = by l.instr refl (labels-append xs ys) where
  by : (instr : Instr) → l.instr ≡ instr → labels_of (xs ++ ys) ≡ labels_of xs ++ labels_of ys → labels_of (l ∷ (xs ++ ys)) ≡ labels_of (l ∷ xs) ++ labels_of ys
  by (Label name) f r = rw f (ap (λ z. name ∷ z) r)
  by _ f r = rw f r

labels-step : (n : Names) (l : Line) (labels : List (List ℕ)) → labels_behind (step_of n l.instr) labels ≡ labels ++ labels_of (l ∷ [])
unfolding step_of
labels-step n l labels = by l.instr refl where
  by : (instr : Instr) → l.instr ≡ instr → labels_behind (step_of n instr) labels ≡ labels ++ labels_of (l ∷ [])
  by (Label name) f = rw f refl
  by _ f = rw f (sym (append-nil labels))

no-labels : (n : ℕ) (rest : List What) → EndsCode rest → names_of_labels (items_at n rest) ≡ []
no-labels n (What.State name holds settled ∷ rest) ends = refl
no-labels n (What.End ∷ rest) ends = refl
no-labels n _ ends = absurd ends

labels-named : (kinds : List (List ℕ)) (kind : Kind) (state : State) (code : List Line) (n : ℕ) (rest : List What) → EndsCode rest
    → names_of_labels (items_at n (code_lines (names_in kinds kind state) code ++ rest)) ≡ labels_of code
unfolding step_of
labels-named kinds kind state [] n rest ends = no-labels n rest ends
labels-named kinds kind state (l ∷ code) n rest ends = by l.instr refl (labels-named kinds kind state code (n + 1) rest ends) where
  by : (instr : Instr) → l.instr ≡ instr → names_of_labels (items_at (n + 1) (code_lines (names_in kinds kind state) code ++ rest)) ≡ labels_of code
      → names_of_labels (items_at n (code_lines (names_in kinds kind state) (l ∷ code) ++ rest)) ≡ labels_of (l ∷ code)
  by (Label name) f further = rw (f, further) refl
  by _ f further = rw (f, further) refl

label-in : (kinds : List (List ℕ)) (kind : Kind) (state : State) (at : ℕ) (code : List Line) → IsFrom state.code (at + 1) code
    → (n : ℕ) (rest : List What) → EndsCode rest → (target : ℕ) → IsLabelAhead state at target
    → is_among (names_of_labels (items_at n (code_lines (names_in kinds kind state) code ++ rest))) (name_at (label_names state.code) target) ≡ true
label-in kinds kind state at code from n rest ends target ahead =
    let label = label-at state at code from target ahead in
    let listed = label-listed code label.place label.line label.name label.stands label.is in
    rw (label.called, labels-named kinds kind state code n rest ends) (name-among (labels_of code) listed.0 label.name listed.1)

-- ---- the code of a state

-- the scope behind the first lines of a state
pub record InCode (kind : Kind) (kinds roots states : List (List ℕ)) (front : List Line) (s : Scope) : Type 0 where
  pub kinds_are : s.kinds ≡ kinds
  pub roots_are : s.roots ≡ roots
  pub variables_are : s.variables ≡ kind.variables
  pub states_are : s.states ≡ states
  pub labels_are : s.labels ≡ labels_of front
  pub steps_are : s.steps ≡ length front

in-next : (kind : Kind) (kinds roots states : List (List ℕ)) (front : List Line) (s : Scope) (n : Names) (l : Line) → InCode kind kinds roots states front s
    → InCode kind kinds roots states (front ++ l ∷ []) (after s (What.Step (step_of n l.instr)))
in-next kind kinds roots states front s n l i = record {
  kinds_are = i.kinds_are;
  roots_are = i.roots_are;
  variables_are = i.variables_are;
  states_are = i.states_are;
  labels_are = ap (labels_behind (step_of n l.instr)) i.labels_are ∙ (labels-step n l (labels_of front) ∙ sym (labels-append front (l ∷ [])));
  steps_are = ap (λ k. k + 1) i.steps_are ∙ sym (length-append front (l ∷ []));
}

-- the label of a line that stands at or behind a place is new there
label-new : (front : List Line) (back code : List Line) (j : ℕ) (line : Line) (name : List ℕ) (labels : List (List ℕ)) → code ≡ front ++ back → AllDiffer (labels_of code) → labels ≡ labels_of front
    → slice_get back j ≡ Some line → line.instr ≡ Label name → IsNew name labels
label-new front back code j line name labels e differ is stands label =
    let listed = label-listed back j line name stands label in
    let apart : AllDiffer (labels_of front ++ labels_of back) = subst (λ ls. AllDiffer ls) (ap labels_of e ∙ labels-append front back) differ in
    subst (λ ls. IsNew name ls) (sym is) (new-before (labels_of front) (labels_of back) listed.0 name apart listed.1)

behind-front : {X : Type 0} (front : List X) (x : X) (more all : List X) → all ≡ front ++ x ∷ more → IsFrom all (length front + 1) more
behind-front front x more all e j =
    let i : length front + 1 + j ≡ length front + suc j = omega arith in
    ap (λ (c : List _). slice_get c (length front + 1 + j)) e ∙ (ap (slice_get (front ++ x ∷ more)) i ∙ get-behind front (x ∷ more) (suc j))

target-new : (state : State) (front : List Line) (l : Line) (more : List Line) (labels : List (List ℕ)) → state.code ≡ front ++ l ∷ more → AllDiffer (labels_of state.code) → labels ≡ labels_of front
    → (target : ℕ) → IsLabelAhead state (length front) target → IsNew (name_at (label_names state.code) target) labels
target-new state front l more labels e differ is target ahead =
    let label = label-at state (length front) more (behind-front front l more state.code e) target ahead in
    subst (λ name. IsNew name labels) (sym label.called) (label-new front (l ∷ more) state.code (suc label.place) label.line label.name labels e differ is label.stands label.is)

may-name : (p : Program) (kind : Kind) (state : State) (front : List Line) (l : Line) (more : List Line) (s : Scope) → state.code ≡ front ++ l ∷ more → AllDiffer (labels_of state.code)
    → s.labels ≡ labels_of front → (instr : Instr) → l.instr ≡ instr → IsFormedInstr p kind state (length front) instr → MayName s (step_of (names_in (kind_names p.kinds) kind state) instr)
unfolding step_of
may-name p kind state front l more s e differ is (Label name) i f = label-new front (l ∷ more) state.code 0 l name s.labels e differ is refl i
may-name p kind state front l more s e differ is (If relation left right target) i f = target-new state front l more s.labels e differ is target f.2
may-name p kind state front l more s e differ is (Goto target) i f = target-new state front l more s.labels e differ is target f
may-name p kind state front l more s e differ is (Spawn to callee arguments behind priority retry) i f = rw length-map f.2
may-name p kind state front l more s e differ is (All to members priority retry) i f = rw length-map f.2
may-name p kind state front l more s e differ is _ i f = tt

-- what follows a state may stand behind its end
pub record Follows (names : List (List ℕ)) (kind : Kind) (kinds roots states : List (List ℕ)) (state : State) (tail : List What) : Type 0 where
  pub ends : EndsCode tail
  pub named : (m : ℕ) → states ++ names_of_states (items_at m tail) ≡ state_names kind.states
  pub next : (t : Scope) (m : ℕ) → InCode kind kinds roots states state.code t → t.place ≡ Ended → Stands names t m tail

-- one line of the code may be written, may stand where its place allows it, and names what is given
line-stands : (p : Program) (kind : Kind) (state : State) → Each p.kinds (λ (k : Kind). IsName k.name) → IsFormedKind p kind → IsFormedState p kind state → (kinds roots states : List (List ℕ)) (tail : List What)
    → Follows (kind_names p.kinds) kind kinds roots states state tail → (front : List Line) (l : Line) (more : List Line) (s : Scope) (m : ℕ)
    → state.code ≡ front ++ l ∷ more → InCode kind kinds roots states front s → MayFollow s.place (step_of (names_in (kind_names p.kinds) kind state) l.instr)
    → let w = What.Step (step_of (names_in (kind_names p.kinds) kind state) l.instr) in
    IsWritable w × MayStand s w × AllGiven (known_among (kind_names p.kinds) s (items_at (m + 1) (code_lines (names_in (kind_names p.kinds) kind state) more ++ tail))) (line_uses w)
line-stands p kind state named own formed kinds roots states tail follows front l more s m e i follow =
    let K = kind_names p.kinds in
    let at : slice_get state.code (length front) ≡ Some l = ap (λ (c : List Line). slice_get c (length front)) e ∙ get-at front l more in
    let f = formed.instrs (length front) l at in
    let short = length-front front l more state.code e in
    let fits = formed.fits in
    let steps = i.steps_are in
    let lines = code_lines (names_in K kind state) more in
    let items = items_at (m + 1) (lines ++ tail) in
    let ahead = skipped names_of_states lines tail (m + 1) (skips-code names_of_states (λ step n items. refl) K kind state more) in
    let knows : Knows (known_among K s items) p kind = record {
      kinds = refl;
      variables = i.variables_are;
      states = ap (λ names. names ++ names_of_states items) i.states_are ∙ (ap (λ names. states ++ names) ahead ∙ follows.named (m + 1 + length lines));
    } in
    let fine = step-fine (known_among K s items) p kind knows named own state formed (length front) (label-in K kind state (length front) more (behind-front front l more state.code e) (m + 1) tail follows.ends) l.instr f in (
      fine.1,
      (follow, omega (arith, short, fits, steps), may-name p kind state front l more s e formed.labels_differ i.labels_are l.instr refl f),
      fine.0,
    )

instr-here : (state : State) (at : ℕ) (l : Line) → slice_get state.code at ≡ Some l → instr_at state at ≡ Some l.instr
instr-here state at l e = ap (option_map (λ (l : Line). l.instr)) e

last-ends : (p : Program) (kind : Kind) (state : State) (front : List Line) (last : Line) → IsFormedState p kind state → state.code ≡ front ++ last ∷ [] → Ends last.instr
last-ends p kind state front last formed e =
    let end = formed.ends in
    let len : length state.code ≡ length front + 1 = ap (λ (c : List Line). length c) e ∙ length-append front (last ∷ []) in
    let at : end.0 ≡ length front = let n = end.2 in omega (arith, n, len) in
    let here : instr_at state (length front) ≡ Some last.instr = instr-here state (length front) last (ap (λ (c : List Line). slice_get c (length front)) e ∙ get-at front last []) in
    let same : end.1 ≡ last.instr = some-same end.1 last.instr (sym end.3 ∙ (ap (instr_at state) at ∙ here)) in
    let P : Instr → Type 0 = Ends in subst P same end.4

-- the code behind an instruction
code-rest : (p : Program) (kind : Kind) (state : State) → Each p.kinds (λ (k : Kind). IsName k.name) → IsFormedKind p kind → IsFormedState p kind state → (kinds roots states : List (List ℕ)) (tail : List What)
    → Follows (kind_names p.kinds) kind kinds roots states state tail → (todo front : List Line) (prev : Line) (s : Scope) (m : ℕ) → state.code ≡ front ++ prev ∷ todo → InCode kind kinds roots states (front ++ prev ∷ []) s
    → s.place ≡ place_behind (step_of (names_in (kind_names p.kinds) kind state) prev.instr) → Stands (kind_names p.kinds) s m (code_lines (names_in (kind_names p.kinds) kind state) todo ++ tail)
code-rest p kind state named own formed kinds roots states tail next [] front prev s m e i place =
    next.next s m (subst (λ (c : List Line). InCode kind kinds roots states c s) (sym e) i) (place ∙ ends-place (names_in (kind_names p.kinds) kind state) prev.instr (last-ends p kind state front prev formed e))
code-rest p kind state named own formed kinds roots states tail next (l ∷ todo) front prev s m e i place =
    let n = names_in (kind_names p.kinds) kind state in
    let whole : state.code ≡ (front ++ prev ∷ []) ++ l ∷ todo = e ∙ sym (append_assoc front (prev ∷ []) (l ∷ todo)) in
    let here = instr-here state (length front) prev (ap (λ (c : List Line). slice_get c (length front)) e ∙ get-at front prev (l ∷ todo)) in
    let behind = instr-here state (length front + 1) l (ap (λ (c : List Line). slice_get c (length front + 1)) e ∙ get-next front prev l todo) in
    let follow = follows n prev.instr l.instr (λ leaves. formed.left_by_label (length front) prev.instr l.instr here leaves behind) in
    let stand = line-stands p kind state named own formed kinds roots states tail next (front ++ prev ∷ []) l todo s m whole i (subst (λ (q : Place). MayFollow q (step_of n l.instr)) (sym place) follow) in
    (stand.0, stand.1, stand.2, code-rest p kind state named own formed kinds roots states tail next todo (front ++ prev ∷ []) l (after s (What.Step (step_of n l.instr))) (m + 1) whole (in-next kind kinds roots states (front ++ prev ∷ []) s n l i) refl)

pub code-stands : (p : Program) (kind : Kind) (state : State) → Each p.kinds (λ (k : Kind). IsName k.name) → IsFormedKind p kind → IsFormedState p kind state → (kinds roots states : List (List ℕ)) (tail : List What)
    → Follows (kind_names p.kinds) kind kinds roots states state tail → (code : List Line) (s : Scope) (m : ℕ) → state.code ≡ code → InCode kind kinds roots states [] s → s.place ≡ Code
    → Stands (kind_names p.kinds) s m (code_lines (names_in (kind_names p.kinds) kind state) code ++ tail)
code-stands p kind state named own formed kinds roots states tail next [] s m e i place =
    let n = formed.ends.2 in let len : length state.code ≡ 0 = ap (λ (c : List Line). length c) e in absurd (omega (arith, n, len))
code-stands p kind state named own formed kinds roots states tail next (l ∷ todo) s m e i place =
    let n = names_in (kind_names p.kinds) kind state in
    let stand = line-stands p kind state named own formed kinds roots states tail next [] l todo s m e i (subst (λ (q : Place). MayFollow q (step_of n l.instr)) (sym place) (any-follows n l.instr)) in
    (stand.0, stand.1, stand.2, code-rest p kind state named own formed kinds roots states tail next todo [] l (after s (What.Step (step_of n l.instr))) (m + 1) e (in-next kind kinds roots states [] s n l i) refl)
