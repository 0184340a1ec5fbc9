-- The lines of items that are in order: those of each kind with its variables and states, and then those of the roots.
use Rattle.task_writer.proofs.Vocabulary.{Word, codes, line_words, EachNext, Opens, ◌≡◌, ◌≢◌, ℕ, List, [], ◌∷◌, ◌++◌, map, refl, sym, ◌∙◌, ap, subst, append_assoc, append-nil, Variable, Step, What, Item, Place, Outside, Head, Code, Ended, Scope, after, IsInState, IsInside, MayBegin, MayFollow, MayStand, variables_from, Stand, item_at, state-behind, kind-behind, no-outside, no-step, Label, var_lines}
use Rattle.task_writer.proofs.Itemized.{by-items}
use Rattle.task_writer.proofs.CanonicalText.{VarBehindKind, RootBehindRoot, apart, step-inner}

abbrev pub whats : List Item → List What
whats items = map (λ (i : Item). i.what) items

-- ---- the lines of the parts of a program

-- the instructions that follow in a state
abbrev pub code_ahead : List Item → List What
code_ahead [] = []
code_ahead (item ∷ items) = elim item.what [ What.Step step ↦ What.Step step ∷ code_ahead items | _ ↦ [] ]

-- the states that follow in a kind
abbrev pub states_ahead : List Item → List What
states_ahead [] = []
states_ahead (item ∷ items) =
    elim item.what [
      | What.State name holds settled ↦ What.State name holds settled ∷ (code_ahead items ++ states_ahead items)
      | What.End ↦ []
      | _ ↦ states_ahead items
    ]

-- the kinds that follow
abbrev pub kinds_ahead : List Item → List What
kinds_ahead [] = []
kinds_ahead (item ∷ items) =
    elim item.what [
      | What.Kind name arguments ↦ What.Kind name arguments ∷ (var_lines (variables_from items) ++ (states_ahead items ++ (What.End ∷ kinds_ahead items)))
      | _ ↦ kinds_ahead items
    ]

-- the roots that follow
abbrev pub roots_ahead : List Item → List What
roots_ahead [] = []
roots_ahead (item ∷ items) =
    elim item.what [
      | What.Root name kind arguments behind priority ↦ What.Root name kind arguments behind priority ∷ roots_ahead items
      | _ ↦ roots_ahead items
    ]

-- ---- the order of lines

abbrev pub all_words : List Item → List (List Word)
all_words items = map line_words (whats items)

-- a `var` line stands behind that of a kind alone, and behind a root there are only roots
abbrev pub IsOrdered : List (List Word) → Type 0
IsOrdered lines = EachNext VarBehindKind lines × EachNext RootBehindRoot lines

next-tail : (R : List Word → List Word → Type 0) (line : List Word) (lines : List (List Word)) → EachNext R (line ∷ lines) → EachNext R lines
next-tail R line [] h = tt
next-tail R line (next ∷ lines) h = h.1

pub ordered-tail : (line : List Word) (lines : List (List Word)) → IsOrdered (line ∷ lines) → IsOrdered lines
ordered-tail line lines o = (next-tail VarBehindKind line lines o.0, next-tail RootBehindRoot line lines o.1)

abbrev IsRoot : What → Type 0
IsRoot (What.Root name kind arguments behind priority) = Unit {0}
IsRoot _ = ⊥

opens-root : (w : What) → Opens (codes "root") (line_words w) → IsRoot w
opens-root (What.Kind name arguments) e = apart (codes "kind") (codes "root") refl e
opens-root (What.Var variables) e = apart (codes "var") (codes "root") refl e
opens-root (What.State name holds settled) e = apart (codes "state") (codes "root") refl e
opens-root (What.Step step) e = (step-inner step).1 e
opens-root What.End e = apart (codes "end") (codes "root") refl e
opens-root (What.Root name kind arguments behind priority) e = tt

-- no kind stands behind a root
no-kinds : (line : List Word) (items : List Item) → Opens (codes "root") line → EachNext RootBehindRoot (line ∷ all_words items) → kinds_ahead items ≡ []
no-kinds line [] opens r = refl
no-kinds line (item ∷ items) opens r =
    by item.what refl (opens-root item.what (r.0 opens)) (no-kinds (line_words item.what) items (r.0 opens) r.1) where
      by : (w : What) → item.what ≡ w → IsRoot w → kinds_ahead items ≡ [] → kinds_ahead (item ∷ items) ≡ []
      by (What.Root name kind arguments behind priority) e is further = rw e further
      by _ e is further = absurd is

-- no second `var` line stands behind one
one-var : (variables : List Variable) (items : List Item) → EachNext VarBehindKind (line_words (What.Var variables) ∷ all_words items) → variables_from items ≡ []
one-var variables [] v = refl
one-var variables (item ∷ items) v = by item.what refl v.0 where
  by : (w : What) → item.what ≡ w → VarBehindKind (line_words (What.Var variables)) (line_words w) → variables_from (item ∷ items) ≡ []
  by (What.Var more) e h = absurd (apart (codes "var") (codes "kind") refl (h refl))
  by _ e h = rw e refl

-- no variable stands behind the head of a kind
none-behind : (items : List Item) (s : Scope) → Stand s items → (s.place ≡ Head → ⊥) → variables_from items ≡ []
none-behind [] s stand n = refl
none-behind (item ∷ items) s stand n = by item.what refl stand.1 where
  by : (w : What) → item.what ≡ w → MayStand s w → variables_from (item ∷ items) ≡ []
  by (What.Var variables) e may = absurd (n may.0)
  by _ e may = rw e refl

-- no instruction stands in the head of a kind
no-code : (items : List Item) (s : Scope) → Stand s items → s.place ≡ Head → code_ahead items ≡ []
no-code [] s stand is = refl
no-code (item ∷ items) s stand is = by item.what refl stand.1 where
  by : (w : What) → item.what ≡ w → MayStand s w → code_ahead (item ∷ items) ≡ []
  by (What.Step step) e may = absurd (no-step s.place step is may.0)
  by _ e may = rw e refl

one-var-line : (variables more : List Variable) → variables ≢ [] → more ≡ [] → var_lines (variables ++ more) ≡ What.Var variables ∷ []
one-var-line [] more n e = absurd (n refl)
one-var-line (v ∷ vs) more n e = ap (λ (z : List Variable). What.Var (v ∷ z) ∷ []) (ap (λ z. vs ++ z) e ∙ append-nil vs)

-- ---- items in order

abbrev rest_ahead : List Item → List What
rest_ahead items = kinds_ahead items ++ roots_ahead items

abbrev inner_ahead : List Item → List What
inner_ahead items = states_ahead items ++ (What.End ∷ rest_ahead items)

-- outside of kinds, and in one, the items are the lines ahead
record AreAhead (items : List Item) : Type 0 where
  outside : (s : Scope) → s.place ≡ Outside → Stand s items → IsOrdered (all_words items) → rest_ahead items ≡ whats items
  inside : (s : Scope) → IsInside s.place → Stand s items → IsOrdered (all_words items) → var_lines (variables_from items) ++ (code_ahead items ++ inner_ahead items) ≡ whats items

outside-step : (line : ℕ) (w : What) (items : List Item) → AreAhead items → (s : Scope) → s.place ≡ Outside → Stand s (item_at line w ∷ items)
    → IsOrdered (all_words (item_at line w ∷ items)) → rest_ahead (item_at line w ∷ items) ≡ w ∷ whats items
outside-step line (What.Kind name arguments) items c s is stand ordered =
    let w = What.Kind name arguments in
    let vars = var_lines (variables_from items) in
    ap (λ ws. w ∷ ws) (append_assoc vars (states_ahead items ++ (What.End ∷ kinds_ahead items)) (roots_ahead items)
    ∙ (ap (λ z. vars ++ z) (append_assoc (states_ahead items) (What.End ∷ kinds_ahead items) (roots_ahead items)
    ∙ ap (λ (code : List What). code ++ inner_ahead items) (sym (no-code items (after s w) stand.2 refl)))
    ∙ c.inside (after s w) tt stand.2 (ordered-tail (line_words w) (all_words items) ordered)))
outside-step line (What.Root name kind arguments behind priority) items c s is stand ordered =
    let w = What.Root name kind arguments behind priority in
    let none = no-kinds (line_words w) items refl ordered.1 in
    ap (λ ks. ks ++ w ∷ roots_ahead items) none
    ∙ ap (λ ws. w ∷ ws) (ap (λ ks. ks ++ roots_ahead items) (sym none) ∙ c.outside (after s w) is stand.2 (ordered-tail (line_words w) (all_words items) ordered))
outside-step line (What.Var more) items c s is stand ordered = let f : Head ≡ Outside = sym stand.1.0 ∙ is in cc
outside-step line (What.State name holds settled) items c s is stand ordered = absurd (subst MayBegin is stand.1.0)
outside-step line (What.Step step) items c s is stand ordered = absurd (no-follow s.place step is stand.1.0) where
  no-follow : (place : Place) (step : Step) → place ≡ Outside → MayFollow place step → ⊥
  no-follow place (Label name) e may = subst IsInState e may
  no-follow place step e may = let f : Code ≡ Outside = sym may ∙ e in cc
outside-step line What.End items c s is stand ordered = let f : Ended ≡ Outside = sym stand.1 ∙ is in cc

inside-step : (line : ℕ) (w : What) (items : List Item) → AreAhead items → (s : Scope) → IsInside s.place → Stand s (item_at line w ∷ items)
    → IsOrdered (all_words (item_at line w ∷ items))
    → var_lines (variables_from (item_at line w ∷ items)) ++ (code_ahead (item_at line w ∷ items) ++ inner_ahead (item_at line w ∷ items)) ≡ w ∷ whats items
inside-step line (What.Var more) items c s is stand ordered =
    let none = one-var more items ordered.0 in
    ap (λ vs. vs ++ inner_ahead items) (one-var-line more (variables_from items) stand.0.1.0.0.1 none)
    ∙ ap (λ ws. What.Var more ∷ ws) (ap (λ (vs : List Variable). var_lines vs ++ inner_ahead items) (sym none)
    ∙ (ap (λ (code : List What). var_lines (variables_from items) ++ (code ++ inner_ahead items)) (sym (no-code items (after s (What.Var more)) stand.2 stand.1.0))
    ∙ c.inside (after s (What.Var more)) is stand.2 (ordered-tail (line_words (What.Var more)) (all_words items) ordered)))
inside-step line (What.State name holds settled) items c s is stand ordered =
    let w = What.State name holds settled in
    let none = none-behind items (after s w) stand.2 (λ (e : Code ≡ Head). cc) in
    ap (λ ws. w ∷ ws) (append_assoc (code_ahead items) (states_ahead items) (What.End ∷ rest_ahead items)
    ∙ (ap (λ (vs : List Variable). var_lines vs ++ (code_ahead items ++ inner_ahead items)) (sym none) ∙ c.inside (after s w) tt stand.2 (ordered-tail (line_words w) (all_words items) ordered)))
inside-step line (What.Step step) items c s is stand ordered =
    let w = What.Step step in
    let none = none-behind items (after s w) stand.2 (λ e. subst IsInState e (state-behind step)) in
    ap (λ ws. w ∷ ws) (ap (λ (vs : List Variable). var_lines vs ++ (code_ahead items ++ inner_ahead items)) (sym none)
    ∙ c.inside (after s w) (kind-behind step) stand.2 (ordered-tail (line_words w) (all_words items) ordered))
inside-step line What.End items c s is stand ordered = ap (λ ws. What.End ∷ ws) (c.outside (after s What.End) refl stand.2 (ordered-tail (line_words What.End) (all_words items) ordered))
inside-step line _ items c s is stand ordered = absurd (no-outside s.place is stand.1.0)

are-ahead : (items : List Item) → AreAhead items
are-ahead = by-items AreAhead (record { outside = λ s is stand ordered. refl; inside = λ s is stand ordered. absurd (no-outside s.place is stand) })
    (λ line w items c. record { outside = outside-step line w items c; inside = inside-step line w items c })

-- the lines of items in order are those of their kinds and their roots
pub lines-ahead : (items : List Item) (s : Scope) → s.place ≡ Outside → Stand s items → IsOrdered (all_words items) → kinds_ahead items ++ roots_ahead items ≡ whats items
lines-ahead items = (are-ahead items).outside
