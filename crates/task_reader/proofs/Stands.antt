-- The names that items give, where each item may stand behind those before it.
use Rattle.task_reader.proofs.Vocabulary.{Row, RowsSpellFrom, ◌≡◌, ℕ, zero, suc, ◌<◌, ◌≤◌, Some, List, [], ◌∷◌, ◌++◌, map, length, slice_get, refl, sym, ap, subst, arith, append-nil, AllDiffer, labels_of, Root, Kind, State, Line, differ-nil, differ-snoc, Step, Goto, Label, Again, Done, What, Item, Place, Outside, Scope, after, place_behind, IsNew, CanBeSpelled, MayStand, IsInside, root_names, kind_names, state_names, step_label, Positions, instr_of, states_from, kind_of, kinds_from, root_of, roots_from, append_assoc, length-append, some-same}

-- some words spell each item, which may stand behind those before it, and the last one closes what is open
abbrev pub Stand : Scope → List Item → Type 0
Stand s [] = s.place ≡ Outside
Stand s (item ∷ items) = CanBeSpelled item.what × MayStand s item.what × Stand (after s item.what) items

abbrev pub item_at : ℕ → What → Item
item_at line what = record { line = line; what = what }

-- what rows spell may stand
pub rows-stand : (s : Scope) (rows : List Row) (items : List Item) → RowsSpellFrom s rows items → Stand s items
rows-stand s [] [] h = h
rows-stand s (row ∷ rows) [] h = absurd h
rows-stand s [] (item ∷ items) h = absurd h
rows-stand s (row ∷ rows) (item ∷ items) h = ((row.words, h.1), h.2, rows-stand (after s item.what) rows items h.3)

-- in a kind
pub no-outside : (place : Place) → IsInside place → place ≡ Outside → ⊥
no-outside place k e = subst IsInside e k

pub kind-behind : (step : Step) → IsInside (place_behind step)
kind-behind (Goto target) = tt
kind-behind (Again target behind priority) = tt
kind-behind (Done value) = tt
kind-behind _ = tt

pub new-absent : (name : List ℕ) (names : List (List ℕ)) → IsNew name names → (j : ℕ) → slice_get names j ≡ Some name → ⊥
new-absent name [] n j e = cc
new-absent name (taken ∷ more) n zero e = n.0 (sym (some-same taken name e))
new-absent name (taken ∷ more) n (suc j) e = new-absent name more n.1 j e

-- names of which none is given twice, up to a limit
pub record AreNames (limit : ℕ) (names : List (List ℕ)) : Type 0 where
  pub differ : AllDiffer names
  pub fit : length names ≤ limit

pub no-names : (limit : ℕ) → AreNames limit []
no-names limit = record { differ = differ-nil; fit = omega arith }

pub one-name-more : (limit : ℕ) (names : List (List ℕ)) (name : List ℕ) → length names < limit → IsNew name names → AreNames limit names → AreNames limit (names ++ name ∷ [])
one-name-more limit names name few new are = record {
  differ = differ-snoc names name are.differ (new-absent name names new);
  fit = omega (arith, length-append names (name ∷ []), few);
}

-- ---- kinds

abbrev KindNames : List Item → Type 0
KindNames items = (s : Scope) → Stand s items → AreNames 64 s.kinds → AreNames 64 (s.kinds ++ kind_names items)

kind-names-step : (line : ℕ) (w : What) (items : List Item) → KindNames items → KindNames (item_at line w ∷ items)
kind-names-step line (What.Kind name arguments) items further s stand are =
    subst (AreNames 64) (append_assoc s.kinds (name ∷ []) (kind_names items))
    (further (after s (What.Kind name arguments)) stand.2 (one-name-more 64 s.kinds name stand.1.1 stand.1.2 are))
kind-names-step line w items further s stand are = further (after s w) stand.2 are

pub kind-names : (items : List Item) → KindNames items
kind-names [] s stand are = rw append-nil are
kind-names (item ∷ items) s stand are = kind-names-step item.line item.what items (kind-names items) s stand are

-- ---- roots

abbrev RootNames : List Item → Type 0
RootNames items = (s : Scope) → Stand s items → AreNames 16 s.roots → AreNames 16 (s.roots ++ root_names items)

root-names-step : (line : ℕ) (w : What) (items : List Item) → RootNames items → RootNames (item_at line w ∷ items)
root-names-step line (What.Root name kind arguments behind priority) items further s stand are =
    subst (AreNames 16) (append_assoc s.roots (name ∷ []) (root_names items))
    (further (after s (What.Root name kind arguments behind priority)) stand.2 (one-name-more 16 s.roots name stand.1.1 stand.1.2 are))
root-names-step line w items further s stand are = further (after s w) stand.2 are

pub root-names : (items : List Item) → RootNames items
root-names [] s stand are = rw append-nil are
root-names (item ∷ items) s stand are = root-names-step item.line item.what items (root-names items) s stand are

-- ---- states of a kind

abbrev StateNames : List Item → Type 0
StateNames items = (s : Scope) → IsInside s.place → Stand s items → AreNames 32 s.states → AreNames 32 (s.states ++ state_names items)

state-names-step : (line : ℕ) (w : What) (items : List Item) → StateNames items → StateNames (item_at line w ∷ items)
state-names-step line (What.Var variables) items further s in_kind stand are = further (after s (What.Var variables)) in_kind stand.2 are
state-names-step line (What.State name holds settled) items further s in_kind stand are =
    subst (AreNames 32) (append_assoc s.states (name ∷ []) (state_names items))
    (further (after s (What.State name holds settled)) tt stand.2 (one-name-more 32 s.states name stand.1.1 stand.1.2 are))
state-names-step line (What.Step step) items further s in_kind stand are = further (after s (What.Step step)) (kind-behind step) stand.2 are
state-names-step line What.End items further s in_kind stand are = rw append-nil are
state-names-step line _ items further s in_kind stand are = absurd (no-outside s.place in_kind stand.1.0)

pub state-names : (items : List Item) → StateNames items
state-names [] s in_kind stand are = absurd (no-outside s.place in_kind stand)
state-names (item ∷ items) s in_kind stand are = state-names-step item.line item.what items (state-names items) s in_kind stand are

-- ---- the names that the program has

names-of-kinds-step : (kinds : List (List ℕ)) (line : ℕ) (w : What) (items : List Item) → map (λ (k : Kind). k.name) (kinds_from kinds items) ≡ kind_names items
    → map (λ (k : Kind). k.name) (kinds_from kinds (item_at line w ∷ items)) ≡ kind_names (item_at line w ∷ items)
unfolding kinds_from kind_of
names-of-kinds-step kinds line (What.Kind name arguments) items further = ap (λ more. name ∷ more) further
names-of-kinds-step kinds line w items further = further

pub names-of-kinds : (kinds : List (List ℕ)) (items : List Item) → map (λ (k : Kind). k.name) (kinds_from kinds items) ≡ kind_names items
unfolding kinds_from
names-of-kinds kinds [] = refl
names-of-kinds kinds (item ∷ items) = names-of-kinds-step kinds item.line item.what items (names-of-kinds kinds items)

names-of-roots-step : (kinds : List (List ℕ)) (line : ℕ) (w : What) (items : List Item) → ((earlier : List (List ℕ)) → map (λ (r : Root). r.name) (roots_from kinds earlier items) ≡ root_names items)
    → (earlier : List (List ℕ)) → map (λ (r : Root). r.name) (roots_from kinds earlier (item_at line w ∷ items)) ≡ root_names (item_at line w ∷ items)
unfolding roots_from root_of
names-of-roots-step kinds line (What.Root name kind arguments behind priority) items further earlier = ap (λ more. name ∷ more) (further (earlier ++ name ∷ []))
names-of-roots-step kinds line w items further earlier = further earlier

pub names-of-roots : (kinds : List (List ℕ)) (items : List Item) (earlier : List (List ℕ)) → map (λ (r : Root). r.name) (roots_from kinds earlier items) ≡ root_names items
unfolding roots_from
names-of-roots kinds [] earlier = refl
names-of-roots kinds (item ∷ items) earlier = names-of-roots-step kinds item.line item.what items (names-of-roots kinds items) earlier

names-of-states-step : (positions : Positions) (line : ℕ) (w : What) (items : List Item) → map (λ (s : State). s.name) (states_from positions items) ≡ state_names items
    → map (λ (s : State). s.name) (states_from positions (item_at line w ∷ items)) ≡ state_names (item_at line w ∷ items)
unfolding states_from
names-of-states-step positions line (What.State name holds settled) items further = ap (λ more. name ∷ more) further
names-of-states-step positions line What.End items further = refl
names-of-states-step positions line w items further = further

pub names-of-states : (positions : Positions) (items : List Item) → map (λ (s : State). s.name) (states_from positions items) ≡ state_names items
unfolding states_from
names-of-states positions [] = refl
names-of-states positions (item ∷ items) = names-of-states-step positions item.line item.what items (names-of-states positions items)

pub label-of-instr : (positions : Positions) (label_place : List ℕ → ℕ) (line : ℕ) (step : Step) (lines : List Line)
    → labels_of (record { line = line; instr = instr_of positions label_place step } ∷ lines) ≡ step_label step ++ labels_of lines
unfolding instr_of
label-of-instr positions label_place line (Label name) lines = refl
label-of-instr positions label_place line step lines = refl
