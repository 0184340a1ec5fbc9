-- A list that is gathered item by item.
use Rattle.task_reader.proofs.Vocabulary.{◌≡◌, ◌≢◌, ◌≤◌, ◌<◌, ℕ, ◌+◌, true, false, List, [], ◌∷◌, ◌++◌, length, get_or, drop, refl, ap, sym, ◌∙◌, append-nil, arith, drop_more, drop_all, Line, Step, What, Item, Positions, steps_to, instr_of, code_from, states_from, kinds_from, roots_from, steps_ahead, root_names, is_inside, state_at, kind_at, root_at, root_name_at, append_assoc, length-append}

-- the rest of a list, with its first member in front
pub rest-at : {X : Type 0} (xs : List X) (at : ℕ) (x : X) → at < length xs → x ≡ get_or xs at x → drop at xs ≡ x ∷ drop (at + 1) xs
rest-at xs at x l e = drop_more xs at x l ∙ ap (λ y. y ∷ drop (at + 1) xs) (sym e)

-- one more turn, where the rest gives what is new and then the further rest
pub gather-turn : {X Y : Type 0} (xs : List X) (at : ℕ) (x : X) (out grown new all : List Y) (F G : List X → List Y)
    → at < length xs → x ≡ get_or xs at x → grown ≡ out ++ new
    → F (x ∷ drop (at + 1) xs) ≡ new ++ G (drop (at + 1) xs)
    → out ++ F (drop at xs) ≡ all → grown ++ G (drop (at + 1) xs) ≡ all
gather-turn xs at x out grown new all F G l e grows step h =
    ap (λ ys. ys ++ G (drop (at + 1) xs)) grows ∙ append_assoc out new (G (drop (at + 1) xs)) ∙ ap (λ ys. out ++ ys) (sym step)
    ∙ ap (λ r. out ++ F r) (sym (rest-at xs at x l e)) ∙ h

-- the rest gives nothing more
pub gather-stop : {X Y : Type 0} (xs : List X) (at : ℕ) (x : X) (out all : List Y) (F : List X → List Y)
    → at < length xs → x ≡ get_or xs at x → F (x ∷ drop (at + 1) xs) ≡ [] → out ++ F (drop at xs) ≡ all → out ≡ all
gather-stop xs at x out all F l e step h =
    sym (append-nil out) ∙ ap (λ ys. out ++ ys) (sym step) ∙ ap (λ r. out ++ F r) (sym (rest-at xs at x l e)) ∙ h

pub gather-end : {X Y : Type 0} (xs : List X) (at : ℕ) (out all : List Y) (F : List X → List Y)
    → length xs ≤ at → F [] ≡ [] → out ++ F (drop at xs) ≡ all → out ≡ all
gather-end xs at out all F l none h =
    sym (append-nil out) ∙ ap (λ ys. out ++ ys) (sym none) ∙ ap (λ r. out ++ F r) (sym (drop_all at xs l)) ∙ h

-- ---- the code of a state

pub code-step : (p : Positions) (at : ℕ) (item : Item) (step : Step) (ahead : List Item) → item.what ≡ What.Step step
    → code_from p at (item ∷ ahead)
    ≡ (let line : Line = record { line = item.line; instr = instr_of p (λ name. at + 1 + steps_to name ahead) step } in line ∷ []) ++ code_from p (at + 1) ahead
unfolding code_from
code-step p at item step ahead e = rw e refl

pub code-stop : (p : Positions) (at line : ℕ) (w : What) (ahead : List Item) → ((step : Step) → w ≢ What.Step step)
    → let item : Item = record { line = line; what = w } in code_from p at (item ∷ ahead) ≡ []
unfolding code_from
code-stop p at line (What.Step step) ahead other = absurd (other step refl)
code-stop p at line _ ahead other = refl

room-step : (item : Item) (step : Step) (ahead : List Item) → item.what ≡ What.Step step → steps_ahead (item ∷ ahead) ≡ steps_ahead ahead + 1
room-step item step ahead e = rw e refl

pub room-turn : (items : List Item) (at : ℕ) (item : Item) (step : Step) → at < length items → item ≡ get_or items at item → item.what ≡ What.Step step
    → steps_ahead (drop at items) ≡ steps_ahead (drop (at + 1) items) + 1
room-turn items at item step l e w = ap (λ r. steps_ahead r) (rest-at items at item l e) ∙ room-step item step (drop (at + 1) items) w

-- ---- the states of a kind

pub states-step : (p : Positions) (line : ℕ) (what : What) (ahead : List Item)
    → let item : Item = record { line = line; what = what } in
    is_inside item ≡ true → states_from p (item ∷ ahead) ≡ state_at p item ahead ++ states_from p ahead
unfolding states_from
states-step p line (What.State name holds settled) ahead e = refl
states-step p line What.End ahead e = absurd (let f : false ≡ true = e in cc)
states-step p line _ ahead e = refl

pub states-stop : (p : Positions) (line : ℕ) (what : What) (ahead : List Item)
    → let item : Item = record { line = line; what = what } in is_inside item ≡ false → states_from p (item ∷ ahead) ≡ []
unfolding states_from
states-stop p line What.End ahead e = refl
states-stop p line _ ahead e = absurd (let f : true ≡ false = e in cc)

pub states-none : (p : Positions) → states_from p [] ≡ []
unfolding states_from
states-none p = refl

pub code-none : (p : Positions) (at : ℕ) → code_from p at [] ≡ []
unfolding code_from
code-none p at = refl

-- ---- the kinds and the roots of a program

pub kinds-step : (kinds : List (List ℕ)) (line : ℕ) (w : What) (ahead : List Item)
    → let item : Item = record { line = line; what = w } in kinds_from kinds (item ∷ ahead) ≡ kind_at kinds item ahead ++ kinds_from kinds ahead
unfolding kinds_from
kinds-step kinds line (What.Kind name arguments) ahead = refl
kinds-step kinds line _ ahead = refl

pub kinds-none : (kinds : List (List ℕ)) → kinds_from kinds [] ≡ []
unfolding kinds_from
kinds-none kinds = refl

pub roots-step : (kinds earlier : List (List ℕ)) (line : ℕ) (w : What) (ahead : List Item)
    → let item : Item = record { line = line; what = w } in
    roots_from kinds earlier (item ∷ ahead) ≡ root_at kinds earlier item ++ roots_from kinds (earlier ++ root_name_at item) ahead
unfolding roots_from
roots-step kinds earlier line (What.Root name kind arguments behind priority) ahead = refl
roots-step kinds earlier line _ ahead = ap (λ e. roots_from kinds e ahead) (sym (append-nil earlier))

pub roots-none : (kinds earlier : List (List ℕ)) → roots_from kinds earlier [] ≡ []
unfolding roots_from
roots-none kinds earlier = refl

root_names-step : (line : ℕ) (w : What) (ahead : List Item)
    → let item : Item = record { line = line; what = w } in root_names (item ∷ ahead) ≡ root_name_at item ++ root_names ahead
root_names-step line (What.Root name kind arguments behind priority) ahead = refl
root_names-step line _ ahead = refl

pub roots-room : (items : List Item) (at : ℕ) (item : Item) (earlier grown : List (List ℕ)) → at < length items → item ≡ get_or items at item
    → grown ≡ earlier ++ root_name_at item
    → length grown + length (root_names (drop (at + 1) items)) ≡ length earlier + length (root_names (drop at items))
roots-room items at item earlier grown l e g =
    let rest = drop (at + 1) items in
    let r : root_names (drop at items) ≡ root_name_at item ++ root_names rest = ap (λ r. root_names r) (rest-at items at item l e) ∙ root_names-step item.line item.what rest in
    let a : length grown ≡ length earlier + length (root_name_at item) = ap (λ xs. length xs) g ∙ length-append earlier (root_name_at item) in
    let b : length (root_names (drop at items)) ≡ length (root_name_at item) + length (root_names rest) = ap (λ xs. length xs) r ∙ length-append (root_name_at item) (root_names rest) in
    omega (arith, a, b)
