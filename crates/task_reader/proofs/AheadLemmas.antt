-- What is looked for ahead is what the definitions list.
use Rattle.task_reader.proofs.Vocabulary.{◌≡◌, ◌≤◌, ℕ, ◌+◌, Bool, true, false, cond, not, ◌||◌, List, [], ◌∷◌, ◌++◌, take, length, refl, sym, ◌∙◌, arith, list_any, prefix_len, take_while, one-add, length-prefix_len, list_any-append, same_bytes, is_among, Step, Label, What, Item, step_label, label_names, state_names, is_label, steps_to, steps_ahead, is_step, is_inside, labels, passes_by, begins}

while-step : {X : Type 0} (b : Bool) (test : X → Bool) (n : ℕ) (x : X) (xs : List X)
    → list_any test (take (cond b (1 + n) 0) (x ∷ xs)) ≡ cond b (test x || list_any test (take n xs)) false
while-step true test n x xs = rw (one-add n) refl
while-step false test n x xs = refl

step_label-any : (name : List ℕ) (step : Step) (rest : List (List ℕ)) → is_among (step_label step ++ rest) name ≡ (is_label name step || is_among rest name)
step_label-any name (Label other) rest = refl
step_label-any name _ rest = refl

label-step : (name : List ℕ) (line : ℕ) (what : What) (items : List Item) (rest : Bool)
    → rest ≡ is_among (label_names items) name
    → let item : Item = record { line = line; what = what } in
    cond (is_step item) (labels name item || rest) false ≡ is_among (label_names (item ∷ items)) name
label-step name line (What.Step step) items rest h = rw h (sym (step_label-any name step (label_names items)))
label-step name line _ items rest h = refl

pub label_names-is : (name : List ℕ) (items : List Item) → list_any (labels name) (take_while is_step items) ≡ is_among (label_names items) name
label_names-is name [] = refl
label_names-is name (item ∷ items) =
    while-step (is_step item) (labels name) (prefix_len is_step items) item items ∙ label-step name item.line item.what items _ (label_names-is name items)

state-step : (name : List ℕ) (line : ℕ) (what : What) (items : List Item) (rest : Bool)
    → rest ≡ is_among (state_names items) name
    → let item : Item = record { line = line; what = what } in
    cond (is_inside item) (begins name item || rest) false ≡ is_among (state_names (item ∷ items)) name
state-step name line (What.State other holds settled) items rest h = rw h refl
state-step name line What.End items rest h = refl
state-step name line _ items rest h = h

pub state_names-is : (name : List ℕ) (items : List Item) → list_any (begins name) (take_while is_inside items) ≡ is_among (state_names items) name
state_names-is name [] = refl
state_names-is name (item ∷ items) =
    while-step (is_inside item) (begins name) (prefix_len is_inside items) item items ∙ state-step name item.line item.what items _ (state_names-is name items)

pub is_among-append : (xs ys : List (List ℕ)) (name : List ℕ) → is_among (xs ++ ys) name ≡ (is_among xs name || is_among ys name)
is_among-append xs ys name = list_any-append (same_bytes name) xs ys

to-step : (name : List ℕ) (line : ℕ) (what : What) (items : List Item) (n : ℕ)
    → n ≡ steps_to name items
    → let item : Item = record { line = line; what = what } in
    cond (passes_by name item) (1 + n) 0 ≡ steps_to name (item ∷ items)
to-step name line (What.Step step) items n h = go (is_label name step)
  where
    go : (b : Bool) → cond (not b) (1 + n) 0 ≡ cond b 0 (steps_to name items + 1)
    go true = refl
    go false = omega arith
to-step name line _ items n h = refl

steps-are : (name : List ℕ) (items : List Item) → prefix_len (passes_by name) items ≡ steps_to name items
steps-are name [] = refl
steps-are name (item ∷ items) = to-step name item.line item.what items _ (steps-are name items)

pub steps_to-is : (name : List ℕ) (items : List Item) → length (take_while (passes_by name) items) ≡ steps_to name items
steps_to-is name items = length-prefix_len (passes_by name) items ∙ steps-are name items

to-le : (name : List ℕ) (line : ℕ) (what : What) (items : List Item)
    → steps_to name items ≤ steps_ahead items
    → let item : Item = record { line = line; what = what } in steps_to name (item ∷ items) ≤ steps_ahead (item ∷ items)
to-le name line (What.Step step) items h = go (is_label name step)
  where
    go : (b : Bool) → cond b 0 (steps_to name items + 1) ≤ steps_ahead items + 1
    go true = omega arith
    go false = omega arith
to-le name line _ items h = omega arith

pub steps_to-le : (name : List ℕ) (items : List Item) → steps_to name items ≤ steps_ahead items
steps_to-le name [] = omega arith
steps_to-le name (item ∷ items) = to-le name item.line item.what items (steps_to-le name items)

pub ruleset ahead_lemmas = (label_names-is, state_names-is, is_among-append)
