-- Lines of which a reading takes no notice.
use Rattle.task_writer.proofs.Vocabulary.{◌≡◌, ℕ, suc, ◌+◌, List, [], ◌∷◌, ◌++◌, map, drop, length, ◌∙◌, ap, arith, flat_map, Variable, State, Kind, Line, Step, What, Item, names_in, code_lines, state_lines, var_lines}
use Rattle.task_writer.proofs.Itemized.{items_at}

abbrev pub Skips : {Y : Type 0} → (List Item → Y) → What → Type 0
Skips F w = (n : ℕ) (items : List Item) → (let item : Item = record { line = n; what = w } in F (item ∷ items) ≡ F items)

abbrev pub SkipsAll : {Y : Type 0} → (List Item → Y) → List What → Type 0
SkipsAll F [] = Unit {0}
SkipsAll F (w ∷ ws) = Skips F w × SkipsAll F ws

pub skipped : {Y : Type 0} (F : List Item → Y) (ws rest : List What) (n : ℕ) → SkipsAll F ws → F (items_at n (ws ++ rest)) ≡ F (items_at (n + length ws) rest)
skipped F [] rest n skips = let e : n ≡ n + 0 = omega arith in ap (λ k. F (items_at k rest)) e
skipped F (w ∷ ws) rest n skips = let e : n + 1 + length ws ≡ n + suc (length ws) = omega arith in
    skips.0 n (items_at (n + 1) (ws ++ rest)) ∙ (skipped F ws rest (n + 1) skips.1 ∙ ap (λ k. F (items_at k rest)) e)

pub skips-append : {Y : Type 0} (F : List Item → Y) (xs ys : List What) → SkipsAll F xs → SkipsAll F ys → SkipsAll F (xs ++ ys)
skips-append F [] ys g h = h
skips-append F (x ∷ xs) ys g h = (g.0, skips-append F xs ys g.1 h)

pub skips-flat : {X Y : Type 0} (F : List Item → Y) (f : X → List What) → ((x : X) → SkipsAll F (f x)) → (xs : List X) → SkipsAll F (flat_map f xs)
skips-flat F f each [] = tt
skips-flat F f each (x ∷ xs) = skips-append F (f x) (flat_map f xs) (each x) (skips-flat F f each xs)

pub skips-map : {X Y : Type 0} (F : List Item → Y) (f : X → What) → ((x : X) → Skips F (f x)) → (xs : List X) → SkipsAll F (map f xs)
skips-map F f each [] = tt
skips-map F f each (x ∷ xs) = (each x, skips-map F f each xs)

pub skips-code : {Y : Type 0} (F : List Item → Y) → ((step : Step) → Skips F (What.Step step)) → (kinds : List (List ℕ)) (kind : Kind) (state : State) (code : List Line)
    → SkipsAll F (code_lines (names_in kinds kind state) code)
skips-code F each kinds kind state code = skips-map F _ (λ l. each _) code

pub skips-var : {Y : Type 0} (F : List Item → Y) → ((variables : List Variable) → Skips F (What.Var variables)) → (variables : List Variable) → SkipsAll F (var_lines variables)
skips-var F each [] = tt
skips-var F each (v ∷ vs) = (each (v ∷ vs), tt)

-- the lines of a kind behind its first
abbrev pub inner_lines : List (List ℕ) → Kind → List What
inner_lines kinds kind = var_lines (drop kind.arguments kind.variables) ++ (flat_map (state_lines kinds kind) kind.states ++ What.End ∷ [])

abbrev pub IsInKind : What → Type 0
IsInKind (What.Kind name arguments) = ⊥
IsInKind (What.Root name kind arguments behind priority) = ⊥
IsInKind _ = Unit {0}

-- no notice of what stands inside a kind
abbrev pub SkipsInside : {Y : Type 0} → (List Item → Y) → Type 0
SkipsInside F = (w : What) → IsInKind w → Skips F w

skips-state : {Y : Type 0} (F : List Item → Y) → SkipsInside F → (kinds : List (List ℕ)) (kind : Kind) (state : State) → SkipsAll F (state_lines kinds kind state)
unfolding state_lines
skips-state F skips kinds kind state = (skips (What.State state.name _ _) tt, skips-code F (λ step. skips (What.Step step) tt) kinds kind state state.code)

pub skips-inner : {Y : Type 0} (F : List Item → Y) → SkipsInside F → (kinds : List (List ℕ)) (kind : Kind) → SkipsAll F (inner_lines kinds kind)
skips-inner F skips kinds kind =
    let states = flat_map (state_lines kinds kind) kind.states in
    skips-append F (var_lines (drop kind.arguments kind.variables)) (states ++ What.End ∷ []) (skips-var F (λ vs. skips (What.Var vs) tt) (drop kind.arguments kind.variables))
    (skips-append F states (What.End ∷ []) (skips-flat F (state_lines kinds kind) (skips-state F skips kinds kind) kind.states) (skips What.End tt, tt))
