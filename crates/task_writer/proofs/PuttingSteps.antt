-- The line of a spawn, which is written in two parts.
use Rattle.task_writer.proofs.Vocabulary.{◌≡◌, ℕ, Bool, Option, Result, Ok, Err, OnOk, List, [], ◌∷◌, ◌++◌, map, sym, ◌∙◌, ap, codes, Priority, Variable, State, Kind, Argument, Instr, Word, future_word, behind_words, retry_words, passed_word, priority_words, step_words, spaced, parted, line_text, option_map, name_at, kind_names, variable_names, names_in, passed_of, step_of}
use Rattle.task_syntax.specs.declared.instr.Instr.TheVariants.{Spawn}
use Rattle.task_writer.proofs.Putting.{spawn-line}

pub on-ok : {T E P Q : Type 0} (r : Result T E) → (P → Q) → OnOk r P → OnOk r Q
on-ok (Ok t) f p = f p
on-ok (Err e) f p = p

front-words : List (List ℕ) → List Variable → List Argument → ℕ → ℕ → List Word
front-words kinds vs args to callee =
    codes "spawn" ∷ future_word (name_at (variable_names vs) to) ∷ name_at kinds callee ∷ map passed_word (map (passed_of (variable_names vs)) args)

tail-words : List Variable → Option ℕ → Priority → Bool → List Word
tail-words vs behind priority retry = behind_words (option_map (name_at (variable_names vs)) behind) ++ (priority_words priority ++ retry_words retry)

pub spawn-step : (o a b : List ℕ) (kinds : List Kind) (kind : Kind) (state : State) (instr : Instr) (vs : List Variable) (args passed : List Argument) (to callee : ℕ) (behind : Option ℕ) (priority : Priority) (retry : Bool)
    → vs ≡ kind.variables → passed ≡ args → instr ≡ Spawn to callee args behind priority retry
    → a ≡ o ++ parted (codes "spawn" ∷ future_word (name_at (variable_names vs) to) ∷ name_at (kind_names kinds) callee ∷ map passed_word (map (passed_of (variable_names vs)) passed))
    → b ≡ a ++ (spaced (behind_words (option_map (name_at (variable_names vs)) behind) ++ (priority_words priority ++ retry_words retry)) ++ 10 ∷ [])
    → b ≡ o ++ line_text (step_words (step_of (names_in (kind_names kinds) kind state) instr))
unfolding step_of front-words tail-words
spawn-step o a b kinds kind state instr vs args passed to callee behind priority retry e f g p q =
    let K = kind_names kinds in
    let n = variable_names vs in
    spawn-line o a b (codes "spawn") (future_word (name_at n to)) (name_at K callee) (map passed_word (map (passed_of n) passed)) (tail-words vs behind priority retry) p q
    ∙ (ap (λ (v : List Variable). o ++ line_text (front-words K v passed to callee ++ tail-words v behind priority retry)) e
    ∙ (ap (λ (z : List Argument). o ++ line_text (front-words K kind.variables z to callee ++ tail-words kind.variables behind priority retry)) f
    ∙ ap (λ (i : Instr). o ++ line_text (step_words (step_of (names_in K kind state) i))) (sym g)))
