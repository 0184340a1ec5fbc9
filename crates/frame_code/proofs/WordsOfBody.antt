-- The words of a frame are those of the body that they say.
use Rattle.std.proofs.Common.{◌≡◌, ℕ, zero, suc, ◌+◌, ◌<◌, ◌≤◌, Bool, true, false, cond, Option, Some, None, List, [], ◌∷◌, ◌++◌, length, map, slice_get, slice_index, refl, sym, ◌∙◌, ap, arith}
use Rattle.std.specs.List.{filter_map}
use Rattle.std.proofs.lemmas.Bool.{eqb-true}
use Rattle.task_syntax.specs.Form.{IsWellFormed}
use Rattle.task_syntax.specs.declared.program.Sort.{Sort}
use Rattle.task_syntax.specs.declared.program.Sort.TheVariants.{Number, Future}
use Rattle.task_syntax.specs.declared.program.Variable.{Variable}
use Rattle.task_syntax.specs.declared.program.Kind.{Kind}
use Rattle.task_syntax.specs.declared.program.Program.{Program}
use Rattle.task_meaning.specs.Frame.{variables_of, variables_in}
use Rattle.kt_words.specs.HeadWords.{link_code}
use Rattle.frame_code.specs.Control.{control_word, control_kind, control_state, control_at, is_aggregate}
use Rattle.frame_code.specs.Words.{variable_list, variables_at, one_if_number, one_if_future, number_count, future_count, number_if, numbers_from, unit_named, future_if, futures_from, words_from, members_at, frame_at, body_of}
use Rattle.frame_code.specs.Layout.{number_word, number_words, future_word, future_words, frame_words, members_words, words_of_body}
use Rattle.frame_code.specs.Frames.{IsFrame}
use Rattle.frame_code.proofs.Variables.{both-counts}
use Rattle.frame_code.proofs.ControlWords.{word-of_parts, task-size, frame-members}
use Rattle.frame_code.proofs.Aggregates.{body-of_task, body-of_members, members-known}

pub words-one_more : (w : ℕ → ℕ) (place n : ℕ) → words_from w place (1 + n) ≡ w place ∷ words_from w (place + 1) n
words-one_more w place n = let e : 1 + n ≡ suc n = omega arith in ap (words_from w place) e

pub words-none_more : (w : ℕ → ℕ) (place n : ℕ) → words_from w place (0 + n) ≡ words_from w (place + 0) n
words-none_more w place n =
    let e : 0 + n ≡ n = omega arith in let g : place ≡ place + 0 = omega arith in ap (words_from w place) e ∙ ap (λ (k : ℕ). words_from w k n) g

numbers-again : (w : ℕ → ℕ) (place : ℕ) (vs : List Variable) → number_words vs (numbers_from w place vs) ≡ words_from w place (number_count vs)
numbers-again w place [] = refl
numbers-again w place (v ∷ vs) = by v.sort (numbers-again w (place + one_if_number v.sort) vs)
  where
    by : (s : Sort) → number_words vs (numbers_from w (place + one_if_number s) vs) ≡ words_from w (place + one_if_number s) (number_count vs)
        → number_word s (number_if s (w place)) ++ number_words vs (numbers_from w (place + one_if_number s) vs) ≡ words_from w place (one_if_number s + number_count vs)
    by Number e = ap (λ ws. w place ∷ ws) e ∙ sym (words-one_more w place (number_count vs))
    by Future e = e ∙ sym (words-none_more w place (number_count vs))

link-of_unit : (word : ℕ) → link_code (unit_named word) ≡ word
link-of_unit zero = refl
link-of_unit (suc unit) = omega arith

futures-again : (w : ℕ → ℕ) (place : ℕ) (vs : List Variable) → future_words vs (futures_from w place vs) ≡ words_from w place (future_count vs)
futures-again w place [] = refl
futures-again w place (v ∷ vs) = by v.sort (futures-again w (place + one_if_future v.sort) vs)
  where
    by : (s : Sort) → future_words vs (futures_from w (place + one_if_future s) vs) ≡ words_from w (place + one_if_future s) (future_count vs)
        → future_word s (future_if s (w place)) ++ future_words vs (futures_from w (place + one_if_future s) vs) ≡ words_from w place (one_if_future s + future_count vs)
    by Number e = e ∙ sym (words-none_more w place (future_count vs))
    by Future e = ap (λ n. n ∷ future_words vs (futures_from w (place + 1) vs)) (link-of_unit (w place)) ∙ (ap (λ ws. w place ∷ ws) e ∙ sym (words-one_more w place (future_count vs)))

pub words-joined : (w : ℕ → ℕ) (place n m : ℕ) → words_from w place n ++ words_from w (place + n) m ≡ words_from w place (n + m)
words-joined w place zero m = let e : place + 0 ≡ place = omega arith in let g : m ≡ 0 + m = omega arith in ap (λ (k : ℕ). words_from w k m) e ∙ ap (words_from w place) g
words-joined w place (suc n) m =
    let e : place + suc n ≡ (place + 1) + n = omega arith in
    let g : suc (n + m) ≡ suc n + m = omega arith in
    ap (λ (k : ℕ). w place ∷ (words_from w (place + 1) n ++ words_from w k m)) e
    ∙ (ap (λ ws. w place ∷ ws) (words-joined w (place + 1) n m) ∙ ap (words_from w place) g)

-- the words of a list are the list
words-shifted : (word : ℕ) (words : List ℕ) (place n : ℕ) → words_from (slice_index (word ∷ words)) (suc place) n ≡ words_from (slice_index words) place n
words-shifted word words place zero = refl
words-shifted word words place (suc n) =
    let e : suc place + 1 ≡ suc (place + 1) = omega arith in
    ap (λ (k : ℕ). slice_index words place ∷ words_from (slice_index (word ∷ words)) k n) e ∙ ap (λ ws. slice_index words place ∷ ws) (words-shifted word words (place + 1) n)

pub words-whole : (words : List ℕ) → words_from (slice_index words) 0 (length words) ≡ words
words-whole [] = refl
words-whole (word ∷ words) = ap (λ ws. word ∷ ws) (words-shifted word words 0 (length words) ∙ words-whole words)

-- the control word, and the words after it
pub words-after : (words : List ℕ) (n : ℕ) → length words ≡ 1 + n → (slice_index words 0 ∷ words_from (slice_index words) 1 n) ≡ words
words-after words n e = sym (words-one_more (slice_index words) 0 n) ∙ (ap (words_from (slice_index words) 0) (sym e) ∙ words-whole words)

task-again : (p : Program) (words : List ℕ) → IsFrame p words → is_aggregate (slice_index words 0) ≡ false
    → frame_words (variables_at p (control_kind (slice_index words 0))) (frame_at p (slice_index words)) ≡ words
task-again p words frame task =
    let vs : List Variable = variables_at p (control_kind (slice_index words 0)) in
    let w : ℕ → ℕ = slice_index words in
    let size : length words ≡ 1 + length vs = task-size p words frame task ∙ ap (λ n. 1 + n) (many (slice_get p.kinds (control_kind (slice_index words 0)))) in
    let head = word-of_parts (slice_index words 0) frame.control in
    let counts : number_count vs + future_count vs ≡ length vs = both-counts vs in
    let variables : number_words vs (numbers_from w 1 vs) ++ future_words vs (futures_from w (1 + number_count vs) vs) ≡ words_from w 1 (length vs)
    = ap (λ ws. ws ++ future_words vs (futures_from w (1 + number_count vs) vs)) (numbers-again w 1 vs)
    ∙ (ap (λ ws. words_from w 1 (number_count vs) ++ ws) (futures-again w (1 + number_count vs) vs)
    ∙ (words-joined w 1 (number_count vs) (future_count vs) ∙ ap (words_from w 1) counts)) in
    ap (λ c. c ∷ (number_words vs (numbers_from w 1 vs) ++ future_words vs (futures_from w (1 + number_count vs) vs))) head
    ∙ (ap (λ ws. slice_index words 0 ∷ ws) variables ∙ words-after words (length vs) size)
  where
    many : (o : Option Kind) → variables_in o ≡ length (variable_list o)
    many None = refl
    many (Some kind) = refl

members-again : (w : ℕ → ℕ) (place n : ℕ) → ((k : ℕ) → place ≤ k → k < place + n → 1 ≤ w k) → map suc (filter_map unit_named (words_from w place n)) ≡ words_from w place n
members-again w place zero h = refl
members-again w place (suc n) h = by (w place) (h place (omega arith) (omega arith)) (members-again w (place + 1) n (λ k low high. h k (omega (arith, low)) (omega (arith, high))))
  where
    by : (word : ℕ) → 1 ≤ word → map suc (filter_map unit_named (words_from w (place + 1) n)) ≡ words_from w (place + 1) n
        → map suc (filter_map unit_named (word ∷ words_from w (place + 1) n)) ≡ (word ∷ words_from w (place + 1) n)
    by zero g e = absurd (omega (arith, g))
    by (suc unit) g e = ap (λ ws. suc unit ∷ ws) e

group-again : (p : Program) (words : List ℕ) → IsFrame p words → is_aggregate (slice_index words 0) ≡ true
    → members_words (members_at (slice_index words)) (control_at (slice_index words 0)) ≡ words
group-again p words frame group =
    let known = frame-members p words frame group in
    let n : ℕ = control_state (slice_index words 0) in
    let size : length words ≡ 1 + n = frame.size ∙ ap (λ b. cond b (1 + n) (1 + variables_of p (control_kind (slice_index words 0)))) group in
    let marked : control_kind (slice_index words 0) ≡ 255 = eqb-true (control_kind (slice_index words 0)) 255 group in
    let head : control_word 255 (length (members_at (slice_index words))) (control_at (slice_index words 0)) ≡ slice_index words 0
    = ap (λ k. control_word k (length (members_at (slice_index words))) (control_at (slice_index words 0))) (sym marked)
    ∙ (ap (λ m. control_word (control_kind (slice_index words 0)) m (control_at (slice_index words 0))) (members-known words known) ∙ word-of_parts (slice_index words 0) frame.control) in
    ap (λ c. c ∷ map suc (members_at (slice_index words))) head
    ∙ (ap (λ ws. slice_index words 0 ∷ ws) (members-again (slice_index words) 1 n (λ k low high. known.named k low (omega (arith, high)))) ∙ words-after words n size)

pub words-again : (p : Program) (words : List ℕ) → IsWellFormed p → IsFrame p words → words_of_body p (body_of p words) ≡ words
words-again p words formed frame = by (is_aggregate (slice_index words 0)) refl
  where
    by : (b : Bool) → is_aggregate (slice_index words 0) ≡ b → words_of_body p (body_of p words) ≡ words
    by true e = ap (words_of_body p) (body-of_members p words e) ∙ group-again p words frame e
    by false e = ap (words_of_body p) (body-of_task p words e) ∙ task-again p words frame e
