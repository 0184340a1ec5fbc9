-- The units that the words of a frame name, and the members of an aggregate.
use Rattle.std.proofs.Common.{◌≡◌, ℕ, zero, suc, ◌+◌, ◌-◌, ◌<◌, ◌≤◌, Bool, true, false, cond, Some, List, [], ◌∷◌, ◌++◌, length, take, drop, slice_get, slice_index, refl, sym, ◌∙◌, ap, arith}
use Rattle.std.specs.List.{filter_map, cons_option}
use Rattle.std.proofs.lemmas.List.{drop_at, take_all, length-drop}
use Rattle.task_syntax.specs.declared.program.Sort.{Sort}
use Rattle.task_syntax.specs.declared.program.Sort.TheVariants.{Number, Future}
use Rattle.task_syntax.specs.declared.program.Variable.{Variable}
use Rattle.task_syntax.specs.declared.program.Program.{Program}
use Rattle.task_meaning.specs.Frame.{variables_of}
use Rattle.frame_code.specs.Control.{control_kind, control_state, control_at, is_aggregate}
use Rattle.frame_code.specs.Words.{OfKind, OfMembers, variables_at, one_if_future, number_count, future_count, unit_named, future_if, futures_from, words_from, members_at, frame_at, body_of}
use Rattle.frame_code.specs.Frames.{IsFrame, IsAggregateFrame}
use Rattle.frame_code.specs.Names.{present, names_of}
use Rattle.frame_code.specs.Units.{HasMember, IsMember}
use Rattle.frame_code.proofs.Variables.{both-counts}
use Rattle.frame_code.proofs.ControlWords.{frame-members}
use Rattle.frame_code.proofs.Aggregates.{body-of_task, body-of_members, members-known}
use Rattle.frame_code.proofs.SetFrames.{long-as}
use Rattle.frame_code.proofs.WordsOfBody.{words-whole, words-joined, words-one_more, words-none_more}

-- words that say an aggregate are marked as one, and have its members
pub group-stands : (p : Program) (words : List ℕ) (members : List ℕ) (next : ℕ) → body_of p words ≡ OfMembers members next
    → (is_aggregate (slice_index words 0) ≡ true) × (members_at (slice_index words) ≡ members) × (control_at (slice_index words 0) ≡ next)
group-stands p words members next e = by (is_aggregate (slice_index words 0)) refl e
  where
    by : (b : Bool) → is_aggregate (slice_index words 0) ≡ b
        → cond b (OfMembers (members_at (slice_index words)) (control_at (slice_index words 0))) (OfKind (frame_at p (slice_index words))) ≡ OfMembers members next
        → (is_aggregate (slice_index words 0) ≡ true) × (members_at (slice_index words) ≡ members) × (control_at (slice_index words 0) ≡ next)
    by true h e = (h, cc, cc)
    by false h e = cc

-- a word that names a unit is one more than it
named-below : (word : ℕ) → 1 ≤ word → unit_named word ≡ Some (word - 1)
named-below zero h = absurd (omega (arith, h))
named-below (suc unit) h = ap Some (omega arith)

-- where all words name units, each unit stands at the place of its word
unit-at : (w : ℕ → ℕ) (place n i : ℕ) → ((k : ℕ) → place ≤ k → k < place + n → 1 ≤ w k) → i < n
    → slice_get (filter_map unit_named (words_from w place n)) i ≡ Some (w (place + i) - 1)
unit-at w place zero i named h = absurd (omega (arith, h))
unit-at w place (suc n) zero named h =
    let first = named-below (w place) (named place (omega arith) (omega arith)) in
    ap (λ o. slice_get (cons_option o (filter_map unit_named (words_from w (place + 1) n))) 0) first ∙ ap (λ (k : ℕ). Some (w k - 1)) (omega arith)
unit-at w place (suc n) (suc i) named h =
    let first = named-below (w place) (named place (omega arith) (omega arith)) in
    let more = unit-at w (place + 1) n i (λ k low high. named k (omega (arith, low)) (omega (arith, high))) (omega (arith, h)) in
    ap (λ o. slice_get (cons_option o (filter_map unit_named (words_from w (place + 1) n))) (suc i)) first ∙ (more ∙ ap (λ (k : ℕ). Some (w k - 1)) (omega arith))

-- the words of an aggregate's frame are one more than its members
pub group-size : (p : Program) (words : List ℕ) → IsFrame p words → is_aggregate (slice_index words 0) ≡ true → length words ≡ 1 + control_state (slice_index words 0)
group-size p words frame group = frame.size
    ∙ ap (λ b. cond b (1 + control_state (slice_index words 0)) (1 + variables_of p (control_kind (slice_index words 0)))) group

-- a member's word stands in the frame, and names it
pub member-word : (words : List ℕ) (position : ℕ) → HasMember words position
    → (1 + position < length words) × (1 ≤ slice_index words (1 + position)) × IsMember words position (slice_index words (1 + position) - 1)
member-word words position (p, members, next, frame, is, within) =
    let stands = group-stands p words members next is in
    let known : IsAggregateFrame (slice_index words) = frame-members p words frame stands.0 in
    let size : length words ≡ 1 + control_state (slice_index words 0) = group-size p words frame stands.0 in
    let below : position < control_state (slice_index words 0) = omega (arith, within, ap length stands.1, members-known words known) in (
      omega (arith, size, below),
      known.named (1 + position) (omega arith) (omega (arith, below)),
      λ q others at says. ap (λ (ms : List ℕ). slice_get ms position) (sym (group-stands q words others at says).1)
          ∙ unit-at (slice_index words) 1 (control_state (slice_index words 0)) position (λ k low high. known.named k low (omega (arith, high))) below,
    )

pub length-words : (w : ℕ → ℕ) (place n : ℕ) → length (words_from w place n) ≡ n
length-words w place zero = refl
length-words w place (suc n) = ap suc (length-words w (place + 1) n)

-- the last words of a list
pub words-last : (words : List ℕ) (k n : ℕ) → length words ≡ k + n → drop k words ≡ words_from (slice_index words) k n
words-last words k n long =
    let whole : words_from (slice_index words) 0 k ++ words_from (slice_index words) (0 + k) n ≡ words
    = words-joined (slice_index words) 0 k n ∙ (ap (words_from (slice_index words) 0) (sym long) ∙ words-whole words) in
    ap (drop k) (sym whole) ∙ (drop_at (words_from (slice_index words) 0 k) (words_from (slice_index words) (0 + k) n) k (length-words (slice_index words) 0 k)
    ∙ ap (λ (at : ℕ). words_from (slice_index words) at n) (omega arith))

-- what future variables name is what their words name
futures-name : (w : ℕ → ℕ) (place : ℕ) (vs : List Variable) → filter_map unit_named (words_from w place (future_count vs)) ≡ present (futures_from w place vs)
futures-name w place [] = refl
futures-name w place (v ∷ vs) = by v.sort (futures-name w (place + one_if_future v.sort) vs)
  where
    by : (s : Sort) → filter_map unit_named (words_from w (place + one_if_future s) (future_count vs)) ≡ present (futures_from w (place + one_if_future s) vs)
        → filter_map unit_named (words_from w place (one_if_future s + future_count vs)) ≡ cons_option (future_if s (w place)) (present (futures_from w (place + one_if_future s) vs))
    by Number e = ap (filter_map unit_named) (words-none_more w place (future_count vs)) ∙ e
    by Future e = ap (filter_map unit_named) (words-one_more w place (future_count vs)) ∙ ap (cons_option (unit_named (w place))) e

-- a slice to the end of a list is what is left of it
pub slice-to_end : (k : ℕ) (words : List ℕ) → take (length words - k) (drop k words) ≡ drop k words
slice-to_end k words = take_all (length words - k) (drop k words) (omega (arith, length-drop k words))

-- the words after the control word of an aggregate name what it does
pub group-names : (p : Program) (words : List ℕ) → IsFrame p words → is_aggregate (slice_index words 0) ≡ true
    → filter_map unit_named (drop 1 words) ≡ names_of (body_of p words)
group-names p words frame group = ap (filter_map unit_named) (words-last words 1 (control_state (slice_index words 0)) (group-size p words frame group))
    ∙ ap names_of (sym (body-of_members p words group))

-- the words after the numbers of a task name what it does
pub task-names : (p : Program) (words : List ℕ) → IsFrame p words → is_aggregate (slice_index words 0) ≡ false
    → filter_map unit_named (drop (1 + number_count (variables_at p (control_kind (slice_index words 0)))) words) ≡ names_of (body_of p words)
task-names p words frame task =
    let vs : List Variable = variables_at p (control_kind (slice_index words 0)) in
    ap (filter_map unit_named) (words-last words (1 + number_count vs) (future_count vs) (omega (arith, long-as p words frame task, both-counts vs)))
    ∙ (futures-name (slice_index words) (1 + number_count vs) vs ∙ ap names_of (sym (body-of_task p words task)))
