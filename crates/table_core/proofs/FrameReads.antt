-- What a frame names is read from its own words, and is not more than these.
use Rattle.std.proofs.Common.{◌≡◌, ◌∙◌, ℕ, zero, suc, ◌+◌, ◌<◌, ◌≤◌, Bool, true, false, cond, Option, Some, None, List, [], ◌∷◌, length, slice_get, refl, sym, ap, arith}
use Rattle.std.specs.List.{filter_map, cons_option}
use Rattle.task_syntax.specs.declared.program.Program.{Program}
use Rattle.task_syntax.specs.declared.program.Variable.{Variable}
use Rattle.task_syntax.specs.declared.program.Kind.{Kind}
use Rattle.task_syntax.specs.declared.program.Sort.{Sort}
use Rattle.task_syntax.specs.declared.program.Sort.TheVariants.{Number, Future}
use Rattle.task_meaning.specs.Frame.{variables_of, variables_in}
use Rattle.frame_code.specs.Control.{control_kind, control_state, control_at, is_aggregate}
use Rattle.frame_code.specs.Words.{OfKind, OfMembers, variable_list, variables_at, number_count, future_count, one_if_future, unit_named, future_if, futures_from, words_from, members_at, frame_at}
use Rattle.frame_code.specs.Names.{present, names_of, named}
use Rattle.frame_code.specs.Frames.{frame_length}
use Rattle.frame_code.proofs.Variables.{both-counts, length-futures}

-- a kind has as many variables as its list
many_variables : (o : Option Kind) → variables_in o ≡ length (variable_list o)
many_variables None = refl
many_variables (Some kind) = refl

-- a list from which some are left out is no longer
filter-few : {A B : Type 0} (f : A → Option B) (l : List A) → length (filter_map f l) ≤ length l
filter-few f [] = omega arith
filter-few {A} {B} f (x ∷ l) = by (f x) (filter_map f l) (filter-few f l)
  where
    by : (o : Option B) (rest : List B) → length rest ≤ length l → length (cons_option o rest) ≤ suc (length l)
    by None rest h = omega (arith, h)
    by (Some y) rest h = omega (arith, h)

length-words : (words : ℕ → ℕ) (place n : ℕ) → length (words_from words place n) ≡ n
length-words words place zero = refl
length-words words place (suc n) = omega (arith, length-words words (place + 1) n)

-- words that agree from the first future on, as far as there are futures, name the same units
futures-within : (w w' : ℕ → ℕ) (place : ℕ) (vs : List Variable) → ((k : ℕ) → place ≤ k → k < place + future_count vs → w' k ≡ w k)
    → futures_from w' place vs ≡ futures_from w place vs
futures-within w w' place [] h = refl
futures-within w w' place (v ∷ vs) h =
    let e : future_if v.sort (w' place) ≡ future_if v.sort (w place) = head v.sort (λ k low high. h k low high) in
    let g : futures_from w' (place + one_if_future v.sort) vs ≡ futures_from w (place + one_if_future v.sort) vs
    = futures-within w w' (place + one_if_future v.sort) vs (λ k low high. h k (omega (arith, low)) (omega (arith, high))) in cc
  where
    head : (s : Sort) → ((k : ℕ) → place ≤ k → k < place + (one_if_future s + future_count vs) → w' k ≡ w k) → future_if s (w' place) ≡ future_if s (w place)
    head Number g = refl
    head Future g = ap unit_named (g place (omega arith) (omega arith))

-- words that are equal in a range read as the same list
pub words-within : (w w' : ℕ → ℕ) (place n : ℕ) → ((k : ℕ) → place ≤ k → k < place + n → w' k ≡ w k) → words_from w' place n ≡ words_from w place n
words-within w w' place zero h = refl
words-within w w' place (suc n) h =
    let e : w' place ≡ w place = h place (omega arith) (omega arith) in
    let g : words_from w' (place + 1) n ≡ words_from w (place + 1) n = words-within w w' (place + 1) n (λ k low high. h k (omega (arith, low)) (omega (arith, high))) in cc

module _ (p : Program) where
  -- a frame has a control word at least
  pub frame-some : (control : ℕ) → 1 ≤ frame_length p control
  frame-some control = by (is_aggregate control)
    where
      by : (b : Bool) → 1 ≤ cond b (1 + control_state control) (1 + variables_of p (control_kind control))
      by true = omega arith
      by false = omega arith

  abbrev vs_of : (ℕ → ℕ) → List Variable
  vs_of w = variables_at p (control_kind (w 0))

  abbrev futures_of : (ℕ → ℕ) → List Variable → List (Option ℕ)
  futures_of w vs = futures_from w (1 + number_count vs) vs

  -- what an aggregate names, and what a task does
  group-names : (w : ℕ → ℕ) → is_aggregate (w 0) ≡ true → named p w ≡ members_at w
  group-names w e = ap (λ (b : Bool). names_of (cond b (OfMembers (members_at w) (control_at (w 0))) (OfKind (frame_at p w)))) e

  task-names : (w : ℕ → ℕ) → is_aggregate (w 0) ≡ false → named p w ≡ present (futures_of w (vs_of w))
  task-names w e = ap (λ (b : Bool). names_of (cond b (OfMembers (members_at w) (control_at (w 0))) (OfKind (frame_at p w)))) e

  -- an aggregate's frame has one word more than it has members
  pub length-group : (control : ℕ) → is_aggregate control ≡ true → frame_length p control ≡ 1 + control_state control
  length-group control e = ap (λ (b : Bool). cond b (1 + control_state control) (1 + variables_of p (control_kind control))) e

  length-task : (control : ℕ) → is_aggregate control ≡ false → frame_length p control ≡ 1 + length (variables_at p (control_kind control))
  length-task control e = ap (λ (b : Bool). cond b (1 + control_state control) (1 + variables_of p (control_kind control))) e
      ∙ ap (λ (n : ℕ). 1 + n) (many_variables (slice_get p.kinds (control_kind control)))

  -- a frame names fewer than it has words
  pub names-few : (w : ℕ → ℕ) → length (named p w) + 1 ≤ frame_length p (w 0)
  names-few w = by (is_aggregate (w 0)) refl
    where
      by : (b : Bool) → is_aggregate (w 0) ≡ b → length (named p w) + 1 ≤ frame_length p (w 0)
      by true e = omega (
        arith,
        ap length (group-names w e),
        length-group (w 0) e,
        filter-few unit_named (words_from w 1 (control_state (w 0))),
        length-words w 1 (control_state (w 0)),
      )
      by false e = omega (
        arith,
        ap length (task-names w e),
        length-task (w 0) e,
        filter-few (λ (option : Option ℕ). option) (futures_of w (vs_of w)),
        length-futures w (1 + number_count (vs_of w)) (vs_of w),
      )

  -- frames with the same words name the same
  pub names-same : (w w' : ℕ → ℕ) → ((k : ℕ) → k < frame_length p (w 0) → w' k ≡ w k) → named p w' ≡ named p w
  names-same w w' same = by (is_aggregate (w 0)) refl
    where
      first : w' 0 ≡ w 0
      first = same 0 (frame-some (w 0))

      by : (b : Bool) → is_aggregate (w 0) ≡ b → named p w' ≡ named p w
      by true e = group-names w' (ap is_aggregate first ∙ e)
          ∙ ap (λ (c : ℕ). filter_map unit_named (words_from w' 1 (control_state c))) first
          ∙ ap (filter_map unit_named) (words-within w w' 1 (control_state (w 0)) (λ k low high. same k (omega (arith, high, length-group (w 0) e))))
          ∙ sym (group-names w e)
      by false e = task-names w' (ap is_aggregate first ∙ e)
          ∙ ap (λ (c : ℕ). present (futures_of w' (variables_at p (control_kind c)))) first
          ∙ ap present (futures-within w w' (1 + number_count (vs_of w)) (vs_of w) (λ k low high. same k (omega (arith, high, length-task (w 0) e, both-counts (vs_of w)))))
          ∙ sym (task-names w e)
