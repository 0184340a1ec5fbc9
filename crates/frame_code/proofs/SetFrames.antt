-- A task's frame with a variable set, and the frame of a task without arguments.
use Rattle.std.proofs.Common.{◌≡◌, ◌≢◌, ℕ, ◌+◌, ◌<◌, ◌≤◌, false, Option, Some, None, List, length, slice_get, slice_index, slice_set, refl, sym, ◌∙◌, ap, arith}
use Rattle.std.proofs.lemmas.List.{get_or-set_same, get_or-set_other, length-set}
use Rattle.task_syntax.specs.declared.program.Sort.{Sort}
use Rattle.task_syntax.specs.declared.program.Sort.TheVariants.{Number, Future}
use Rattle.task_syntax.specs.declared.program.Kind.{Kind}
use Rattle.task_syntax.specs.declared.program.Program.{Program}
use Rattle.task_meaning.specs.Frame.{variables_in}
use Rattle.frame_code.specs.Control.{control_kind, is_aggregate}
use Rattle.frame_code.specs.Words.{OfKind, variable_list, variables_at, number_count, numbers_from, futures_from, unit_named, kind_frame, frame_at, body_of}
use Rattle.frame_code.specs.Layout.{number_place, future_place}
use Rattle.frame_code.specs.Frames.{IsFrame}
use Rattle.frame_code.specs.Setting.{BodyHasSort, HasSort, unit_of, unit_in, with_number, with_future, IsSetNumber, IsSetFuture}
use Rattle.frame_code.proofs.Variables.{IsSort, count-before, count-most, both-counts, futures-before, numbers-same, futures-same, number-sets, future-reads, future-sets}
use Rattle.frame_code.proofs.ControlWords.{task-size, same-head_frame}
use Rattle.frame_code.proofs.Aggregates.{body-of_task}
use Rattle.frame_code.proofs.MovedFrames.{task-stands}

-- a frame that has such a variable is a task's
pub sort-of : (p : Program) (words : List ℕ) (s : Sort) (x : ℕ) → HasSort p s x words
    → (is_aggregate (slice_index words 0) ≡ false) × IsSort (variables_at p (control_kind (slice_index words 0))) x s
sort-of p words s x h = task-stands p words (BodyHasSort p s x) (λ members next e. e) h

many : (o : Option Kind) → variables_in o ≡ length (variable_list o)
many None = refl
many (Some kind) = refl

-- the words of a task's frame are one more than its variables
pub long-as : (p : Program) (words : List ℕ) → IsFrame p words → is_aggregate (slice_index words 0) ≡ false
    → length words ≡ 1 + length (variables_at p (control_kind (slice_index words 0)))
long-as p words frame task = task-size p words frame task ∙ ap (λ n. 1 + n) (many (slice_get p.kinds (control_kind (slice_index words 0))))

module _ (p : Program) (old : List ℕ) (frame : IsFrame p old) (task : is_aggregate (slice_index old 0) ≡ false) where
  -- a word after the control word changes variables alone
  set-body : (place word : ℕ) (numbers : List ℕ) (futures : List (Option ℕ)) → 1 ≤ place
      → numbers_from (slice_index (slice_set old place word)) 1 (variables_at p (control_kind (slice_index old 0))) ≡ numbers
      → futures_from (slice_index (slice_set old place word)) (1 + number_count (variables_at p (control_kind (slice_index old 0)))) (variables_at p (control_kind (slice_index old 0))) ≡ futures
      → IsFrame p (slice_set old place word)
      × (body_of p (slice_set old place word) ≡ OfKind (record (frame_at p (slice_index old)) { numbers = numbers; futures = futures }))
  set-body place word numbers futures low n f =
      let new : List ℕ = slice_set old place word in
      let head : slice_index new 0 ≡ slice_index old 0 = get_or-set_other old place 0 word 0 (λ e. omega (arith, e, low)) in
      let is_task : is_aggregate (slice_index new 0) ≡ false = ap is_aggregate head ∙ task in
      let is : frame_at p (slice_index new) ≡ record (frame_at p (slice_index old)) { numbers = numbers; futures = futures }
      = ap (λ h. kind_frame (variables_at p (control_kind h)) (slice_index new)) head ∙ cc in
      (same-head_frame p old new frame task (length-set old place word) head, body-of_task p new is_task ∙ ap OfKind is)

  pub number-place_within : (x : ℕ) → IsSort (variables_at p (control_kind (slice_index old 0))) x Number
      → number_place (variables_at p (control_kind (slice_index old 0))) x < length old
  number-place_within x s = omega (arith, long-as p old frame task, count-before (variables_at p (control_kind (slice_index old 0))) x s, count-most (variables_at p (control_kind (slice_index old 0))))

  pub future-place_within : (x : ℕ) → IsSort (variables_at p (control_kind (slice_index old 0))) x Future
      → future_place (variables_at p (control_kind (slice_index old 0))) x < length old
  future-place_within x s = omega (arith, long-as p old frame task, futures-before (variables_at p (control_kind (slice_index old 0))) x s, both-counts (variables_at p (control_kind (slice_index old 0))))

  pub number-set : (x n : ℕ) → IsSort (variables_at p (control_kind (slice_index old 0))) x Number
      → IsFrame p (slice_set old (number_place (variables_at p (control_kind (slice_index old 0))) x) n)
      × IsSetNumber p x n old (slice_set old (number_place (variables_at p (control_kind (slice_index old 0))) x) n)
  number-set x n s =
      let place : ℕ = number_place (variables_at p (control_kind (slice_index old 0))) x in
      let within = number-place_within x s in
      let other : (k : ℕ) → k ≢ place → slice_index (slice_set old place n) k ≡ slice_index old k = λ k h. get_or-set_other old place k n 0 h in
      let before = count-before (variables_at p (control_kind (slice_index old 0))) x s in
      let set = set-body place n _ _ (omega arith)
      (number-sets (slice_index old) (slice_index (slice_set old place n)) 1 (variables_at p (control_kind (slice_index old 0))) x n s (get_or-set_same old place n 0 within) other)
      (futures-same (slice_index old) (slice_index (slice_set old place n)) (1 + number_count (variables_at p (control_kind (slice_index old 0)))) (variables_at p (control_kind (slice_index old 0)))
      (λ k low. other k (λ e. omega (arith, e, low, before)))) in
      (set.0, set.1 ∙ ap (with_number x n) (sym (body-of_task p old task)))

  pub future-set : (x word : ℕ) → IsSort (variables_at p (control_kind (slice_index old 0))) x Future
      → IsFrame p (slice_set old (future_place (variables_at p (control_kind (slice_index old 0))) x) word)
      × IsSetFuture p x (unit_named word) old (slice_set old (future_place (variables_at p (control_kind (slice_index old 0))) x) word)
  future-set x word s =
      let place : ℕ = future_place (variables_at p (control_kind (slice_index old 0))) x in
      let within = future-place_within x s in
      let other : (k : ℕ) → k ≢ place → slice_index (slice_set old place word) k ≡ slice_index old k = λ k h. get_or-set_other old place k word 0 h in
      let set = set-body place word _ _ (omega arith)
      (numbers-same (slice_index old) (slice_index (slice_set old place word)) 1 (variables_at p (control_kind (slice_index old 0))) (λ k low high. other k (λ e. omega (arith, e, high))))
      (future-sets (slice_index old) (slice_index (slice_set old place word)) (1 + number_count (variables_at p (control_kind (slice_index old 0)))) (variables_at p (control_kind (slice_index old 0)))
      x word s (get_or-set_same old place word 0 within) other) in
      (set.0, set.1 ∙ ap (with_future x (unit_named word)) (sym (body-of_task p old task)))

  pub future-read : (x : ℕ) → IsSort (variables_at p (control_kind (slice_index old 0))) x Future
      → unit_named (slice_index old (future_place (variables_at p (control_kind (slice_index old 0))) x)) ≡ unit_in p old x
  future-read x s = sym (future-reads (slice_index old) (1 + number_count (variables_at p (control_kind (slice_index old 0)))) (variables_at p (control_kind (slice_index old 0))) x s)
      ∙ ap (λ b. unit_of b x) (sym (body-of_task p old task))
