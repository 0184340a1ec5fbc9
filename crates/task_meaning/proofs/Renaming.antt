-- Frames, calls and acts under other names of their futures.
use Rattle.std.specs.Prelude.{◌≡◌, ℕ, zero, suc, ◌+◌, ◌-◌, Bool, true, false, cond, Option, None, List, [], ◌∷◌, ◌++◌, map, length, replicate, slice_set}
use Rattle.std.proofs.Common.{refl, sym, ap, ◌∙◌}
use Rattle.task_syntax.specs.Facts.{has}
use Rattle.task_syntax.specs.declared.value.Value.{Value}
use Rattle.task_syntax.specs.declared.value.Value.TheVariants.{Number, Trapped}
use Rattle.task_syntax.specs.declared.instr.Argument.{Argument}
use Rattle.task_syntax.specs.declared.instr.Argument.TheVariants as argument
use Rattle.task_syntax.specs.declared.instr.Instr.{Instr}
use Rattle.task_syntax.specs.declared.instr.Instr.TheVariants.{Set, Math, If, Goto, Label, Cell, Rows, Spawn, All, Copy, Drop, Get, Again, Done}
use Rattle.task_syntax.specs.declared.program.Program.{Program}
use Rattle.task_syntax.specs.declared.columns.Columns.{Columns}
use Rattle.task_meaning.specs.Meant.{future_at}
use Rattle.task_meaning.specs.Frame.{FrameOf, CallOf, holds_at, variables_of, padded, kept_from, kept, entry, enter, jump, go_on, set_number, set_future, operand, number_passed, future_passed, renamed, frame_with, call_with}
use Rattle.task_meaning.specs.Arithmetic.{computed, compares, cell_at}
use Rattle.task_meaning.specs.Acts.{Act, Steps, Calls, steps_with, act_of, act_with}

module _ {A B : Type 0} (name : A → Option B) where
  -- the future at a position, renamed
  pub future_at-renamed : (fs : List (Option A)) (x : ℕ) → future_at (map (renamed name) fs) x ≡ renamed name (future_at fs x)
  future_at-renamed [] x = refl
  future_at-renamed (f ∷ fs) zero = refl
  future_at-renamed (f ∷ fs) (suc x) = future_at-renamed fs x

  -- a list of futures that is set, renamed
  pub set-renamed : (fs : List (Option A)) (x : ℕ) (o : Option A) → map (renamed name) (slice_set fs x o) ≡ slice_set (map (renamed name) fs) x (renamed name o)
  set-renamed [] x o = refl
  set-renamed (f ∷ fs) zero o = refl
  set-renamed (f ∷ fs) (suc x) o = ap (λ gs. renamed name f ∷ gs) (set-renamed fs x o)

  cond-renamed : (b : Bool) (f : Option A) → renamed name (cond b f None) ≡ cond b (renamed name f) None
  cond-renamed true f = refl
  cond-renamed false f = refl

  kept_from-renamed : (at : ℕ) (held : List ℕ) (fs : List (Option A)) → map (renamed name) (kept_from at held fs) ≡ kept_from at held (map (renamed name) fs)
  kept_from-renamed at held [] = refl
  kept_from-renamed at held (f ∷ fs) =
      ap (λ g. g ∷ map (renamed name) (kept_from (at + 1) held fs)) (cond-renamed (has at held) f)
      ∙ ap (λ gs. cond (has at held) (renamed name f) None ∷ gs) (kept_from-renamed (at + 1) held fs)

  replicate-renamed : (n : ℕ) → map (renamed name) (replicate n None) ≡ replicate n None
  replicate-renamed zero = refl
  replicate-renamed (suc n) = ap (λ gs. None ∷ gs) (replicate-renamed n)

  append-renamed : (fs gs : List (Option A)) → map (renamed name) (fs ++ gs) ≡ map (renamed name) fs ++ map (renamed name) gs
  append-renamed [] gs = refl
  append-renamed (f ∷ fs) gs = ap (λ hs. renamed name f ∷ hs) (append-renamed fs gs)

  -- renaming leaves the length
  pub length-renamed : (fs : List (Option A)) → length (map (renamed name) fs) ≡ length fs
  length-renamed [] = refl
  length-renamed (f ∷ fs) = ap suc (length-renamed fs)

  padded-renamed : (n : ℕ) (fs : List (Option A)) → map (renamed name) (padded n None fs) ≡ padded n None (map (renamed name) fs)
  padded-renamed n fs =
      append-renamed fs (replicate (n - length fs) None)
      ∙ ap (λ gs. map (renamed name) fs ++ gs) (replicate-renamed (n - length fs))
      ∙ ap (λ l. map (renamed name) fs ++ replicate (n - l) None) (sym (length-renamed fs))

  passed-renamed : (fs : List (Option A)) (arguments : List Argument)
      → map (renamed name) (map (future_passed fs) arguments) ≡ map (future_passed (map (renamed name) fs)) arguments
  passed-renamed fs [] = refl
  passed-renamed fs (argument.Number n ∷ more) = ap (λ gs. None ∷ gs) (passed-renamed fs more)
  passed-renamed fs (argument.Future x ∷ more) =
      ap (λ g. g ∷ map (renamed name) (map (future_passed fs) more)) (sym (future_at-renamed fs x))
      ∙ ap (λ gs. future_at (map (renamed name) fs) x ∷ gs) (passed-renamed fs more)

  -- the first frame of a call, and the one behind a respawn
  pub entry-renamed : (p : Program) (call : CallOf A) → frame_with name (entry p call) ≡ entry p (call_with name call)
  entry-renamed p call =
      let futures : map (renamed name) (kept (holds_at p call.kind 0) (padded (variables_of p call.kind) None call.futures))
      ≡ kept (holds_at p call.kind 0) (padded (variables_of p call.kind) None (map (renamed name) call.futures))
      = kept_from-renamed 0 (holds_at p call.kind 0) (padded (variables_of p call.kind) None call.futures)
      ∙ ap (kept_from 0 (holds_at p call.kind 0)) (padded-renamed (variables_of p call.kind) call.futures) in
      λ i. record { kind = call.kind; state = 0; at = 0; numbers = padded (variables_of p call.kind) 0 call.numbers; futures = futures i }

  -- the frame after a respawn, renamed
  pub enter-renamed : (p : Program) (q : FrameOf A) (target : ℕ) → frame_with name (enter p q target) ≡ enter p (frame_with name q) target
  enter-renamed p q target =
      let futures = kept_from-renamed 0 (holds_at p q.kind target) q.futures in
      λ i. record { kind = q.kind; state = target; at = 0; numbers = q.numbers; futures = futures i }

  -- a frame whose variable is set, renamed
  pub set_future-renamed : (q : FrameOf A) (x : ℕ) (o : Option A) → frame_with name (set_future q x o) ≡ set_future (frame_with name q) x (renamed name o)
  set_future-renamed q x o =
      let futures = set-renamed q.futures x o in
      λ i. record { kind = q.kind; state = q.state; at = q.at + 1; numbers = q.numbers; futures = futures i }

  number-renamed : (q : FrameOf A) (v : Value) (to : ℕ) → steps_with v (set_number (frame_with name q) to) ≡ act_with name (steps_with v (set_number q to))
  number-renamed q (Number n) to = refl
  number-renamed q (Trapped t) to = refl

  branch-renamed : (q : FrameOf A) (b : Bool) (target : ℕ)
      → cond b (jump (frame_with name q) target) (go_on (frame_with name q)) ≡ frame_with name (cond b (jump q target) (go_on q))
  branch-renamed q true target = refl
  branch-renamed q false target = refl

  -- an instruction does the same under other names
  pub act-renamed : (c : Columns) (instr : Instr) (q : FrameOf A) → act_of c instr (frame_with name q) ≡ act_with name (act_of c instr q)
  act-renamed c (Set to value) q = refl
  act-renamed c (Math op to left right) q = number-renamed q (computed op (operand q.numbers left) (operand q.numbers right)) to
  act-renamed c (If relation left right target) q =
      ap {B = Act B} Steps (branch-renamed q (compares relation (operand q.numbers left) (operand q.numbers right)) target)
  act-renamed c (Goto target) q = refl
  act-renamed c (Label at) q = refl
  act-renamed c (Cell to column row) q = number-renamed q (cell_at c column (operand q.numbers row)) to
  act-renamed c (Rows to column) q = refl
  act-renamed c (Spawn to kind arguments waits priority retry) q =
      let futures = passed-renamed q.futures arguments in
      λ i. Calls to (record { kind = kind; numbers = map (number_passed q.numbers) arguments; futures = sym futures i }) waits
  act-renamed c (All to members priority retry) q = refl
  act-renamed c (Copy to source) q =
      ap {B = Act B} (λ o. Steps (set_future (frame_with name q) to o)) (future_at-renamed q.futures source) ∙ ap {B = Act B} Steps (sym (set_future-renamed q to (future_at q.futures source)))
  act-renamed c (Drop future) q = ap {B = Act B} Steps (sym (set_future-renamed q future None))
  act-renamed c (Get to future) q = refl
  act-renamed c (Again target waits priority) q = refl
  act-renamed c (Done value) q = refl
