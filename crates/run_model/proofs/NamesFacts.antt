-- Who is named by what a task goes on to, by what it asks for, and by what it is renewed as: all are named before.
use Rattle.std.proofs.Common.{◌≡◌, ◌⊎◌, ℕ, zero, suc, ◌+◌, ◌-◌, Bool, true, false, cond, Option, Some, None, List, [], ◌∷◌, ◌++◌, length, map, replicate, slice_get, refl, ◌∙◌, ap, inl, inr, ⊎_elim}
use Rattle.std.specs.Prelude.{slice_set}
use Rattle.std.proofs.lemmas.Option.{none-some, same_Some}
use Rattle.task_syntax.specs.Facts.{has}
use Rattle.task_syntax.specs.declared.instr.Argument.{Argument}
use Rattle.task_syntax.specs.declared.instr.Argument.TheVariants as argument
use Rattle.task_syntax.specs.declared.value.Value.{Value}
use Rattle.task_syntax.specs.declared.value.Value.TheVariants.{Number, Trapped}
use Rattle.task_syntax.specs.declared.instr.Instr.{Instr}
use Rattle.task_syntax.specs.declared.instr.Instr.TheVariants.{Set, Math, If, Goto, Label, Cell, Rows, Spawn, All, Copy, Drop, Get, Again, Done}
use Rattle.task_syntax.specs.declared.program.Root.{Root as RootLine}
use Rattle.task_syntax.specs.declared.program.Program.{Program}
use Rattle.task_syntax.specs.declared.columns.Columns.{Columns}
use Rattle.task_meaning.specs.Arithmetic.{computed, compares, cell_at}
use Rattle.task_meaning.specs.Acts.{Act, Steps, Calls, Gathers, Reads, Respawns, Finishes, steps_with, act_of}
use Rattle.task_meaning.specs.FrameLaws.{task_waited}
use Rattle.task_meaning.specs.Roots.{root_call, root_future}
use Rattle.task_meaning.specs.RootLaws.{root_waits}
use Rattle.task_syntax.specs.declared.value.Priority.{Priority}
use Rattle.task_syntax.specs.declared.program.RootArgument.{RootArgument}
use Rattle.task_syntax.specs.declared.program.RootArgument.TheVariants as root_argument
use Rattle.task_meaning.specs.Meant.{future_at}
use Rattle.task_meaning.specs.Frame.{FrameOf, CallOf, entry, enter, jump, go_on, operand, spawned, variables_of, holds_at, kept_from, padded, future_passed, set_future, set_number}
use Rattle.run_model.specs.State.{Body, RootWord, Named, Refused, Skipped, Run}
use Rattle.run_model.specs.Step.{Request, task_list, own_task, own_tasks, root_request}
use Rattle.run_model.specs.Move.{Notes, Goes, Asks, Renews}
use Rattle.run_model.proofs.NumbersInvariant.{BodyNames}
use Rattle.record_core.specs.EndAsks.{CallNames}

-- another future at a position
pub future_at_set : {A : Type 0} (futures : List (Option A)) (to x : ℕ) (o : Option A) (u : A) → future_at (slice_set futures to o) x ≡ Some u → (o ≡ Some u) ⊎ (future_at futures x ≡ Some u)
future_at_set [] to x o u e = inr e
future_at_set (f ∷ fs) zero zero o u e = inl e
future_at_set (f ∷ fs) zero (suc x) o u e = inr e
future_at_set (f ∷ fs) (suc to) zero o u e = inr e
future_at_set (f ∷ fs) (suc to) (suc x) o u e = future_at_set fs to x o u e

-- a future that is kept was there
pub future_at_kept : {A : Type 0} (at : ℕ) (held : List ℕ) (futures : List (Option A)) (x : ℕ) (u : A) → future_at (kept_from at held futures) x ≡ Some u → future_at futures x ≡ Some u
future_at_kept at held [] x u e = e
future_at_kept at held (f ∷ fs) zero u e = by (has at held) e
  where
    by : (b : Bool) → cond b f None ≡ Some u → f ≡ Some u
    by true e = e
    by false e = absurd (none-some u e)
future_at_kept at held (f ∷ fs) (suc x) u e = future_at_kept (at + 1) held fs x u e

-- nothing is added where a list is made longer
pub future_at_padded : {A : Type 0} (n : ℕ) (futures : List (Option A)) (x : ℕ) (u : A) → future_at (padded n None futures) x ≡ Some u → future_at futures x ≡ Some u
future_at_padded {A = A} n futures x u e = there (n - length futures) futures x e
  where
    none : (m x : ℕ) → future_at (replicate m None) x ≡ Some u → ⊥
    none zero x e = none-some u e
    none (suc m) zero e = none-some u e
    none (suc m) (suc x) e = none m x e

    there : (m : ℕ) (futures : List (Option A)) (x : ℕ) → future_at (futures ++ replicate m None) x ≡ Some u → future_at futures x ≡ Some u
    there m [] x e = absurd (none m x e)
    there m (f ∷ fs) zero e = e
    there m (f ∷ fs) (suc x) e = there m fs x e

-- a future that is passed was there
pub future_at_passed : {A : Type 0} (futures : List (Option A)) (arguments : List Argument) (x : ℕ) (u : A) → future_at (map (future_passed futures) arguments) x ≡ Some u → (y : ℕ) × (future_at futures y ≡ Some u)
future_at_passed futures [] x u e = absurd (none-some u e)
future_at_passed futures (argument.Number a ∷ more) zero u e = absurd (none-some u e)
future_at_passed futures (argument.Future y ∷ more) zero u e = (y, e)
future_at_passed futures (a ∷ more) (suc x) u e = future_at_passed futures more x u e

-- a member is a task that one of the variables names
pub member_named : (futures : List (Option ℕ)) (members : List ℕ) (at u : ℕ) → slice_get (task_list (map (future_at futures) members)) at ≡ Some u → (y : ℕ) × (future_at futures y ≡ Some u)
member_named futures [] at u e = absurd (none-some u e)
member_named futures (m ∷ more) at u e = by (future_at futures m) refl (λ at e. member_named futures more at u e) at e
  where
    by : (o : Option ℕ) → future_at futures m ≡ o → ((at : ℕ) → slice_get (task_list (map (future_at futures) more)) at ≡ Some u → (y : ℕ) × (future_at futures y ≡ Some u))
        → (at : ℕ) → slice_get (task_list (o ∷ map (future_at futures) more)) at ≡ Some u → (y : ℕ) × (future_at futures y ≡ Some u)
    by None there rest at e = rest at e
    by (Some t) there rest zero e = (m, there ∙ e)
    by (Some t) there rest (suc at) e = rest at e

-- some variable of the frame names u
abbrev pub FrameNames : FrameOf ℕ → ℕ → Type 0
FrameNames q u = (x : ℕ) × (future_at q.futures x ≡ Some u)

same_Steps : {one other : FrameOf ℕ} → Steps one ≡ Steps other → one ≡ other
same_Steps e = cc

-- the act of a line that goes on
steps_with-Steps : (v : Value) (frame : ℕ → FrameOf ℕ) (next : FrameOf ℕ) → steps_with v frame ≡ Steps next → (n : ℕ) × (frame n ≡ next)
steps_with-Steps (Number n) frame next e = (n, cc)
steps_with-Steps (Trapped t) frame next e = absurd (wrong e)
  where
    wrong : Finishes (Trapped t) ≡ Steps next → ⊥
    wrong h = cc

-- what the frame that a line goes on to names, was named before
act_names : (c : Columns) (instr : Instr) (q next : FrameOf ℕ) (x u : ℕ) → act_of c instr q ≡ Steps next → future_at next.futures x ≡ Some u → FrameNames q u
act_names c (Set to value) q next x u e f = (x, ap (λ (k : FrameOf ℕ). future_at k.futures x) (same_Steps e) ∙ f)
act_names c (Math op to left right) q next x u e f =
    let (n, same) = steps_with-Steps (computed op (operand q.numbers left) (operand q.numbers right)) (set_number q to) next e in (x, ap (λ (k : FrameOf ℕ). future_at k.futures x) same ∙ f)
act_names c (If relation left right target) q next x u e f = (x, by (compares relation (operand q.numbers left) (operand q.numbers right)) ∙ ap (λ (k : FrameOf ℕ). future_at k.futures x) (same_Steps e) ∙ f)
  where
    by : (b : Bool) → future_at q.futures x ≡ future_at (cond b (jump q target) (go_on q)).futures x
    by true = refl
    by false = refl
act_names c (Goto target) q next x u e f = (x, ap (λ (k : FrameOf ℕ). future_at k.futures x) (same_Steps e) ∙ f)
act_names c (Label name) q next x u e f = (x, ap (λ (k : FrameOf ℕ). future_at k.futures x) (same_Steps e) ∙ f)
act_names c (Cell to column row) q next x u e f =
    let (n, same) = steps_with-Steps (cell_at c column (operand q.numbers row)) (set_number q to) next e in (x, ap (λ (k : FrameOf ℕ). future_at k.futures x) same ∙ f)
act_names c (Rows to column) q next x u e f = (x, ap (λ (k : FrameOf ℕ). future_at k.futures x) (same_Steps e) ∙ f)
act_names c (Copy to source) q next x u e f =
    ⊎_elim (λ g. (source, g)) (λ g. (x, g)) (future_at_set q.futures to x (future_at q.futures source) u (ap (λ (k : FrameOf ℕ). future_at k.futures x) (same_Steps e) ∙ f))
act_names c (Drop future) q next x u e f =
    ⊎_elim (λ g. absurd (none-some u g)) (λ g. (x, g)) (future_at_set q.futures future x None u (ap (λ (k : FrameOf ℕ). future_at k.futures x) (same_Steps e) ∙ f))
act_names c (Spawn to kind arguments waits priority retry) q next x u e f = absurd (wrong e)
  where
    wrong : Calls to (spawned q kind arguments) waits ≡ Steps next → ⊥
    wrong h = cc
act_names c (All to members priority retry) q next x u e f = absurd (wrong e)
  where
    wrong : ◌≡◌ {A = Act ℕ} (Gathers to members) (Steps next) → ⊥
    wrong h = cc
act_names c (Get to future) q next x u e f = absurd (wrong e)
  where
    wrong : ◌≡◌ {A = Act ℕ} (Reads to future) (Steps next) → ⊥
    wrong h = cc
act_names c (Again target waits priority) q next x u e f = absurd (wrong e)
  where
    wrong : ◌≡◌ {A = Act ℕ} (Respawns target waits) (Steps next) → ⊥
    wrong h = cc
act_names c (Done value) q next x u e f = absurd (wrong e)
  where
    wrong : Finishes (Number (operand q.numbers value)) ≡ Steps next → ⊥
    wrong h = cc

-- a frame that goes on names what it named
pub goes_names : (p : Program) (c : Columns) (r : Run) (q next : FrameOf ℕ) (u : ℕ) → Goes p c r q next → FrameNames next u → FrameNames q u
goes_names p c r q _ u (Goes.steps next (line, there, e)) (x, f) = act_names c line.instr q next x u e f
goes_names p c r q _ u (Goes.reads to x t n acts e g) (y, f) = (y, f)

-- what is waited for is named
pub waited_named : (q : FrameOf ℕ) (waits : Option ℕ) (u : ℕ) → task_waited q waits ≡ Some u → FrameNames q u
waited_named q None u e = absurd (none-some u e)
waited_named q (Some x) u e = (x, e)

-- the futures of a call's first frame are its own
pub entry_named : (p : Program) (call : CallOf ℕ) (x u : ℕ) → future_at (entry p call).futures x ≡ Some u → future_at call.futures x ≡ Some u
entry_named p call x u e = future_at_padded (variables_of p call.kind) call.futures x u (future_at_kept 0 (holds_at p call.kind 0) (padded (variables_of p call.kind) None call.futures) x u e)

-- a frame that enters a state names what it named
pub enter_named : (p : Program) (q : FrameOf ℕ) (target x u : ℕ) → future_at (enter p q target).futures x ≡ Some u → future_at q.futures x ≡ Some u
enter_named p q target x u e = future_at_kept 0 (holds_at p q.kind target) q.futures x u e

-- a request names u: by its first body, or it is behind u
abbrev pub RequestNames : Request → ℕ → Type 0
RequestNames request u = BodyNames request.body u ⊎ (request.after ≡ Some u)

-- the futures that an act passes
abbrev act_futures : Act ℕ → List (Option ℕ)
act_futures (Calls to call waits) = call.futures
act_futures _ = []

no_futures : (v : Value) (frame : ℕ → FrameOf ℕ) (x u : ℕ) → future_at (act_futures (steps_with v frame)) x ≡ Some u → ⊥
no_futures (Number n) frame x u e = none-some u e
no_futures (Trapped t) frame x u e = none-some u e

-- the frame names those
passed_named : (c : Columns) (instr : Instr) (q : FrameOf ℕ) (x u : ℕ) → future_at (act_futures (act_of c instr q)) x ≡ Some u → FrameNames q u
passed_named c (Spawn to kind arguments waits priority retry) q x u e = future_at_passed q.futures arguments x u e
passed_named c (Math op to left right) q x u e = absurd (no_futures (computed op (operand q.numbers left) (operand q.numbers right)) (set_number q to) x u e)
passed_named c (Cell to column row) q x u e = absurd (no_futures (cell_at c column (operand q.numbers row)) (set_number q to) x u e)
passed_named c _ q x u e = absurd (none-some u e)

-- what the frame asks for names what the frame names
pub asks_named : (p : Program) (c : Columns) (q : FrameOf ℕ) (request : Request) (to u : ℕ) (retry : Bool) → Asks p c q request to retry → RequestNames request u → FrameNames q u
asks_named p c q _ _ u _ (Asks.calls line to call waits there e) (inl (x, f)) = passed_named c line.instr q x u (ap (λ a. future_at (act_futures a) x) e ∙ entry_named p call x u f)
asks_named p c q _ _ u _ (Asks.calls line to call waits there e) (inr f) = waited_named q waits u f
asks_named p c q _ _ u _ (Asks.gathers line to members there e) (inl (at, f)) = member_named q.futures members at u f
asks_named p c q _ _ u _ (Asks.gathers line to members there e) (inr f) = member_named q.futures members 0 u f

-- what a task is renewed as names what its body named
pub renews_named : (p : Program) (c : Columns) (units : ℕ) (r : Run) (n u : ℕ) (body to : Body) (after : Option ℕ) (priority : Priority) (notes : Notes) → Renews p c units r n body to after priority notes
    → BodyNames to u ⊎ (after ≡ Some u) → BodyNames body u
renews_named p c units r n u _ _ _ _ _ (Renews.again q line target waits there e) (inl (x, f)) = (x, enter_named p q target x u f)
renews_named p c units r n u _ _ _ _ _ (Renews.again q line target waits there e) (inr f) = waited_named q waits u f
renews_named p c units r n u _ _ _ _ _ (Renews.retries q request to how e) (inl names) = names
renews_named p c units r n u _ _ _ _ _ (Renews.retries q request to how e) (inr f) = absurd (none-some u f)
renews_named p c units r n u _ _ _ _ _ (Renews.behind members next v e) (inl names) = names
renews_named p c units r n u _ _ _ _ _ (Renews.behind members next v e) (inr f) = (next, e ∙ f)

-- a frame that was set a future names that one, or what it named
pub set_named : (q : FrameOf ℕ) (to m u : ℕ) → FrameNames (set_future q to (Some m)) u → (m ≡ u) ⊎ FrameNames q u
set_named q to m u (x, f) = ⊎_elim (λ e. inl (same_Some m u e)) (λ g. inr (x, g)) (future_at_set q.futures to x (Some m) u f)

-- a task of a root
pub own_named : (words : List RootWord) (at u : ℕ) → future_at (map own_task words) at ≡ Some u → slice_get words at ≡ Some (Named u)
own_named [] at u e = absurd (none-some u e)
own_named (Named t ∷ words) zero u e = ap (λ k. Some (Named k)) (same_Some t u e)
own_named (Refused tag ∷ words) zero u e = absurd (none-some u e)
own_named (Skipped r tag ∷ words) zero u e = absurd (none-some u e)
own_named (word ∷ words) (suc at) u e = own_named words at u e

root_future_named : (own : List (Option ℕ)) (arguments : List RootArgument) (x u : ℕ) → future_at (map (root_future own) arguments) x ≡ Some u → (at : ℕ) × (future_at own at ≡ Some u)
root_future_named own [] x u e = absurd (none-some u e)
root_future_named own (root_argument.Number n ∷ more) zero u e = absurd (none-some u e)
root_future_named own (root_argument.Root at ∷ more) zero u e = (at, e)
root_future_named own (a ∷ more) (suc x) u e = root_future_named own more x u e

root_waits_named : (own : List (Option ℕ)) (behind : Option ℕ) (u : ℕ) → root_waits own behind ≡ Some u → (at : ℕ) × (future_at own at ≡ Some u)
root_waits_named own None u e = absurd (none-some u e)
root_waits_named own (Some at) u e = (at, e)

-- what is asked for a root names tasks of roots
pub root_named : (p : Program) (r : Run) (root : RootLine) (u : ℕ) → RequestNames (root_request p r root) u → (at : ℕ) × (slice_get r.roots at ≡ Some (Named u))
root_named p r root u (inl (x, f)) =
    let (at, e) = root_future_named (own_tasks r) root.arguments x u (entry_named p (root_call (own_tasks r) root) x u f) in (at, own_named r.roots at u e)
root_named p r root u (inr f) = let (at, e) = root_waits_named (own_tasks r) root.behind u f in (at, own_named r.roots at u e)

-- the same of what its call names
pub asks_call_named : (p : Program) (c : Columns) (q : FrameOf ℕ) (request : Request) (to u : ℕ) (retry : Bool) → Asks p c q request to retry → CallNames request.call u → FrameNames q u
asks_call_named p c q _ _ u _ (Asks.calls line to call waits there e) (inl (x, f)) = passed_named c line.instr q x u (ap (λ a. future_at (act_futures a) x) e ∙ f)
asks_call_named p c q _ _ u _ (Asks.calls line to call waits there e) (inr f) = waited_named q waits u f
asks_call_named p c q _ _ u _ (Asks.gathers line to members there e) (at, f) = member_named q.futures members at u f

-- a root's call names tasks of earlier roots
pub root_call_named : (p : Program) (r : Run) (root : RootLine) (u : ℕ) → CallNames (root_request p r root).call u → (at : ℕ) × (slice_get r.roots at ≡ Some (Named u))
root_call_named p r root u (inl (x, f)) = let (at, e) = root_future_named (own_tasks r) root.arguments x u f in (at, own_named r.roots at u e)
root_call_named p r root u (inr f) = let (at, e) = root_waits_named (own_tasks r) root.behind u f in (at, own_named r.roots at u e)
