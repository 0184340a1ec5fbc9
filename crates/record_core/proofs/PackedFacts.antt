-- Rows that are kept together are those of the journal.
use Rattle.std.proofs.Common.{◌≡◌, ◌∙◌, ℕ, zero, suc, ◌+◌, ◌-◌, ◌≤◌, ◌<◌, Option, Some, None, List, [], ◌∷◌, ◌++◌, length, refl, sym, ap, subst, arith}
use Rattle.std.specs.Prelude.{map, get_or, slice_get, slice_set, IsSome}
use Rattle.std.proofs.lemmas.List.{map-append}
use Rattle.record_core.specs.Numbers.{by_number, HasTask}
use Rattle.record_core.specs.Journal.{JournalState, finish_of, with_begun, with_finished, MayBegin, MayCause}
use Rattle.record_core.specs.JournalInvariant.{journal_of, HasRoom}
use Rattle.record_core.specs.Packed.{NumberRow, FitsCause, activations_in, tasks_in, journal_in}
use Rattle.record_core.specs.declared.rows.ActivationRow.{ActivationRow}
use Rattle.record_core.specs.declared.rows.TaskRow.{TaskRow}
use Rattle.record_core.specs.declared.rows.Cause.{Cause}
use Rattle.record_core.specs.declared.rows.Cause.TheVariants.{Clear, Null, Limit, By}
use Rattle.record_core.proofs.NumberFacts.{number-in_range}
use Rattle.record_core.proofs.JournalCode.{begun_from, finished_by}

-- there is an activation and a task for each row
mapped-length : {A B : Type 0} (f : A → B) (xs : List A) → length (map f xs) ≡ length xs
mapped-length f [] = refl
mapped-length f (x ∷ xs) = ap suc (mapped-length f xs)

pub activations-length : (rows : List NumberRow) → length (activations_in rows) ≡ length rows
activations-length rows = mapped-length (λ (row : NumberRow). row.activation) rows

pub tasks-length : (rows : List NumberRow) → length (tasks_in rows) ≡ length rows
tasks-length rows = mapped-length (λ (row : NumberRow). row.task) rows

-- one more row at the end
pub activations-snoc : (rows : List NumberRow) (row : NumberRow) → activations_in (rows ++ row ∷ []) ≡ activations_in rows ++ row.activation ∷ []
activations-snoc rows row = map-append (λ (r : NumberRow). r.activation) rows (row ∷ [])

pub tasks-snoc : (rows : List NumberRow) (row : NumberRow) → tasks_in (rows ++ row ∷ []) ≡ tasks_in rows ++ row.task ∷ []
tasks-snoc rows row = map-append (λ (r : NumberRow). r.task) rows (row ∷ [])

-- one row in another's place
mapped-set : {A B : Type 0} (f : A → B) (xs : List A) (at : ℕ) (x : A) → map f (slice_set xs at x) ≡ slice_set (map f xs) at (f x)
mapped-set f [] at x = refl
mapped-set f (y ∷ xs) zero x = refl
mapped-set f (y ∷ xs) (suc at) x = ap (λ ys. f y ∷ ys) (mapped-set f xs at x)

-- where what is told of it stays
mapped-kept : {A B : Type 0} (f : A → B) (xs : List A) (at : ℕ) (old x : A) → old ≡ get_or xs at old → f x ≡ f old → map f (slice_set xs at x) ≡ map f xs
mapped-kept f [] at old x read same = refl
mapped-kept f (y ∷ xs) zero old x read same = ap (λ z. z ∷ map f xs) (same ∙ ap f read)
mapped-kept f (y ∷ xs) (suc at) old x read same = ap (λ ys. f y ∷ ys) (mapped-kept f xs at old x read same)

-- what is read at a place
mapped-read : {A B : Type 0} (f : A → B) (xs : List A) (at : ℕ) (old : A) → old ≡ get_or xs at old → f old ≡ get_or (map f xs) at (f old)
mapped-read f [] at old read = refl
mapped-read f (y ∷ xs) zero old read = ap f read
mapped-read f (y ∷ xs) (suc at) old read = mapped-read f xs at old read

-- what is read at a place within is there
mapped_there : {A B : Type 0} (f : A → B) (xs : List A) (at : ℕ) (old : A) → at < length (map f xs) → old ≡ get_or xs at old → slice_get (map f xs) at ≡ Some (f old)
mapped_there f [] at old within read = absurd (omega (arith, within))
mapped_there f (y ∷ xs) zero old within read = ap (λ z. Some (f z)) (sym read)
mapped_there f (y ∷ xs) (suc at) old within read = mapped_there f xs at old (omega (arith, within)) read

-- the activation and the task of a number that was drawn
pub activation_at : (rows : List NumberRow) (n : ℕ) (row : NumberRow) → 1 ≤ n → n ≤ length (activations_in rows) → row ≡ get_or rows (n - 1) row
    → by_number (activations_in rows) n ≡ Some row.activation
activation_at rows zero row some within read = absurd (omega (arith, some))
activation_at rows (suc n) row some within read = let e : suc n - 1 ≡ n = omega arith in mapped_there (λ (r : NumberRow). r.activation) rows n row within (read ∙ ap (λ k. get_or rows k row) e)

pub task_at : (rows : List NumberRow) (n : ℕ) (row : NumberRow) → 1 ≤ n → n ≤ length (tasks_in rows) → row ≡ get_or rows (n - 1) row
    → by_number (tasks_in rows) n ≡ Some row.task
task_at rows zero row some within read = absurd (omega (arith, some))
task_at rows (suc n) row some within read = let e : suc n - 1 ≡ n = omega arith in mapped_there (λ (r : NumberRow). r.task) rows n row within (read ∙ ap (λ k. get_or rows k row) e)

-- what `begin` writes is what it says
pub begun_packed : (rows : List NumberRow) (stamps limit : ℕ) (seen : JournalState) (n : ℕ) (row new : NumberRow) → journal_in rows stamps limit ≡ seen → MayBegin seen n
    → row ≡ get_or rows (n - 1) row → new ≡ record row { activation = record row.activation { start = Some (stamps + 1) } }
    → journal_in (slice_set rows (n - 1) new) (stamps + 1) limit ≡ with_begun (journal_in rows stamps limit) n
begun_packed rows stamps limit seen n row new same may read is =
    let started : ActivationRow = record row.activation { start = Some (stamps + 1) } in
    let activations : activations_in (slice_set rows (n - 1) new) ≡ slice_set (activations_in rows) (n - 1) started
    = mapped-set (λ (r : NumberRow). r.activation) rows (n - 1) new ∙ ap (λ (r : NumberRow). slice_set (activations_in rows) (n - 1) r.activation) is in
    let tasks : tasks_in (slice_set rows (n - 1) new) ≡ tasks_in rows = mapped-kept (λ (r : NumberRow). r.task) rows (n - 1) row new read (ap (λ (r : NumberRow). r.task) is) in
    ap (λ acts. journal_of acts (tasks_in (slice_set rows (n - 1) new)) (stamps + 1) limit) activations
    ∙ ap (λ ts. journal_of (slice_set (activations_in rows) (n - 1) started) ts (stamps + 1) limit) tasks
    ∙ begun_from (journal_in rows stamps limit) seen n row.activation same may (mapped-read (λ (r : NumberRow). r.activation) rows (n - 1) row read)

-- what `finish` writes is what it says
pub finished_packed : (rows : List NumberRow) (stamps limit t : ℕ) (cause : Cause) (row new : NumberRow) → 1 ≤ t → row ≡ get_or rows (t - 1) row
    → new ≡ record row { task = record { finish = Some (stamps + 1); cause = cause } }
    → journal_in (slice_set rows (t - 1) new) (stamps + 1) limit ≡ with_finished (journal_in rows stamps limit) t cause
finished_packed rows stamps limit t cause row new some read is =
    let ended : TaskRow = record { finish = Some (stamps + 1); cause = cause } in
    let activations : activations_in (slice_set rows (t - 1) new) ≡ activations_in rows
    = mapped-kept (λ (r : NumberRow). r.activation) rows (t - 1) row new read (ap (λ (r : NumberRow). r.activation) is) in
    let tasks : tasks_in (slice_set rows (t - 1) new) ≡ slice_set (tasks_in rows) (t - 1) ended
    = mapped-set (λ (r : NumberRow). r.task) rows (t - 1) new ∙ ap (λ (r : NumberRow). slice_set (tasks_in rows) (t - 1) r.task) is in
    ap (λ acts. journal_of acts (tasks_in (slice_set rows (t - 1) new)) (stamps + 1) limit) activations
    ∙ ap (λ ts. journal_of (activations_in rows) ts (stamps + 1) limit) tasks
    ∙ finished_by (journal_in rows stamps limit) t cause some

-- a value that is there
some_value : (o : Option ℕ) → IsSome o → (f : ℕ) × (o ≡ Some f)
some_value None some = absurd (cc some)
some_value (Some f) some = (f, refl)

-- a task by which another is cut is far below what a word holds
pub cause_fits : (was seen : JournalState) (rows : ℕ) (cause : Cause) → was ≡ seen → HasRoom was rows → MayCause seen cause → FitsCause cause
cause_fits was seen rows (By u) same room may =
    let (f, there) = some_value (finish_of was.tasks u) (subst (λ (j : JournalState). IsSome (finish_of j.tasks u)) (sym same) may.0) in
    let task : HasTask was.rows u = room.journal.finished u f there in
    let few : (1 ≤ u) × (u ≤ length was.rows) = number-in_range was.rows u task.0 task.1 in
    omega (arith, few.1, room.journal.within, room.few)
cause_fits was seen rows Clear same room may = tt
cause_fits was seen rows Null same room may = tt
cause_fits was seen rows Limit same room may = tt
