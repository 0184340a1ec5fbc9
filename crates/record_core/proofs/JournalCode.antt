-- The code of the journal writes what its calls say, and its memory suffices.
use Rattle.std.proofs.Common.{◌≡◌, ◌∙◌, ℕ, zero, suc, ◌+◌, ◌-◌, ◌≤◌, ◌<◌, Bool, true, if◌then◌else◌, Option, Some, None, List, [], ◌∷◌, ◌++◌, length, refl, sym, ap, subst, arith}
use Rattle.std.specs.Prelude.{IfSome, get_or, slice_get, slice_set}
use Rattle.std.specs.Option.{unwrap_or}
use Rattle.record_core.specs.Numbers.{by_number, put_number, HasTask}
use Rattle.record_core.specs.Journal.{JournalState, task_or, unfinished, with_accepted, with_begun, with_finished, started_rows, IsJournal, IsUnderWay, MayBegin, MayCause}
use Rattle.record_core.specs.JournalInvariant.{journal_of, HasRoom}
use Rattle.record_core.specs.declared.rows.ActivationRow.{ActivationRow}
use Rattle.record_core.specs.declared.rows.TaskRow.{TaskRow}
use Rattle.record_core.specs.declared.rows.Cause.{Cause}
use Rattle.record_core.proofs.TotalFacts.{none_there}
use Rattle.record_core.proofs.NumberFacts.{number-in_range}
use Rattle.record_core.proofs.AcceptFacts.{accept-keeps}
use Rattle.record_core.proofs.BeginFacts.{begin-keeps}
use Rattle.record_core.proofs.FinishFacts.{finish-keeps}
use Rattle.record_core.proofs.CountedStamps.{stamps_few}

-- a push with room grows the list
pub grown : {A : Type 0} (b : Bool) (new more old : List A) → new ≡ (if b then more else old) → b ≡ true → new ≡ more
grown b new more old is fits = is ∙ ap (λ t. if t then more else old) fits

-- the task that is named, or else the new number
chosen_task : (task : Option ℕ) (n : ℕ) → unwrap_or task n ≡ task_or task n
chosen_task None n = refl
chosen_task (Some t) n = refl

-- what `accept` pushes is what it says
pub accepted_by : (was : JournalState) (task after : Option ℕ) (t n : ℕ) (rows : List ActivationRow) (tasks : List TaskRow)
    → n ≡ length was.rows → t ≡ unwrap_or task (n + 1) → rows ≡ was.rows ++ record { task = t; after = after; start = None } ∷ [] → tasks ≡ was.tasks ++ unfinished ∷ []
    → journal_of rows tasks was.stamps was.limit ≡ with_accepted was task after
accepted_by was task after t n rows tasks many chosen grew also =
    let next : n + 1 ≡ suc (length was.rows) = omega (arith, many) in
    let its : t ≡ task_or task (suc (length was.rows)) = chosen ∙ ap (unwrap_or task) next ∙ chosen_task task (suc (length was.rows)) in
    let row : ℕ → List ActivationRow = λ k. was.rows ++ record { task = k; after = after; start = None } ∷ [] in
    ap (λ rs. journal_of rs tasks was.stamps was.limit) (grew ∙ ap row its)
    ∙ ap (λ ts. journal_of (was.rows ++ record { task = task_or task (suc (length was.rows)); after = after; start = None } ∷ []) ts was.stamps was.limit) also

-- the memory suffices after `accept`
pub room-accepted : (was seen now : JournalState) (task after : Option ℕ) (rows rows' : ℕ) → was ≡ seen → HasRoom was rows → length was.rows < was.limit
    → IfSome task (λ t. IsUnderWay seen t) → IfSome after (λ u. HasTask seen.rows u) → now ≡ with_accepted was task after → rows ≤ rows'
    → HasRoom now rows'
room-accepted was seen now task after rows rows' same room more under_way waits is grew =
    subst (λ (j : JournalState). HasRoom j rows') (sym is) (record {
      journal = accept-keeps was task after room.journal more
          (subst (λ (j : JournalState). IfSome task (λ t. IsUnderWay j t)) (sym same) under_way)
          (subst (λ (j : JournalState). IfSome after (λ u. HasTask j.rows u)) (sym same) waits);
      few = room.few;
      rows_fit = omega (arith, room.rows_fit, grew);
    })

-- the stamps stay far below what a word holds
pub stamps_fit : (j : JournalState) (rows : ℕ) → HasRoom j rows → j.stamps ≤ 8000000
stamps_fit j rows room = omega (arith, stamps_few j room.journal, room.journal.within, room.few)

-- a number from 1 on, less 1, is a position
put_before : {A : Type 0} (xs : List A) (n : ℕ) (x : A) → 1 ≤ n → slice_set xs (n - 1) x ≡ put_number xs n x
put_before xs zero x some = absurd (omega (arith, some))
put_before xs (suc n) x some = let e : suc n - 1 ≡ n = omega arith in ap (λ k. slice_set xs k x) e

-- what `begin` writes is what it says
pub begun_by : (was : JournalState) (n : ℕ) (row : ActivationRow) → by_number was.rows n ≡ Some row
    → journal_of (slice_set was.rows (n - 1) (record row { start = Some (was.stamps + 1) })) was.tasks (was.stamps + 1) was.limit ≡ with_begun was n
begun_by was n row at =
    let few : (1 ≤ n) × (n ≤ length was.rows) = number-in_range was.rows n row at in
    ap (λ rs. journal_of rs was.tasks (was.stamps + 1) was.limit)
    (put_before was.rows n (record row { start = Some (was.stamps + 1) }) few.0 ∙ ap (started_rows was.rows n (was.stamps + 1)) (sym at))

-- the memory suffices after `begin`
pub room-begun : (was seen now : JournalState) (n : ℕ) (rows : ℕ) → was ≡ seen → HasRoom was rows → MayBegin seen n → now ≡ with_begun was n → HasRoom now rows
room-begun was seen now n rows same room may is =
    subst (λ (j : JournalState). HasRoom j rows) (sym is) (record {
      journal = begin-keeps was n room.journal (subst (λ (j : JournalState). MayBegin j n) (sym same) may);
      few = room.few;
      rows_fit = room.rows_fit;
    })

-- what `finish` writes is what it says
pub finished_by : (was : JournalState) (t : ℕ) (cause : Cause) → 1 ≤ t
    → journal_of was.rows (slice_set was.tasks (t - 1) (record { finish = Some (was.stamps + 1); cause = cause })) (was.stamps + 1) was.limit ≡ with_finished was t cause
finished_by was t cause some = ap (λ ts. journal_of was.rows ts (was.stamps + 1) was.limit) (put_before was.tasks t (record { finish = Some (was.stamps + 1); cause = cause }) some)

-- the memory suffices after `finish`
pub room-finished : (was seen now : JournalState) (t : ℕ) (cause : Cause) (rows : ℕ) → was ≡ seen → HasRoom was rows → IsUnderWay seen t → MayCause seen cause
    → now ≡ with_finished was t cause → HasRoom now rows
room-finished was seen now t cause rows same room under_way may is =
    subst (λ (j : JournalState). HasRoom j rows) (sym is) (record {
      journal = finish-keeps was t cause room.journal (subst (λ (j : JournalState). IsUnderWay j t) (sym same) under_way) (subst (λ (j : JournalState). MayCause j cause) (sym same) may);
      few = room.few;
      rows_fit = room.rows_fit;
    })

-- what the code reads at a number's position is its row
get_or-at : {A : Type 0} (xs : List A) (k : ℕ) (x other : A) → slice_get xs k ≡ Some x → get_or xs k other ≡ x
get_or-at [] k x other at = absurd (none_there x at)
get_or-at (y ∷ xs) zero x other at = cc
get_or-at (y ∷ xs) (suc k) x other at = get_or-at xs k x other at

-- what the code reads at a number is the number's row
pub row_read : {A : Type 0} (xs : List A) (n : ℕ) (x read : A) → by_number xs n ≡ Some x → read ≡ get_or xs (n - 1) read → read ≡ x
row_read xs zero x read at is = absurd (none_there x at)
row_read xs (suc n) x read at is = let e : suc n - 1 ≡ n = omega arith in is ∙ ap (λ k. get_or xs k read) e ∙ get_or-at xs n x read at

-- the row that is read with the start is what `begin` says
pub begun_from : (was seen : JournalState) (n : ℕ) (row : ActivationRow) → was ≡ seen → MayBegin seen n → row ≡ get_or was.rows (n - 1) row
    → journal_of (slice_set was.rows (n - 1) (record { task = row.task; after = row.after; start = Some (was.stamps + 1) })) was.tasks (was.stamps + 1) was.limit ≡ with_begun was n
begun_from was seen n row same may is =
    let there : by_number was.rows n ≡ Some may.row = ap (λ (j : JournalState). by_number j.rows n) same ∙ may.accepted in
    let its : row ≡ may.row = row_read was.rows n may.row row there is in
    begun_by was n row (there ∙ ap Some (sym its))

-- a number that may begin, and a task that may finish, have a position
pub begun_number : (was seen : JournalState) (n : ℕ) → was ≡ seen → MayBegin seen n → (1 ≤ n) × (n ≤ length was.rows)
begun_number was seen n same may = number-in_range was.rows n may.row (ap (λ (j : JournalState). by_number j.rows n) same ∙ may.accepted)

-- a task that may finish has a position
pub finished_number : (was seen : JournalState) (t : ℕ) → was ≡ seen → IsJournal was → IsUnderWay seen t → (1 ≤ t) × (t ≤ length was.tasks)
finished_number was seen t same is under_way =
    let there : HasTask was.rows t = subst (λ (j : JournalState). HasTask j.rows t) (sym same) under_way.accepted in
    let few : (1 ≤ t) × (t ≤ length was.rows) = number-in_range was.rows t there.0 there.1 in
    (few.0, omega (arith, few.1, is.beside))
