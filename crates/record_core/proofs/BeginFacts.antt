-- A start keeps the journal.
use Rattle.std.proofs.Common.{◌≡◌, ◌≢◌, ◌⊎◌, ◌∙◌, inl, inr, ℕ, ◌+◌, ◌≤◌, ◌<◌, Option, Some, None, List, refl, sym, ap, subst, arith}
use Rattle.std.specs.Prelude.{IsSome, IfSome}
use Rattle.std.proofs.lemmas.Bool.{cases_eq}
use Rattle.record_core.specs.Numbers.{by_number, put_number, HasTask}
use Rattle.record_core.specs.Journal.{JournalState, with_begun, started_rows, start_in, finish_of, starts, Event, Starts, Finishes, stamp_of, IsOfTask, AreOfTasks, IsJournal, MayBegin}
use Rattle.record_core.specs.JournalLaws.{TellsBegun}
use Rattle.record_core.specs.declared.rows.ActivationRow.{ActivationRow}
use Rattle.record_core.proofs.NumberFacts.{number-set, number-other, total-put, length-put}
use Rattle.record_core.proofs.StampFacts.{stamped-more, stays}
use Rattle.record_core.proofs.JournalFacts.{some_value, is_some_from}

module _ (j : JournalState) (n : ℕ) (is : IsJournal j) (may : MayBegin j n) where
  abbrev stamp : ℕ
  stamp = j.stamps + 1

  abbrev begun_row : ActivationRow
  begun_row = record may.row { start = Some stamp }

  abbrev rows : List ActivationRow
  rows = put_number j.rows n begun_row

  -- the row that begins has its start
  at_number : by_number rows n ≡ Some begun_row
  at_number = number-set j.rows n begun_row may.row may.accepted

  -- the other rows stay
  at_other : (m : ℕ) → m ≢ n → by_number rows m ≡ by_number j.rows m
  at_other m differ = number-other j.rows n m begun_row differ

  -- a number is the one that begins, or has its old row
  row_cases : (m : ℕ) (row : ActivationRow) → by_number rows m ≡ Some row
      → ((m ≡ n) × (row ≡ begun_row)) ⊎ ((m ≢ n) × (by_number j.rows m ≡ Some row))
  row_cases m row at = elim (cases_eq m n) [
    | inl it ↦ let here : by_number rows n ≡ Some row = ap (by_number rows) (sym it) ∙ at in let there : by_number rows n ≡ Some begun_row = at_number in inl (it, cc)
    | inr differ ↦ inr (differ, sym (at_other m differ) ∙ at)
  ]

  -- each number had a row of the same task behind the same one, and with the same start, if it is another
  record WasRow (m : ℕ) (row : ActivationRow) : Type 0 where
    old : ActivationRow
    at : by_number j.rows m ≡ Some old
    task : row.task ≡ old.task
    after : row.after ≡ old.after
    start : ((m ≡ n) × (row.start ≡ Some stamp) × (old.start ≡ None)) ⊎ ((m ≢ n) × (row.start ≡ old.start))

  -- each row was there
  was_row : (m : ℕ) (row : ActivationRow) → by_number rows m ≡ Some row → WasRow m row
  was_row m row at = elim (row_cases m row at) [
    | inl it ↦ record {
      old = may.row;
      at = ap (by_number j.rows) it.0 ∙ may.accepted;
      task = ap (λ (r : ActivationRow). r.task) it.1;
      after = ap (λ (r : ActivationRow). r.after) it.1;
      start = inl (it.0, ap (λ (r : ActivationRow). r.start) it.1, may.not_begun);
    }
    | inr other ↦ record { old = row; at = other.1; task = refl; after = refl; start = inr (other.0, refl) }
  ]

  -- a task stays one
  still_task : (t : ℕ) → HasTask j.rows t → HasTask rows t
  still_task t there = elim (cases_eq t n) [
    | inl it ↦
        let here : by_number j.rows n ≡ Some there.0 = ap (by_number j.rows) (sym it) ∙ there.1 in
        let old : by_number j.rows n ≡ Some may.row = may.accepted in
        let its : may.row ≡ there.0 = cc in
        (begun_row, ap (by_number rows) it ∙ at_number, ap (λ (r : ActivationRow). r.task) its ∙ there.2)
    | inr differ ↦ (there.0, at_other t differ ∙ there.1, there.2)
  ]

  -- each activation is behind the task that it was behind
  later_waits : (o o' : Option ℕ) (m : ℕ) → o ≡ o' → IfSome o' (λ u. (u < m) × HasTask j.rows u) → IfSome o (λ u. (u < m) × HasTask rows u)
  later_waits o None m e any = subst (λ (w : Option ℕ). IfSome w (λ u. (u < m) × HasTask rows u)) (sym e) tt
  later_waits o (Some u) m e there = subst (λ (w : Option ℕ). IfSome w (λ u. (u < m) × HasTask rows u)) (sym e) (there.0, still_task u there.1)

  -- each activation is of a task
  of_tasks : AreOfTasks rows
  of_tasks m row at =
      let was : WasRow m row = was_row m row at in
      let old : IsOfTask j.rows m was.old = is.of_tasks m was.old was.at in
      record {
        first = omega (arith, was.task, old.first);
        of_task = subst (λ (t : ℕ). HasTask rows t) (sym was.task) (still_task was.old.task old.of_task);
        after = later_waits row.after was.old.after m was.after old.after;
      }

  -- the activation had no start
  unstamped : stamp_of j.rows j.tasks (Starts n) ≡ None
  unstamped = ap start_in may.accepted ∙ may.not_begun

  -- it has the next stamp now
  stamped_now : stamp_of rows j.tasks (Starts n) ≡ Some stamp
  stamped_now = ap start_in at_number

  -- all other stamps stay
  others : (e : Event) → (e ≡ Starts n) ⊎ (stamp_of rows j.tasks e ≡ stamp_of j.rows j.tasks e)
  others (Starts m) = elim (cases_eq m n) [ inl it ↦ inl (ap Starts it) | inr differ ↦ inr (ap start_in (at_other m differ)) ]
  others (Finishes t) = inr refl

  -- each start and each finish so far is below the new stamp
  start_few : (m q : ℕ) (row : ActivationRow) → by_number j.rows m ≡ Some row → row.start ≡ Some q → q < stamp
  start_few m q row at start =
      let b : (1 ≤ q) × (q ≤ j.stamps) = is.stamped.within (Starts m) q (ap start_in at ∙ start) in omega (arith, b.1)

  -- each finish so far is below the new stamp
  finish_few : (t f : ℕ) → finish_of j.tasks t ≡ Some f → f < stamp
  finish_few t f at = let b : (1 ≤ f) × (f ≤ j.stamps) = is.stamped.within (Finishes t) f at in omega (arith, b.1)

  -- what the activation is behind has finished
  waited : (o : Option ℕ) (u : ℕ) → o ≡ Some u → IfSome o (λ u. IsSome (finish_of j.tasks u)) → IsSome (finish_of j.tasks u)
  waited o u e free = subst (λ (w : Option ℕ). IfSome w (λ u. IsSome (finish_of j.tasks u))) e free

  -- each start is after what it waits for
  behind : (m u s : ℕ) (row : ActivationRow) → by_number rows m ≡ Some row → row.after ≡ Some u → row.start ≡ Some s
      → (f : ℕ) × (finish_of j.tasks u ≡ Some f) × (f < s)
  behind m u s row at after start =
      let was : WasRow m row = was_row m row at in
      elim was.start [
        | inl it ↦
            let old : by_number j.rows n ≡ Some was.old = ap (by_number j.rows) (sym it.0) ∙ was.at in
            let there : by_number j.rows n ≡ Some may.row = may.accepted in
            let its : may.row ≡ was.old = cc in
            let done : (f : ℕ) × (finish_of j.tasks u ≡ Some f)
            = some_value (finish_of j.tasks u) (waited may.row.after u (ap (λ (r : ActivationRow). r.after) its ∙ sym was.after ∙ after) may.free) in
            let same : Some stamp ≡ Some s = sym it.1 ∙ start in
            let is_stamp : stamp ≡ s = cc in
            (done.0, done.1, omega (arith, finish_few u done.0 done.1, is_stamp))
        | inr other ↦ is.ordered.behind m u s was.old was.at (sym was.after ∙ after) (sym other.1 ∙ start)
      ]

  -- the activations of a task start in order
  rise : (i m s : ℕ) (one other : ActivationRow) → i < m → by_number rows i ≡ Some one → by_number rows m ≡ Some other
      → one.task ≡ other.task → other.start ≡ Some s → (q : ℕ) × (one.start ≡ Some q) × (q < s)
  rise i m s one other b at at' same start =
      let was : WasRow i one = was_row i one at in
      let also : WasRow m other = was_row m other at' in
      let one_task : was.old.task ≡ also.old.task = sym was.task ∙ same ∙ also.task in
      elim also.start [
        | inl it ↦ elim was.start [
          | inl both ↦ absurd (omega (arith, b, it.0, both.0))
          | inr earlier ↦
              let began : (q : ℕ) × (was.old.start ≡ Some q) = some_value was.old.start (is.begun i m was.old also.old b was.at also.at one_task) in
              let now : Some stamp ≡ Some s = sym it.1 ∙ start in
              let is_stamp : stamp ≡ s = cc in
              (began.0, earlier.1 ∙ began.1, omega (arith, start_few i began.0 was.old was.at began.1, is_stamp))
        ]
        | inr later ↦
            let old : (q : ℕ) × (was.old.start ≡ Some q) × (q < s)
            = is.ordered.rise i m s was.old also.old b was.at also.at one_task (sym later.1 ∙ start) in
            elim was.start [
              | inl it ↦ let none : was.old.start ≡ None = it.2 in let some : was.old.start ≡ Some old.0 = old.1 in absurd cc
              | inr earlier ↦ (old.0, earlier.1 ∙ old.1, old.2)
            ]
      ]

  -- each finish is after the starts of its task
  before : (m f : ℕ) (row : ActivationRow) → by_number rows m ≡ Some row → finish_of j.tasks row.task ≡ Some f
      → (s : ℕ) × (row.start ≡ Some s) × (s < f)
  before m f row at finish =
      let was : WasRow m row = was_row m row at in
      let old : (s : ℕ) × (was.old.start ≡ Some s) × (s < f)
      = is.ordered.before m f was.old was.at (ap (finish_of j.tasks) (sym was.task) ∙ finish) in
      elim was.start [
        | inl it ↦ let none : was.old.start ≡ None = it.2 in let some : was.old.start ≡ Some old.0 = old.1 in absurd cc
        | inr other ↦ (old.0, other.1 ∙ old.1, old.2)
      ]

  -- all numbers of a task but the last have begun
  begun : (i m : ℕ) (one other : ActivationRow) → i < m → by_number rows i ≡ Some one → by_number rows m ≡ Some other
      → one.task ≡ other.task → IsSome one.start
  begun i m one other b at at' same =
      let was : WasRow i one = was_row i one at in
      let also : WasRow m other = was_row m other at' in
      let old : IsSome was.old.start = is.begun i m was.old also.old b was.at also.at (sym was.task ∙ same ∙ also.task) in
      elim was.start [
        | inl it ↦ is_some_from one.start stamp it.1
        | inr other ↦ subst (λ (o : Option ℕ). IsSome o) (sym other.1) old
      ]

  -- there is one start more
  starts_more : starts rows ≡ starts j.rows + 1
  starts_more =
      let weight : ActivationRow → ℕ = λ row. elim row.start [ None ↦ 0 | Some s ↦ 1 ] in
      let go : Option ℕ → ℕ = λ o. elim o [ None ↦ 0 | Some s ↦ 1 ] in
      omega (arith, total-put weight j.rows n may.row begun_row may.accepted, ap go may.not_begun)

  -- the journal with the start
  keeps : IsJournal (record j { stamps = stamp; rows = rows })
  keeps = record {
    beside = omega (arith, is.beside, length-put j.rows n begun_row);
    within = omega (arith, is.within, length-put j.rows n begun_row);
    of_tasks = of_tasks;
    finished = λ t f at. still_task t (is.finished t f at);
    stamped = stamped-more j.rows rows j.tasks j.tasks j.stamps (Starts n) is.stamped unstamped stamped_now others;
    counted = omega (arith, is.counted, starts_more);
    ordered = record { behind = behind; rise = rise; before = before };
    begun = begun;
    caused = is.caused;
    led = is.led;
  }

  -- which is what `begin` writes
  pub begun_keeps : IsJournal (with_begun j n)
  begun_keeps =
      let to : Option ActivationRow → JournalState = λ o. record j { stamps = stamp; rows = started_rows j.rows n stamp o } in
      subst (λ (k : JournalState). IsJournal k) (ap to (sym may.accepted)) keeps

  -- each row keeps its task and its predecessor
  still_row : (m : ℕ) (row : ActivationRow) → by_number j.rows m ≡ Some row → (start : Option ℕ) × (by_number rows m ≡ Some (record row { start = start }))
  still_row m row at = elim (cases_eq m n) [
    | inl it ↦
        let here : by_number j.rows n ≡ Some row = ap (by_number j.rows) (sym it) ∙ at in
        let old : by_number j.rows n ≡ Some may.row = may.accepted in
        let its : may.row ≡ row = cc in
        (Some stamp, ap (by_number rows) it ∙ at_number ∙ ap (λ (r : ActivationRow). Some (record r { start = Some stamp })) its)
    | inr differ ↦ (row.start, at_other m differ ∙ at)
  ]

  -- what stands stays, and the start is told
  tells : TellsBegun j (record j { stamps = stamp; rows = rows }) n
  tells = record {
    grows = record {
      rows = still_row;
      stamps = stays j.rows rows j.tasks j.tasks j.stamps (Starts n) is.stamped unstamped stamped_now others;
      causes = λ t f at. refl;
    };
    start = stamped_now;
  }

  -- and so in what `begin` writes
  pub begun_tells : TellsBegun j (with_begun j n) n
  begun_tells =
      let to : Option ActivationRow → JournalState = λ o. record j { stamps = stamp; rows = started_rows j.rows n stamp o } in
      subst (λ (k : JournalState). TellsBegun j k n) (ap to (sym may.accepted)) tells

-- so a start keeps the journal
pub begin-keeps : (j : JournalState) (n : ℕ) → IsJournal j → MayBegin j n → IsJournal (with_begun j n)
begin-keeps j n is may = begun_keeps j n is may
