-- A further activation keeps the journal.
use Rattle.std.proofs.Common.{◌≡◌, ◌⊎◌, ◌∙◌, inl, inr, ℕ, suc, ◌≤◌, ◌<◌, Option, Some, None, List, [], ◌∷◌, ◌++◌, length, refl, sym, ap, subst, arith}
use Rattle.std.specs.Prelude.{IsSome, IfSome}
use Rattle.std.proofs.Math.ListN.{length-append}
use Rattle.record_core.specs.Numbers.{by_number, HasTask}
use Rattle.record_core.specs.Journal.{JournalState, task_or, next_number, unfinished, with_accepted, start_in, start_of, finish_in, finish_of, cause_in, cause_of, Event, Starts, Finishes, stamp_of, IsOfTask, AreOfTasks, Leads, IsJournal, HasAllBegun, IsUnderWay}
use Rattle.record_core.specs.JournalLaws.{TellsAccepted}
use Rattle.record_core.specs.declared.rows.ActivationRow.{ActivationRow}
use Rattle.record_core.specs.declared.rows.TaskRow.{TaskRow}
use Rattle.record_core.specs.declared.rows.Cause.TheVariants.{By}
use Rattle.record_core.specs.declared.rows.CutTag.{CutTag}
use Rattle.record_core.proofs.TotalFacts.{total-snoc}
use Rattle.record_core.proofs.NumberFacts.{number-in_range, number-old, number-new, number-cases}
use Rattle.record_core.proofs.StampFacts.{stamped-same}
use Rattle.record_core.proofs.LeadFacts.{leads-kept}
use Rattle.record_core.proofs.JournalFacts.{reads-append, beyond}

-- what is known of the task of a new activation
record IsNewOf (j : JournalState) (t : ℕ) : Type 0 where
  few : t ≤ next_number j
  there : HasTask j.rows t ⊎ (t ≡ next_number j)
  unfinished : finish_of j.tasks t ≡ None
  -- all numbers of a task but the last have begun
  begun : HasAllBegun j.rows t

-- the task of a new activation is under way, or new
new_of : (j : JournalState) (task : Option ℕ) → IsJournal j → IfSome task (λ t. IsUnderWay j t) → IsNewOf j (task_or task (next_number j))
new_of j (Some t) is under_way = record {
  few = omega (arith, number-in_range j.rows t under_way.accepted.0 under_way.accepted.1);
  there = inl under_way.accepted;
  unfinished = under_way.unfinished;
  begun = under_way.begun;
}
new_of j None is any = record {
  few = omega arith;
  there = inr refl;
  unfinished = beyond finish_in j.tasks (suc (length j.rows)) (omega (arith, is.beside));
  begun = λ n row at of. absurd (omega (arith, of, number-in_range j.rows n row at, (is.of_tasks n row at).first));
}

module _ (j : JournalState) (task after : Option ℕ) (is : IsJournal j) (room : length j.rows < j.limit)
    (of : IsNewOf j (task_or task (next_number j))) (waits : IfSome after (λ u. HasTask j.rows u)) where
  abbrev drawn : ActivationRow
  drawn = record { task = task_or task (next_number j); after = after; start = None }

  abbrev rows : List ActivationRow
  rows = j.rows ++ drawn ∷ []

  abbrev tasks : List TaskRow
  tasks = j.tasks ++ unfinished ∷ []

  -- all starts stay
  same_start : (n : ℕ) → start_of rows n ≡ start_of j.rows n
  same_start n = reads-append start_in j.rows drawn refl n

  -- all finishes stay
  same_finish : (t : ℕ) → finish_of tasks t ≡ finish_of j.tasks t
  same_finish t = reads-append finish_in j.tasks unfinished refl t

  -- all causes stay
  same_cause : (t : ℕ) → cause_of tasks t ≡ cause_of j.tasks t
  same_cause t = reads-append cause_in j.tasks unfinished refl t

  -- so all stamps do
  same_stamp : (e : Event) → stamp_of rows tasks e ≡ stamp_of j.rows j.tasks e
  same_stamp (Starts n) = same_start n
  same_stamp (Finishes t) = same_finish t

  -- a number has an old row, or is the new one
  row_cases : (n : ℕ) (row : ActivationRow) → by_number rows n ≡ Some row → (by_number j.rows n ≡ Some row) ⊎ ((n ≡ next_number j) × (row ≡ drawn))
  row_cases n row at = number-cases j.rows drawn row n at

  -- a task stays one
  still_task : (t : ℕ) → HasTask j.rows t → HasTask rows t
  still_task t there = (there.0, number-old j.rows drawn there.0 t there.1, there.2)

  -- the new activation is of a task
  drawn_of_task : HasTask rows drawn.task
  drawn_of_task = elim of.there [
    | inl there ↦ still_task drawn.task there
    | inr new ↦ subst (λ (t : ℕ). HasTask rows t) (sym new) (drawn, number-new j.rows drawn, new)
  ]

  -- the new activation is behind an earlier task
  waits_for : (o : Option ℕ) → IfSome o (λ u. HasTask j.rows u) → IfSome o (λ u. (u < next_number j) × HasTask rows u)
  waits_for None any = tt
  waits_for (Some u) there = (omega (arith, number-in_range j.rows u there.0 there.1), still_task u there)

  -- an old activation is behind the task that it was behind
  later_waits : (o : Option ℕ) (n : ℕ) → IfSome o (λ u. (u < n) × HasTask j.rows u) → IfSome o (λ u. (u < n) × HasTask rows u)
  later_waits None n any = tt
  later_waits (Some u) n there = (there.0, still_task u there.1)

  -- each activation is of a task
  of_tasks : AreOfTasks rows
  of_tasks n row at = elim (row_cases n row at) [
    | inl old ↦
        let was : IsOfTask j.rows n row = is.of_tasks n row old in
        record { first = was.first; of_task = still_task row.task was.of_task; after = later_waits row.after n was.after }
    | inr new ↦
        let Is : (n : ℕ) → ActivationRow → Type 0 = λ n row. IsOfTask rows n row in
        let drawn_is : IsOfTask rows (next_number j) drawn = record { first = of.few; of_task = drawn_of_task; after = waits_for after waits } in
        subst (λ (m : ℕ). Is m row) (sym new.0) (subst (λ (r : ActivationRow). Is (next_number j) r) (sym new.1) drawn_is)
  ]

  -- what has a start is an old row
  started_old : (n s : ℕ) (row : ActivationRow) → by_number rows n ≡ Some row → row.start ≡ Some s → by_number j.rows n ≡ Some row
  started_old n s row at start = elim (row_cases n row at) [
    | inl old ↦ old
    | inr new ↦ let none : row.start ≡ None = ap (λ (r : ActivationRow). r.start) new.1 in absurd cc
  ]

  -- an earlier number than another is an old one
  earlier_old : (n m : ℕ) (row other : ActivationRow) → n < m → by_number rows n ≡ Some row → by_number rows m ≡ Some other → by_number j.rows n ≡ Some row
  earlier_old n m row other b at at' = elim (row_cases n row at) [
    | inl old ↦ old
    | inr new ↦
        let few : (1 ≤ m) × (m ≤ length rows) = number-in_range rows m other at' in
        absurd (omega (arith, b, new.0, few.1, length-append j.rows (drawn ∷ [])))
  ]

  -- each start is after what it waits for
  behind : (n u s : ℕ) (row : ActivationRow) → by_number rows n ≡ Some row → row.after ≡ Some u → row.start ≡ Some s
      → (f : ℕ) × (finish_of tasks u ≡ Some f) × (f < s)
  behind n u s row at after start =
      let was : (f : ℕ) × (finish_of j.tasks u ≡ Some f) × (f < s) = is.ordered.behind n u s row (started_old n s row at start) after start in
      (was.0, same_finish u ∙ was.1, was.2)

  -- the activations of a task start in order
  rise : (n m s : ℕ) (one other : ActivationRow) → n < m → by_number rows n ≡ Some one → by_number rows m ≡ Some other
      → one.task ≡ other.task → other.start ≡ Some s → (q : ℕ) × (one.start ≡ Some q) × (q < s)
  rise n m s one other b at at' same start =
      is.ordered.rise n m s one other b (earlier_old n m one other b at at') (started_old m s other at' start) same start

  -- each finish is after the starts of its task
  before : (n f : ℕ) (row : ActivationRow) → by_number rows n ≡ Some row → finish_of tasks row.task ≡ Some f
      → (s : ℕ) × (row.start ≡ Some s) × (s < f)
  before n f row at finish = elim (row_cases n row at) [
    | inl old ↦ is.ordered.before n f row old (sym (same_finish row.task) ∙ finish)
    | inr new ↦
        let its : row.task ≡ drawn.task = ap (λ (r : ActivationRow). r.task) new.1 in
        let none : finish_of j.tasks row.task ≡ None = ap (finish_of j.tasks) its ∙ of.unfinished in
        let some : finish_of j.tasks row.task ≡ Some f = sym (same_finish row.task) ∙ finish in
        absurd cc
  ]

  begun : (n m : ℕ) (one other : ActivationRow) → n < m → by_number rows n ≡ Some one → by_number rows m ≡ Some other
      → one.task ≡ other.task → IsSome one.start
  begun n m one other b at at' same =
      let old : by_number j.rows n ≡ Some one = earlier_old n m one other b at at' in
      elim (row_cases m other at') [
        | inl also ↦ is.begun n m one other b old also same
        | inr new ↦ of.begun n one old (same ∙ ap (λ (r : ActivationRow). r.task) new.1)
      ]

  -- causes still lead to a refusal
  led : (t u : ℕ) → cause_of tasks t ≡ By u → (tag : CutTag) × Leads tasks tag t
  led t u by =
      let was : (tag : CutTag) × Leads j.tasks tag t = is.led t u (sym (same_cause t) ∙ by) in
      (was.0, leads-kept j.tasks tasks was.0 (λ k cut. record { cause = same_cause k; finish = same_finish k }) t was.1)

  -- the journal with the new activation
  keeps : IsJournal (with_accepted j task after)
  keeps = record {
    beside = omega (arith, length-append j.rows (drawn ∷ []), length-append j.tasks (unfinished ∷ []), is.beside);
    within = omega (arith, length-append j.rows (drawn ∷ []), room);
    of_tasks = of_tasks;
    finished = λ t f at. still_task t (is.finished t f (sym (same_finish t) ∙ at));
    stamped = stamped-same j.rows rows j.tasks tasks j.stamps is.stamped same_stamp;
    counted = omega (
      arith,
      is.counted,
      total-snoc (λ (row : ActivationRow). elim row.start [ None ↦ 0 | Some s ↦ 1 ]) j.rows drawn,
      total-snoc (λ (task : TaskRow). elim task.finish [ None ↦ 0 | Some f ↦ 1 ]) j.tasks unfinished,
    );
    ordered = record { behind = behind; rise = rise; before = before };
    begun = begun;
    caused = λ t none. same_cause t ∙ is.caused t (sym (same_finish t) ∙ none);
    led = led;
  }

-- so a further activation keeps the journal
pub accept-keeps : (j : JournalState) (task after : Option ℕ) → IsJournal j → length j.rows < j.limit
    → IfSome task (λ t. IsUnderWay j t) → IfSome after (λ u. HasTask j.rows u) → IsJournal (with_accepted j task after)
accept-keeps j task after is room under_way waits = keeps j task after is room (new_of j task is under_way) waits

-- what stands in the journal stays, and the new activation is told
pub accept-tells : (j : JournalState) (task after : Option ℕ) → TellsAccepted j (with_accepted j task after) task after
accept-tells j task after = record {
  grows = record {
    rows = λ n row at. (row.start, number-old j.rows (record { task = task_or task (next_number j); after = after; start = None }) row n at);
    stamps = λ e s at. same e ∙ at;
    causes = λ t f at. reads-append cause_in j.tasks unfinished refl t;
  };
  row = number-new j.rows (record { task = task_or task (next_number j); after = after; start = None });
}
  where
    same : (e : Event) → stamp_of (with_accepted j task after).rows (with_accepted j task after).tasks e ≡ stamp_of j.rows j.tasks e
    same (Starts n) = reads-append start_in j.rows (record { task = task_or task (next_number j); after = after; start = None }) refl n
    same (Finishes t) = reads-append finish_in j.tasks unfinished refl t
