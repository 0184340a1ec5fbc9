-- A finish keeps the journal.
use Rattle.std.proofs.Common.{◌≡◌, ◌≢◌, ◌⊎◌, ◌∙◌, inl, inr, ℕ, ◌+◌, ◌≤◌, ◌<◌, true, false, Option, Some, None, List, length, refl, sym, ap, subst, arith}
use Rattle.std.specs.Prelude.{IsSome}
use Rattle.std.proofs.lemmas.Bool.{cases_eq}
use Rattle.record_core.specs.Numbers.{by_number, put_number, HasTask}
use Rattle.record_core.specs.Journal.{JournalState, with_finished, finish_in, finish_of, cause_in, cause_of, start_in, finishes, Event, Starts, Finishes, stamp_of, is_cut, Leads, refused, cut_by, IsJournal, IsUnderWay, MayCause}
use Rattle.record_core.specs.JournalLaws.{TellsFinished}
use Rattle.record_core.specs.declared.rows.ActivationRow.{ActivationRow}
use Rattle.record_core.specs.declared.rows.TaskRow.{TaskRow}
use Rattle.record_core.specs.declared.rows.Cause.{Cause}
use Rattle.record_core.specs.declared.rows.Cause.TheVariants.{Clear, Null, Limit, By}
use Rattle.record_core.specs.declared.rows.CutTag.{CutTag}
use Rattle.record_core.specs.declared.rows.CutTag.TheVariants as cut_tag
use Rattle.record_core.proofs.NumberFacts.{number-in_range, numbered_member, number-set, number-other, total-put, length-put}
use Rattle.record_core.proofs.StampFacts.{stamped-more, stays}
use Rattle.record_core.proofs.LeadFacts.{IsKept, leads-kept}
use Rattle.record_core.proofs.JournalFacts.{some_value}

-- the causes of a cut task lead to a refusal
pub cut_leads : (j : JournalState) (u : ℕ) (cause : Cause) → IsJournal j → cause_of j.tasks u ≡ cause → is_cut cause ≡ true → (tag : CutTag) × Leads j.tasks tag u
cut_leads j u Clear is e cut = absurd cc
cut_leads j u Null is e cut = (cut_tag.Null, refused e)
cut_leads j u Limit is e cut = (cut_tag.Limit, refused e)
cut_leads j u (By w) is e cut = is.led u w e

-- what a task may be cut by
named_cut : (j : JournalState) (cause : Cause) (u : ℕ) → MayCause j cause → cause ≡ By u → IsSome (finish_of j.tasks u) × (is_cut (cause_of j.tasks u) ≡ true)
named_cut j cause u may e = subst (λ (c : Cause). MayCause j c) e may

module _ (j : JournalState) (t : ℕ) (cause : Cause) (is : IsJournal j) (under_way : IsUnderWay j t) (may : MayCause j cause) where
  abbrev stamp : ℕ
  stamp = j.stamps + 1

  abbrev written : TaskRow
  written = record { finish = Some stamp; cause = cause }

  abbrev tasks : List TaskRow
  tasks = put_number j.tasks t written

  -- the task has a row
  old_row : (row : TaskRow) × (by_number j.tasks t ≡ Some row)
  old_row =
      let few : (1 ≤ t) × (t ≤ length j.rows) = number-in_range j.rows t under_way.accepted.0 under_way.accepted.1 in
      numbered_member j.tasks t few.0 (omega (arith, few.1, is.beside))

  -- the task has the new row
  at_task : by_number tasks t ≡ Some written
  at_task = number-set j.tasks t written old_row.0 old_row.1

  -- the other tasks keep theirs
  at_other : (u : ℕ) → u ≢ t → by_number tasks u ≡ by_number j.tasks u
  at_other u differ = number-other j.tasks t u written differ

  -- it had no finish
  not_finished : (row : TaskRow) → by_number j.tasks t ≡ Some row → row.finish ≡ None
  not_finished row at = let its : finish_of j.tasks t ≡ row.finish = ap finish_in at in sym its ∙ under_way.unfinished

  -- it has the next stamp now
  stamped_now : finish_of tasks t ≡ Some stamp
  stamped_now = ap finish_in at_task

  -- all other stamps stay
  others : (e : Event) → (e ≡ Finishes t) ⊎ (stamp_of j.rows tasks e ≡ stamp_of j.rows j.tasks e)
  others (Starts n) = inr refl
  others (Finishes u) = elim (cases_eq u t) [ inl it ↦ inl (ap Finishes it) | inr differ ↦ inr (ap finish_in (at_other u differ)) ]

  -- each finish so far is below the new stamp
  finish_few : (u f : ℕ) → finish_of j.tasks u ≡ Some f → f < stamp
  finish_few u f at = let b : (1 ≤ f) × (f ≤ j.stamps) = is.stamped.within (Finishes u) f at in omega (arith, b.1)

  -- a task that has finished is another one
  finished_other : (u f : ℕ) → finish_of j.tasks u ≡ Some f → u ≢ t
  finished_other u f at it = let none : finish_of j.tasks u ≡ None = ap (finish_of j.tasks) it ∙ under_way.unfinished in absurd cc

  -- a finish stays
  still_finished : (u f : ℕ) → finish_of j.tasks u ≡ Some f → finish_of tasks u ≡ Some f
  still_finished u f at = ap finish_in (at_other u (finished_other u f at)) ∙ at

  -- so is one that is cut
  cut_other : (u : ℕ) → is_cut (cause_of j.tasks u) ≡ true → u ≢ t
  cut_other u cut it =
      let clear : cause_of j.tasks u ≡ Clear = ap (cause_of j.tasks) it ∙ is.caused t under_way.unfinished in
      let not_cut : is_cut (cause_of j.tasks u) ≡ false = ap is_cut clear in absurd cc

  -- a cut task keeps its row
  kept : (u : ℕ) → is_cut (cause_of j.tasks u) ≡ true → IsKept j.tasks tasks u
  kept u cut = record { cause = ap cause_in (at_other u (cut_other u cut)); finish = ap finish_in (at_other u (cut_other u cut)) }

  -- what has finished is a task
  finished : (u f : ℕ) → finish_of tasks u ≡ Some f → HasTask j.rows u
  finished u f at = elim (cases_eq u t) [
    | inl it ↦ subst (λ (k : ℕ). HasTask j.rows k) (sym it) under_way.accepted
    | inr differ ↦ is.finished u f (ap finish_in (sym (at_other u differ)) ∙ at)
  ]

  -- each start is after what it waits for
  behind : (n u s : ℕ) (row : ActivationRow) → by_number j.rows n ≡ Some row → row.after ≡ Some u → row.start ≡ Some s
      → (f : ℕ) × (finish_of tasks u ≡ Some f) × (f < s)
  behind n u s row at after start =
      let was : (f : ℕ) × (finish_of j.tasks u ≡ Some f) × (f < s) = is.ordered.behind n u s row at after start in
      (was.0, still_finished u was.0 was.1, was.2)

  -- each finish is after the starts of its task
  before : (n f : ℕ) (row : ActivationRow) → by_number j.rows n ≡ Some row → finish_of tasks row.task ≡ Some f
      → (s : ℕ) × (row.start ≡ Some s) × (s < f)
  before n f row at finish = elim (cases_eq row.task t) [
    | inl it ↦
        let began : (s : ℕ) × (row.start ≡ Some s) = some_value row.start (under_way.begun n row at it) in
        let b : (1 ≤ began.0) × (began.0 ≤ j.stamps) = is.stamped.within (Starts n) began.0 (ap start_in at ∙ began.1) in
        let now : Some stamp ≡ Some f = sym (ap (finish_of tasks) it ∙ stamped_now) ∙ finish in
        let is_stamp : stamp ≡ f = cc in
        (began.0, began.1, omega (arith, b.1, is_stamp))
    | inr differ ↦ is.ordered.before n f row at (ap finish_in (sym (at_other row.task differ)) ∙ finish)
  ]

  -- a cause comes with a finish
  caused : (u : ℕ) → finish_of tasks u ≡ None → cause_of tasks u ≡ Clear
  caused u none = elim (cases_eq u t) [
    | inl it ↦ let some : finish_of tasks u ≡ Some stamp = ap (finish_of tasks) it ∙ stamped_now in absurd cc
    | inr differ ↦ ap cause_in (at_other u differ) ∙ is.caused u (ap finish_in (sym (at_other u differ)) ∙ none)
  ]

  -- causes lead to a refusal
  led : (k u : ℕ) → cause_of tasks k ≡ By u → (tag : CutTag) × Leads tasks tag k
  led k u by = elim (cases_eq k t) [
    | inl it ↦
        let its : cause_of tasks k ≡ cause = ap (cause_of tasks) it ∙ ap cause_in at_task in
        let named : IsSome (finish_of j.tasks u) × (is_cut (cause_of j.tasks u) ≡ true) = named_cut j cause u may (sym its ∙ by) in
        let done : (f : ℕ) × (finish_of j.tasks u ≡ Some f) = some_value (finish_of j.tasks u) named.0 in
        let from : (tag : CutTag) × Leads j.tasks tag u = cut_leads j u (cause_of j.tasks u) is refl named.1 in (
          from.0,
          cut_by u stamp done.0 by (still_finished u done.0 done.1) (ap (finish_of tasks) it ∙ stamped_now) (finish_few u done.0 done.1)
              (leads-kept j.tasks tasks from.0 kept u from.1),
        )
    | inr differ ↦
        let was : (tag : CutTag) × Leads j.tasks tag k = is.led k u (ap cause_in (sym (at_other k differ)) ∙ by) in
        (was.0, leads-kept j.tasks tasks was.0 kept k was.1)
  ]

  -- there is one finish more
  finishes_more : finishes tasks ≡ finishes j.tasks + 1
  finishes_more =
      let weight : TaskRow → ℕ = λ task. elim task.finish [ None ↦ 0 | Some f ↦ 1 ] in
      let go : Option ℕ → ℕ = λ o. elim o [ None ↦ 0 | Some f ↦ 1 ] in
      omega (arith, total-put weight j.tasks t old_row.0 written old_row.1, ap go (not_finished old_row.0 old_row.1))

  -- the journal with the finish
  pub finished_keeps : IsJournal (with_finished j t cause)
  finished_keeps = record {
    beside = omega (arith, is.beside, length-put j.tasks t written);
    within = is.within;
    of_tasks = is.of_tasks;
    finished = finished;
    stamped = stamped-more j.rows j.rows j.tasks tasks j.stamps (Finishes t) is.stamped under_way.unfinished stamped_now others;
    counted = omega (arith, is.counted, finishes_more);
    ordered = record { behind = behind; rise = is.ordered.rise; before = before };
    begun = is.begun;
    caused = caused;
    led = led;
  }

  -- what stands stays, and finish and cause are told
  pub finished_tells : TellsFinished j (with_finished j t cause) t cause
  finished_tells = record {
    grows = record {
      rows = λ n row at. (row.start, at);
      stamps = stays j.rows j.rows j.tasks tasks j.stamps (Finishes t) is.stamped under_way.unfinished stamped_now others;
      causes = λ u f at. ap cause_in (at_other u (finished_other u f at));
    };
    finish = stamped_now;
    cause_told = ap cause_in at_task;
  }

-- so a finish keeps the journal
pub finish-keeps : (j : JournalState) (t : ℕ) (cause : Cause) → IsJournal j → IsUnderWay j t → MayCause j cause → IsJournal (with_finished j t cause)
finish-keeps j t cause is under_way may = finished_keeps j t cause is under_way may
