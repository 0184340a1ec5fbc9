-- Each move keeps that further numbers and refusals were asked for.
use Rattle.std.proofs.Common.{◌≡◌, ◌≢◌, ◌⊎◌, ℕ, zero, suc, ◌+◌, ◌<◌, ◌≤◌, Bool, true, false, cond, Option, Some, None, List, [], ◌∷◌, ◌++◌, length, slice_get, refl, sym, ◌∙◌, ap, subst, inl, inr, ⊎_elim, arith}
use Rattle.std.specs.Prelude.{IsSome, nat_eq}
use Rattle.std.specs.Option.{is_some}
use Rattle.std.proofs.lemmas.Bool.{cases_eq, eqb-true, eq-eqb, false≢true}
use Rattle.std.proofs.lemmas.Option.{none-some, same_Some, slice_get_cases, slice_get_within}
use Rattle.task_syntax.specs.Form.{IsWellFormed}
use Rattle.task_syntax.specs.Valid.{IsValid}
use Rattle.task_syntax.specs.declared.value.Value.{Value}
use Rattle.task_syntax.specs.declared.value.Priority.{Priority}
use Rattle.task_syntax.specs.declared.program.Root.{Root as RootLine}
use Rattle.task_syntax.specs.declared.program.Program.{Program}
use Rattle.task_syntax.specs.declared.columns.Columns.{Columns}
use Rattle.task_meaning.specs.Frame.{FrameOf, set_future}
use Rattle.task_meaning.specs.FrameLaws.{task_waited}
use Rattle.task_meaning.specs.Acts.{Respawns}
use Rattle.task_meaning.specs.Worths.{Accepted, OfCall, OfAll, Respawn}
use Rattle.frame_code.specs.Words.{OfKind, OfMembers}
use Rattle.record_core.specs.Numbers.{by_number, found, flat, put_number}
use Rattle.record_core.specs.Journal.{JournalState, next_number, task_or, unfinished, with_accepted, with_finished, finish_in, finish_of, cause_of}
use Rattle.record_core.specs.JournalLaws.{GrowsFrom}
use Rattle.record_core.specs.EndSeen.{RunPlan}
use Rattle.record_core.specs.EndAsks.{AsksAgain, AsksForNumber, StandsAt}
use Rattle.record_core.specs.EndCalls.{AskedForBlock, AskedForNumber, IsAskedAgain, is_number_of, numbers_in, numbers_of}
use Rattle.record_core.specs.declared.rows.ActivationRow.{ActivationRow}
use Rattle.record_core.specs.declared.rows.TaskRow.{TaskRow}
use Rattle.record_core.specs.declared.rows.Cause.{Cause}
use Rattle.record_core.specs.declared.rows.Cause.TheVariants as cause
use Rattle.record_core.specs.declared.rows.CutTag.{CutTag}
use Rattle.record_core.specs.declared.rows.CutTag.TheVariants.{Null, Limit}
use Rattle.record_core.proofs.AcceptFacts.{accept-tells}
use Rattle.record_core.proofs.BelowFacts.{below-same}
use Rattle.run_model.specs.State.{Body, Outcome, Named, Run}
use Rattle.run_model.specs.Step.{Request, accepts, arrives, at_first, cause_of_cut, draws, root_request, waits_or_queues, with_body, with_root}
use Rattle.run_model.specs.Move.{Answers, Asks, Move, Notes, Refuses, Renews, RootMove, RunsAt, begins, with_notes}
use Rattle.run_model.proofs.ByNumber.{found_put, found_put_other, found_within, length_snoc, member_at, none_of_empty, number_within, snoc_new, snoc_old, snoc_other}
use Rattle.run_model.proofs.AskedInvariant.{Asked, AskedStands}
use Rattle.run_model.proofs.AskersKept.{found_cases}
use Rattle.run_model.proofs.FramesInvariant.{FramesStand}
use Rattle.run_model.proofs.FramesKept.{running_stands}
use Rattle.run_model.proofs.JournalGrows.{move_grows}
use Rattle.run_model.proofs.LineFacts.{shape_of}
use Rattle.run_model.proofs.LiveFacts.{finish_snoc, task_within}
use Rattle.run_model.proofs.MadeMoves.{is_asked, stands_there}
use Rattle.run_model.proofs.NumbersParts.{slice_snoc}
use Rattle.run_model.proofs.OrderKept.{as_many_begun}
use Rattle.run_model.proofs.OutcomesKept.{cause_here, cause_other, cause_snoc, finish_other}
use Rattle.run_model.proofs.RunStands.{RunStands}
use Rattle.run_model.proofs.RunsFacts.{running_open, running_within}
use Rattle.run_model.proofs.TasksStand.{tasks_of}
use Rattle.run_model.proofs.ValuesKept.{again_names}

-- numbers of a task

-- where rows stand, as many of the first are of a task
numbers_stay : (j k : JournalState) → GrowsFrom j k → (t m : ℕ) → m ≤ length j.rows → numbers_in t m k.rows ≡ numbers_in t m j.rows
numbers_stay j k grows t m few = below-same (λ at. is_number_of t (slice_get k.rows at)) (λ at. is_number_of t (slice_get j.rows at)) m (λ at less. one at (omega (arith, less, few)))
  where
    one : (at : ℕ) → at < length j.rows → is_number_of t (slice_get k.rows at) ≡ is_number_of t (slice_get j.rows at)
    one at within =
        let (row, there) = member_at j.rows (suc at) (omega arith) (omega (arith, within)) in
        let (start, then) = grows.rows (suc at) row there in ap (is_number_of t) then ∙ sym (ap (is_number_of t) there)

-- as many rows, and as many of a task
as_many_of : (j k : JournalState) → GrowsFrom j k → length k.rows ≡ length j.rows → (t : ℕ) → numbers_of t k.rows ≡ numbers_of t j.rows
as_many_of j k grows many t = ap (λ m. numbers_in t m k.rows) many ∙ numbers_stay j k grows t (length j.rows) (omega arith)

-- one row more
one_more_of : (rows : List ActivationRow) (row : ActivationRow) (t : ℕ) → numbers_of t (rows ++ row ∷ []) ≡ numbers_of t rows + is_number_of t (Some row)
one_more_of rows row t =
    let many : numbers_of t (rows ++ row ∷ []) ≡ numbers_in t (suc (length rows)) (rows ++ row ∷ []) = ap (λ m. numbers_in t m (rows ++ row ∷ [])) (length_snoc rows row) in
    let last : is_number_of t (slice_get (rows ++ row ∷ []) (length rows)) ≡ is_number_of t (Some row) = ap (is_number_of t) (snoc_new rows row) in
    omega (arith, many, last, first)
  where
    first : numbers_in t (length rows) (rows ++ row ∷ []) ≡ numbers_of t rows
    first = below-same (λ at. is_number_of t (slice_get (rows ++ row ∷ []) at)) (λ at. is_number_of t (slice_get rows at)) (length rows)
        (λ at less. ap (is_number_of t) (snoc_other rows row (suc at) (λ e. omega (arith, e, less))))

-- a row of the task counts, and no other
of_this : (t : ℕ) (row : ActivationRow) → row.task ≡ t → is_number_of t (Some row) ≡ 1
of_this t row same = by (nat_eq row.task t) (eq-eqb row.task t same)
  where
    by : (b : Bool) → b ≡ true → ◌≡◌ {A = ℕ} (cond b 1 0) 1
    by true e = refl
    by false e = absurd (false≢true e)

-- a row of another task counts nothing
of_other : (t : ℕ) (row : ActivationRow) → row.task ≢ t → is_number_of t (Some row) ≡ 0
of_other t row differ = by (nat_eq row.task t) refl
  where
    by : (b : Bool) → nat_eq row.task t ≡ b → ◌≡◌ {A = ℕ} (cond b 1 0) 0
    by true e = absurd (differ (eqb-true row.task t e))
    by false e = refl

-- a number past those that were drawn has no row
none_of_new : (rows : List ActivationRow) → ((n : ℕ) (row : ActivationRow) → by_number rows n ≡ Some row → row.task ≤ length rows) → numbers_of (suc (length rows)) rows ≡ 0
none_of_new rows few = up_to (length rows)
  where
    none : (o : Option ActivationRow) (at : ℕ) → slice_get rows at ≡ o → is_number_of (suc (length rows)) o ≡ 0
    none None at there = refl
    none (Some row) at there = of_other (suc (length rows)) row (λ same. omega (arith, same, few (suc at) row there))

    up_to : (m : ℕ) → numbers_in (suc (length rows)) m rows ≡ 0
    up_to zero = refl
    up_to (suc m) = omega (arith, up_to m, none (slice_get rows m) m refl)

-- what was asked for, stays so

module _ (p : Program) (rows rows' : List ActivationRow) (calls calls' : List Accepted) (stay : (n : ℕ) (call : Accepted) → by_number calls n ≡ Some call → by_number calls' n ≡ Some call) where
  -- where a task stands at a line, it stands there by more calls
  at_still : (t : ℕ) (q : FrameOf ℕ) (instr : Rattle.task_syntax.specs.declared.instr.Instr.Instr) → StandsAt p calls t q instr → StandsAt p calls' t q instr
  at_still t q instr stands = record {
    call = stands.call;
    waits = stands.waits;
    is_call = stay t (OfCall stands.call stands.waits) stands.is_call;
    of_kind = stands.of_kind;
    line = stands.line;
    there = stands.there;
    is = stands.is;
  }

  -- a further number that was asked for, was asked for by more calls
  again_still : (before t : ℕ) (after : Option ℕ) → numbers_in t before rows' ≡ numbers_in t before rows → IsAskedAgain p rows calls before t after → IsAskedAgain p rows' calls' before t after
  again_still before t after same (IsAskedAgain.by_line q instr stands asks) = IsAskedAgain.by_line q instr (at_still t q instr stands) asks
  again_still before t after same (IsAskedAgain.by_member members u call is member) = IsAskedAgain.by_member members u (stay t (OfAll members) call) is (ap (slice_get members) same ∙ member)

  -- so was a number that the limit refused
  number_still : (t : ℕ) → numbers_of t rows' ≡ numbers_of t rows → AskedForNumber p rows calls t → AskedForNumber p rows' calls' t
  number_still t same (AskedForNumber.by_line q instr stands asks) = AskedForNumber.by_line q instr (at_still t q instr stands) asks
  number_still t same (AskedForNumber.by_member members call left) = AskedForNumber.by_member members (stay t (OfAll members) call) (omega (arith, same, left))

  -- and a block
  block_still : (t : ℕ) → AskedForBlock p calls t → AskedForBlock p calls' t
  block_still t asked = record { frame = asked.frame; instr = asked.instr; stands = at_still t asked.frame asked.instr asked.stands; wanted = asked.wanted; no_retry = asked.no_retry }

-- a task with a cause has finished
has_finished : (tasks : List TaskRow) → ((t : ℕ) → finish_of tasks t ≡ None → cause_of tasks t ≡ cause.Clear) → (t : ℕ) → (cause_of tasks t ≡ cause.Clear → ⊥) → IsSome (finish_of tasks t)
has_finished tasks clear t cut = by (finish_of tasks t) refl
  where
    by : (o : Option ℕ) → finish_of tasks t ≡ o → IsSome o
    by None e = absurd (cut (clear t e))
    by (Some f) e = refl

-- a null answer is a cause
null_cuts : cause.Null ≡ cause.Clear → ⊥
null_cuts e = cc

-- so is the limit
limit_cuts : cause.Limit ≡ cause.Clear → ⊥
limit_cuts e = cc

-- A number is drawn: what was asked for before stands, and the new number is asked for.
module _ (p : Program) (j : JournalState) (calls : List Accepted) (bodies : List (Option Body)) (now : Asked p j calls bodies) (clear : (t : ℕ) → finish_of j.tasks t ≡ None → cause_of j.tasks t ≡ cause.Clear)
    (beside : length calls ≡ length j.rows) (within : (t : ℕ) → IsSome (finish_of j.tasks t) → t ≤ length j.rows) (task after : Option ℕ) (call : Accepted)
    (open_ : (t : ℕ) → IsSome (finish_of j.tasks t) → task_or task (next_number j) ≢ t) where
  abbrev drawn_row : ActivationRow
  drawn_row = record { task = task_or task (next_number j); after = after; start = None }

  -- a call stands with one call more
  old_calls : (n : ℕ) (other : Accepted) → by_number calls n ≡ Some other → by_number (calls ++ call ∷ []) n ≡ Some other
  old_calls n other e = snoc_old calls call n other e

  -- a task that has finished draws no number
  finished_same : (t : ℕ) → IsSome (finish_of j.tasks t) → numbers_of t (with_accepted j task after).rows ≡ numbers_of t j.rows
  finished_same t finished = omega (arith, one_more_of j.rows drawn_row t, of_other t drawn_row (open_ t finished))

  -- what was asked for stands, with one number more
  asked_drawn : (bodies' : List (Option Body)) → ((t : ℕ) (other : Option ℕ) → call ≡ Respawn t other → IsAskedAgain p (with_accepted j task after).rows (calls ++ call ∷ []) (length calls) t other)
      → ((t next : ℕ) (members : List ℕ) → found bodies' t ≡ Some (OfMembers members next) → numbers_of t (with_accepted j task after).rows ≡ next) → Asked p (with_accepted j task after) (calls ++ call ∷ []) bodies'
  asked_drawn bodies' new ways = record {
    again = λ before t other e. ⊎_elim
        (λ old. again_still p j.rows (with_accepted j task after).rows calls (calls ++ call ∷ []) old_calls before t other
        (numbers_stay j (with_accepted j task after) (accept-tells j task after).grows t before (let lt = slice_get_within calls before (Respawn t other) old in omega (arith, lt, beside))) (now.again before t other old))
        (λ is_new. subst (λ n. IsAskedAgain p (with_accepted j task after).rows (calls ++ call ∷ []) n t other) (sym is_new.0) (new t other is_new.1))
        (slice_snoc calls call (Respawn t other) before e);
    null = λ t e. block_still p j.rows (with_accepted j task after).rows calls (calls ++ call ∷ []) old_calls t (now.null t (sym (cause_snoc j.tasks t) ∙ e));
    limit = λ t e.
        let was = sym (cause_snoc j.tasks t) ∙ e in
        number_still p j.rows (with_accepted j task after).rows calls (calls ++ call ∷ []) old_calls t (finished_same t (has_finished j.tasks clear t (λ none. limit_cuts (sym was ∙ none)))) (now.limit t was);
    under_way = ways;
    gathered = λ t members is_call finished uncut.
        let was : IsSome (finish_of j.tasks t) = sym (ap is_some (finish_snoc j.tasks t)) ∙ finished in
        finished_same t was ∙ now.gathered t members
        (sym (snoc_other calls call t (λ e. omega (arith, e, beside, within t was))) ∙ is_call) was (sym (cause_snoc j.tasks t) ∙ uncut);
  }

-- No number is drawn: a task may end, and what it was refused it had asked for.
module _ (p : Program) (j k : JournalState) (calls : List Accepted) (bodies bodies' : List (Option Body)) (now : Asked p j calls bodies) (grows : GrowsFrom j k) (many : length k.rows ≡ length j.rows)
    (beside : length calls ≡ length j.rows) where
  -- a call stands
  same_calls : (n : ℕ) (other : Accepted) → by_number calls n ≡ Some other → by_number calls n ≡ Some other
  same_calls n other e = e

  -- what was asked for stands where a task ends or an activation starts
  asked_stays : ((t : ℕ) → cause_of k.tasks t ≡ cause.Null → (cause_of j.tasks t ≡ cause.Null) ⊎ AskedForBlock p calls t)
      → ((t : ℕ) → cause_of k.tasks t ≡ cause.Limit → (cause_of j.tasks t ≡ cause.Limit) ⊎ AskedForNumber p j.rows calls t)
      → ((t next : ℕ) (members : List ℕ) → found bodies' t ≡ Some (OfMembers members next) → found bodies t ≡ Some (OfMembers members next))
      → ((t : ℕ) (members : List ℕ) → by_number calls t ≡ Some (OfAll members) → IsSome (finish_of k.tasks t) → cause_of k.tasks t ≡ cause.Clear
      → (IsSome (finish_of j.tasks t) × (cause_of j.tasks t ≡ cause.Clear)) ⊎ (numbers_of t j.rows ≡ length members)) → Asked p k calls bodies'
  asked_stays null limit ways gathered = record {
    again = λ before t other e. again_still p j.rows k.rows calls calls same_calls before t other
        (numbers_stay j k grows t before (let lt = slice_get_within calls before (Respawn t other) e in omega (arith, lt, beside)))
        (now.again before t other e);
    null = λ t e. ⊎_elim (λ was. now.null t was) (λ asked. asked) (null t e);
    limit = λ t e. number_still p j.rows k.rows calls calls same_calls t (as_many_of j k grows many t) (⊎_elim (λ was. now.limit t was) (λ asked. asked) (limit t e));
    under_way = λ t next members e. as_many_of j k grows many t ∙ now.under_way t next members (ways t next members e);
    gathered = λ t members call finished uncut. as_many_of j k grows many t ∙ ⊎_elim (λ was. now.gathered t members call was.0 was.1) (λ all. all) (gathered t members call finished uncut);
  }

-- an arrival changes nothing of this
arrives_asked : (p : Program) (r : Run) (n : ℕ) (after : Option ℕ) → AskedStands p r → AskedStands p (arrives r n after)
arrives_asked p r n None now = record { again = now.again; null = now.null; limit = now.limit; under_way = now.under_way; gathered = now.gathered }
arrives_asked p r n (Some u) now = by (found r.outcomes u)
  where
    by : (o : Option Outcome) → AskedStands p (waits_or_queues o r n u)
    by None = record { again = now.again; null = now.null; limit = now.limit; under_way = now.under_way; gathered = now.gathered }
    by (Some outcome) = record { again = now.again; null = now.null; limit = now.limit; under_way = now.under_way; gathered = now.gathered }

-- a frame is no list of members
no_members : (o : Option Body) (q : FrameOf ℕ) (members : List ℕ) (next : ℕ) → o ≡ Some (OfKind q) → o ≡ Some (OfMembers members next) → ⊥
no_members o q members next one other = let both : Some (OfKind q) ≡ Some (OfMembers members next) = sym one ∙ other in cc

-- where an aggregate ends, it has no member left
ends_after : (p : Program) (c : Columns) (r : Run) (body : Body) (v : Value) (members : List ℕ) (next : ℕ) → Answers p c r body v → body ≡ OfMembers members next → slice_get members next ≡ None
ends_after p c r _ _ members next (Answers.finishes q v acts) e = absurd (cc e)
ends_after p c r _ _ members next (Answers.traps q to x u trap acts names gave) e = absurd (cc e)
ends_after p c r _ _ members next (Answers.gathered others at none) e =
    let same : others ≡ members = cc in let place : at ≡ next = cc in sym (ap (slice_get members) place) ∙ sym (ap (λ ms. slice_get ms at) same) ∙ none

-- past its end a list has nothing
past_all : (members : List ℕ) (next : ℕ) → slice_get members next ≡ None → length members ≤ next
past_all members next none = elim (slice_get_cases members next).1 [ inl s ↦ absurd (none-some s.0 (sym none ∙ s.2)) | inr s ↦ s.0 ]

module _ (p : Program) (formed : IsWellFormed p) (valid : IsValid p) (c : Columns) (limit units : ℕ) where
  module _ (r : Run) (run : RunStands p limit r) (frames : FramesStand p r) (now : AskedStands p r) where
    finish_within : (t : ℕ) → IsSome (finish_of r.journal.tasks t) → t ≤ length r.journal.rows
    finish_within t some = by (by_number r.journal.tasks t) refl some
      where
        by : (o : Option TaskRow) → by_number r.journal.tasks t ≡ o → IsSome (finish_in o) → t ≤ length r.journal.rows
        by None there h = absurd (false≢true h)
        by (Some task) there h = let within = number_within r.journal.tasks t task there in omega (arith, within.1, run.numbers.beside.of_tasks)

    rows_few : (n : ℕ) (row : ActivationRow) → by_number r.journal.rows n ≡ Some row → row.task ≤ length r.journal.rows
    rows_few n row there = let within = number_within r.journal.rows n row there in omega (arith, within.1, (run.numbers.of_tasks n row there).first)

    -- a line that asks for a block without `retry`, and one that asks for a number
    asked_block : (t n to : ℕ) (q : FrameOf ℕ) (request : Request) → RunsAt r t n (OfKind q) → Asks p c q request to false → AskedForBlock p r.calls t
    asked_block t n to q request runs how =
        let asked = is_asked p formed valid c limit r run frames t n to q request false runs how in
        record { frame = q; instr = asked.instr; stands = asked.stands; wanted = ap is_some asked.class; no_retry = asked.no_retry refl }

    asked_number : (t n to : ℕ) (q : FrameOf ℕ) (request : Request) (retry : Bool) → RunsAt r t n (OfKind q) → Asks p c q request to retry → AskedForNumber p r.journal.rows r.calls t
    asked_number t n to q request retry runs how =
        let asked = is_asked p formed valid c limit r run frames t n to q request retry runs how in AskedForNumber.by_line q asked.instr asked.stands asked.number

    -- so does a renewal
    renews_number : (t n : ℕ) (body to : Body) (after : Option ℕ) (priority : Priority) (notes : Notes) → RunsAt r t n body → Renews p c units r n body to after priority notes → AskedForNumber p r.journal.rows r.calls t
    renews_number t n _ _ _ _ _ runs (Renews.again q line target waits there e) =
        let (priority, is_again) = shape_of c line.instr q (Respawns target waits) e in
        AskedForNumber.by_line q line.instr (stands_there p formed valid c limit r run frames t n q runs line there) (subst AsksForNumber (sym is_again) tt)
    renews_number t n _ _ _ _ _ runs (Renews.retries q request to how none) = asked_number t n to q request true runs how
    renews_number t n _ _ _ _ _ runs (Renews.behind members next u e) =
        AskedForNumber.by_member members (frames.gathers t next members runs.has) (omega (arith, now.under_way t next members runs.has, slice_get_within members next u e))

    -- the number that it draws was asked for
    renews_again : (t n : ℕ) (body to : Body) (after : Option ℕ) (priority : Priority) (notes : Notes) → RunsAt r t n body → Renews p c units r n body to after priority notes
        → IsAskedAgain p r.journal.rows r.calls (length r.journal.rows) t after
    renews_again t n _ _ _ _ _ runs (Renews.again q line target waits there e) =
        let (priority, is_again) = shape_of c line.instr q (Respawns target waits) e in
        let seat = (running_stands p r run.numbers (tasks_of p r frames) t n (OfKind q) runs).seat in
        IsAskedAgain.by_line q line.instr (stands_there p formed valid c limit r run frames t n q runs line there)
        (subst (λ instr. AsksAgain q instr (task_waited q waits)) (sym is_again) (refl, again_names p formed valid c r runs.row.after q seat line there target waits e))
    renews_again t n _ _ _ _ _ runs (Renews.retries q request to how none) =
        let asked = is_asked p formed valid c limit r run frames t n to q request true runs how in IsAskedAgain.by_line q asked.instr asked.stands (asked.asks_again refl)
    renews_again t n _ _ _ _ _ runs (Renews.behind members next u e) =
        IsAskedAgain.by_member members u (frames.gathers t next members runs.has) refl (ap (slice_get members) (now.under_way t next members runs.has) ∙ e)

    -- an aggregate that goes on has come to one member more
    renews_way : (t n : ℕ) (body to : Body) (after : Option ℕ) (priority : Priority) (notes : Notes) → RunsAt r t n body → Renews p c units r n body to after priority notes
        → (next : ℕ) (members : List ℕ) → to ≡ OfMembers members next → numbers_of t r.journal.rows + 1 ≡ next
    renews_way t n _ _ _ _ _ runs (Renews.again q line target waits there e) next members is = absurd (cc is)
    renews_way t n _ _ _ _ _ runs (Renews.retries q request to how none) next members is = absurd (cc is)
    renews_way t n _ _ _ _ _ runs (Renews.behind others at u e) next members is =
        let place : at + 1 ≡ next = cc in omega (arith, place, now.under_way t at others runs.has)

    -- beside a refusal
    refuses_null : (t n : ℕ) (body : Body) (tag : CutTag) (notes : Notes) → RunsAt r t n body → Refuses p c units r n body tag notes → cause_of_cut tag ≡ cause.Null → AskedForBlock p r.calls t
    refuses_null t n _ _ _ runs (Refuses.no_block q request to how none) e = asked_block t n to q request runs how
    refuses_null t n _ _ _ runs (Refuses.no_number q request to retry block how placed none) e = absurd (cc e)
    refuses_null t n _ _ _ runs (Refuses.no_renewal body to after priority notes how none) e = absurd (cc e)

    refuses_limit : (t n : ℕ) (body : Body) (tag : CutTag) (notes : Notes) → RunsAt r t n body → Refuses p c units r n body tag notes → cause_of_cut tag ≡ cause.Limit → AskedForNumber p r.journal.rows r.calls t
    refuses_limit t n _ _ _ runs (Refuses.no_block q request to how none) e = absurd (cc e)
    refuses_limit t n _ _ _ runs (Refuses.no_number q request to retry block how placed none) e = asked_number t n to q request retry runs how
    refuses_limit t n _ _ _ runs (Refuses.no_renewal body to after priority notes how none) e = renews_number t n body to after priority notes runs how

    -- an aggregate that gives a value has come to all of its members
    gives_all : (t n : ℕ) (body : Body) (v : Value) → RunsAt r t n body → Answers p c r body v → (members : List ℕ) → by_number r.calls t ≡ Some (OfAll members) → numbers_of t r.journal.rows ≡ length members
    gives_all t n body v runs answers members call =
        let (next, is, some, few) = frames.gathered t members body call runs.has in
        omega (arith, few, past_all members next (ends_after p c r body v members next answers is), now.under_way t next members (runs.has ∙ ap Some is))

    -- a task ends
    asked_ends : (j : JournalState) (t : ℕ) (why : Cause) (bodies' : List (Option Body)) → j.tasks ≡ r.journal.tasks → length j.rows ≡ length r.journal.rows → GrowsFrom r.journal (with_finished j t why) → 1 ≤ t → t ≤ length r.journal.rows
        → ((u next : ℕ) (members : List ℕ) → found bodies' u ≡ Some (OfMembers members next) → found r.bodies u ≡ Some (OfMembers members next))
        → (why ≡ cause.Null → AskedForBlock p r.calls t) → (why ≡ cause.Limit → AskedForNumber p r.journal.rows r.calls t)
        → (why ≡ cause.Clear → (members : List ℕ) → by_number r.calls t ≡ Some (OfAll members) → numbers_of t r.journal.rows ≡ length members) → Asked p (with_finished j t why) r.calls bodies'
    asked_ends j t why bodies' same_tasks many grows some within ways null limited all =
        asked_stays p r.journal (with_finished j t why) r.calls r.bodies bodies' now grows many run.numbers.beside.of_calls
        (λ u e. ⊎_elim (λ same. inr (subst (AskedForBlock p r.calls) (sym same) (null (sym (here u same) ∙ e)))) (λ differ. inl (sym (other u differ) ∙ e)) (cases_eq u t))
        (λ u e. ⊎_elim (λ same. inr (subst (AskedForNumber p r.journal.rows r.calls) (sym same) (limited (sym (here u same) ∙ e)))) (λ differ. inl (sym (other u differ) ∙ e)) (cases_eq u t))
        ways
        (λ u members call finished e. ⊎_elim
        (λ same. inr (ap (λ k. numbers_of k r.journal.rows) same ∙ all (sym (here u same) ∙ e) members (ap (by_number r.calls) (sym same) ∙ call)))
        (λ differ. inl (sym (ap is_some (finish_other j.tasks t (j.stamps + 1) why some few u differ ∙ ap (λ ts. finish_of ts u) same_tasks)) ∙ finished, sym (other u differ) ∙ e)) (cases_eq u t))
      where
        few : t ≤ length j.tasks
        few = let size : length j.tasks ≡ length r.journal.tasks = ap length same_tasks in omega (arith, within, run.numbers.beside.of_tasks, size)

        here : (u : ℕ) → u ≡ t → cause_of (with_finished j t why).tasks u ≡ why
        here u same = cause_here j.tasks t (j.stamps + 1) why some few u same

        other : (u : ℕ) → u ≢ t → cause_of (with_finished j t why).tasks u ≡ cause_of r.journal.tasks u
        other u differ = cause_other j.tasks t (j.stamps + 1) why some few u differ ∙ ap (λ ts. cause_of ts u) same_tasks

    -- where a body is given up, the others stand
    given_up : (t : ℕ) → 1 ≤ t → t ≤ length r.journal.rows → (u next : ℕ) (members : List ℕ) → found (put_number r.bodies t None) u ≡ Some (OfMembers members next) → found r.bodies u ≡ Some (OfMembers members next)
    given_up t some within u next members e =
        ⊎_elim
        (λ same. absurd (none-some (OfMembers members next) (sym (found_put r.bodies t None some (omega (arith, within, run.numbers.beside.of_bodies))) ∙ ap (found (put_number r.bodies t None)) (sym same) ∙ e)))
        (λ differ. sym (found_put_other r.bodies t u None differ) ∙ e) (cases_eq u t)

  -- each move keeps that further numbers and refusals were asked for
  pub asked_move : (r s : Run) → RunStands p limit r → FramesStand p r → AskedStands p r → Move p c units r s → AskedStands p s
  asked_move r s run frames now (Move.goes_on t n q next runs goes) = record {
    again = now.again;
    null = now.null;
    limit = now.limit;
    under_way = λ u at members e. now.under_way u at members (⊎_elim
        (λ same. let within = running_within r [] run.numbers t n (OfKind q) runs in
        absurd (no_members (found (put_number r.bodies t (Some (OfKind next))) t) next members at
        (found_put r.bodies t (Some (OfKind next)) within.0 (omega (arith, within.1, run.numbers.beside.of_bodies))) (ap (found (put_number r.bodies t (Some (OfKind next)))) (sym same) ∙ e)))
        (λ differ. sym (found_put_other r.bodies t u (Some (OfKind next)) differ) ∙ e) (cases_eq u t));
    gathered = now.gathered;
  }
  asked_move r _ run frames now (Move.spawned t n to q request retry block runs asks placed some) =
      let then = set_future q to (Some (next_number r.journal)) in
      arrives_asked p (with_body (accepts units r request block) t (OfKind then)) (next_number r.journal) request.after
      (let drawn = asked_drawn p r.journal r.calls r.bodies now run.outcomes.open_ run.numbers.beside.of_calls (finish_within r run frames now) None request.after request.call
      (λ u finished same. omega (arith, same, finish_within r run frames now u finished))
      (put_number (r.bodies ++ Some request.body ∷ []) t (Some (OfKind then)))
      (λ u other e. absurd (asks_no_respawn request to retry u other asks e)) ways in
      record { again = drawn.again; null = drawn.null; limit = drawn.limit; under_way = drawn.under_way; gathered = drawn.gathered })
    where
      then : FrameOf ℕ
      then = set_future q to (Some (next_number r.journal))

      asks_no_respawn : (asked : Request) (x : ℕ) (tries : Bool) (u : ℕ) (other : Option ℕ) → Asks p c q asked x tries → asked.call ≡ Respawn u other → ⊥
      asks_no_respawn _ _ _ u other (Asks.calls line y call waits there e) is = cc is
      asks_no_respawn _ _ _ u other (Asks.gathers line y members there e) is = cc is

      -- a new aggregate is behind its first member
      first_member : (asked : Request) (x : ℕ) (tries : Bool) (next : ℕ) (members : List ℕ) → Asks p c q asked x tries → Some asked.body ≡ Some (OfMembers members next) → next ≡ 1
      first_member _ _ _ next members (Asks.calls line y call waits there e) is = absurd (cc is)
      first_member _ _ _ next members (Asks.gathers line y others there e) is = cc is

      ways : (u next : ℕ) (members : List ℕ) → found (put_number (r.bodies ++ Some request.body ∷ []) t (Some (OfKind then))) u ≡ Some (OfMembers members next) → numbers_of u (with_accepted r.journal None request.after).rows ≡ next
      ways u next members e =
          ⊎_elim
          (λ same. absurd (no_members (found (put_number (r.bodies ++ Some request.body ∷ []) t (Some (OfKind then))) t) then members next
          (found_put (r.bodies ++ Some request.body ∷ []) t (Some (OfKind then)) within.0 (omega (arith, within.1, run.numbers.beside.of_bodies, length_snoc r.bodies (Some request.body))))
          (ap (found (put_number (r.bodies ++ Some request.body ∷ []) t (Some (OfKind then)))) (sym same) ∙ e)))
          (λ differ. ⊎_elim
          (λ old. let few = found_within r.bodies u (OfMembers members next) old in
          omega (arith, one_more_of r.journal.rows row u, of_other u row (λ is. omega (arith, is, few.1, run.numbers.beside.of_bodies)), now.under_way u next members old))
          (λ new. let number : u ≡ next_number r.journal = omega (arith, new.0, run.numbers.beside.of_bodies) in
          let none : numbers_of u r.journal.rows ≡ 0 = ap (λ k. numbers_of k r.journal.rows) number ∙ none_of_new r.journal.rows (rows_few r run frames now) in
          omega (arith, one_more_of r.journal.rows row u, of_this u row (sym number), none, first_member request to retry next members asks new.1))
          (found_cases r.bodies (Some request.body) u (OfMembers members next) (sym (found_put_other (r.bodies ++ Some request.body ∷ []) t u (Some (OfKind then)) differ) ∙ e)))
          (cases_eq u t)
        where
          row : ActivationRow
          row = record { task = next_number r.journal; after = request.after; start = None }

          within : (1 ≤ t) × (t ≤ length r.journal.rows)
          within = running_within r [] run.numbers t n (OfKind q) runs
  asked_move r _ run frames now (Move.respawned t n body to after priority notes runs renews some) =
      arrives_asked p (with_body (record (draws (with_notes r notes) (Some t) after priority (Respawn t after) None None) { running = None }) t to) (next_number r.journal) after
      (let drawn = asked_drawn p r.journal r.calls r.bodies now run.outcomes.open_ run.numbers.beside.of_calls (finish_within r run frames now) (Some t) after (Respawn t after)
      (λ u finished same. false≢true (sym (ap is_some (ap (finish_of r.journal.tasks) (sym same) ∙ running_open r [] run.numbers t n body runs)) ∙ finished))
      (put_number (r.bodies ++ None ∷ []) t (Some to)) new ways in
      record { again = drawn.again; null = drawn.null; limit = drawn.limit; under_way = drawn.under_way; gathered = drawn.gathered })
    where
      row : ActivationRow
      row = record { task = t; after = after; start = None }

      within : (1 ≤ t) × (t ≤ length r.journal.rows)
      within = running_within r [] run.numbers t n body runs

      new : (u : ℕ) (other : Option ℕ) → Respawn t after ≡ Respawn u other → IsAskedAgain p (with_accepted r.journal (Some t) after).rows (r.calls ++ Respawn t after ∷ []) (length r.calls) u other
      new u other e =
          let same : t ≡ u = cc in let behind : after ≡ other = cc in
          let asked = again_still p r.journal.rows (with_accepted r.journal (Some t) after).rows r.calls (r.calls ++ Respawn t after ∷ []) (λ k call is. snoc_old r.calls (Respawn t after) k call is) (length r.journal.rows) t after
          (numbers_stay r.journal (with_accepted r.journal (Some t) after) (accept-tells r.journal (Some t) after).grows t (length r.journal.rows) (omega arith))
          (renews_again r run frames now t n body to after priority notes runs renews) in
          subst (λ m. IsAskedAgain p (with_accepted r.journal (Some t) after).rows (r.calls ++ Respawn t after ∷ []) m u other) (sym run.numbers.beside.of_calls)
          (subst (λ o. IsAskedAgain p (with_accepted r.journal (Some t) after).rows (r.calls ++ Respawn t after ∷ []) (length r.journal.rows) u o) behind
          (subst (λ k. IsAskedAgain p (with_accepted r.journal (Some t) after).rows (r.calls ++ Respawn t after ∷ []) (length r.journal.rows) k after) same asked))

      ways : (u next : ℕ) (members : List ℕ) → found (put_number (r.bodies ++ None ∷ []) t (Some to)) u ≡ Some (OfMembers members next) → numbers_of u (with_accepted r.journal (Some t) after).rows ≡ next
      ways u next members e =
          ⊎_elim
          (λ same.
          let is : to ≡ OfMembers members next = same_Some to (OfMembers members next)
          (sym (found_put (r.bodies ++ None ∷ []) t (Some to) within.0 (omega (arith, within.1, run.numbers.beside.of_bodies, length_snoc r.bodies None))) ∙ ap (found (put_number (r.bodies ++ None ∷ []) t (Some to))) (sym same) ∙ e) in
          let now_many : numbers_of u r.journal.rows ≡ numbers_of t r.journal.rows = ap (λ k. numbers_of k r.journal.rows) same in
          omega (arith, one_more_of r.journal.rows row u, of_this u row (sym same), now_many, renews_way r run frames now t n body to after priority notes runs renews next members is))
          (λ differ. ⊎_elim
          (λ old. omega (arith, one_more_of r.journal.rows row u, of_other u row (λ is. differ (sym is)), now.under_way u next members old))
          (λ fresh. absurd (none-some (OfMembers members next) fresh.1))
          (found_cases r.bodies None u (OfMembers members next) (sym (found_put_other (r.bodies ++ None ∷ []) t u (Some to) differ) ∙ e)))
          (cases_eq u t)
  asked_move r s run frames now (Move.gave t n body v runs answers) =
      let grows = move_grows p c limit units r s run (Move.gave t n body v runs answers) in
      let within = running_within r [] run.numbers t n body runs in
      let done = asked_ends r run frames now r.journal t cause.Clear (put_number r.bodies t None) refl refl grows within.0 within.1 (given_up r run frames now t within.0 within.1)
      (λ e. absurd (cc e)) (λ e. absurd (cc e)) (λ e. gives_all r run frames now t n body v runs answers) in
      record { again = done.again; null = done.null; limit = done.limit; under_way = done.under_way; gathered = done.gathered }
  asked_move r s run frames now (Move.refused t n body tag notes runs refuses) =
      let grows = move_grows p c limit units r s run (Move.refused t n body tag notes runs refuses) in
      let within = running_within r [] run.numbers t n body runs in
      let done = asked_ends r run frames now r.journal t (cause_of_cut tag) (put_number r.bodies t None) refl refl grows within.0 within.1 (given_up r run frames now t within.0 within.1)
      (refuses_null r run frames now t n body tag notes runs refuses) (refuses_limit r run frames now t n body tag notes runs refuses) (λ e. absurd (cut_of tag e)) in
      record { again = done.again; null = done.null; limit = done.limit; under_way = done.under_way; gathered = done.gathered }
    where
      cut_of : (tag : CutTag) → cause_of_cut tag ≡ cause.Clear → ⊥
      cut_of Null e = cc e
      cut_of Limit e = cc e
  asked_move r s run frames now (Move.started n left idle next uncut) =
      let grows = move_grows p c limit units r s run (Move.started n left idle next uncut) in
      let done = asked_stays p r.journal s.journal r.calls r.bodies r.bodies now grows (as_many_begun r.journal n) run.numbers.beside.of_calls (λ t e. inl e) (λ t e. inl e) (λ t at members e. e)
      (λ t members call finished e. inl (finished, e)) in
      record { again = done.again; null = done.null; limit = done.limit; under_way = done.under_way; gathered = done.gathered }
  asked_move r s run frames now (Move.cut_at_start n left row u tag idle next is_row after cut) =
      let grows = move_grows p c limit units r s run (Move.cut_at_start n left row u tag idle next is_row after cut) in
      let within = task_within r.journal.rows row.task (run.numbers.of_tasks n row is_row).of_task in
      let done = asked_ends r run frames now (begins r n left).journal row.task (cause.By u) (put_number r.bodies row.task None) refl (as_many_begun r.journal n) grows within.0 within.1 (given_up r run frames now row.task within.0 within.1)
      (λ e. absurd (cc e)) (λ e. absurd (cc e)) (λ e. absurd (cc e)) in
      record { again = done.again; null = done.null; limit = done.limit; under_way = done.under_way; gathered = done.gathered }

-- before the first root nothing was asked for
pub asked_first : (p : Program) (plan : RunPlan) → AskedStands p (at_first plan)
asked_first p plan = record {
  again = λ before t after e. absurd (none-some (Respawn t after) e);
  null = λ t e. absurd (null_cuts (sym e ∙ ap Rattle.record_core.specs.Journal.cause_in (none_of_empty t)));
  limit = λ t e. absurd (limit_cuts (sym e ∙ ap Rattle.record_core.specs.Journal.cause_in (none_of_empty t)));
  under_way = λ t next members e. absurd (none-some (OfMembers members next) (sym (ap flat (none_of_empty t)) ∙ e));
  gathered = λ t members call. absurd (none-some (OfAll members) (sym (none_of_empty t) ∙ call));
}

-- a root's move keeps it
pub asked_root : (p : Program) (limit units : ℕ) (r s : Run) (root : RootLine) → RunStands p limit r → AskedStands p r → RootMove p units r root s → AskedStands p s
asked_root p limit units r _ root run now (RootMove.named block free placed some) =
    let request = root_request p r root in
    arrives_asked p (with_root (accepts units r request block) (Named (next_number r.journal))) (next_number r.journal) request.after
    (let drawn = asked_drawn p r.journal r.calls r.bodies now run.outcomes.open_ run.numbers.beside.of_calls within None request.after request.call
    (λ u finished same. omega (arith, same, within u finished)) (r.bodies ++ Some request.body ∷ []) (λ u other e. absurd (cc e)) ways in
    record { again = drawn.again; null = drawn.null; limit = drawn.limit; under_way = drawn.under_way; gathered = drawn.gathered })
  where
    row : ActivationRow
    row = record { task = next_number r.journal; after = (root_request p r root).after; start = None }

    within : (t : ℕ) → IsSome (finish_of r.journal.tasks t) → t ≤ length r.journal.rows
    within t some = by (by_number r.journal.tasks t) refl some
      where
        by : (o : Option TaskRow) → by_number r.journal.tasks t ≡ o → IsSome (finish_in o) → t ≤ length r.journal.rows
        by None there h = absurd (false≢true h)
        by (Some task) there h = let fits = number_within r.journal.tasks t task there in omega (arith, fits.1, run.numbers.beside.of_tasks)

    ways : (u next : ℕ) (members : List ℕ) → found (r.bodies ++ Some (root_request p r root).body ∷ []) u ≡ Some (OfMembers members next) → numbers_of u (with_accepted r.journal None (root_request p r root).after).rows ≡ next
    ways u next members e =
        ⊎_elim
        (λ old. let few = found_within r.bodies u (OfMembers members next) old in
        omega (arith, one_more_of r.journal.rows row u, of_other u row (λ is. omega (arith, is, few.1, run.numbers.beside.of_bodies)), now.under_way u next members old))
        (λ new. absurd (cc (new.1)))
        (found_cases r.bodies (Some (root_request p r root).body) u (OfMembers members next) e)
asked_root p limit units r _ root run now (RootMove.refused tag notes free how) = record { again = now.again; null = now.null; limit = now.limit; under_way = now.under_way; gathered = now.gathered }
asked_root p limit units r _ root run now (RootMove.skipped first e) = record { again = now.again; null = now.null; limit = now.limit; under_way = now.under_way; gathered = now.gathered }
