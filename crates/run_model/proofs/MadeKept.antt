-- Where what stands stays, it stays who made the tasks, which activation is a cut task's last, and of which block the
-- evidence is.
use Rattle.std.proofs.Common.{◌≡◌, ◌⊎◌, ℕ, suc, ◌+◌, ◌<◌, ◌≤◌, true, Option, Some, None, List, length, slice_get, refl, sym, ◌∙◌, ap, subst, inl, inr, ⊎_elim, arith}
use Rattle.std.specs.Prelude.{IsSome}
use Rattle.std.specs.Option.{is_some}
use Rattle.std.proofs.lemmas.Bool.{cases_eq, false≢true}
use Rattle.std.proofs.lemmas.Option.{none-some, same_Some}
use Rattle.task_syntax.specs.declared.instr.Instr.{Instr}
use Rattle.task_syntax.specs.declared.program.Program.{Program}
use Rattle.task_meaning.specs.Frame.{FrameOf}
use Rattle.task_meaning.specs.Worths.{Accepted, OfCall}
use Rattle.record_core.specs.Numbers.{by_number, found, HasTask}
use Rattle.record_core.specs.Journal.{JournalState, task_or, with_accepted, with_begun, with_finished, start_in, start_of, finish_of, cause_of, is_cut, Starts, Finishes, IsJournal}
use Rattle.record_core.specs.JournalLaws.{GrowsFrom}
use Rattle.record_core.specs.EndAsks.{HasInstr, StandsAt}
use Rattle.record_core.specs.EndCalls.{MayMake}
use Rattle.record_core.specs.EndFaithful.{IsLastOf}
use Rattle.record_core.specs.declared.rows.ActivationRow.{ActivationRow}
use Rattle.record_core.specs.declared.rows.Cause.{Cause}
use Rattle.record_core.specs.declared.rows.Cause.TheVariants as cause
use Rattle.run_model.specs.State.{Outcome, RootWord, Named, Evidence, Run}
use Rattle.run_model.specs.Step.{arrives, waits_or_queues}
use Rattle.run_model.proofs.ByNumber.{has_some, number_within, snoc_cases}
use Rattle.run_model.proofs.LiveFacts.{task_within, one_started}
use Rattle.run_model.proofs.MadeInvariant.{Asker, Askers, IsNamed, IsMadeAs, IsMadeNow, IsRefused, MadeStands}
use Rattle.run_model.proofs.RunStands.{RunStands}

-- What the row of a number was before: the same, without a start, or nothing; a new number is of a new task or of one that
-- has not finished.
pub data RowWas (j k : JournalState) (n : ℕ) (row : ActivationRow) : Type 0 where
  stood : by_number j.rows n ≡ Some row → RowWas j k n row
  starts : (was : ActivationRow) → by_number j.rows n ≡ Some was → was.start ≡ None → row.task ≡ was.task → row.after ≡ was.after → row.start ≡ Some (j.stamps + 1)
      → length k.rows ≡ length j.rows → RowWas j k n row
  drawn : n ≡ suc (length j.rows) → row.start ≡ None → (row.task ≡ n) ⊎ (finish_of j.tasks row.task ≡ None) → RowWas j k n row

-- what stands before a move still stands after it, and rows are new as above
pub record Goes (j k : JournalState) (calls calls' : List Accepted) (roots roots' : List RootWord) : Type 0 where
  pub grows : GrowsFrom j k
  pub was : (n : ℕ) (row : ActivationRow) → by_number k.rows n ≡ Some row → RowWas j k n row
  pub calls_stay : (n : ℕ) (call : Accepted) → by_number calls n ≡ Some call → by_number calls' n ≡ Some call
  pub roots_stay : (at : ℕ) (word : RootWord) → slice_get roots at ≡ Some word → slice_get roots' at ≡ Some word
  pub named_was : (t : ℕ) → t ≤ length j.rows → IsNamed roots' t → IsNamed roots t

-- a start is written in a row
start_row : (rows : List ActivationRow) (t s : ℕ) → start_of rows t ≡ Some s → (row : ActivationRow) × (by_number rows t ≡ Some row) × (row.start ≡ Some s)
start_row rows t s e = by (by_number rows t) refl e
  where
    by : (o : Option ActivationRow) → by_number rows t ≡ o → start_in o ≡ Some s → (row : ActivationRow) × (by_number rows t ≡ Some row) × (row.start ≡ Some s)
    by None f g = absurd (none-some s g)
    by (Some row) f g = (row, f, g)

-- a journal after each of its calls
pub accepted_was : (j : JournalState) (task after : Option ℕ) → (task ≡ None) ⊎ (finish_of j.tasks (task_or task (suc (length j.rows))) ≡ None)
    → (n : ℕ) (row : ActivationRow) → by_number (with_accepted j task after).rows n ≡ Some row → RowWas j (with_accepted j task after) n row
accepted_was j task after open_ n row there =
    ⊎_elim (λ old. RowWas.stood old)
    (λ new. RowWas.drawn new.0 (ap (λ (x : ActivationRow). x.start) new.1) (⊎_elim
    (λ none. inl (ap (λ (x : ActivationRow). x.task) new.1 ∙ ap (λ o. task_or o (suc (length j.rows))) none ∙ sym new.0))
    (λ unfinished. inr (ap (λ (x : ActivationRow). finish_of j.tasks x.task) new.1 ∙ unfinished))
    open_))
    (snoc_cases j.rows (record { task = task_or task (suc (length j.rows)); after = after; start = None }) n row there)

pub begun_was : (j : JournalState) (m : ℕ) (first : ActivationRow) → by_number j.rows m ≡ Some first → first.start ≡ None → length (with_begun j m).rows ≡ length j.rows
    → (n : ℕ) (row : ActivationRow) → by_number (with_begun j m).rows n ≡ Some row → RowWas j (with_begun j m) n row
begun_was j m first there waits many n row is_row =
    let started = one_started j.rows m (j.stamps + 1) first there in
    ⊎_elim
    (λ same.
    let is : record first { start = Some (j.stamps + 1) } ≡ row = same_Some (record first { start = Some (j.stamps + 1) }) row (sym started.here ∙ sym (ap (by_number (with_begun j m).rows) same) ∙ is_row) in
    RowWas.starts first (ap (by_number j.rows) same ∙ there) waits (sym (ap (λ (x : ActivationRow). x.task) is)) (sym (ap (λ (x : ActivationRow). x.after) is)) (sym (ap (λ (x : ActivationRow). x.start) is)) many)
    (λ differ. RowWas.stood (sym (started.others n differ) ∙ is_row))
    (cases_eq n m)

pub finished_was : (j k : JournalState) (t : ℕ) (why : Cause) → ((n : ℕ) (row : ActivationRow) → by_number k.rows n ≡ Some row → RowWas j k n row)
    → (n : ℕ) (row : ActivationRow) → by_number (with_finished k t why).rows n ≡ Some row → RowWas j (with_finished k t why) n row
finished_was j k t why was n row there = by (was n row there)
  where
    by : RowWas j k n row → RowWas j (with_finished k t why) n row
    by (RowWas.stood e) = RowWas.stood e
    by (RowWas.starts old e waits task after start many) = RowWas.starts old e waits task after start many
    by (RowWas.drawn e waits open_) = RowWas.drawn e waits open_

module _ (p : Program) (j k : JournalState) (calls calls' : List Accepted) (roots roots' : List RootWord) (journal : IsJournal j) (goes : Goes j k calls calls' roots roots') where
  -- the row of an activation that had started stays
  stays : (n : ℕ) (row : ActivationRow) → by_number j.rows n ≡ Some row → IsSome row.start → by_number k.rows n ≡ Some row
  stays n row there started =
      let (start, then) = goes.grows.rows n row there in
      let (q, is_start) = has_some row.start started in
      let again : start_of k.rows n ≡ Some q = goes.grows.stamps (Starts n) q (ap start_in there ∙ is_start) in
      let same : start ≡ row.start = sym (ap start_in then) ∙ again ∙ sym is_start in
      subst (λ (o : Option ℕ). by_number k.rows n ≡ Some (record row { start = o })) same then

  -- a cause of a finished task stays
  cause_stays : (t : ℕ) → IsSome (finish_of j.tasks t) → cause_of k.tasks t ≡ cause_of j.tasks t
  cause_stays t finished = let (f, is) = has_some (finish_of j.tasks t) finished in goes.grows.causes t f is

  finish_stays : (t : ℕ) → IsSome (finish_of j.tasks t) → IsSome (finish_of k.tasks t)
  finish_stays t finished = let (f, is) = has_some (finish_of j.tasks t) finished in ap is_some (goes.grows.stamps (Finishes t) f is)

  has_stays : (t : ℕ) (instr : Instr) → HasInstr p calls t instr → HasInstr p calls' t instr
  has_stays t instr has = record { call = has.call; waits = has.waits; is_call = goes.calls_stay t (OfCall has.call has.waits) has.is_call; in_kind = has.in_kind }

  -- where a task stands at a line, it has the call still
  pub stands_stays : (t : ℕ) (q : FrameOf ℕ) (instr : Instr) → StandsAt p calls t q instr → StandsAt p calls' t q instr
  stands_stays t q instr stands = record {
    call = stands.call;
    waits = stands.waits;
    is_call = goes.calls_stay t (OfCall stands.call stands.waits) stands.is_call;
    of_kind = stands.of_kind;
    line = stands.line;
    there = stands.there;
    is = stands.is;
  }

  -- whoever may have made a task, still may
  maker_stays : (t n : ℕ) (q : FrameOf ℕ) → t ≤ length j.rows → MayMake p j.rows calls t n q → MayMake p k.rows calls' t n q
  maker_stays t n q within maker = record {
    row = maker.row;
    there = stays n maker.row maker.there maker.begun;
    instr = maker.instr;
    stands = stands_stays maker.row.task q maker.instr maker.stands;
    made = maker.made;
    is_made = goes.calls_stay t maker.made maker.is_made;
    asks = maker.asks;
    drawn = maker.drawn;
    begun = maker.begun;
    before = before;
    next = λ m other there same later. next m other same later (goes.was m other there);
  }
    where
      next : (m : ℕ) (other : ActivationRow) → other.task ≡ maker.row.task → n < m → RowWas j k m other → t < m
      next m other same later (RowWas.stood e) = maker.next m other e same later
      next m other same later (RowWas.starts was e waits task after start many) = maker.next m was e (sym task ∙ same) later
      next m other same later (RowWas.drawn e waits open_) = omega (arith, e, within)

      before_by : (s b : ℕ) (row : ActivationRow) → maker.row.start ≡ Some b → row.start ≡ Some s → RowWas j k t row → (b : ℕ) × (maker.row.start ≡ Some b) × (b < s)
      before_by s b row is_start written (RowWas.stood e) = maker.before s (ap start_in e ∙ written)
      before_by s b row is_start written (RowWas.starts was e waits task after start many) =
          let before_now = (journal.stamped.within (Starts n) b (ap start_in maker.there ∙ is_start)).1 in
          let same : j.stamps + 1 ≡ s = same_Some (j.stamps + 1) s (sym start ∙ written) in
          (b, is_start, omega (arith, before_now, same))
      before_by s b row is_start written (RowWas.drawn e waits open_) = absurd (none-some s (sym waits ∙ written))

      before : (s : ℕ) → start_of k.rows t ≡ Some s → (b : ℕ) × (maker.row.start ≡ Some b) × (b < s)
      before s e =
          let (row, there, written) = start_row k.rows t s e in
          let (b, is_start) = has_some maker.row.start maker.begun in
          before_by s b row is_start written (goes.was t row there)

  made_stays : (t n : ℕ) (q : FrameOf ℕ) → t ≤ length j.rows → IsMadeNow p j calls roots t n q → IsMadeNow p k calls' roots' t n q
  unfolding maker_stays
  made_stays t n q within made = record {
    not_named = λ named. made.not_named (goes.named_was t within named);
    maker = maker_stays t n q within made.maker;
    uncut = λ u after. let was = made.uncut u after in (finish_stays u was.0, cause_stays u was.0 ∙ was.1);
  }

  -- what was refused, stays refused
  pub refused_stays : ((t : ℕ) → finish_of j.tasks t ≡ None → cause_of j.tasks t ≡ cause.Clear) → (class : ℕ) → IsRefused p calls roots j.tasks class → IsRefused p calls' roots' k.tasks class
  refused_stays clear class (IsRefused.of_root at root line word is) = IsRefused.of_root at root line (goes.roots_stay at _ word) is
  refused_stays clear class (IsRefused.of_task t instr has is null) = IsRefused.of_task t instr (has_stays t instr has) is (cause_kept t (λ e. absurd (wrong (sym null ∙ clear t e))) ∙ null)
    where
      wrong : cause.Null ≡ cause.Clear → ⊥
      wrong e = cc

      cause_kept : (t : ℕ) → (finish_of j.tasks t ≡ None → ⊥) → cause_of k.tasks t ≡ cause_of j.tasks t
      cause_kept t finished = by (finish_of j.tasks t) refl
        where
          by : (o : Option ℕ) → finish_of j.tasks t ≡ o → cause_of k.tasks t ≡ cause_of j.tasks t
          by None e = absurd (finished e)
          by (Some f) e = goes.grows.causes t f e
  refused_stays clear class (IsRefused.again t instr has is retry on) = IsRefused.again t instr (has_stays t instr has) is retry (⊎_elim
      (λ further. inl (further.0, goes.calls_stay further.0 _ further.1))
      (λ limit. inr (kept (finish_of j.tasks t) refl limit))
      on)
    where
      wrong : cause.Limit ≡ cause.Clear → ⊥
      wrong e = cc

      kept : (o : Option ℕ) → finish_of j.tasks t ≡ o → cause_of j.tasks t ≡ cause.Limit → cause_of k.tasks t ≡ cause.Limit
      kept None e limit = absurd (wrong (sym limit ∙ clear t e))
      kept (Some f) e limit = goes.grows.causes t f e ∙ limit

  -- a cut activation stays its task's last
  pub last_stays : ((t : ℕ) → finish_of j.tasks t ≡ None → cause_of j.tasks t ≡ cause.Clear)
      → ((n u : ℕ) (row : ActivationRow) → by_number j.rows n ≡ Some row → IsSome row.start → row.after ≡ Some u → is_cut (cause_of j.tasks u) ≡ true → cause_of j.tasks row.task ≡ cause.By u)
      → ((n : ℕ) (row : ActivationRow) → by_number j.rows n ≡ Some row → row.start ≡ None → IsLastOf j.rows row.task n)
      → ((n u : ℕ) (row : ActivationRow) → by_number j.rows n ≡ Some row → IsSome row.start → row.after ≡ Some u → is_cut (cause_of j.tasks u) ≡ true → IsLastOf j.rows row.task n)
      → (n u : ℕ) (row : ActivationRow) → by_number k.rows n ≡ Some row → IsSome row.start → row.after ≡ Some u → is_cut (cause_of k.tasks u) ≡ true → IsLastOf k.rows row.task n
  last_stays clear through live last n u row there started after cut m other further same = by_row (goes.was n row there)
    where
      begins : (was : ActivationRow) → by_number j.rows n ≡ Some was → was.start ≡ None → row.task ≡ was.task → length k.rows ≡ length j.rows → RowWas j k m other → m ≤ n
      begins was e waits task many (RowWas.stood f) = live n was e waits m other f (same ∙ task)
      begins was e waits task many (RowWas.starts b f waits' task' after' start' many') = live n was e waits m b f (sym task' ∙ same ∙ task)
      begins was e waits task many (RowWas.drawn f waits' open_) = absurd (omega (arith, f, many, (number_within k.rows m other further).1))

      as_before : by_number j.rows n ≡ Some row → is_cut (cause_of j.tasks u) ≡ true → RowWas j k m other → m ≤ n
      as_before e was_cut (RowWas.stood f) = last n u row e started after was_cut m other f same
      as_before e was_cut (RowWas.starts b f waits task after' start many) = last n u row e started after was_cut m b f (sym task ∙ same)
      as_before e was_cut (RowWas.drawn f waits (inl is)) = absurd (omega (arith, f, is, same, (task_within j.rows row.task (journal.of_tasks n row e).of_task).1))
      as_before e was_cut (RowWas.drawn f waits (inr unfinished)) =
          let open_ : finish_of j.tasks row.task ≡ None = ap (finish_of j.tasks) (sym same) ∙ unfinished in absurd (wrong (sym (clear row.task open_) ∙ through n u row e started after was_cut))
        where
          wrong : cause.Clear ≡ cause.By u → ⊥
          wrong h = cc

      by_row : RowWas j k n row → m ≤ n
      by_row (RowWas.stood e) =
          let (s, is_start) = has_some row.start started in
          let (f, is_finish, before) = journal.ordered.behind n u s row e after is_start in
          as_before e (sym (ap is_cut (cause_stays u (ap is_some is_finish))) ∙ cut) (goes.was m other further)
      by_row (RowWas.starts was e waits task after' start many) = begins was e waits task many (goes.was m other further)
      by_row (RowWas.drawn e waits open_) = absurd (false≢true (sym (ap is_some waits) ∙ started))

  -- each task that was there has its root or its maker still
  tasks_stay : (story story' : List (Option Asker)) → ((t : ℕ) (a : Asker) → found story t ≡ Some a → found story' t ≡ Some a)
      → ((t : ℕ) → HasTask j.rows t → IsNamed roots t ⊎ IsMadeAs p j calls roots story t) → ((t : ℕ) → HasTask k.rows t → length j.rows < t → IsNamed roots' t ⊎ IsMadeAs p k calls' roots' story' t)
      → (t : ℕ) → HasTask k.rows t → IsNamed roots' t ⊎ IsMadeAs p k calls' roots' story' t
  tasks_stay story story' told was further t (row, there, is) = by (goes.was t row there)
    where
      stay : HasTask j.rows t → IsNamed roots' t ⊎ IsMadeAs p k calls' roots' story' t
      stay task = ⊎_elim
          (λ named. inl (named.0, goes.roots_stay named.0 (Named t) named.1))
          (λ made. inr (made.0, told t made.0 made.1, made_stays t made.0.number made.0.frame (task_within j.rows t task).1 made.2))
          (was t task)

      by : RowWas j k t row → IsNamed roots' t ⊎ IsMadeAs p k calls' roots' story' t
      by (RowWas.stood e) = stay (row, e, is)
      by (RowWas.starts b e waits task after start many) = stay (b, e, sym task ∙ is)
      by (RowWas.drawn e waits open_) = further t (row, there, is) (omega (arith, e))

-- a move by which things stand still, or are new as is shown
pub made_goes : (p : Program) (limit : ℕ) (r s : Run) → RunStands p limit r → Goes r.journal s.journal r.calls s.calls r.roots s.roots
    → (made : MadeStands p r) (story : List (Option Asker)) → ((t : ℕ) (a : Asker) → found made.story t ≡ Some a → found story t ≡ Some a) → Askers story s.journal.rows s.bodies s.running
    → ((t : ℕ) → HasTask s.journal.rows t → length r.journal.rows < t → IsNamed s.roots t ⊎ IsMadeAs p s.journal s.calls s.roots story t)
    → ((e : Evidence) → s.evidence ≡ Some e → IsRefused p s.calls s.roots s.journal.tasks e.class) → MadeStands p s
made_goes p limit r s run goes made story told askers further refused = record {
  story = story;
  askers = askers;
  made = tasks_stay p r.journal s.journal r.calls s.calls r.roots s.roots run.journal.journal goes made.story story told made.made further;
  refused = refused;
}

-- an arrival changes nothing of this
pub arrives_made : (p : Program) (r : Run) (n : ℕ) (after : Option ℕ) → MadeStands p r → MadeStands p (arrives r n after)
arrives_made p r n None now = record { story = now.story; askers = now.askers; made = now.made; refused = now.refused }
arrives_made p r n (Some u) now = by (found r.outcomes u)
  where
    by : (o : Option Outcome) → MadeStands p (waits_or_queues o r n u)
    by None = record { story = now.story; askers = now.askers; made = now.made; refused = now.refused }
    by (Some outcome) = record { story = now.story; askers = now.askers; made = now.made; refused = now.refused }
