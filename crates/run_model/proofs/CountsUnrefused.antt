-- Counts stand at each step of a run of a valid program up to the first refusal, and a refusal stays seen.
use Rattle.std.proofs.Common.{◌≡◌, ◌≢◌, ℕ, zero, suc, ◌+◌, Option, Some, None, List, [], ◌∷◌, length, map, slice_get, refl, sym, ◌∙◌, ap, subst, arith}
use Rattle.std.proofs.lemmas.Option.{none-some, same_Some}
use Rattle.task_syntax.specs.Form.{IsWellFormed}
use Rattle.task_syntax.specs.Valid.{IsValid}
use Rattle.task_syntax.specs.declared.value.Priority.{Priority}
use Rattle.task_syntax.specs.declared.program.Root.{Root as RootLine}
use Rattle.task_syntax.specs.declared.program.Program.{Program}
use Rattle.task_syntax.specs.declared.columns.Columns.{Columns}
use Rattle.task_meaning.specs.Meant.{Counts}
use Rattle.task_meaning.specs.Frame.{set_future}
use Rattle.task_meaning.specs.Roots.{RootsCount}
use Rattle.frame_code.specs.Words.{OfKind}
use Rattle.record_core.specs.Journal.{next_number, finish_of, cause_of}
use Rattle.record_core.specs.JournalLaws.{GrowsFrom}
use Rattle.record_core.specs.EndSeen.{RunPlan}
use Rattle.record_core.specs.declared.rows.Cause.TheVariants as cause
use Rattle.record_core.specs.declared.rows.CutTag.{CutTag}
use Rattle.record_core.specs.declared.rows.CutTag.TheVariants.{Limit}
use Rattle.record_core.proofs.AcceptFacts.{accept-tells}
use Rattle.record_core.proofs.FinishFacts.{finished_tells}
use Rattle.run_model.specs.State.{Body, Named, Refused, Run}
use Rattle.run_model.specs.Step.{accepts, with_body, with_root, root_request, is_refused}
use Rattle.run_model.specs.Move.{Notes, with_notes, RunsAt, Renews, Refuses, RefusesRoot, Move, RootMove}
use Rattle.run_model.specs.End.{root_end, state_at}
use Rattle.run_model.specs.Laws.{CountsWhereNothingIsRefused, EndsCount}
use Rattle.run_model.proofs.ByNumber.{snoc_new, snoc_old}
use Rattle.run_model.proofs.Reached.{always, one_more_root}
use Rattle.run_model.proofs.RootCount.{move_same_roots}
use Rattle.run_model.proofs.JournalKept.{under_way, refusal_may}
use Rattle.run_model.proofs.JournalGrows.{grows_same, arrives_grows, move_grows}
use Rattle.run_model.proofs.FramesInvariant.{FramesStand}
use Rattle.run_model.proofs.FramesParts.{renewed_run}
use Rattle.run_model.proofs.FramesKept.{frames_first, frames_root, frames_move}
use Rattle.run_model.proofs.ValuesInvariant.{ValuesStand}
use Rattle.run_model.proofs.ValuesKept.{values_first, values_root, values_move}
use Rattle.run_model.proofs.RootsInvariant.{RootsStand}
use Rattle.run_model.proofs.RootsKept.{roots_first, roots_root, roots_move}
use Rattle.run_model.proofs.RunStands.{RunStands, run_first, run_root, run_move}
use Rattle.run_model.proofs.CountsInvariant.{CountsStand}
use Rattle.run_model.proofs.CountsKept.{nulls_arrives, counts_kept}
use Rattle.run_model.proofs.CountsRoots.{counts_first, root_kept}
use Rattle.run_model.proofs.CountsEnd.{complete}
use Rattle.run_model.proofs.EndLaws.{root_count, end_quiet}

-- so far nothing was refused
record Unrefused (r : Run) : Type 0 where
  no_null : r.nulls ≡ 0
  no_task : (t : ℕ) → cause_of r.journal.tasks t ≢ cause.Limit
  no_root : (at : ℕ) → slice_get r.roots at ≢ Some (Refused Limit)

-- a task without a cause did not meet the limit
clear_limit : cause.Clear ≡ cause.Limit → ⊥
clear_limit e = cc

-- where no null is noted after a renewal, none was before
renews_nulls : (p : Program) (c : Columns) (units : ℕ) (r : Run) (n : ℕ) (body to : Body) (after : Option ℕ) (priority : Priority) (notes : Notes) → Renews p c units r n body to after priority notes
    → notes.nulls ≡ 0 → r.nulls ≡ 0
renews_nulls p c units r n _ _ _ _ _ (Renews.again q line target waits there e) none = none
renews_nulls p c units r n _ _ _ _ _ (Renews.retries q request to how e) none = absurd (omega (arith, none))
renews_nulls p c units r n _ _ _ _ _ (Renews.behind members next u e) none = none

-- nor before a refusal
refuses_nulls : (p : Program) (c : Columns) (units : ℕ) (r : Run) (n : ℕ) (body : Body) (tag : CutTag) (notes : Notes) → Refuses p c units r n body tag notes → notes.nulls ≡ 0 → r.nulls ≡ 0
refuses_nulls p c units r n _ _ _ (Refuses.no_block q request to how e) none = absurd (omega (arith, none))
refuses_nulls p c units r n _ _ _ (Refuses.no_number q request to retry block how e full) none = none
refuses_nulls p c units r n _ _ _ (Refuses.no_renewal body to after priority notes how full) none = renews_nulls p c units r n body to after priority notes how none

-- nor before any move
move_nulls : (p : Program) (c : Columns) (units : ℕ) (r s : Run) → Move p c units r s → s.nulls ≡ 0 → r.nulls ≡ 0
move_nulls p c units r _ (Move.goes_on t n q next runs goes) none = none
move_nulls p c units r _ (Move.spawned t n to q request retry block runs asks placed some) none =
    sym (nulls_arrives (with_body (accepts units r request block) t (OfKind (set_future q to (Some (next_number r.journal))))) (next_number r.journal) request.after) ∙ none
move_nulls p c units r _ (Move.respawned t n body to after priority notes runs renews some) none =
    renews_nulls p c units r n body to after priority notes renews (sym (nulls_arrives (renewed_run (with_notes r notes) t to after priority) (next_number r.journal) after) ∙ none)
move_nulls p c units r _ (Move.gave t n body v runs answers) none = none
move_nulls p c units r _ (Move.refused t n body tag notes runs refuses) none = refuses_nulls p c units r n body tag notes refuses none
move_nulls p c units r _ (Move.started n queues idle next uncut) none = none
move_nulls p c units r _ (Move.cut_at_start n queues row u tag idle next there after cut) none = none

-- nor before a root that is asked for
root_nulls : (p : Program) (units : ℕ) (r s : Run) (root : RootLine) → RootMove p units r root s → s.nulls ≡ 0 → r.nulls ≡ 0
root_nulls p units r _ root (RootMove.named block free placed some) none =
    sym (nulls_arrives (with_root (accepts units r (root_request p r root) block) (Named (next_number r.journal))) (next_number r.journal) (root_request p r root).after) ∙ none
root_nulls p units r _ root (RootMove.refused tag notes free how) none = by tag notes how none
  where
    by : (tag : CutTag) (notes : Notes) → RefusesRoot p units r root tag notes → notes.nulls ≡ 0 → r.nulls ≡ 0
    by _ _ (RefusesRoot.no_block e) none = absurd (omega (arith, none))
    by _ _ (RefusesRoot.no_number block e full) none = none
root_nulls p units r _ root (RootMove.skipped first e) none = none

-- asking for a root leaves what stands in the journal
root_grows : (p : Program) (units : ℕ) (r s : Run) (root : RootLine) → RootMove p units r root s → GrowsFrom r.journal s.journal
root_grows p units r _ root (RootMove.named block free placed some) =
    arrives_grows r.journal (with_root (accepts units r (root_request p r root) block) (Named (next_number r.journal))) (next_number r.journal) (root_request p r root).after
    (accept-tells r.journal None (root_request p r root).after).grows
root_grows p units r _ root (RootMove.refused tag notes free how) = grows_same r.journal
root_grows p units r _ root (RootMove.skipped first e) = grows_same r.journal

-- where no task has met the limit, none had in a journal that this one grows from
grown_unlimited : (p : Program) (limit : ℕ) (r s : Run) → RunStands p limit r → GrowsFrom r.journal s.journal → ((t : ℕ) → cause_of s.journal.tasks t ≢ cause.Limit) → (t : ℕ) → cause_of r.journal.tasks t ≢ cause.Limit
grown_unlimited p limit r s run grows none t e = by (finish_of r.journal.tasks t) refl
  where
    by : (o : Option ℕ) → finish_of r.journal.tasks t ≡ o → ⊥
    by None unfinished = clear_limit (sym (run.outcomes.open_ t unfinished) ∙ e)
    by (Some f) there = none t (grows.causes t f there ∙ e)

-- what every run of a valid program keeps; and while nothing is refused, counts
record HeldUnrefused (p : Program) (c : Columns) (plan : RunPlan) (all : Counts) (r : Run) : Type 0 where
  run : RunStands p plan.limit r
  roots : RootsStand p r
  frames : FramesStand p r
  values : ValuesStand p c r
  counts : Unrefused r → CountsStand p c r all

module _ (p : Program) (formed : IsWellFormed p) (valid : IsValid p) (c : Columns) (plan : RunPlan) (all : Counts) where
  module _ (r s : Run) (now : HeldUnrefused p c plan all r) where
    -- where nothing was refused after a step, nothing was before it
    move_back : Move p c plan.units r s → Unrefused s → Unrefused r
    move_back move free = record {
      no_null = move_nulls p c plan.units r s move free.no_null;
      no_task = grown_unlimited p plan.limit r s now.run (move_grows p c plan.limit plan.units r s now.run move) free.no_task;
      no_root = λ at e. free.no_root at (ap (λ words. slice_get words at) (move_same_roots p c plan.units r s move) ∙ e);
    }

    -- nor before a root was asked for
    root_back : (root : RootLine) → RootMove p plan.units r root s → Unrefused s → Unrefused r
    root_back root move free =
        let more = one_more_root p plan.units r s root move in record {
          no_null = root_nulls p plan.units r s root move free.no_null;
          no_task = grown_unlimited p plan.limit r s now.run (root_grows p plan.units r s root move) free.no_task;
          no_root = λ at e. free.no_root at (ap (λ words. slice_get words at) more.roots ∙ snoc_old r.roots more.word (suc at) (Refused Limit) e);
        }

    -- a task that meets the limit shows it
    limit_shows : (t n : ℕ) (body : Body) (notes : Notes) → RunsAt r t n body → s ≡ is_refused (with_notes r notes) t Limit → Unrefused s → ⊥
    limit_shows t n body notes runs same free =
        let told = (finished_tells r.journal t cause.Limit now.run.journal.journal (under_way r t n body now.run.numbers runs) (refusal_may r.journal Limit)).cause_told in
        free.no_task t (ap (λ (x : Run). cause_of x.journal.tasks t) same ∙ told)

    -- a refusal shows
    refusal_shows : (t n : ℕ) (body : Body) (tag : CutTag) (notes : Notes) → RunsAt r t n body → Refuses p c plan.units r n body tag notes → s ≡ is_refused (with_notes r notes) t tag → Unrefused s → ⊥
    refusal_shows t n _ _ _ runs (Refuses.no_block q request to how e) same free =
        let more : s.nulls ≡ r.nulls + 1 = ap (λ (x : Run). x.nulls) same in absurd (omega (arith, more, free.no_null))
    refusal_shows t n body _ notes runs (Refuses.no_number q request to retry block how e full) same free = limit_shows t n body notes runs same free
    refusal_shows t n body _ notes runs (Refuses.no_renewal was to after priority noted how full) same free = limit_shows t n body notes runs same free

    -- so does the refusal of a root
    root_shows : (root : RootLine) (tag : CutTag) (notes : Notes) → RefusesRoot p plan.units r root tag notes → s ≡ with_root (with_notes r notes) (Refused tag) → Unrefused s → ⊥
    root_shows root _ _ (RefusesRoot.no_block e) same free =
        let more : s.nulls ≡ r.nulls + 1 = ap (λ (x : Run). x.nulls) same in absurd (omega (arith, more, free.no_null))
    root_shows root _ _ (RefusesRoot.no_number block e full) same free =
        free.no_root (length r.roots) (ap (λ (x : Run). slice_get x.roots (length r.roots)) same ∙ snoc_new r.roots (Refused Limit))

  -- counts stand at each step before which nothing was refused
  unrefused_always : RootsCount p c all → (taken : ℕ) → HeldUnrefused p c plan all (state_at p c plan taken)
  unrefused_always counted taken = always p c plan (HeldUnrefused p c plan all) (record {
    first = record {
      run = run_first p plan;
      roots = roots_first p plan;
      frames = frames_first p plan;
      values = values_first p c plan;
      counts = λ free. counts_first p c plan all counted;
    };
    root = λ r s root next now move. let run = run_root p plan.limit plan.units r s root next now.run move in record {
      run = run;
      roots = roots_root p formed plan.units r s root next now.run.numbers now.roots move;
      frames = frames_root p formed valid plan.units r s root next now.run.numbers run.numbers now.frames move;
      values = values_root p c plan.units r s root next now.run.numbers now.run.calls now.values move;
      counts = λ free. root_kept p formed c plan.units all r root next now.run.numbers now.run.calls now.roots (now.counts (root_back r s now root move free)) s
          (λ tag notes taskless how same. root_shows r s now root tag notes how same free) move;
    };
    move = λ r s now move. let run = run_move p c plan.limit plan.units r s now.run move in record {
      run = run;
      roots = roots_move p c plan.units r s now.roots move;
      frames = frames_move p formed valid c plan.units r s now.run.numbers run.numbers now.frames move;
      values = values_move p formed valid c plan.units r s now.run.numbers now.run.calls now.frames now.values move;
      counts = λ free. counts_kept p formed valid c all r now.run.numbers now.run.calls now.frames now.values (now.counts (move_back r s now move free)) plan.units s
          (λ t n body tag notes runs refuses same. refusal_shows r s now t n body tag notes runs refuses same free)
          (λ t n body to after priority notes runs how same. sym same ∙ free.no_null) move;
    };
  }) taken

-- what a function makes of a member
made_of : {A B : Type 0} (f : A → B) (xs : List A) (at : ℕ) (x : A) → slice_get xs at ≡ Some x → slice_get (map f xs) at ≡ Some (f x)
made_of f [] at x e = absurd (none-some x e)
made_of f (y ∷ xs) zero x e = ap (λ z. Some (f z)) (same_Some y x e)
made_of f (y ∷ xs) (suc at) x e = made_of f xs at x e

-- where nothing was refused at the end, it is what the meaning counts
pub counts_unrefused : CountsWhereNothingIsRefused
counts_unrefused p c plan end all formed valid run counted none =
    let now = subst (HeldUnrefused p c plan all) run.reached (unrefused_always p formed valid c plan all counted run.taken) in
    let free : Unrefused end = record { no_null = none.no_null; no_task = none.no_task; no_root = λ at e. none.no_root at (made_of (root_end end) end.roots at (Refused Limit) e) } in
    complete p c plan all end now.run (now.counts free) (end_quiet p c plan end run) (ap (λ (r : Run). length r.roots) (sym run.reached) ∙ root_count p c plan run.taken)

-- so the end leaves no work out and adds none
pub ends_count : EndsCount
ends_count p c plan end formed valid run all counted none = counts_unrefused p c plan end all formed valid run counted none
