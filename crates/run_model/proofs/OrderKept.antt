-- Each move keeps the order of roots' tasks, and that a cut activation is its task's last.
use Rattle.std.proofs.Common.{◌≡◌, ◌⊎◌, ℕ, ◌+◌, ◌<◌, Option, Some, None, List, [], ◌∷◌, ◌++◌, length, slice_get, refl, sym, ◌∙◌, ap, inl, inr, ⊎_elim, arith}
use Rattle.std.proofs.lemmas.Option.{none-some, slice_get_within}
use Rattle.task_syntax.specs.declared.program.Root.{Root as RootLine}
use Rattle.task_syntax.specs.declared.program.Program.{Program}
use Rattle.task_syntax.specs.declared.columns.Columns.{Columns}
use Rattle.task_meaning.specs.Frame.{set_future}
use Rattle.task_meaning.specs.Worths.{Accepted, Respawn}
use Rattle.frame_code.specs.Words.{OfKind}
use Rattle.record_core.specs.Numbers.{by_number, found, HasTask}
use Rattle.record_core.specs.Journal.{JournalState, next_number, task_or, with_accepted, with_begun, started_rows, finish_of}
use Rattle.record_core.specs.JournalLaws.{GrowsFrom}
use Rattle.record_core.specs.EndSeen.{RunPlan}
use Rattle.record_core.specs.declared.rows.ActivationRow.{ActivationRow}
use Rattle.record_core.specs.declared.rows.Cause.TheVariants as cause
use Rattle.record_core.specs.declared.rows.CutTag.{CutTag}
use Rattle.record_core.proofs.AcceptFacts.{accept-tells}
use Rattle.run_model.specs.State.{Outcome, RootWord, Named, Refused, Skipped, Run}
use Rattle.run_model.specs.Step.{arrives, waits_or_queues, accepts, cause_of_cut, draws, root_request, with_body, with_root, at_first}
use Rattle.run_model.specs.Move.{Move, RootMove, with_notes}
use Rattle.run_model.proofs.ByNumber.{length_put, none_of_empty, number_within, snoc_cases, snoc_old}
use Rattle.run_model.proofs.JournalGrows.{grows_same, move_grows}
use Rattle.run_model.proofs.LiveFacts.{task_within}
use Rattle.run_model.proofs.MadeInvariant.{OrderStands}
use Rattle.run_model.proofs.MadeKept.{Goes, RowWas, accepted_was, begun_was, finished_was, last_stays}
use Rattle.run_model.proofs.NumbersParts.{next_row, slice_snoc}
use Rattle.run_model.proofs.Reached.{IsNextRoot}
use Rattle.run_model.proofs.RootsKept.{get_snoc}
use Rattle.run_model.proofs.RunStands.{RunStands}
use Rattle.run_model.proofs.RunsFacts.{running_open}

-- as many rows where one of them starts
pub as_many_begun : (j : JournalState) (n : ℕ) → length (with_begun j n).rows ≡ length j.rows
as_many_begun j n = by (by_number j.rows n)
  where
    by : (o : Option ActivationRow) → length (started_rows j.rows n (j.stamps + 1) o) ≡ length j.rows
    by None = refl
    by (Some row) = length_put j.rows n (record row { start = Some (j.stamps + 1) })

-- a number past those that were drawn is the next one
pub is_next : (j : JournalState) (task after : Option ℕ) (t : ℕ) → HasTask (with_accepted j task after).rows t → length j.rows < t → (t ≡ next_number j) × (task_or task (next_number j) ≡ t)
is_next j task after t (row, there, is) past =
    ⊎_elim
    (λ old. absurd (omega (arith, past, (number_within j.rows t row old).1)))
    (λ new. (new.0, sym (ap (λ (x : ActivationRow). x.task) new.1) ∙ is))
    (snoc_cases j.rows (record { task = task_or task (next_number j); after = after; start = None }) t row there)

-- what stands stays where a number is drawn
pub draws_goes : (j : JournalState) (calls : List Accepted) (roots : List RootWord) (task after : Option ℕ) (call : Accepted) → (task ≡ None) ⊎ (finish_of j.tasks (task_or task (next_number j)) ≡ None)
    → Goes j (with_accepted j task after) calls (calls ++ call ∷ []) roots roots
draws_goes j calls roots task after call open_ = record {
  grows = (accept-tells j task after).grows;
  was = accepted_was j task after open_;
  calls_stay = λ n other e. snoc_old calls call n other e;
  roots_stay = λ at word e. e;
  named_was = λ t within named. named;
}

-- and where no number is drawn
pub stays_goes : (j k : JournalState) (calls : List Accepted) (roots : List RootWord) → GrowsFrom j k → ((n : ℕ) (row : ActivationRow) → by_number k.rows n ≡ Some row → RowWas j k n row) → Goes j k calls calls roots roots
stays_goes j k calls roots grows was = record { grows = grows; was = was; calls_stay = λ n call e. e; roots_stay = λ at word e. e; named_was = λ t within named. named }

-- no task past those that were drawn
pub none_past : (j k : JournalState) → length k.rows ≡ length j.rows → (t : ℕ) → HasTask k.rows t → length j.rows < t → ⊥
none_past j k many t task past = omega (arith, past, many, (task_within k.rows t task).1)

-- a root's word is added
module _ (p : Program) (limit : ℕ) (r : Run) (run : RunStands p limit r) (word : RootWord) where
  -- tasks of roots rise where a new one is past those that were drawn
  pub rise_more : OrderStands r → ((t : ℕ) → word ≡ Named t → length r.journal.rows < t) → (i k t u : ℕ) → i < k → slice_get (r.roots ++ word ∷ []) i ≡ Some (Named t) → slice_get (r.roots ++ word ∷ []) k ≡ Some (Named u) → t < u
  rise_more order past i k t u lt first second =
      ⊎_elim
      (λ old_k. ⊎_elim
      (λ old_i. order.rise i k t u lt old_i old_k)
      (λ new_i. absurd (omega (arith, lt, new_i.0, slice_get_within r.roots k (Named u) old_k)))
      (slice_snoc r.roots word (Named t) i first))
      (λ new_k. ⊎_elim
      (λ old_i. omega (arith, past u new_k.1, (task_within r.journal.rows t (run.numbers.names.in_roots i t old_i)).1))
      (λ new_i. absurd (omega (arith, lt, new_i.0, new_k.0)))
      (slice_snoc r.roots word (Named t) i first))
      (slice_snoc r.roots word (Named u) k second)

  pub root_goes : ((t : ℕ) → word ≡ Named t → length r.journal.rows < t) → (j : JournalState) (calls : List Accepted) → Goes r.journal j r.calls calls r.roots r.roots → Goes r.journal j r.calls calls r.roots (r.roots ++ word ∷ [])
  root_goes past j calls goes = record {
    grows = goes.grows;
    was = goes.was;
    calls_stay = goes.calls_stay;
    roots_stay = λ at other e. get_snoc r.roots word at (slice_get_within r.roots at other e) ∙ e;
    named_was = λ t within named. ⊎_elim (λ old. (named.0, old)) (λ new. absurd (omega (arith, past t new.1, within))) (slice_snoc r.roots word (Named t) named.0 named.1);
  }

-- a move by which things stand still, or are new as is shown
order_goes : (p : Program) (limit : ℕ) (r s : Run) → RunStands p limit r → Goes r.journal s.journal r.calls s.calls r.roots s.roots
    → ((i k t u : ℕ) → i < k → slice_get s.roots i ≡ Some (Named t) → slice_get s.roots k ≡ Some (Named u) → t < u) → OrderStands r → OrderStands s
order_goes p limit r s run goes rise order = record {
  rise = rise;
  last = last_stays p r.journal s.journal r.calls s.calls r.roots s.roots run.journal.journal goes run.outcomes.open_ run.causes.through
      (λ n row there waits m other further same. run.numbers.live.last row.task n m row other (record { there = there; of_task = refl; live = inl waits }) further same) order.last;
}

-- an arrival changes nothing of this
arrives_order : (r : Run) (n : ℕ) (after : Option ℕ) → OrderStands r → OrderStands (arrives r n after)
arrives_order r n None now = record { rise = now.rise; last = now.last }
arrives_order r n (Some u) now = by (found r.outcomes u)
  where
    by : (o : Option Outcome) → OrderStands (waits_or_queues o r n u)
    by None = record { rise = now.rise; last = now.last }
    by (Some outcome) = record { rise = now.rise; last = now.last }

module _ (p : Program) (c : Columns) (limit units : ℕ) where
  pub order_move : (r s : Run) → RunStands p limit r → OrderStands r → Move p c units r s → OrderStands s
  order_move r s run now (Move.goes_on t n q next runs goes) = record { rise = now.rise; last = now.last }
  order_move r _ run now (Move.spawned t n to q request retry block runs asks placed some) =
      let s = with_body (accepts units r request block) t (OfKind (set_future q to (Some (next_number r.journal)))) in
      arrives_order s (next_number r.journal) request.after (order_goes p limit r s run (draws_goes r.journal r.calls r.roots None request.after request.call (inl refl)) now.rise now)
  order_move r _ run now (Move.respawned t n body to after priority notes runs renews some) =
      let s = with_body (record (draws (with_notes r notes) (Some t) after priority (Respawn t after) None None) { running = None }) t to in
      let goes = draws_goes r.journal r.calls r.roots (Some t) after (Respawn t after) (inr (running_open r [] run.numbers t n body runs)) in
      arrives_order s (next_number r.journal) after (order_goes p limit r s run goes now.rise now)
  order_move r s run now (Move.gave t n body v runs answers) =
      let grows = move_grows p c limit units r s run (Move.gave t n body v runs answers) in
      order_goes p limit r s run (stays_goes r.journal s.journal r.calls r.roots grows (finished_was r.journal r.journal t cause.Clear (λ k row e. RowWas.stood e))) now.rise now
  order_move r s run now (Move.refused t n body tag notes runs refuses) =
      let grows = move_grows p c limit units r s run (Move.refused t n body tag notes runs refuses) in
      order_goes p limit r s run (stays_goes r.journal s.journal r.calls r.roots grows (finished_was r.journal r.journal t (cause_of_cut tag) (λ k row e. RowWas.stood e))) now.rise now
  order_move r s run now (Move.started n left idle next uncut) =
      let grows = move_grows p c limit units r s run (Move.started n left idle next uncut) in
      let (first, there, waits) = next_row r [] n left run.numbers next in
      order_goes p limit r s run (stays_goes r.journal s.journal r.calls r.roots grows (begun_was r.journal n first there waits (as_many_begun r.journal n))) now.rise now
  order_move r s run now (Move.cut_at_start n left row u tag idle next is_row after cut) =
      let grows = move_grows p c limit units r s run (Move.cut_at_start n left row u tag idle next is_row after cut) in
      let (first, there, waits) = next_row r [] n left run.numbers next in
      let begun = begun_was r.journal n first there waits (as_many_begun r.journal n) in
      order_goes p limit r s run (stays_goes r.journal s.journal r.calls r.roots grows (finished_was r.journal (with_begun r.journal n) row.task (cause.By u) begun)) now.rise now

pub order_first : (plan : RunPlan) → OrderStands (at_first plan)
order_first plan = record {
  rise = λ i k t u lt first. absurd (none-some (Named t) first);
  last = λ n u row there. absurd (none-some row (sym (none_of_empty n) ∙ there));
}

pub order_root : (p : Program) (limit units : ℕ) (r s : Run) (root : RootLine) → IsNextRoot p r root → RunStands p limit r → OrderStands r → RootMove p units r root s → OrderStands s
order_root p limit units r _ root next run now (RootMove.named block free placed some) =
    let request = root_request p r root in
    let word = Named (next_number r.journal) in
    let s = with_root (accepts units r request block) word in
    let goes = root_goes p limit r run word past (with_accepted r.journal None request.after) (r.calls ++ request.call ∷ []) (draws_goes r.journal r.calls r.roots None request.after request.call (inl refl)) in
    arrives_order s (next_number r.journal) request.after (order_goes p limit r s run goes (rise_more p limit r run word now past) now)
  where
    past : (t : ℕ) → Named (next_number r.journal) ≡ Named t → length r.journal.rows < t
    past t e = let same : next_number r.journal ≡ t = cc in omega (arith, same)
order_root p limit units r _ root next run now (RootMove.refused tag notes free how) =
    let goes = root_goes p limit r run (Refused tag) past r.journal r.calls (stays_goes r.journal r.journal r.calls r.roots (grows_same r.journal) (λ k row e. RowWas.stood e)) in
    order_goes p limit r (with_root (with_notes r notes) (Refused tag)) run goes (rise_more p limit r run (Refused tag) now past) now
  where
    past : (t : ℕ) → Refused tag ≡ Named t → length r.journal.rows < t
    past t e = cc
order_root p limit units r _ root next run now (RootMove.skipped first e) =
    let word = Skipped first.0 first.1 in
    let goes = root_goes p limit r run word (past first.0 first.1) r.journal r.calls (stays_goes r.journal r.journal r.calls r.roots (grows_same r.journal) (λ k row e. RowWas.stood e)) in
    order_goes p limit r (with_root r word) run goes (rise_more p limit r run word now (past first.0 first.1)) now
  where
    past : (at : ℕ) (tag : CutTag) (t : ℕ) → Skipped at tag ≡ Named t → length r.journal.rows < t
    past at tag t h = cc
