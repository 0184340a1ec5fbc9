-- Roots are asked for first: no task that is no root's own has a smaller number than one that is.
use Rattle.std.proofs.Common.{◌≡◌, ◌⊎◌, ℕ, zero, suc, ◌<◌, ◌≤◌, Option, Some, None, List, [], ◌∷◌, ◌++◌, length, slice_get, sym, ◌∙◌, ap, subst, inl, inr, ⊎_elim, append-nil, arith}
use Rattle.std.proofs.lemmas.Option.{none-some, slice_get_within}
use Rattle.task_syntax.specs.declared.program.Root.{Root as RootLine}
use Rattle.task_syntax.specs.declared.program.Program.{Program}
use Rattle.task_syntax.specs.declared.columns.Columns.{Columns}
use Rattle.record_core.specs.Numbers.{found, HasTask}
use Rattle.record_core.specs.Journal.{next_number}
use Rattle.record_core.specs.JournalLaws.{GrowsFrom}
use Rattle.record_core.specs.EndSeen.{RunPlan}
use Rattle.record_core.specs.declared.rows.ActivationRow.{ActivationRow}
use Rattle.run_model.specs.State.{Outcome, RootWord, Named, Refused, Skipped, Run}
use Rattle.run_model.specs.Step.{arrives, waits_or_queues, accepts, root_request, with_root, asked}
use Rattle.run_model.specs.Move.{Move, RootMove}
use Rattle.run_model.specs.End.{state_at}
use Rattle.run_model.specs.Laws.{EndsAskRootsFirst}
use Rattle.run_model.proofs.ByNumber.{member_at, none_of_empty}
use Rattle.run_model.proofs.EndFields.{own_at}
use Rattle.run_model.proofs.JournalGrows.{move_grows}
use Rattle.run_model.proofs.LiveFacts.{same_row, task_old, task_within}
use Rattle.run_model.proofs.MadeInvariant.{IsNamed}
use Rattle.run_model.proofs.NamesFacts.{own_named}
use Rattle.run_model.proofs.OrderKept.{is_next}
use Rattle.run_model.proofs.Reached.{always_from, asked_front}
use Rattle.run_model.proofs.RootCount.{move_same_roots}
use Rattle.run_model.proofs.RootsKept.{get_last, get_snoc}
use Rattle.run_model.proofs.RunStands.{RunStands, run_first, run_root, run_kept}

-- one number is above the other, or not
le_or_lt : (m n : ℕ) → (m ≤ n) ⊎ (n < m)
le_or_lt zero n = inl (omega arith)
le_or_lt (suc m) zero = inr (omega arith)
le_or_lt (suc m) (suc n) = ⊎_elim (λ le. inl (omega (arith, le))) (λ lt. inr (omega (arith, lt))) (le_or_lt m n)

-- what a root has, it has still when another is asked for
named_more : (roots : List RootWord) (word : RootWord) (t : ℕ) → IsNamed roots t → IsNamed (roots ++ word ∷ []) t
named_more roots word t (at, e) = (at, get_snoc roots word at (slice_get_within roots at (Named t) e) ∙ e)

-- while roots are asked for, each task is a root's own
record AllOwn (p : Program) (limit : ℕ) (r : Run) : Type 0 where
  run : RunStands p limit r
  named : (t : ℕ) → HasTask r.journal.rows t → IsNamed r.roots t

named_arrives : (r : Run) (n : ℕ) (after : Option ℕ) → ((t : ℕ) → HasTask r.journal.rows t → IsNamed r.roots t) → (t : ℕ) → HasTask (arrives r n after).journal.rows t → IsNamed (arrives r n after).roots t
named_arrives r n None now = now
named_arrives r n (Some u) now = by (found r.outcomes u)
  where
    by : (o : Option Outcome) (t : ℕ) → HasTask (waits_or_queues o r n u).journal.rows t → IsNamed (waits_or_queues o r n u).roots t
    by None = now
    by (Some outcome) = now

named_root : (p : Program) (limit units : ℕ) (r s : Run) (root : RootLine) → AllOwn p limit r → RootMove p units r root s → (t : ℕ) → HasTask s.journal.rows t → IsNamed s.roots t
named_root p limit units r _ root now (RootMove.named block free placed some) =
    let request = root_request p r root in
    let word = Named (next_number r.journal) in
    named_arrives (with_root (accepts units r request block) word) (next_number r.journal) request.after
    (λ t task. ⊎_elim (λ old. named_more r.roots word t (now.named t (was t old task))) (λ past. (length r.roots, subst (λ m. slice_get (r.roots ++ word ∷ []) (length r.roots) ≡ Some (Named m)) (sym (is_next r.journal None request.after t task past).0) (get_last r.roots word)))
    (le_or_lt t (length r.journal.rows)))
  where
    was : (t : ℕ) → t ≤ length r.journal.rows → HasTask (r.journal.rows ++ record { task = next_number r.journal; after = (root_request p r root).after; start = None } ∷ []) t → HasTask r.journal.rows t
    was t within task = task_old r.journal.rows (record { task = next_number r.journal; after = (root_request p r root).after; start = None }) t (λ same. omega (arith, same, within)) task
named_root p limit units r _ root now (RootMove.refused tag notes free how) = λ t task. named_more r.roots (Refused tag) t (now.named t task)
named_root p limit units r _ root now (RootMove.skipped first e) = λ t task. named_more r.roots (Skipped first.0 first.1) t (now.named t task)

-- a task of a root has a smaller number than one of none
abbrev OwnFirst : Run → Type 0
OwnFirst r = (t m : ℕ) → IsNamed r.roots t → HasTask r.journal.rows m → (IsNamed r.roots m → ⊥) → t < m

module _ (p : Program) (c : Columns) (plan : RunPlan) where
  all_own : AllOwn p plan.limit (asked p plan)
  all_own = (asked_front p plan (AllOwn p plan.limit)
      (λ r s root next now move. record { run = run_root p plan.limit plan.units r s root next now.run move; named = named_root p plan.limit plan.units r s root now move })
      (record { run = run_first p plan; named = λ t task. absurd (none-some task.0 (sym (none_of_empty t) ∙ task.1)) }) p.roots [] (sym (append-nil p.roots))).kept

  -- a task that is as far back as those before was there
  was_task : (r s : Run) (m : ℕ) → GrowsFrom r.journal s.journal → 1 ≤ m → m ≤ length r.journal.rows → HasTask s.journal.rows m → HasTask r.journal.rows m
  was_task r s m grows some within (row, there, is) =
      let (old, stood) = member_at r.journal.rows m some within in
      let (start, then) = grows.rows m old stood in
      (old, stood, ap (λ (x : ActivationRow). x.task) (same_row s.journal.rows m (record old { start = start }) row then there) ∙ is)

  first_move : (r s : Run) → RunStands p plan.limit r → OwnFirst r → Move p c plan.units r s → OwnFirst s
  first_move r s run now move t m named task not_named =
      let same = move_same_roots p c plan.units r s move in
      let was_named : IsNamed r.roots t = subst (λ (words : List RootWord). IsNamed words t) same named in
      let was_not : IsNamed r.roots m → ⊥ = λ old. not_named (subst (λ (words : List RootWord). IsNamed words m) (sym same) old) in
      let grows = move_grows p c plan.limit plan.units r s run move in
      ⊎_elim
      (λ within. now t m was_named (was_task r s m grows (task_within s.journal.rows m task).0 within task) was_not)
      (λ past. omega (arith, past, (task_within r.journal.rows t (run.numbers.names.in_roots was_named.0 t was_named.1)).1))
      (le_or_lt m (length r.journal.rows))

  own_first : (taken : ℕ) → OwnFirst (state_at p c plan taken)
  own_first taken = always_from p c plan (RunStands p plan.limit) OwnFirst (λ t m named task not_named. absurd (not_named (all_own.named m task))) first_move (run_kept p c plan) taken

pub ends_ask_first : EndsAskRootsFirst
ends_ask_first p c plan end run t m own task not_own =
    let first : OwnFirst end = subst OwnFirst run.reached (own_first p c plan run.taken) in
    first t m (own.0, own_named end.roots own.0 t own.1) task (λ named. not_own (named.0, own_at end.roots named.0 (Named m) named.1))
