-- Each move keeps the numbers, live tasks and names, whatever the program is.
use Rattle.std.proofs.Common.{◌≡◌, ℕ, Some, None, List, [], ◌∷◌, ◌++◌, slice_get, refl, sym, ◌∙◌, ap, subst, ⊎_elim, arith}
use Rattle.std.specs.Prelude.{IsSome}
use Rattle.std.specs.Option.{is_some}
use Rattle.std.proofs.lemmas.Bool.{false≢true}
use Rattle.std.proofs.lemmas.Option.{none-some}
use Rattle.task_syntax.specs.declared.program.Root.{Root as RootLine}
use Rattle.task_syntax.specs.declared.program.Program.{Program}
use Rattle.task_syntax.specs.declared.columns.Columns.{Columns}
use Rattle.task_meaning.specs.Frame.{set_future}
use Rattle.frame_code.specs.Words.{OfKind}
use Rattle.record_core.specs.Numbers.{by_number, flat, found, HasTask}
use Rattle.record_core.specs.Journal.{next_number, finish_in}
use Rattle.record_core.specs.EndSeen.{RunPlan}
use Rattle.record_core.specs.declared.rows.ActivationRow.{ActivationRow}
use Rattle.run_model.specs.State.{Body, Outcome, Named, Refused, Skipped, WasCut, Gave, Run}
use Rattle.run_model.specs.Step.{Request, accepts, with_body, with_root, root_request, at_first, cause_of_cut}
use Rattle.record_core.specs.declared.rows.Cause.TheVariants as cause
use Rattle.run_model.specs.Move.{Notes, with_notes, RunsAt, begins, Move, RootMove}
use Rattle.run_model.proofs.ByNumber.{snoc_new, found_old, none_of_empty}
use Rattle.run_model.proofs.NumbersInvariant.{not_started, BodyNames, NumbersStand}
use Rattle.run_model.proofs.NamesFacts.{RequestNames, goes_names, asks_named, renews_named, set_named, root_named}
use Rattle.run_model.proofs.LiveFacts.{task_snoc, task_within}
use Rattle.run_model.proofs.NumbersParts.{held_body, held_root, held_drawn, held_renewed, held_arrives, held_ends, held_starts, started_runs}
use Rattle.run_model.proofs.Reached.{IsNextRoot}

-- before the first root there is no number
pub numbers_first : (plan : RunPlan) → NumbersStand (at_first plan)
numbers_first plan = record {
  beside = record { of_tasks = refl; of_calls = refl; of_priorities = refl; of_outcomes = refl; of_waiters = refl; of_bodies = refl; of_blocks = refl };
  of_tasks = λ n row e. absurd (no_row n row e);
  numbers = record {
    each = λ n. sym (ap not_started (none_of_empty n));
    behind = λ n u row e some. absurd (no_row n row e);
    free = λ n u row e some after. absurd (no_row n row e);
  };
  live = record {
    of_task = λ t some. absurd (none_found Body t some);
    has_body = λ t task. absurd (no_task t task);
    has_outcome = λ t. (λ some. absurd (none_found Outcome t some), λ some. absurd (false≢true (sym (ap is_some (ap finish_in (none_of_empty t))) ∙ some)));
    current = λ t task none. absurd (no_task t task);
    is_open = λ t n row live. absurd (no_row n row live.there);
    last = λ t n m row other live e. absurd (no_row m other e);
    runs = λ n e. absurd (none-some n e);
  };
  names = record { in_bodies = λ t u body e named. absurd (none_found Body t (ap is_some e)); in_roots = λ at t e. absurd (none-some (Named t) e); once = λ i j t e. absurd (none-some (Named t) e) };
}
  where
    no_row : (n : ℕ) (row : ActivationRow) → by_number [] n ≡ Some row → ⊥
    no_row n row e = none-some row (sym (none_of_empty n) ∙ e)

    no_task : (t : ℕ) → HasTask [] t → ⊥
    no_task t (row, e, same) = no_row t row e

    none_found : (A : Type 0) (t : ℕ) → IsSome (found {A = A} [] t) → ⊥
    none_found A t some = false≢true (sym (ap is_some (ap flat (none_of_empty t))) ∙ some)

-- a body of the running task names tasks
names_task : (r : Run) (t m u : ℕ) (body : Body) → NumbersStand r → RunsAt r t m body → BodyNames body u → HasTask r.journal.rows u
names_task r t m u body now runs named = now.names.in_bodies t u body runs.has named

-- what a refusal notes is not read here
noted : (r : Run) (notes : Notes) → NumbersStand r → NumbersStand (with_notes r notes)
noted r notes now = record { beside = now.beside; of_tasks = now.of_tasks; numbers = now.numbers; live = now.live; names = now.names }

runs_noted : (r : Run) (notes : Notes) (t m : ℕ) (body : Body) → RunsAt r t m body → RunsAt (with_notes r notes) t m body
runs_noted r notes t m body runs = record { row = runs.row; running = runs.running; there = runs.there; of_task = runs.of_task; has = runs.has }

module _ (p : Program) (units : ℕ) where
  -- a root's move keeps numbers, live tasks and names
  pub numbers_root : (r s : Run) (root : RootLine) → IsNextRoot p r root → NumbersStand r → RootMove p units r root s → NumbersStand s
  numbers_root r _ root next now (RootMove.named block free placed some) =
      held_arrives (with_root (accepts units r request block) (Named n)) n request.after row
      (held_root (accepts units r request block) (n ∷ []) (Named n) (held_drawn units r request block now names) (λ t e. (subst (HasTask rows') (same_named e) (row, snoc_new r.journal.rows row, refl), λ at f. fresh t at (same_named e) f)))
      (snoc_new r.journal.rows row) refl
    where
      request : Request
      request = root_request p r root

      n : ℕ
      n = next_number r.journal

      row : ActivationRow
      row = record { task = next_number r.journal; after = (root_request p r root).after; start = None }

      rows' : List ActivationRow
      rows' = r.journal.rows ++ row ∷ []

      names : (u : ℕ) → RequestNames (root_request p r root) u → HasTask r.journal.rows u
      names u named = let (at, e) = root_named p r root u named in now.names.in_roots at u e

      same_named : {t : ℕ} → Named n ≡ Named t → n ≡ t
      same_named e = cc

      fresh : (t at : ℕ) → n ≡ t → slice_get r.roots at ≡ Some (Named t) → ⊥
      fresh t at e f = absurd (omega (arith, (task_within r.journal.rows t (now.names.in_roots at t f)).1, e))
  numbers_root r _ root next now (RootMove.refused tag notes free how) = held_root (with_notes r notes) [] (Refused tag) (noted r notes now) (λ t e. absurd (differ t e))
    where
      differ : (t : ℕ) → Refused tag ≡ Named t → ⊥
      differ t e = cc
  numbers_root r _ root next now (RootMove.skipped first e) = held_root r [] (Skipped first.0 first.1) now (λ t e. absurd (differ t e))
    where
      differ : (t : ℕ) → Skipped first.0 first.1 ≡ Named t → ⊥
      differ t e = cc

module _ (p : Program) (c : Columns) (units : ℕ) where
  -- each move keeps numbers, live tasks and names
  pub numbers_move : (r s : Run) → NumbersStand r → Move p c units r s → NumbersStand s
  numbers_move r _ now (Move.goes_on t n q next runs goes) = held_body r [] now t (OfKind q) (OfKind next) runs.has (λ u named. names_task r t n u (OfKind q) now runs (goes_names p c r q next u goes named))
  numbers_move r _ now (Move.spawned t n to q request retry block runs asks placed some) =
      held_arrives (with_body (accepts units r request block) t goes_to) new request.after row
      (held_body (accepts units r request block) (new ∷ []) (held_drawn units r request block now (λ u named. names_task r t n u (OfKind q) now runs (asks_named p c q request to u retry asks named))) t (OfKind q) goes_to (has_then t runs.has) goes_names')
      (snoc_new r.journal.rows row) refl
    where
      new : ℕ
      new = next_number r.journal

      goes_to : Body
      goes_to = OfKind (set_future q to (Some (next_number r.journal)))

      row : ActivationRow
      row = record { task = next_number r.journal; after = request.after; start = None }

      has_then : (t : ℕ) → found r.bodies t ≡ Some (OfKind q) → found (r.bodies ++ Some request.body ∷ []) t ≡ Some (OfKind q)
      has_then t has = found_old r.bodies (Some request.body) t (OfKind q) has

      goes_names' : (u : ℕ) → BodyNames goes_to u → HasTask (r.journal.rows ++ row ∷ []) u
      goes_names' u named = ⊎_elim (λ e. subst (HasTask (r.journal.rows ++ row ∷ [])) e (row, snoc_new r.journal.rows row, refl)) (λ old. task_snoc r.journal.rows row u (names_task r t n u (OfKind q) now runs old)) (set_named q to new u named)
  numbers_move r _ now (Move.respawned t n body to after priority notes runs renews some) =
      held_arrives _ (next_number r.journal) after (record { task = t; after = after; start = None })
      (held_renewed (with_notes r notes) t n body to after priority (noted r notes now) (runs_noted r notes t n body runs) (λ u named. names_task r t n u body now runs (renews_named p c units r n u body to after priority notes renews named)))
      (snoc_new r.journal.rows (record { task = t; after = after; start = None })) refl
  numbers_move r _ now (Move.gave t n body v runs answers) = held_ends r t n body (Gave v) cause.Clear now runs
  numbers_move r _ now (Move.refused t n body tag notes runs refuses) = held_ends (with_notes r notes) t n body (WasCut tag) (cause_of_cut tag) (noted r notes now) (runs_noted r notes t n body runs)
  numbers_move r _ now (Move.started n left idle next uncut) = held_starts r n left now idle next
  numbers_move r _ now (Move.cut_at_start n left row u tag idle next there after cut) =
      let (body, runs) = started_runs r n left row now idle next there in held_ends (begins r n left) row.task n body (WasCut tag) (cause.By u) (held_starts r n left now idle next) runs
