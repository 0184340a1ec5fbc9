-- Each move keeps where cuts come from.
use Rattle.std.proofs.Common.{◌≡◌, ◌≢◌, ◌⊎◌, ℕ, ◌+◌, ◌<◌, ◌≤◌, true, false, Option, Some, None, List, [], ◌∷◌, ◌++◌, length, slice_get, refl, sym, ◌∙◌, ap, subst, inl, inr, ⊎_elim, arith}
use Rattle.std.specs.Prelude.{IsSome}
use Rattle.std.specs.Option.{is_some}
use Rattle.std.proofs.lemmas.Bool.{cases_eq, false≢true, ltb-true, ltb-false}
use Rattle.std.proofs.lemmas.Option.{none-some, same_Some, slice_get_past}
use Rattle.task_syntax.specs.declared.value.Value.{Value}
use Rattle.task_syntax.specs.declared.program.Root.{Root as RootLine}
use Rattle.task_syntax.specs.declared.program.Program.{Program}
use Rattle.task_syntax.specs.declared.columns.Columns.{Columns}
use Rattle.record_core.specs.Numbers.{by_number, put_number, flat, found}
use Rattle.record_core.specs.Journal.{JournalState, task_or, next_number, with_accepted, with_finished, started_rows, unfinished, finish_of, cause_in, cause_of, Finishes, is_cut, IsRefusal, Leads, IsLastBehind, IsJournal}
use Rattle.record_core.specs.declared.rows.ActivationRow.{ActivationRow}
use Rattle.record_core.specs.declared.rows.TaskRow.{TaskRow}
use Rattle.record_core.specs.declared.rows.Cause.{Cause}
use Rattle.record_core.specs.declared.rows.Cause.TheVariants as cause
use Rattle.record_core.specs.declared.rows.CutTag.{CutTag}
use Rattle.record_core.specs.declared.rows.CutTag.TheVariants.{Null, Limit}
use Rattle.run_model.specs.State.{Body, Outcome, Gave, WasCut, RootWord, Named, Refused, Skipped, Queues, Run, next_queued}
use Rattle.run_model.specs.Move.{Notes, with_notes, RunsAt, Refuses, RefusesRoot, begins, Move, RootMove}
use Rattle.run_model.specs.Step.{cause_of_cut, has_number, arrives, waits_or_queues, accepts, draws, with_body, with_root, root_request, at_first}
use Rattle.run_model.proofs.ByNumber.{none_of_empty, has_some, length_put, snoc_old, snoc_cases, found_put, found_put_other}
use Rattle.run_model.proofs.LiveFacts.{same_row, one_started, WasRow, finish_snoc, outcome_snoc, task_within, was_row, row_then}
use Rattle.run_model.proofs.NumbersInvariant.{NumbersStand}
use Rattle.run_model.proofs.QueueFacts.{times_self, times_next}
use Rattle.run_model.proofs.NumbersParts.{slice_snoc, next_row}
use Rattle.run_model.proofs.RunsFacts.{running_within, running_open}
use Rattle.run_model.proofs.OutcomesInvariant.{OutcomesStand}
use Rattle.run_model.proofs.OutcomesKept.{cause_snoc, cause_here, cause_other, finish_here, finish_other}
use Rattle.run_model.proofs.Reached.{IsNextRoot}
use Rattle.record_core.specs.EndSeen.{RunPlan}
use Rattle.task_meaning.specs.Worths.{Respawn}
use Rattle.task_meaning.specs.Frame.{set_future}
use Rattle.frame_code.specs.Words.{OfKind}
use Rattle.run_model.proofs.CausesInvariant.{Causes, CausesStand}

-- a cause that cuts is not the cause of an uncut task
clear_not_cut : (why : Cause) → why ≡ cause.Clear → is_cut why ≡ true → ⊥
clear_not_cut why clear cut = false≢true (sym (ap is_cut clear) ∙ cut)

by_cuts : (why : Cause) (u : ℕ) → why ≡ cause.By u → is_cut why ≡ true
by_cuts why u e = ap is_cut e

refusal_cuts : (tag : CutTag) (why : Cause) → IsRefusal tag why → is_cut why ≡ true
refusal_cuts Null why e = ap is_cut e
refusal_cuts Limit why e = ap is_cut e

leads_cut : (tasks : List TaskRow) (tag : CutTag) (t : ℕ) → Leads tasks tag t → is_cut (cause_of tasks t) ≡ true
leads_cut tasks tag t (Leads.refused e) = refusal_cuts tag (cause_of tasks t) e
leads_cut tasks tag t (Leads.cut_by u f g e finish_u finish_t before rest) = by_cuts (cause_of tasks t) u e

-- where cut tasks keep cause and finish, causes lead where they led
pub leads_kept : (tasks tasks' : List TaskRow) (tag : CutTag) → ((t : ℕ) → is_cut (cause_of tasks t) ≡ true → (cause_of tasks' t ≡ cause_of tasks t) × (finish_of tasks' t ≡ finish_of tasks t)) → (t : ℕ) → Leads tasks tag t → Leads tasks' tag t
leads_kept tasks tasks' tag same t (Leads.refused e) = Leads.refused (subst (IsRefusal tag) (sym (same t (refusal_cuts tag (cause_of tasks t) e)).0) e)
leads_kept tasks tasks' tag same t (Leads.cut_by u f g e finish_u finish_t before rest) =
    let here = same t (by_cuts (cause_of tasks t) u e) in
    let there = same u (leads_cut tasks tag u rest) in
    Leads.cut_by u f g (here.0 ∙ e) (there.1 ∙ finish_u) (here.1 ∙ finish_t) before (leads_kept tasks tasks' tag same u rest)

-- a number is drawn below the limit, for a task without a cause
causes_drawn : (j : JournalState) (outcomes : List (Option Outcome)) (roots : List RootWord) (task after : Option ℕ) → length j.rows < j.limit → cause_of j.tasks (task_or task (next_number j)) ≡ cause.Clear
    → Causes j outcomes roots → Causes (with_accepted j task after) (outcomes ++ None ∷ []) roots
causes_drawn j outcomes roots task after below clear now = record { leads = leads; by = by; through = through; limited = limited; limited_root = limited_root }
  where
    row : ActivationRow
    row = record { task = task_or task (next_number j); after = after; start = None }

    leads : (t : ℕ) (tag : CutTag) → found (outcomes ++ None ∷ []) t ≡ Some (WasCut tag) → Leads (j.tasks ++ unfinished ∷ []) tag t
    leads t tag e = leads_kept j.tasks (j.tasks ++ unfinished ∷ []) tag (λ u cut. (cause_snoc j.tasks u, finish_snoc j.tasks u)) t (now.leads t tag (sym (outcome_snoc outcomes t) ∙ e))

    by : (t u : ℕ) → cause_of (j.tasks ++ unfinished ∷ []) t ≡ cause.By u → IsLastBehind (j.rows ++ row ∷ []) t u
    by t u e =
        let was_by : cause_of j.tasks t ≡ cause.By u = sym (cause_snoc j.tasks t) ∙ e in
        let was = now.by t u was_by in
        record {
          number = was.number;
          row = was.row;
          there = snoc_old j.rows row was.number was.row was.there;
          of_task = was.of_task;
          after = was.after;
          last = λ m other there is_t. ⊎_elim (λ old. was.last m other old is_t)
              (λ new. absurd (clear_not_cut (cause_of j.tasks t) (ap (cause_of j.tasks) (sym is_t ∙ ap (λ (k : ActivationRow). k.task) new.1) ∙ clear) (by_cuts (cause_of j.tasks t) u was_by)))
              (snoc_cases j.rows row m other there);
        }

    through : (n u : ℕ) (other : ActivationRow) → by_number (j.rows ++ row ∷ []) n ≡ Some other → IsSome other.start → other.after ≡ Some u → is_cut (cause_of (j.tasks ++ unfinished ∷ []) u) ≡ true
        → cause_of (j.tasks ++ unfinished ∷ []) other.task ≡ cause.By u
    through n u other there started is_after cut =
        ⊎_elim (λ old. cause_snoc j.tasks other.task ∙ now.through n u other old started is_after (sym (ap is_cut (cause_snoc j.tasks u)) ∙ cut))
        (λ new. absurd (false≢true (sym (ap is_some (ap (λ (k : ActivationRow). k.start) new.1)) ∙ started)))
        (snoc_cases j.rows row n other there)

    limited : (t : ℕ) → cause_of (j.tasks ++ unfinished ∷ []) t ≡ cause.Limit → length (j.rows ++ row ∷ []) ≡ j.limit
    limited t e = absurd (omega (arith, below, now.limited t (sym (cause_snoc j.tasks t) ∙ e)))

    limited_root : (at : ℕ) → slice_get roots at ≡ Some (Refused Limit) → length (j.rows ++ row ∷ []) ≡ j.limit
    limited_root at e = absurd (omega (arith, below, now.limited_root at e))

-- an activation starts: what is known of the others stays
module _ (r : Run) (n : ℕ) (left : Queues) (held : NumbersStand r) (next : next_queued r.ready ≡ Some (n, left)) (now : CausesStand r) where
  was : (k : ℕ) (other : ActivationRow) → by_number (begins r n left).journal.rows k ≡ Some other
      → WasRow r.journal.rows (begins r n left).journal.rows n (r.journal.stamps + 1) (next_row r [] n left held next).0 (next_row r [] n left held next).1 (one_started r.journal.rows n (r.journal.stamps + 1) (next_row r [] n left held next).0 (next_row r [] n left held next).1) k other
  was k other there =
      let row = next_row r [] n left held next in
      was_row r.journal.rows (begins r n left).journal.rows n (r.journal.stamps + 1) row.0 row.1 (one_started r.journal.rows n (r.journal.stamps + 1) row.0 row.1) k other there

  by_started : (t u : ℕ) → cause_of r.journal.tasks t ≡ cause.By u → IsLastBehind (begins r n left).journal.rows t u
  by_started t u e =
      let row = next_row r [] n left held next in
      let old = now.by t u e in
      let started = one_started r.journal.rows n (r.journal.stamps + 1) row.0 row.1 in
      let (now_row, there, same) = row_then r.journal.rows (begins r n left).journal.rows n (r.journal.stamps + 1) row.0 row.1 started old.number old.row old.there in
      let w = was old.number now_row there in
      let is_old : w.was ≡ old.row = same_row r.journal.rows old.number w.was old.row w.stood old.there in
      record {
        number = old.number;
        row = now_row;
        there = there;
        of_task = same ∙ old.of_task;
        after = w.after ∙ ap (λ (k : ActivationRow). k.after) is_old ∙ old.after;
        last = λ m other e is_t. let v = was m other e in old.last m v.was v.stood (sym v.task ∙ is_t);
      }

  through_others : (k u : ℕ) (other : ActivationRow) → by_number (begins r n left).journal.rows k ≡ Some other → k ≢ n → IsSome other.start → other.after ≡ Some u → is_cut (cause_of r.journal.tasks u) ≡ true
      → cause_of r.journal.tasks other.task ≡ cause.By u
  through_others k u other there differ started is_after cut =
      let w = was k other there in
      ap (cause_of r.journal.tasks) w.task ∙ now.through k u w.was w.stood (ap is_some (sym (w.start.1 differ)) ∙ started) (sym w.after ∙ is_after) cut

  as_many : length (begins r n left).journal.rows ≡ length r.journal.rows
  as_many = by (by_number r.journal.rows n)
    where
      by : (o : Option ActivationRow) → length (started_rows r.journal.rows n (r.journal.stamps + 1) o) ≡ length r.journal.rows
      by None = refl
      by (Some row) = length_put r.journal.rows n (record row { start = Some (r.journal.stamps + 1) })

  -- and it is not behind a cut task
  causes_started : OutcomesStand r → ((row : ActivationRow) (u : ℕ) (tag : CutTag) → by_number r.journal.rows n ≡ Some row → row.after ≡ Some u → found r.outcomes u ≢ Some (WasCut tag)) → CausesStand (begins r n left)
  causes_started agree uncut = record { leads = now.leads; by = by_started; through = through; limited = λ t e. as_many ∙ now.limited t e; limited_root = λ at e. as_many ∙ now.limited_root at e }
    where
      not_behind_cut : (u : ℕ) (row : ActivationRow) → by_number r.journal.rows n ≡ Some row → row.after ≡ Some u → is_cut (cause_of r.journal.tasks u) ≡ true → (o : Option Outcome) → found r.outcomes u ≡ o → ⊥
      not_behind_cut u row there after cut None e =
          let once = times_self n in let moved = times_next r.ready left n n next in
          let finished = held.numbers.free n u row there (omega (arith, once, moved)) after in
          false≢true (sym (ap is_some e) ∙ (held.live.has_outcome u).1 finished)
      not_behind_cut u row there after cut (Some (Gave v)) e = clear_not_cut (cause_of r.journal.tasks u) (agree.gave u v e) cut
      not_behind_cut u row there after cut (Some (WasCut tag)) e = uncut row u tag there after e

      through : (k u : ℕ) (other : ActivationRow) → by_number (begins r n left).journal.rows k ≡ Some other → IsSome other.start → other.after ≡ Some u → is_cut (cause_of r.journal.tasks u) ≡ true → cause_of r.journal.tasks other.task ≡ cause.By u
      through k u other there started is_after cut =
          ⊎_elim
          (λ same. let w = was k other there in absurd (not_behind_cut u w.was (sym (ap (by_number r.journal.rows) same) ∙ w.stood) (sym w.after ∙ is_after) cut (found r.outcomes u) refl))
          (λ differ. through_others k u other there differ started is_after cut)
          (cases_eq k n)

-- a task ends
module _ (j : JournalState) (outcomes : List (Option Outcome)) (roots : List RootWord) (t : ℕ) (outcome : Outcome) (why : Cause) where
  -- what is known before, of a task without a cause
  pub record MayEnd : Type 0 where
    pub some : 1 ≤ t
    pub within : t ≤ length j.tasks
    pub within_outcomes : t ≤ length outcomes
    pub clear : cause_of j.tasks t ≡ cause.Clear
    pub leads : (u : ℕ) (tag : CutTag) → found outcomes u ≡ Some (WasCut tag) → Leads j.tasks tag u
    pub by : (v u : ℕ) → cause_of j.tasks v ≡ cause.By u → IsLastBehind j.rows v u
    pub through : (n u : ℕ) (row : ActivationRow) → by_number j.rows n ≡ Some row → IsSome row.start → row.after ≡ Some u → is_cut (cause_of j.tasks u) ≡ true
        → (cause_of j.tasks row.task ≡ cause.By u) ⊎ ((row.task ≡ t) × (why ≡ cause.By u))
    pub none_behind : (n : ℕ) (row : ActivationRow) → by_number j.rows n ≡ Some row → IsSome row.start → row.after ≡ Some t → ⊥
    pub limited : (u : ℕ) → cause_of j.tasks u ≡ cause.Limit → length j.rows ≡ j.limit
    pub limited_root : (at : ℕ) → slice_get roots at ≡ Some (Refused Limit) → length j.rows ≡ j.limit
    -- of the end
    pub refused : (tag : CutTag) → outcome ≡ WasCut tag → IsRefusal tag why ⊎ ((u g : ℕ) × (why ≡ cause.By u) × (finish_of j.tasks u ≡ Some g) × (g < j.stamps + 1) × Leads j.tasks tag u)
    pub last_behind : (u : ℕ) → why ≡ cause.By u → IsLastBehind j.rows t u
    pub at_limit : why ≡ cause.Limit → length j.rows ≡ j.limit

  causes_ended : MayEnd → Causes (with_finished j t why) (put_number outcomes t (Some outcome)) roots
  causes_ended may = record { leads = leads; by = by; through = through; limited = limited; limited_root = may.limited_root }
    where
      tasks' : List TaskRow
      tasks' = (with_finished j t why).tasks

      here : (u : ℕ) → u ≡ t → cause_of (with_finished j t why).tasks u ≡ why
      here u same = cause_here j.tasks t (j.stamps + 1) why may.some may.within u same

      other : (u : ℕ) → u ≢ t → cause_of (with_finished j t why).tasks u ≡ cause_of j.tasks u
      other u differ = cause_other j.tasks t (j.stamps + 1) why may.some may.within u differ

      cut_differs : (u : ℕ) → is_cut (cause_of j.tasks u) ≡ true → u ≢ t
      cut_differs u cut same = clear_not_cut (cause_of j.tasks u) (ap (cause_of j.tasks) same ∙ may.clear) cut

      kept : (tag : CutTag) (u : ℕ) → Leads j.tasks tag u → Leads (with_finished j t why).tasks tag u
      kept tag u leads = leads_kept j.tasks (with_finished j t why).tasks tag (λ v cut. (other v (cut_differs v cut), finish_other j.tasks t (j.stamps + 1) why may.some may.within v (cut_differs v cut))) u leads

      leads_here : (u : ℕ) (tag : CutTag) → u ≡ t → outcome ≡ WasCut tag → Leads (with_finished j t why).tasks tag u
      leads_here u tag same is_cut_so =
          ⊎_elim
          (λ refusal. Leads.refused (subst (IsRefusal tag) (sym (here u same)) refusal))
          (λ by_other. Leads.cut_by by_other.0 (j.stamps + 1) by_other.1 (here u same ∙ by_other.2)
          (finish_other j.tasks t (j.stamps + 1) why may.some may.within by_other.0 (differs by_other.0 by_other.1 by_other.3 by_other.5) ∙ by_other.3)
          (finish_here j.tasks t (j.stamps + 1) why may.some may.within u same) by_other.4 (kept tag by_other.0 by_other.5))
          (may.refused tag is_cut_so)
        where
          differs : (v g : ℕ) → finish_of j.tasks v ≡ Some g → Leads j.tasks tag v → v ≢ t
          differs v g finished leads = cut_differs v (leads_cut j.tasks tag v leads)

      leads : (u : ℕ) (tag : CutTag) → found (put_number outcomes t (Some outcome)) u ≡ Some (WasCut tag) → Leads (with_finished j t why).tasks tag u
      leads u tag e =
          ⊎_elim
          (λ same. leads_here u tag same (same_Some outcome (WasCut tag) (sym (found_put outcomes t (Some outcome) may.some may.within_outcomes) ∙ sym (ap (found (put_number outcomes t (Some outcome))) same) ∙ e)))
          (λ differ. kept tag u (may.leads u tag (sym (found_put_other outcomes t u (Some outcome) differ) ∙ e)))
          (cases_eq u t)

      by : (v u : ℕ) → cause_of (with_finished j t why).tasks v ≡ cause.By u → IsLastBehind j.rows v u
      by v u e =
          ⊎_elim (λ same. subst (λ x. IsLastBehind j.rows x u) (sym same) (may.last_behind u (sym (here v same) ∙ e))) (λ differ. may.by v u (sym (other v differ) ∙ e)) (cases_eq v t)

      through : (n u : ℕ) (row : ActivationRow) → by_number j.rows n ≡ Some row → IsSome row.start → row.after ≡ Some u → is_cut (cause_of (with_finished j t why).tasks u) ≡ true → cause_of (with_finished j t why).tasks row.task ≡ cause.By u
      through n u row there started after cut =
          ⊎_elim
          (λ same. absurd (may.none_behind n row there started (after ∙ ap Some same)))
          (λ differ.
          ⊎_elim
          (λ old. other row.task (cut_differs row.task (by_cuts (cause_of j.tasks row.task) u old)) ∙ old)
          (λ new. here row.task new.0 ∙ new.1)
          (may.through n u row there started after (sym (ap is_cut (other u differ)) ∙ cut)))
          (cases_eq u t)

      limited : (u : ℕ) → cause_of (with_finished j t why).tasks u ≡ cause.Limit → length j.rows ≡ j.limit
      limited u e = ⊎_elim (λ same. may.at_limit (sym (here u same) ∙ e)) (λ differ. may.limited u (sym (other u differ) ∙ e)) (cases_eq u t)

-- what is common to the ends of a running task that no move is in the middle of
module _ (p : Program) (c : Columns) (units : ℕ) (r : Run) (held : NumbersStand r) (agree : OutcomesStand r) (journal : IsJournal r.journal) (now : CausesStand r) where
  none_behind : (t m : ℕ) (body : Body) → RunsAt r t m body → (n : ℕ) (row : ActivationRow) → by_number r.journal.rows n ≡ Some row → IsSome row.start → row.after ≡ Some t → ⊥
  none_behind t m body runs n row there started after =
      let (s, is_start) = has_some row.start started in
      let (f, is_finish, before) = journal.ordered.behind n t s row there after is_start in none-some f (sym (running_open r [] held t m body runs) ∙ is_finish)

  ends_so : (t m : ℕ) (body : Body) (outcome : Outcome) (why : Cause) → RunsAt r t m body
      → ((tag : CutTag) → outcome ≡ WasCut tag → IsRefusal tag why) → ((u : ℕ) → why ≢ cause.By u) → (why ≡ cause.Limit → length r.journal.rows ≡ r.journal.limit) → Causes (with_finished r.journal t why) (put_number r.outcomes t (Some outcome)) r.roots
  ends_so t m body outcome why runs refused not_by at_limit =
      let within = running_within r [] held t m body runs in
      causes_ended r.journal r.outcomes r.roots t outcome why (record {
        some = within.0;
        within = omega (arith, within.1, held.beside.of_tasks);
        within_outcomes = omega (arith, within.1, held.beside.of_outcomes);
        clear = agree.open_ t (running_open r [] held t m body runs);
        leads = now.leads;
        by = now.by;
        through = λ n u row there started after cut. inl (now.through n u row there started after cut);
        none_behind = none_behind t m body runs;
        limited = now.limited;
        limited_root = now.limited_root;
        refused = λ tag e. inl (refused tag e);
        last_behind = λ u e. absurd (not_by u e);
        at_limit = at_limit;
      })

  gives_so : (t m : ℕ) (body : Body) (v : Value) → RunsAt r t m body → Causes (with_finished r.journal t cause.Clear) (put_number r.outcomes t (Some (Gave v))) r.roots
  gives_so t m body v runs = ends_so t m body (Gave v) cause.Clear runs (λ tag e. absurd (no_cut tag e)) no_by (λ e. absurd (no_limit e))
    where
      no_cut : (tag : CutTag) → Gave v ≡ WasCut tag → ⊥
      no_cut tag e = cc

      no_by : (u : ℕ) → cause.Clear ≢ cause.By u
      no_by u e = cc

      no_limit : cause.Clear ≡ cause.Limit → ⊥
      no_limit e = cc

  -- no number is left
  full : has_number r ≡ false → length r.journal.rows ≡ r.journal.limit
  full e = let over = ltb-false (length r.journal.rows) r.journal.limit e in omega (arith, over, journal.within)

  refused_full : (n : ℕ) (body : Body) (tag : CutTag) (notes : Notes) → Refuses p c units r n body tag notes → cause_of_cut tag ≡ cause.Limit → length r.journal.rows ≡ r.journal.limit
  refused_full n _ _ _ (Refuses.no_block q request to how e) is_limit = absurd (wrong is_limit)
    where
      wrong : cause.Null ≡ cause.Limit → ⊥
      wrong e = cc
  refused_full n _ _ _ (Refuses.no_number q request to retry block how e none) is_limit = full none
  refused_full n _ _ _ (Refuses.no_renewal body to after priority notes how none) is_limit = full none

  refuses_so : (t m : ℕ) (body : Body) (tag : CutTag) (notes : Notes) → RunsAt r t m body → Refuses p c units r m body tag notes → Causes (with_finished r.journal t (cause_of_cut tag)) (put_number r.outcomes t (Some (WasCut tag))) r.roots
  refuses_so t m body tag notes runs refuses = ends_so t m body (WasCut tag) (cause_of_cut tag) runs (λ other e. is_refusal tag other e) (no_by tag) (refused_full m body tag notes refuses)
    where
      is_refusal : (tag other : CutTag) → WasCut tag ≡ WasCut other → IsRefusal other (cause_of_cut tag)
      is_refusal Null Null e = refl
      is_refusal Limit Limit e = refl
      is_refusal Null Limit e = absurd (wrong e)
        where
          wrong : WasCut Null ≡ WasCut Limit → ⊥
          wrong e = cc
      is_refusal Limit Null e = absurd (wrong e)
        where
          wrong : WasCut Limit ≡ WasCut Null → ⊥
          wrong e = cc

      no_by : (tag : CutTag) (u : ℕ) → cause_of_cut tag ≢ cause.By u
      no_by Null u e = cc
      no_by Limit u e = cc

-- the next activation starts behind a cut task, and its task is cut by that one
module _ (r : Run) (n : ℕ) (left : Queues) (row : ActivationRow) (u : ℕ) (tag : CutTag) (held : NumbersStand r) (agree : OutcomesStand r) (journal : IsJournal r.journal) (now : CausesStand r) (idle : r.running ≡ None)
    (next : next_queued r.ready ≡ Some (n, left)) (there : by_number r.journal.rows n ≡ Some row) (after : row.after ≡ Some u) (cut : found r.outcomes u ≡ Some (WasCut tag)) where
  waits : row.start ≡ None
  waits = let old = next_row r [] n left held next in ap (λ (k : ActivationRow). k.start) (same_row r.journal.rows n row old.0 there old.1) ∙ old.2

  task_open : finish_of r.journal.tasks row.task ≡ None
  task_open = held.live.is_open row.task n row (record { there = there; of_task = refl; live = inl waits })

  -- the cut task finished before
  cut_finished : (g : ℕ) × (finish_of r.journal.tasks u ≡ Some g) × (g ≤ r.journal.stamps)
  cut_finished =
      let (g, e) = has_some (finish_of r.journal.tasks u) ((held.live.has_outcome u).0 (ap is_some cut)) in
      (g, e, (journal.stamped.within (Finishes u) g e).1)

  row_at_n : (k : ℕ) (other : ActivationRow) → by_number (begins r n left).journal.rows k ≡ Some other → k ≡ n → (other.task ≡ row.task) × (other.after ≡ Some u)
  row_at_n k other e same =
      let w = was r n left held next now k other e in
      let is_row : w.was ≡ row = same_row r.journal.rows n w.was row (sym (ap (by_number r.journal.rows) same) ∙ w.stood) there in
      (w.task ∙ ap (λ (x : ActivationRow). x.task) is_row, w.after ∙ ap (λ (x : ActivationRow). x.after) is_row ∙ after)

  cut_through : (k v : ℕ) (other : ActivationRow) → by_number (begins r n left).journal.rows k ≡ Some other → IsSome other.start → other.after ≡ Some v → is_cut (cause_of r.journal.tasks v) ≡ true
      → (cause_of r.journal.tasks other.task ≡ cause.By v) ⊎ ((other.task ≡ row.task) × (cause.By u ≡ cause.By v))
  cut_through k v other e started is_after is_cut_v =
      ⊎_elim (λ same. let now_row = row_at_n k other e same in inr (now_row.0, ap cause.By (same_Some u v (sym now_row.1 ∙ is_after))))
      (λ differ. inl (through_others r n left held next now k v other e differ started is_after is_cut_v))
      (cases_eq k n)

  none_behind_cut : (k : ℕ) (other : ActivationRow) → by_number (begins r n left).journal.rows k ≡ Some other → IsSome other.start → other.after ≡ Some row.task → ⊥
  none_behind_cut k other e started is_after =
      ⊎_elim
      (λ same.
      let now_row = row_at_n k other e same in
      let is_task : u ≡ row.task = same_Some u row.task (sym now_row.1 ∙ is_after) in
      none-some cut_finished.0 (sym task_open ∙ sym (ap (finish_of r.journal.tasks) is_task) ∙ cut_finished.1))
      (λ differ.
      let w = was r n left held next now k other e in
      let (s, is_start) = has_some w.was.start (ap is_some (sym (w.start.1 differ)) ∙ started) in
      let (f, is_finish, before) = journal.ordered.behind k row.task s w.was w.stood (sym w.after ∙ is_after) is_start in none-some f (sym task_open ∙ is_finish))
      (cases_eq k n)

  last_cut : (v : ℕ) → cause.By u ≡ cause.By v → IsLastBehind (begins r n left).journal.rows row.task v
  last_cut v same =
      let old = next_row r [] n left held next in
      let started = one_started r.journal.rows n (r.journal.stamps + 1) old.0 old.1 in
      let is_row : old.0 ≡ row = same_row r.journal.rows n old.0 row old.1 there in
      record {
        number = n;
        row = record old.0 { start = Some (r.journal.stamps + 1) };
        there = started.here;
        of_task = ap (λ (x : ActivationRow). x.task) is_row;
        after = ap (λ (x : ActivationRow). x.after) is_row ∙ after ∙ ap Some (same_by u v same);
        last = λ m other e is_t. let w = was r n left held next now m other e in
            held.live.last row.task n m row w.was (record { there = there; of_task = refl; live = inl waits }) w.stood (sym w.task ∙ is_t);
      }
    where
      same_by : (u v : ℕ) → cause.By u ≡ cause.By v → u ≡ v
      same_by u v e = cc

  causes_cut : Causes (with_finished (begins r n left).journal row.task (cause.By u)) (put_number r.outcomes row.task (Some (WasCut tag))) r.roots
  causes_cut =
      let within = task_within r.journal.rows row.task (held.of_tasks n row there).of_task in
      causes_ended (begins r n left).journal r.outcomes r.roots row.task (WasCut tag) (cause.By u) (record {
        some = within.0;
        within = omega (arith, within.1, held.beside.of_tasks);
        within_outcomes = omega (arith, within.1, held.beside.of_outcomes);
        clear = agree.open_ row.task task_open;
        leads = now.leads;
        by = by_started r n left held next now;
        through = cut_through;
        none_behind = none_behind_cut;
        limited = λ t e. as_many r n left held next now ∙ now.limited t e;
        limited_root = λ at e. as_many r n left held next now ∙ now.limited_root at e;
        refused = λ other e. inr (u, cut_finished.0, refl, cut_finished.1, omega (arith, cut_finished.2), subst (λ g. Leads r.journal.tasks g u) (same_tag tag other e) (now.leads u tag cut));
        last_behind = last_cut;
        at_limit = λ e. absurd (wrong u e);
      })
    where
      same_tag : (one other : CutTag) → WasCut one ≡ WasCut other → one ≡ other
      same_tag one other e = cc

      wrong : (u : ℕ) → cause.By u ≡ cause.Limit → ⊥
      wrong u e = cc

-- a number may be drawn
has_room_for : (r : Run) → has_number r ≡ true → length r.journal.rows < r.journal.limit
has_room_for r e = ltb-true (length r.journal.rows) r.journal.limit e

new_clear : (r : Run) → NumbersStand r → cause_of r.journal.tasks (next_number r.journal) ≡ cause.Clear
new_clear r held = ap cause_in (slice_get_past r.journal.tasks (length r.journal.rows) (omega (arith, held.beside.of_tasks)))

arrives_causes : (r : Run) (n : ℕ) (after : Option ℕ) → CausesStand r → CausesStand (arrives r n after)
arrives_causes r n None now = record { leads = now.leads; by = now.by; through = now.through; limited = now.limited; limited_root = now.limited_root }
arrives_causes r n (Some u) now = by (found r.outcomes u)
  where
    by : (o : Option Outcome) → CausesStand (waits_or_queues o r n u)
    by None = record { leads = now.leads; by = now.by; through = now.through; limited = now.limited; limited_root = now.limited_root }
    by (Some outcome) = record { leads = now.leads; by = now.by; through = now.through; limited = now.limited; limited_root = now.limited_root }

-- before the first root nothing is cut
pub causes_first : (plan : RunPlan) → CausesStand (at_first plan)
causes_first plan = record {
  leads = λ t tag e. absurd (none-some (WasCut tag) (sym (ap flat (none_of_empty t)) ∙ e));
  by = λ t u e. absurd (clear_not_cut (cause_of [] t) (ap cause_in (none_of_empty t)) (by_cuts (cause_of [] t) u e));
  through = λ n u row e. absurd (none-some row (sym (none_of_empty n) ∙ e));
  limited = λ t e. absurd (clear_not_cut (cause_of [] t) (ap cause_in (none_of_empty t)) (ap is_cut e));
  limited_root = λ at e. absurd (none-some (Refused Limit) e);
}

-- a root's word is added
rooted : (r : Run) (word : RootWord) → CausesStand r → (word ≡ Refused Limit → length r.journal.rows ≡ r.journal.limit) → Causes r.journal r.outcomes (r.roots ++ word ∷ [])
rooted r word now at_limit = record {
  leads = now.leads;
  by = now.by;
  through = now.through;
  limited = now.limited;
  limited_root = λ at e. ⊎_elim (λ old. now.limited_root at old) (λ new. at_limit new.1) (slice_snoc r.roots word (Refused Limit) at e);
}

-- a root's move keeps where cuts come from
pub causes_root : (p : Program) (units : ℕ) (r s : Run) (root : RootLine) → IsNextRoot p r root → NumbersStand r → IsJournal r.journal → CausesStand r → RootMove p units r root s → CausesStand s
causes_root p units r _ root next held journal now (RootMove.named block free placed some) =
    let request = root_request p r root in
    let drawn = causes_drawn r.journal r.outcomes (r.roots ++ Named (next_number r.journal) ∷ []) None request.after (has_room_for r some) (new_clear r held) (rooted r (Named (next_number r.journal)) now (λ e. absurd (not_refused (next_number r.journal) e))) in
    arrives_causes (with_root (accepts units r request block) (Named (next_number r.journal))) (next_number r.journal) request.after
    (record { leads = drawn.leads; by = drawn.by; through = drawn.through; limited = drawn.limited; limited_root = drawn.limited_root })
  where
    not_refused : (n : ℕ) → Named n ≡ Refused Limit → ⊥
    not_refused n e = cc
causes_root p units r _ root next held journal now (RootMove.refused tag notes free how) = at_host tag notes how
  where
    differ : Refused Null ≡ Refused Limit → ⊥
    differ e = cc

    at_host : (tag : CutTag) (notes : Notes) → RefusesRoot p units r root tag notes → CausesStand (with_root (with_notes r notes) (Refused tag))
    at_host _ _ (RefusesRoot.no_block e) =
        let done = rooted r (Refused Null) now (λ e. absurd (differ e)) in record { leads = done.leads; by = done.by; through = done.through; limited = done.limited; limited_root = done.limited_root }
    at_host _ _ (RefusesRoot.no_number block e none) =
        let over = ltb-false (length r.journal.rows) r.journal.limit none in
        let done = rooted r (Refused Limit) now (λ e. omega (arith, over, journal.within)) in record { leads = done.leads; by = done.by; through = done.through; limited = done.limited; limited_root = done.limited_root }
causes_root p units r _ root next held journal now (RootMove.skipped first e) =
    let done = rooted r (Skipped first.0 first.1) now (λ f. absurd (differ first.0 first.1 f)) in record { leads = done.leads; by = done.by; through = done.through; limited = done.limited; limited_root = done.limited_root }
  where
    differ : (at : ℕ) (tag : CutTag) → Skipped at tag ≡ Refused Limit → ⊥
    differ at tag e = cc

module _ (p : Program) (c : Columns) (units : ℕ) where
  -- each move keeps where cuts come from
  pub causes_move : (r s : Run) → NumbersStand r → OutcomesStand r → IsJournal r.journal → CausesStand r → Move p c units r s → CausesStand s
  causes_move r _ held agree journal now (Move.goes_on t n q next runs goes) = record { leads = now.leads; by = now.by; through = now.through; limited = now.limited; limited_root = now.limited_root }
  causes_move r _ held agree journal now (Move.spawned t n to q request retry block runs asks placed some) =
      let drawn = causes_drawn r.journal r.outcomes r.roots None request.after (has_room_for r some) (new_clear r held) now in
      arrives_causes (with_body (accepts units r request block) t (OfKind (set_future q to (Some (next_number r.journal))))) (next_number r.journal) request.after
      (record { leads = drawn.leads; by = drawn.by; through = drawn.through; limited = drawn.limited; limited_root = drawn.limited_root })
  causes_move r _ held agree journal now (Move.respawned t n body to after priority notes runs renews some) =
      let drawn = causes_drawn r.journal r.outcomes r.roots (Some t) after (has_room_for r some) (agree.open_ t (running_open r [] held t n body runs)) now in
      arrives_causes (with_body (record (draws (with_notes r notes) (Some t) after priority (Respawn t after) None None) { running = None }) t to) (next_number r.journal) after
      (record { leads = drawn.leads; by = drawn.by; through = drawn.through; limited = drawn.limited; limited_root = drawn.limited_root })
  causes_move r _ held agree journal now (Move.gave t n body v runs answers) =
      let done = gives_so p c units r held agree journal now t n body v runs in record { leads = done.leads; by = done.by; through = done.through; limited = done.limited; limited_root = done.limited_root }
  causes_move r _ held agree journal now (Move.refused t n body tag notes runs refuses) =
      let done = refuses_so p c units r held agree journal now t n body tag notes runs refuses in record { leads = done.leads; by = done.by; through = done.through; limited = done.limited; limited_root = done.limited_root }
  causes_move r _ held agree journal now (Move.started n left idle next uncut) = causes_started r n left held next now agree uncut
  causes_move r _ held agree journal now (Move.cut_at_start n left row u tag idle next there after cut) =
      let done = causes_cut r n left row u tag held agree journal now idle next there after cut in record { leads = done.leads; by = done.by; through = done.through; limited = done.limited; limited_root = done.limited_root }
