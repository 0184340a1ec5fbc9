-- A run of a valid program is over after so many steps: each step takes away from the lines and activations that are left.
use Rattle.std.proofs.Common.{◌≡◌, ◌⊎◌, ℕ, zero, suc, ◌+◌, ◌-◌, ◌*◌, ◌<◌, ◌≤◌, true, false, cond, Option, Some, None, List, [], ◌∷◌, ◌++◌, length, slice_get, refl, sym, ◌∙◌, ap, subst, inl, inr, ⊎_elim, arith}
use Rattle.std.specs.Option.{is_some}
use Rattle.std.proofs.lemmas.Bool.{false≢true}
use Rattle.std.proofs.lemmas.Option.{none-some, same_Some}
use Rattle.task_syntax.specs.Form.{IsWellFormed}
use Rattle.task_syntax.specs.Valid.{IsValid}
use Rattle.task_syntax.specs.declared.value.Value.{Value}
use Rattle.task_syntax.specs.declared.program.Program.{Program}
use Rattle.task_syntax.specs.declared.columns.Columns.{Columns}
use Rattle.task_meaning.specs.Meant.{future_at}
use Rattle.task_meaning.specs.Frame.{FrameOf, set_future}
use Rattle.task_meaning.specs.Acts.{Reads, ActsAt}
use Rattle.task_meaning.specs.Worths.{Respawn}
use Rattle.task_meaning.proofs.Ahead.{StepsAhead, act-ahead, jumps_ahead}
use Rattle.frame_code.specs.Words.{OfKind, OfMembers}
use Rattle.record_core.specs.Numbers.{by_number, found}
use Rattle.record_core.specs.Journal.{next_number, started_rows, starts}
use Rattle.record_core.specs.EndSeen.{RunPlan}
use Rattle.record_core.specs.declared.rows.ActivationRow.{ActivationRow}
use Rattle.record_core.proofs.TotalFacts.{total-snoc, total-set, total-bounded}
use Rattle.run_model.specs.State.{Body, Outcome, Gave, Queues, Run, next_queued}
use Rattle.run_model.specs.Step.{arrives, waits_or_queues, outcome_of, accepts, draws, with_body, step, steps, asked}
use Rattle.run_model.specs.Move.{with_notes, RunsAt, Goes, Still, begins, Move}
use Rattle.run_model.specs.End.{OneThreadRun, state_at}
use Rattle.run_model.proofs.StandsStill.{IsQuiet}
use Rattle.run_model.proofs.ByNumber.{has_some, snoc_old, found_old, found_put, found_within}
use Rattle.run_model.proofs.NumbersParts.{next_row}
use Rattle.run_model.proofs.RunsFacts.{running_number}
use Rattle.run_model.proofs.Traversal.{step_moves}
use Rattle.run_model.proofs.Reached.{asked_all}
use Rattle.run_model.proofs.RunStands.{RunStands, run_kept, run_stands}
use Rattle.run_model.proofs.FramesInvariant.{IsGiven, WillGive, IsSeated, FramesStand, has_started}
use Rattle.run_model.proofs.LineFacts.{shape_of}
use Rattle.run_model.proofs.SeatFacts.{seat_sound, seat_state, seat_code}
use Rattle.run_model.proofs.FramesKept.{frames_always}

-- the lines that are left to a body, and one more; an aggregate has one
abbrev work_at : Option Body → ℕ
work_at None = 0
work_at (Some (OfKind q)) = 65 - q.at
work_at (Some (OfMembers members next)) = 1

abbrev work_row : List (Option Body) → Option ActivationRow → ℕ
work_row bodies None = 0
work_row bodies (Some row) = work_at (found bodies row.task)

abbrev work_of : List ActivationRow → List (Option Body) → Option ℕ → ℕ
work_of rows bodies None = 0
work_of rows bodies (Some n) = work_row bodies (by_number rows n)

abbrev work : Run → ℕ
work r = work_of r.journal.rows r.bodies r.running

-- the activations that may still start, and the lines that are left
abbrev left_of : ℕ → Run → ℕ
left_of limit r = 66 * (limit - starts r.journal.rows) + work r

running_work : (r : Run) (t n : ℕ) (body : Body) → RunsAt r t n body → work r ≡ work_at (Some body)
running_work r t n body runs =
    ap (work_of r.journal.rows r.bodies) runs.running ∙ ap (work_row r.bodies) runs.there ∙ ap (λ u. work_at (found r.bodies u)) runs.of_task ∙ ap work_at runs.has

idle_work : (r : Run) → r.running ≡ None → work r ≡ 0
idle_work r idle = ap (work_of r.journal.rows r.bodies) idle

-- an arrival changes nothing of what runs
arrives_runs : (r : Run) (n : ℕ) (after : Option ℕ) (t m : ℕ) (body : Body) → RunsAt r t m body → RunsAt (arrives r n after) t m body
arrives_runs r n None t m body runs = record { row = runs.row; running = runs.running; there = runs.there; of_task = runs.of_task; has = runs.has }
arrives_runs r n (Some u) t m body runs = by (found r.outcomes u)
  where
    by : (o : Option Outcome) → RunsAt (waits_or_queues o r n u) t m body
    by None = record { row = runs.row; running = runs.running; there = runs.there; of_task = runs.of_task; has = runs.has }
    by (Some outcome) = record { row = runs.row; running = runs.running; there = runs.there; of_task = runs.of_task; has = runs.has }

arrives_idle : (r : Run) (n : ℕ) (after : Option ℕ) → ((arrives r n after).running ≡ r.running) × (starts (arrives r n after).journal.rows ≡ starts r.journal.rows)
arrives_idle r n None = (refl, refl)
arrives_idle r n (Some u) = by (found r.outcomes u)
  where
    by : (o : Option Outcome) → ((waits_or_queues o r n u).running ≡ r.running) × (starts (waits_or_queues o r n u).journal.rows ≡ starts r.journal.rows)
    by None = (refl, refl)
    by (Some outcome) = (refl, refl)

-- how many have started
abbrev start_one : ActivationRow → ℕ
start_one row = elim row.start [ None ↦ 0 | Some s ↦ 1 ]

starts_waiting : (rows : List ActivationRow) (row : ActivationRow) → row.start ≡ None → starts (rows ++ row ∷ []) ≡ starts rows
starts_waiting rows row waiting =
    let none : start_one row ≡ 0 = ap (λ (o : Option ℕ). elim o [ None ↦ 0 | Some s ↦ 1 ]) waiting in omega (arith, total-snoc start_one rows row, none)

starts_within : (rows : List ActivationRow) → starts rows ≤ length rows
starts_within rows = omega (arith, total-bounded start_one 1 rows (λ place row there. at_most row.start))
  where
    at_most : (o : Option ℕ) → elim o [ None ↦ 0 | Some s ↦ 1 ] ≤ 1
    at_most None = omega arith
    at_most (Some s) = omega arith

starts_begun : (rows : List ActivationRow) (n stamp : ℕ) (row : ActivationRow) → by_number rows n ≡ Some row → row.start ≡ None → starts (started_rows rows n stamp (by_number rows n)) ≡ starts rows + 1
starts_begun rows zero stamp row there waiting = absurd (none-some row there)
starts_begun rows (suc n) stamp row there waiting =
    let none : start_one row ≡ 0 = ap (λ (o : Option ℕ). elim o [ None ↦ 0 | Some s ↦ 1 ]) waiting in
    let changed = total-set start_one rows n row (record row { start = Some stamp }) there in
    ap (λ o. starts (started_rows rows (suc n) stamp o)) there ∙ omega (arith, changed, none)

module _ (p : Program) (formed : IsWellFormed p) (valid : IsValid p) (c : Columns) (limit units : ℕ) where
  -- what is known of a state
  record Known (r : Run) : Type 0 where
    run : RunStands p limit r
    frames : FramesStand p r

  seat_of : (r : Run) (t n : ℕ) (q : FrameOf ℕ) → Known r → (runs : RunsAt r t n (OfKind q)) → IsSeated p r runs.row.after (has_started runs.row) q
  seat_of r t n q known runs = known.frames.seated t n runs.row q (running_number r [] known.run.numbers t n (OfKind q) runs) runs.has

  runs_started : (r : Run) (t n : ℕ) (body : Body) → Known r → (runs : RunsAt r t n body) → has_started runs.row ≡ true
  runs_started r t n body known runs =
      let (row, there, some) = known.run.numbers.live.runs n runs.running in
      let same : row ≡ runs.row = same_Some row runs.row (sym there ∙ runs.there) in
      let (s, is_start) = has_some row.start some in
      ap has_started (sym same) ∙ ap (λ (o : Option ℕ). elim o [ None ↦ false | Some s ↦ true ]) is_start

  -- the frame stands at one of the 64 lines of its state
  frame_low : (r : Run) (t n : ℕ) (q : FrameOf ℕ) → Known r → RunsAt r t n (OfKind q) → q.at ≤ 64
  frame_low r t n q known runs =
      let seat = seat_of r t n q known runs in
      let state = seat_state p formed valid c r runs.row.after (has_started runs.row) q seat in omega (arith, seat.within, state.fits)

  -- a read finds a value
  read_given : (r : Run) (t n to x : ℕ) (q : FrameOf ℕ) → Known r → RunsAt r t n (OfKind q) → ActsAt p c q (Reads to x) → (v : Value) × (outcome_of r (future_at q.futures x) ≡ Some (Gave v))
  read_given r t n to x q known runs (line, there, e) =
      let seat = seat_of r t n q known runs in
      let is_get = shape_of c line.instr q (Reads to x) e in
      let sound = subst (λ i. Rattle.task_syntax.specs.Valid.IsSoundInstr p seat.kind seat.state q.at i) is_get (seat_sound p formed valid c r runs.row.after (has_started runs.row) q seat line there) in
      let (u, names) = has_some (future_at q.futures x) (seat.held x (sound.0 seat.facts seat.way)) in
      let given = subst (λ b. cond b (IsGiven r u) (WillGive r runs.row.after u)) (runs_started r t n (OfKind q) known runs) (seat.settled x u (sound.1 seat.facts seat.way) names) in
      (given.0, ap (outcome_of r) names ∙ given.1)

  -- nothing stands still but a run that is over
  still_quiet : (r : Run) → Known r → Still p c r → IsQuiet r
  still_quiet r known (Still.quiet idle empty) = record { idle = idle; empty = empty }
  still_quiet r known (Still.no_row n runs none) = let (row, there, some) = known.run.numbers.live.runs n runs in absurd (none-some row (sym none ∙ there))
  still_quiet r known (Still.no_body n row runs there none) =
      let task = (known.run.numbers.of_tasks n row there).of_task in
      let is_open = known.run.numbers.live.is_open row.task n row (record { there = there; of_task = refl; live = inr runs }) in
      absurd (false≢true (sym (ap is_some none) ∙ (known.run.numbers.live.has_body row.task task).1 is_open))
  still_quiet r known (Still.no_line t n q runs none) =
      let seat = seat_of r t n q known runs in
      let code = seat_code p formed valid c r runs.row.after (has_started runs.row) q seat in
      let (line, there) = line_there seat.state.code q.at seat.within in absurd (none-some line (sym none ∙ ap (λ ls. slice_get ls q.at) code ∙ there))
    where
      line_there : {A : Type 0} (xs : List A) (i : ℕ) → i < length xs → (x : A) × (slice_get xs i ≡ Some x)
      line_there [] i lt = absurd (omega arith)
      line_there (x ∷ xs) zero lt = (x, refl)
      line_there (x ∷ xs) (suc i) lt = line_there xs i (omega arith)
  still_quiet r known (Still.no_value t n to x q runs acts none) = let (v, e) = read_given r t n to x q known runs acts in absurd (none v e)

  -- a frame that goes on stands at a later line
  goes_ahead : (r : Run) (q next : FrameOf ℕ) → Goes p c r q next → q.at < next.at
  goes_ahead r q _ (Goes.steps next (line, there, e)) =
      let ahead = subst (StepsAhead q) e (act-ahead c line.instr q (jumps_ahead p formed q.kind q.state q.at line there)) in ahead.2
  goes_ahead r q _ (Goes.reads to x u n acts e f) = omega arith

  -- a turn that ends leaves no line
  turn_ends : (r s : Run) (t n : ℕ) (body : Body) → Known r → RunsAt r t n body → s.running ≡ None → starts s.journal.rows ≡ starts r.journal.rows → left_of limit s + 1 ≤ left_of limit r
  turn_ends r s t n (OfKind q) known runs idle same = omega (arith, idle_work s idle, running_work r t n (OfKind q) runs, frame_low r t n q known runs, same)
  turn_ends r s t n (OfMembers members next) known runs idle same = omega (arith, idle_work s idle, running_work r t n (OfMembers members next) runs, same)

  -- a start takes one of the activations that are left
  turn_begins : (r s : Run) (n : ℕ) (left : Queues) → Known r → r.running ≡ None → next_queued r.ready ≡ Some (n, left) → starts s.journal.rows ≡ starts (begins r n left).journal.rows → work s ≤ 65 → left_of limit s + 1 ≤ left_of limit r
  turn_begins r s n left known idle next same few =
      let (row, there, waits) = next_row r [] n left known.run.numbers next in
      let more = starts_begun r.journal.rows n (r.journal.stamps + 1) row there waits in
      let within = starts_within (begins r n left).journal.rows in
      let long : length (begins r n left).journal.rows ≡ length r.journal.rows = as_long (by_number r.journal.rows n) in
      omega (arith, idle_work r idle, more, within, long, known.run.journal.journal.within, known.run.journal.of_plan, same, few)
    where
      as_long : (o : Option ActivationRow) → length (started_rows r.journal.rows n (r.journal.stamps + 1) o) ≡ length r.journal.rows
      as_long None = refl
      as_long (Some row) = Rattle.run_model.proofs.ByNumber.length_put r.journal.rows n (record row { start = Some (r.journal.stamps + 1) })

  -- each move leaves less
  move_less : (r s : Run) → Known r → Move p c units r s → left_of limit s + 1 ≤ left_of limit r
  move_less r _ known (Move.goes_on t n q next runs goes) =
      let within = found_within r.bodies t (OfKind q) runs.has in
      let then : RunsAt (with_body r t (OfKind next)) t n (OfKind next) = record { row = runs.row; running = runs.running; there = runs.there; of_task = runs.of_task; has = found_put r.bodies t (Some (OfKind next)) within.0 within.1 } in
      omega (arith, running_work r t n (OfKind q) runs, running_work (with_body r t (OfKind next)) t n (OfKind next) then, goes_ahead r q next goes, frame_low r t n q known runs)
  move_less r _ known (Move.spawned t n to q request retry block runs asks placed some) =
      let new = next_number r.journal in
      let goes_to = set_future q to (Some new) in
      let drawn = with_body (accepts units r request block) t (OfKind goes_to) in
      let row : ActivationRow = record { task = new; after = request.after; start = None } in
      let has_then = found_old r.bodies (Some request.body) t (OfKind q) runs.has in
      let within = found_within (r.bodies ++ Some request.body ∷ []) t (OfKind q) has_then in
      let then : RunsAt drawn t n (OfKind goes_to) = record {
        row = runs.row;
        running = runs.running;
        there = snoc_old r.journal.rows row n runs.row runs.there;
        of_task = runs.of_task;
        has = found_put (r.bodies ++ Some request.body ∷ []) t (Some (OfKind goes_to)) within.0 within.1;
      } in
      let same = (arrives_idle drawn new request.after).1 in
      omega (
        arith,
        running_work r t n (OfKind q) runs,
        running_work (arrives drawn new request.after) t n (OfKind goes_to) (arrives_runs drawn new request.after t n (OfKind goes_to) then),
        frame_low r t n q known runs,
        same,
        starts_waiting r.journal.rows row refl,
      )
  move_less r _ known (Move.respawned t n body to after priority notes runs renews some) =
      let drawn = with_body (record (draws (with_notes r notes) (Some t) after priority (Respawn t after) None None) { running = None }) t to in
      let same = arrives_idle drawn (next_number r.journal) after in
      turn_ends r (arrives drawn (next_number r.journal) after) t n body known runs same.0 (same.1 ∙ starts_waiting r.journal.rows (record { task = t; after = after; start = None }) refl)
  move_less r s known (Move.gave t n body v runs answers) = turn_ends r s t n body known runs refl refl
  move_less r s known (Move.refused t n body tag notes runs refuses) = turn_ends r s t n body known runs refl refl
  move_less r s known (Move.started n left idle next uncut) = turn_begins r s n left known idle next refl (few_lines (by_number (begins r n left).journal.rows n))
    where
      few_body : (o : Option Body) → work_at o ≤ 65
      few_body None = omega arith
      few_body (Some (OfKind q)) = omega arith
      few_body (Some (OfMembers members next)) = omega arith

      few_lines : (o : Option ActivationRow) → work_row r.bodies o ≤ 65
      few_lines None = omega arith
      few_lines (Some row) = few_body (found r.bodies row.task)
  move_less r s known (Move.cut_at_start n left row u tag idle next there after cut) = turn_begins r s n left known idle next refl (omega (arith, idle_work s refl))

-- within as many steps as are left the run is over
module _ (p : Program) (formed : IsWellFormed p) (valid : IsValid p) (c : Columns) (plan : RunPlan) where
  known_at : (taken : ℕ) → Known p formed valid c plan.limit plan.units (state_at p c plan taken)
  known_at taken = record { run = run_stands p c plan taken; frames = frames_always p formed valid c plan taken }

  step_after : (taken : ℕ) (r : Run) → step p c plan.units (steps p c plan.units taken r) ≡ steps p c plan.units (suc taken) r
  step_after zero r = refl
  step_after (suc taken) r = step_after taken (step p c plan.units r)

  quiet_or_less : (taken : ℕ) → IsQuiet (state_at p c plan taken) ⊎ (left_of plan.limit (state_at p c plan (suc taken)) + 1 ≤ left_of plan.limit (state_at p c plan taken))
  quiet_or_less taken =
      ⊎_elim
      (λ stays. inl (still_quiet p formed valid c plan.limit plan.units (state_at p c plan taken) (known_at taken) stays.1))
      (λ move. inr (subst (λ s. left_of plan.limit s + 1 ≤ left_of plan.limit (state_at p c plan taken)) (step_after taken (asked p plan))
      (move_less p formed valid c plan.limit plan.units (state_at p c plan taken) (step p c plan.units (state_at p c plan taken)) (known_at taken) move)))
      (step_moves p c plan.units (state_at p c plan taken))

  over_within : (bound taken : ℕ) → left_of plan.limit (state_at p c plan taken) ≤ bound → (more : ℕ) × (more ≤ taken + bound) × IsQuiet (state_at p c plan more)
  over_within zero taken low = ⊎_elim (λ quiet. (taken, omega arith, quiet)) (λ less. absurd (omega (arith, less, low))) (quiet_or_less taken)
  over_within (suc bound) taken low =
      ⊎_elim (λ quiet. (taken, omega arith, quiet))
      (λ less. let (more, few, quiet) = over_within bound (suc taken) (omega (arith, less, low)) in (more, omega (arith, few), quiet))
      (quiet_or_less taken)

  pub run_ends : (end : Run) × (run : OneThreadRun p c plan end) × (run.taken ≤ 66 * plan.limit)
  run_ends =
      let first = asked_all p c plan (RunStands p plan.limit) (run_kept p c plan) in
      let (taken, few, quiet) = over_within (66 * plan.limit) 0 (omega (arith, idle_work (asked p plan) first.idle)) in
      (state_at p c plan taken, record { taken = taken; reached = refl; idle = quiet.idle; quiet = quiet.empty }, omega (arith, few))
