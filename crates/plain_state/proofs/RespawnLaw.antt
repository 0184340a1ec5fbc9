-- A running task respawns: what the engine does is what the run does.
use Rattle.std.proofs.Common.{◌≡◌, ◌⊎◌, ℕ, ◌+◌, ◌<◌, ◌≤◌, true, false, cond, Option, Some, None, List, [], length, map, slice_get, refl, sym, ◌∙◌, ap, subst, inl, inr, ⊎_elim, arith}
use Rattle.std.specs.List.{filter_map}
use Rattle.std.proofs.lemmas.Option.{same_Some}
use Rattle.task_syntax.specs.declared.value.Priority.{Priority}
use Rattle.task_syntax.specs.declared.value.Priority.TheVariants.{Regular}
use Rattle.task_syntax.specs.declared.program.Program.{Program}
use Rattle.task_syntax.specs.declared.columns.Columns.{Columns}
use Rattle.task_meaning.specs.Frame.{FrameOf, frame_with, enter, renamed}
use Rattle.task_meaning.specs.FrameLaws.{task_waited}
use Rattle.task_meaning.specs.Acts.{Respawns, act_of}
use Rattle.task_meaning.specs.Worths.{Respawn}
use Rattle.task_meaning.proofs.Renaming.{future_at-renamed, enter-renamed}
use Rattle.frame_code.specs.Words.{OfKind, OfMembers, body_of}
use Rattle.frame_code.specs.Frames.{IsFrame}
use Rattle.frame_code.specs.Names.{names_of, body_with}
use Rattle.frame_code.specs.Stops.{StopsAt}
use Rattle.frame_code.specs.Members.{member_act}
use Rattle.frame_code.specs.declared.act.Act.TheVariants as act
use Rattle.frame_code.specs.declared.act.RespawnRequest.{RespawnRequest}
use Rattle.record_core.specs.Journal.{next_number}
use Rattle.record_core.specs.EndSeen.{RunPlan}
use Rattle.record_core.specs.declared.rows.Cause.TheVariants as cause
use Rattle.record_core.specs.declared.rows.CutTag.TheVariants.{Limit}
use Rattle.run_model.specs.State.{Body, WasCut as RunWasCut, Run}
use Rattle.run_model.specs.Step.{arrives, is_refused, respawns, with_body, draws, has_number, does, goes_behind, asked_priority, priority_of, step}
use Rattle.run_model.specs.Move.{RunsAt, Renews, notes_of}
use Rattle.run_model.proofs.NamesFacts.{renews_named}
use Rattle.run_model.proofs.NumbersInvariant.{NumbersStand, BodyNames}
use Rattle.plain_state.specs.declared.record.Outcome.TheVariants.{WasCut}
use Rattle.plain_state.specs.declared.record.Record.{Record}
use Rattle.plain_state.specs.Engine.{EngineState}
use Rattle.plain_state.specs.Moves.{behind_at}
use Rattle.plain_state.specs.Laws.{AsksFor, Finishes, RenewsTask, RespawnIsStep, entered_held, respawn_unit, respawn_priority, unit_in_if}
use Rattle.plain_state.specs.Sees.{SeesBody, InUse, Runs, times, unit_of}
use Rattle.plain_state.proofs.Units.{le_or_lt, unit_in_use, one_task}
use Rattle.plain_state.proofs.References.{in_use_open, in_use_named, times_member, times_there}
use Rattle.plain_state.proofs.InHand.{known_at}
use Rattle.plain_state.proofs.SetFuture.{future_named}
use Rattle.plain_state.proofs.Running.{body_length, frame_size, reached_next, reached_stands, step_body, step_line, stops_renamed, stop_shape, own_says}
use Rattle.plain_state.proofs.GrownLists.{map_member}
use Rattle.plain_state.proofs.NewNames.{body_units, names_named}
use Rattle.plain_state.proofs.BehindSeen.{behind_seen}
use Rattle.plain_state.proofs.Finishing.{names_seen}
use Rattle.plain_state.proofs.TaskEnds.{finishes_as}
use Rattle.plain_state.proofs.NewArrives.{number_left, no_number_left}
use Rattle.plain_state.proofs.Renewal.{renews_as, preimages, times_image}

-- a body that names a task has it among its names
pub named_times : (body : Body) (u : ℕ) → BodyNames body u → 1 ≤ times u (names_of body)
named_times (OfKind q) u (x, e) = future_named q.futures x u e
named_times (OfMembers members next) u (at, e) = times_member u members at e

-- a running task is renewed as what a move of the run says
module _ (p : Program) (c : Columns) (plan : RunPlan) (e : EngineState) (r : Run) (unit : ℕ) (words : List ℕ) (runs : Runs p c plan e unit words r)
    (to : Body) (after : Option ℕ) (priority : Priority)
    (renews : Renews p c plan.units r runs.n runs.body to after priority (notes_of r)) (at_unit : Option ℕ)
    (is_unit : at_unit ≡ renamed (unit_of r.blocks) after)
    (steps_to : step p c plan.units r ≡ respawns r runs.t to after priority) where
  abbrev own : Option (ℕ × List ℕ)
  own = Some (runs.t, words)

  -- what every run keeps of its numbers
  held : NumbersStand r
  held = (reached_stands p c plan r runs.reached).numbers

  -- what the task is renewed as names what its body names, and so tasks in use
  still_named : (u : ℕ) → BodyNames to u ⊎ (after ≡ Some u) → 1 ≤ times u (names_of runs.body)
  still_named u names = named_times runs.body u (renews_named p c plan.units r runs.n u runs.body to after priority (notes_of r) renews names)

  used : (u : ℕ) → 1 ≤ times u (names_of runs.body) → InUse [] r u
  used u some = in_use_named [] r runs.t u runs.body runs.runs.has some

  -- and have units
  has_unit : (u : ℕ) → 1 ≤ times u (names_of runs.body) → (x : ℕ) × (unit_of r.blocks u ≡ Some x)
  has_unit u some = unit_in_use p plan.units [] own e r runs.sees u (used u some)

  -- no two of them have one unit
  only : (u v x : ℕ) → 1 ≤ times u (names_of runs.body) → 1 ≤ times v (names_of runs.body) → unit_of r.blocks u ≡ Some x → unit_of r.blocks v ≡ Some x
      → v ≡ u
  only u v x some_u some_v at_u at_v = one_task p plan.units [] own e r runs.sees v u x (used v some_v) (used u some_u) at_v at_u

  -- each name of the new body was one of the old
  in_to : (u : ℕ) → 1 ≤ times u (names_of to) → 1 ≤ times u (names_of runs.body)
  in_to u some = still_named u (inl (names_named to u some))

  -- with a number left
  pub renews_with : (next given_up : List ℕ) → has_number r ≡ true → SeesBody p r.blocks next to → length next ≡ length words
      → ((x : ℕ) → times x given_up + times x (names_of (body_of p next)) ≡ times x (names_of (body_of p words)))
      → RenewsTask p c plan e unit priority (behind_at e.store at_unit) given_up next (step p c plan.units r)
  renews_with next given_up some says long counts =
      renews_as p c plan e r unit words runs.t runs.n runs.body held runs.runs runs.at runs.sees after priority
      (behind_at e.store at_unit) to given_up next gone
      (behind_seen p plan.units [] own e r runs.sees after at_unit is_unit (λ u is. used u (still_named u (inr is))))
      names are says long (λ u named. held.names.in_bodies runs.t u runs.body runs.runs.has
      (renews_named p c plan.units r runs.n u runs.body to after priority (notes_of r) renews named))
      (step p c plan.units r) (reached_next p c plan r runs.reached)
      (steps_to ∙ ap (λ b. cond b
      (arrives (with_body (record (draws r (Some runs.t) after priority (Respawn runs.t after) None None) { running = None }) runs.t to)
      (next_number r.journal) after) (is_refused r runs.t Limit)) some)
    where
      old_units : map (unit_of r.blocks) (names_of runs.body) ≡ map (λ x. Some x) (names_of (body_of p words))
      old_units = names_seen p plan.units e r unit words runs.t runs.n runs.body held runs.runs runs.at runs.sees

      new_units : map (unit_of r.blocks) (names_of to) ≡ map (λ x. Some x) (names_of (body_of p next))
      new_units =
          body_units (unit_of r.blocks) to (λ u some_u. has_unit u (in_to u some_u)) ∙ ap (λ b. map (λ x. Some x) (names_of b)) (sym says.says)

      -- the tasks whose units are given up
      chosen : (us : List ℕ) × (map (unit_of r.blocks) us ≡ map (λ x. Some x) given_up) ×
          ((u : ℕ) → 1 ≤ times u us → 1 ≤ times u (names_of runs.body))
      chosen = preimages (unit_of r.blocks) (λ u. 1 ≤ times u (names_of runs.body)) given_up (λ x some_x.
          let (place, there) = times_there x (names_of (body_of p words)) (omega (arith, counts x, some_x)) in
          let (u, stands, is) = map_member (unit_of r.blocks) (names_of runs.body) (names_of (body_of p words)) old_units place x there in
          (u, times_member u (names_of runs.body) place stands, is))

      gone : List ℕ
      gone = chosen.0

      are : map (unit_of r.blocks) gone ≡ map (λ x. Some x) given_up
      are = chosen.1

      in_gone : (u : ℕ) → 1 ≤ times u gone → 1 ≤ times u (names_of runs.body)
      in_gone = chosen.2

      names : (u : ℕ) → times u gone + times u (names_of to) ≡ times u (names_of runs.body)
      names u = ⊎_elim here absent (le_or_lt 1 (times u (names_of runs.body)))
        where
          here : 1 ≤ times u (names_of runs.body) → times u gone + times u (names_of to) ≡ times u (names_of runs.body)
          here some_u =
              let (x, at_x) = has_unit u some_u in
              let g = times_image (unit_of r.blocks) gone given_up u x are at_x (λ v some_v at_v. only u v x some_u (in_gone v some_v) at_x at_v) in
              let n = times_image (unit_of r.blocks) (names_of to) (names_of (body_of p next)) u x new_units at_x
              (λ v some_v at_v. only u v x some_u (in_to v some_v) at_x at_v) in
              let o = times_image (unit_of r.blocks) (names_of runs.body) (names_of (body_of p words)) u x old_units at_x
              (λ v some_v at_v. only u v x some_u some_v at_x at_v) in
              omega (arith, g, n, o, counts x)

          absent : times u (names_of runs.body) < 1 → times u gone + times u (names_of to) ≡ times u (names_of runs.body)
          absent none =
              ⊎_elim (λ some_g. absurd (omega (arith, none, in_gone u some_g)))
              (λ none_g. ⊎_elim (λ some_n. absurd (omega (arith, none, in_to u some_n))) (λ none_n. omega (arith, none, none_g, none_n))
              (le_or_lt 1 (times u (names_of to))))
              (le_or_lt 1 (times u gone))

  -- with none left it is cut
  pub refused_as : has_number r ≡ false → Finishes p c plan e unit words (WasCut Limit) cause.Limit (step p c plan.units r)
  refused_as none =
      finishes_as p c plan e r unit words runs.t runs.n runs.body held runs.runs runs.at runs.sees (RunWasCut Limit) cause.Limit
      (step p c plan.units r) tt (reached_next p c plan r runs.reached)
      (steps_to ∙ ap (λ b. cond b
      (arrives (with_body (record (draws r (Some runs.t) after priority (Respawn runs.t after) None None) { running = None }) runs.t to)
      (next_number r.journal) after) (is_refused r runs.t Limit)) none)

-- the unit of what a frame waits for
waited_unit : (f : ℕ → Option ℕ) (q : FrameOf ℕ) (behind : Option ℕ) → unit_in_if (OfKind (frame_with f q)) behind ≡ renamed f (task_waited q behind)
waited_unit f q None = refl
waited_unit f q (Some x) = future_at-renamed f q.futures x

-- what is to be shown of a respawn
abbrev RespawnsSo : Program → Columns → RunPlan → EngineState → Run → ℕ → List ℕ → List ℕ → List ℕ → RespawnRequest → Record → Type 0
RespawnsSo p c plan e r unit words next given_up request known =
    (length e.journal.rows < e.journal.limit → IsFrame p next → body_of p next ≡ entered_held p request.target (body_of p words)
    → ((u : ℕ) → times u given_up + times u (names_of (body_of p next)) ≡ times u (names_of (body_of p words)))
    → RenewsTask p c plan e unit (respawn_priority (body_of p words) known request.priority)
    (behind_at e.store (respawn_unit (body_of p words) request.behind)) given_up next (step p c plan.units r))
    × (e.journal.limit ≤ length e.journal.rows → Finishes p c plan e unit words (WasCut Limit) cause.Limit (step p c plan.units r))

module _ (p : Program) (c : Columns) (plan : RunPlan) (e : EngineState) (r : Run) (unit : ℕ) (words next given_up : List ℕ) (request : RespawnRequest)
    (known : Record) (runs : Runs p c plan e unit words r) where
  was : SeesBody p r.blocks words runs.body
  was = own_says p plan.units [] runs.t words e r runs.body runs.sees runs.runs.has

  -- by a move of the run, once the words of the engine are said by it
  by_move : (to : Body) (after : Option ℕ) (priority : Priority) → Renews p c plan.units r runs.n runs.body to after priority (notes_of r)
      → respawn_unit (body_of p words) request.behind ≡ renamed (unit_of r.blocks) after
      → priority ≡ respawn_priority (body_of p words) known request.priority
      → entered_held p request.target (body_of p words) ≡ body_with (unit_of r.blocks) to
      → body_length p (body_with (unit_of r.blocks) to) ≡ body_length p (body_with (unit_of r.blocks) runs.body)
      → step p c plan.units r ≡ respawns r runs.t to after priority → RespawnsSo p c plan e r unit words next given_up request known
  by_move to after priority renews is_unit is_priority enters long steps_to = (
    λ lt frame says counts.
        let seen : SeesBody p r.blocks next to = record { frame = frame; says = says ∙ enters } in
        let as_long : length next ≡ length words =
        frame_size p next frame ∙ ap (body_length p) seen.says ∙ long ∙ sym (frame_size p words was.frame ∙ ap (body_length p) was.says) in
        subst (λ o. RenewsTask p c plan e unit o (behind_at e.store (respawn_unit (body_of p words) request.behind)) given_up next
        (step p c plan.units r)) is_priority
        (renews_with p c plan e r unit words runs to after priority renews
        (respawn_unit (body_of p words) request.behind) is_unit steps_to next given_up
        (number_left r e.journal runs.sees.journal lt) seen as_long counts),
    λ ge. refused_as p c plan e r unit words runs to after priority renews (respawn_unit (body_of p words) request.behind) is_unit steps_to
        (no_number_left r e.journal runs.sees.journal ge),
  )

  -- a frame respawns
  by_frame : (q : FrameOf ℕ) → runs.body ≡ OfKind q → StopsAt p c q (act.Again request)
      → RespawnsSo p c plan e r unit words next given_up request known
  by_frame q same (line, there, stops) =
      let is_again = stop_shape c line.instr q (act.Again request) stops in
      let does_so : act_of c line.instr q ≡ Respawns request.target request.behind = ap (λ instr. act_of c instr q) is_again in
      let priority : asked_priority line.instr ≡ request.priority = ap asked_priority is_again in
      let says_q : body_of p words ≡ OfKind (frame_with (unit_of r.blocks) q) = was.says ∙ ap (body_with (unit_of r.blocks)) same in
      let runs_q = subst (RunsAt r runs.t runs.n) same runs.runs in
      by_move (OfKind (enter p q request.target)) (task_waited q request.behind) (asked_priority line.instr)
      (subst (λ b. Renews p c plan.units r runs.n b (OfKind (enter p q request.target)) (task_waited q request.behind) (asked_priority line.instr)
      (notes_of r)) (sym same)
      (Renews.again q line request.target request.behind there does_so))
      (ap (λ b. respawn_unit b request.behind) says_q ∙ waited_unit (unit_of r.blocks) q request.behind)
      (priority ∙ sym (ap (λ b. respawn_priority b known request.priority) says_q))
      (ap (entered_held p request.target) says_q ∙ ap OfKind (sym (enter-renamed (unit_of r.blocks) p q request.target)))
      (sym (ap (λ b. body_length p (body_with (unit_of r.blocks) b)) same))
      (step_line p c plan.units r runs.t runs.n q line runs_q there ∙ ap (does p plan.units r runs.t q line.instr) does_so)

  -- an aggregate goes on behind its next member
  by_member : (members : List ℕ) (at : ℕ) → runs.body ≡ OfMembers members at → (known_is : slice_get e.store.records unit ≡ Some known)
      → member_act (slice_get (filter_map (unit_of r.blocks) members) at) at ≡ act.Again request
      → RespawnsSo p c plan e r unit words next given_up request known
  by_member members at same known_is asks = by (slice_get (filter_map (unit_of r.blocks) members) at) refl asks
    where
      runs_m : RunsAt r runs.t runs.n (OfMembers members at)
      runs_m = subst (RunsAt r runs.t runs.n) same runs.runs

      says_m : body_of p words ≡ OfMembers (filter_map (unit_of r.blocks) members) at
      says_m = was.says ∙ ap (body_with (unit_of r.blocks)) same

      images : map (unit_of r.blocks) members ≡ map (λ x. Some x) (filter_map (unit_of r.blocks) members)
      images =
          body_units (unit_of r.blocks) (OfMembers members at)
          (λ u some. unit_in_use p plan.units [] (Some (runs.t, words)) e r runs.sees u
          (in_use_named [] r runs.t u (OfMembers members at) runs_m.has some))

      -- the record has the priority of the activation that runs
      priority_known : known.priority ≡ priority_of r.priorities runs.n
      priority_known =
          let used = in_use_open [] r runs.t runs.body runs.runs.has in
          let st = runs.sees.tasks runs.t used in
          let here = known_at p plan.units [] (Some (runs.t, words)) e r runs.sees runs.t unit used runs.at in
          let is_known : st.known ≡ known = same_Some st.known known (sym st.there ∙ ap (slice_get e.store.records) here ∙ known_is) in
          sym (ap (λ (k : Record). k.priority) is_known)
          ∙ (st.number runs.n runs.runs.row (record { there = runs.runs.there; of_task = runs.runs.of_task; current = inr runs.runs.running })).1

      by : (o : Option ℕ) → slice_get (filter_map (unit_of r.blocks) members) at ≡ o → member_act o at ≡ act.Again request
          → RespawnsSo p c plan e r unit words next given_up request known
      by None there e' = absurd (cc e')
      by (Some x) there e' =
          let (u, stands, is) = map_member (unit_of r.blocks) members (filter_map (unit_of r.blocks) members) images at x there in
          let asked : record { target = 0; behind = Some at; priority = Regular } ≡ request = same_request e' in
          by_move (OfMembers members (at + 1)) (Some u) (priority_of r.priorities runs.n)
          (subst (λ b. Renews p c plan.units r runs.n b (OfMembers members (at + 1)) (Some u) (priority_of r.priorities runs.n) (notes_of r))
          (sym same) (Renews.behind members at u stands))
          (ap (λ b. respawn_unit b request.behind) says_m
          ∙ ap (λ (q : RespawnRequest). respawn_unit (OfMembers (filter_map (unit_of r.blocks) members) at) q.behind) (sym asked) ∙ there
          ∙ sym is)
          (sym priority_known ∙ sym (ap (λ b. respawn_priority b known request.priority) says_m))
          (ap (entered_held p request.target) says_m)
          (sym (ap (λ b. body_length p (body_with (unit_of r.blocks) b)) same))
          (step_body p c plan.units r runs.t runs.n (OfMembers members at) runs_m
          ∙ ap (goes_behind r runs.t (priority_of r.priorities runs.n) members at) stands)
        where
          same_request : act.Again (record { target = 0; behind = Some at; priority = Regular }) ≡ act.Again request
              → record { target = 0; behind = Some at; priority = Regular } ≡ request
          same_request h = cc

-- a respawn is what the step does
pub respawn_is_step : RespawnIsStep
respawn_is_step p c plan e r unit words next given_up request known may runs asks there =
    by runs.body refl (subst (λ b. AsksFor p c b (act.Again request)) (was p c plan e r unit words next given_up request known runs).says asks)
  where
    by : (body : Body) → runs.body ≡ body → AsksFor p c (body_with (unit_of r.blocks) runs.body) (act.Again request)
        → RespawnsSo p c plan e r unit words next given_up request known
    by (OfKind q) same asks =
        by_frame p c plan e r unit words next given_up request known runs q same
        (stops_renamed (unit_of r.blocks) p c q (act.Again request)
        (subst (λ b. AsksFor p c (body_with (unit_of r.blocks) b) (act.Again request)) same asks))
    by (OfMembers members at) same asks =
        by_member p c plan e r unit words next given_up request known runs members at same there
        (subst (λ b. AsksFor p c (body_with (unit_of r.blocks) b) (act.Again request)) same asks)
