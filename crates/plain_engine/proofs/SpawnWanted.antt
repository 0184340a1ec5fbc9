-- What a spawn wants.
use Rattle.std.proofs.Common.{◌≡◌, ℕ, zero, suc, ◌+◌, ◌<◌, ◌^◌, true, Option, Some, None, List, [], ◌∷◌, ◌++◌, length, map, slice_get, IfSome, refl, sym, ◌∙◌, ap, subst, arith}
use Rattle.std.specs.Option.{option_to_list}
use Rattle.std.proofs.lemmas.Option.{none-some, same_Some}
use Rattle.std.specs.List.{filter_map}
use Rattle.task_syntax.specs.Places.{Each}
use Rattle.task_syntax.specs.Valid.{Held, IsSoundInstr}
use Rattle.task_syntax.specs.declared.value.Value.{Value}
use Rattle.task_syntax.specs.declared.value.Value.TheVariants as value
use Rattle.task_syntax.specs.declared.instr.Argument.{Argument}
use Rattle.task_syntax.specs.declared.instr.Argument.TheVariants as argument
use Rattle.task_syntax.specs.declared.instr.Instr.{Instr}
use Rattle.task_syntax.specs.declared.instr.Instr.TheVariants.{Math, Cell, Spawn}
use Rattle.task_syntax.specs.declared.program.Variable.{Variable}
use Rattle.task_syntax.specs.declared.program.Program.{Program}
use Rattle.task_syntax.specs.declared.columns.Columns.{Columns}
use Rattle.task_meaning.specs.Meant.{future_at}
use Rattle.task_meaning.specs.Frame.{FrameOf, operand, state_in, state_at, frame_with, renamed, spawned, entry, number_passed, future_passed}
use Rattle.task_meaning.specs.Acts.{Calls, ActsAt, act_of}
use Rattle.task_meaning.specs.Arithmetic.{computed, cell_at}
use Rattle.task_meaning.proofs.Renaming.{future_at-renamed}
use Rattle.frame_code.specs.Words.{BodyOf, OfKind, OfMembers, variable_list, variables_at, body_of}
use Rattle.frame_code.specs.Names.{body_with}
use Rattle.frame_code.specs.Members.{member_act}
use Rattle.frame_code.specs.Stops.{stop_at, StopsAt, trapped, numbers_passed, variables_passed}
use Rattle.frame_code.specs.Entries.{Requests, BodyMaySpawn, BodyPasses, MaySpawn, Passes, AgreesWith, MayEnterWith, IsEntryOf, call_of, future_of}
use Rattle.frame_code.specs.declared.entries.Passed.{Passed}
use Rattle.frame_code.specs.declared.act.Act.{Act}
use Rattle.frame_code.specs.declared.act.Act.TheVariants as act
use Rattle.frame_code.specs.declared.act.SpawnRequest.{SpawnRequest}
use Rattle.frame_code.proofs.HeldActs.{acts-held}
use Rattle.record_core.specs.EndSeen.{RunPlan}
use Rattle.record_core.specs.EndSound.{kind_class}
use Rattle.run_model.specs.State.{Body, Run}
use Rattle.run_model.proofs.SeatFacts.{seat_sound}
use Rattle.plain_state.specs.Engine.{EngineState}
use Rattle.plain_state.specs.Sees.{Runs}
use Rattle.plain_state.specs.Sees as sees
use Rattle.plain_state.specs.Laws.{MayRun, AsksFor, Wants, unit_in_if}
use Rattle.plain_state.proofs.Units.{unit_in_use}
use Rattle.plain_state.proofs.FewReferences.{unit_small}
use Rattle.plain_state.proofs.Running.{own_says}
use Rattle.plain_state.proofs.OwnLaws.{names_held, frame_seat, frame_runs, frame_used}
use Rattle.plain_engine.specs.Ending.{Moment}
use Rattle.plain_engine.specs.Going.{AsksAt, AsksNewAt, MayCarryOut, wanted}
use Rattle.plain_engine.proofs.RootEntered.{there_at, same_at}

-- the instruction that stops a frame by a spawn
abbrev SpawnShape : {A : Type 0} → FrameOf A → Option Act → Instr → Type 0
SpawnShape q (Some (act.Spawn request)) instr = (arguments : List Argument)
    × (instr ≡ Spawn request.to request.kind arguments request.behind request.priority request.retry)
    × (numbers_passed q.numbers arguments ≡ request.numbers) × (variables_passed arguments ≡ request.futures)
SpawnShape q _ instr = Unit {0}

trap_shape : (q : FrameOf ℕ) (v : Value) (instr : Instr) → SpawnShape q (trapped v) instr
trap_shape q (value.Number n) instr = tt
trap_shape q (value.Trapped t) instr = tt

spawn_shapes : (c : Columns) (instr : Instr) (q : FrameOf ℕ) → SpawnShape q (stop_at c instr q) instr
spawn_shapes c (Math op to left right) q = trap_shape q (computed op (operand q.numbers left) (operand q.numbers right)) (Math op to left right)
spawn_shapes c (Cell to column row) q = trap_shape q (cell_at c column (operand q.numbers row)) (Cell to column row)
spawn_shapes c (Spawn to kind arguments waits priority retry) q = (arguments, refl, refl, refl)
spawn_shapes c _ q = tt

spawn_shape : (c : Columns) (instr : Instr) (q : FrameOf ℕ) (asked : Act) → stop_at c instr q ≡ Some asked → SpawnShape q (Some asked) instr
spawn_shape c instr q asked e = subst (λ o. SpawnShape q o instr) e (spawn_shapes c instr q)

-- an aggregate spawns nothing
no_spawn : (o : Option ℕ) (next : ℕ) (request : SpawnRequest) → member_act o next ≡ act.Spawn request → ⊥
no_spawn None next request e = cc
no_spawn (Some member) next request e = cc

-- the front of a list
each_front : (P : ℕ → Type 0) (xs ys : List ℕ) → Each (xs ++ ys) P → Each xs P
each_front P [] ys all at x there = absurd (none-some x there)
each_front P (y ∷ xs) ys all zero x there = all 0 x there
each_front P (y ∷ xs) ys all (suc at) x there = each_front P xs ys (λ k z e. all (suc k) z e) at x there

-- a future among the arguments is among the variables
variable_there : (arguments : List Argument) (at x : ℕ) → slice_get arguments at ≡ Some (argument.Future x) → (k : ℕ) × (slice_get (variables_passed arguments) k ≡ Some x)
variable_there [] at x there = absurd (none-some (argument.Future x) there)
variable_there (argument.Number a ∷ more) zero x there = absurd (cc there)
variable_there (argument.Future y ∷ more) zero x there = (0, by (same_Some (argument.Future y) (argument.Future x) there))
  where
    by : argument.Future y ≡ argument.Future x → Some y ≡ Some x
    by same = cc
variable_there (argument.Number a ∷ more) (suc at) x there = variable_there more at x there
variable_there (argument.Future y ∷ more) (suc at) x there = let rest = variable_there more at x there in (suc rest.0, rest.1)

-- what a body that asks for the spawn passes, by its line
abbrev pub SpawnLine : Program → Columns → SpawnRequest → BodyOf ℕ → Type 0
SpawnLine p c request (OfKind q) = (arguments : List Argument) × Requests p q request arguments
    × ActsAt p c q (Calls request.to (spawned q request.kind arguments) request.behind)
    × Each (variables_passed arguments) (λ x. (u : ℕ) × (future_at q.futures x ≡ Some u) × (u + 1 < 2 ^ 32))
SpawnLine p c request (OfMembers members next) = ⊥

pub spawn_line : (p : Program) (c : Columns) (plan : RunPlan) (e : EngineState) (r : Run) (unit : ℕ) (words : List ℕ) (request : SpawnRequest)
    → MayRun p plan → Runs p c plan e unit words r → AsksFor p c (body_of p words) (act.Spawn request) → SpawnLine p c request (body_of p words)
spawn_line p c plan e r unit words request may runs asks =
    subst (SpawnLine p c request) (sym was.says) (by runs.body refl (subst (λ b. AsksFor p c b (act.Spawn request)) was.says asks))
  where
    was : sees.SeesBody p r.blocks words runs.body
    was = own_says p plan.units [] runs.t words e r runs.body runs.sees runs.runs.has

    by : (body : Body) → runs.body ≡ body → AsksFor p c (body_with (sees.unit_of r.blocks) runs.body) (act.Spawn request)
        → SpawnLine p c request (body_with (sees.unit_of r.blocks) runs.body)
    by (OfMembers members next) same asks =
        let member : AsksFor p c (OfMembers (filter_map (sees.unit_of r.blocks) members) next) (act.Spawn request) =
        subst (λ b. AsksFor p c (body_with (sees.unit_of r.blocks) b) (act.Spawn request)) same asks in
        absurd (no_spawn (slice_get (filter_map (sees.unit_of r.blocks) members) next) next request member)
    by (OfKind q) same asks = subst (λ b. SpawnLine p c request (body_with (sees.unit_of r.blocks) b)) (sym same) (line_of stops)
      where
        named : FrameOf ℕ
        named = frame_with (sees.unit_of r.blocks) q

        stops : StopsAt p c named (act.Spawn request)
        stops = subst (λ b. AsksFor p c (body_with (sees.unit_of r.blocks) b) (act.Spawn request)) same asks

        line_of : StopsAt p c named (act.Spawn request) → SpawnLine p c request (OfKind named)
        line_of (line, there, stop) =
            let (arguments, is, numbers, futures) = spawn_shape c line.instr named (act.Spawn request) stop in
            let seat = frame_seat p c plan e r unit words may runs q same in
            let runs_q = frame_runs p c plan e r unit words may runs q same in
            let sound = subst (IsSoundInstr p seat.kind seat.state q.at) is (seat_sound p may.formed may.valid c r runs_q.row.after true q seat line there) in
            let is_state : state_at p q.kind q.state ≡ Some seat.state = ap (λ o. state_in o q.state) seat.is_kind ∙ seat.is_state in
            let held = (acts-held p c named (act.Spawn request) may.formed may.valid (line, there, stop) seat.state is_state).0 in
            let front = each_front (Held seat.state q.at) request.futures (option_to_list request.behind) held in
            let all : Each (variables_passed arguments) (λ x. (u : ℕ) × (future_at named.futures x ≡ Some u) × (u + 1 < 2 ^ 32)) =
            λ at x there_x.
            let (u, names) = names_held p r runs_q.row.after q seat x (front at x (ap (λ xs. slice_get xs at) (sym futures) ∙ there_x)) in
            let used = frame_used p c plan e r unit words may runs q same x u names in
            let (other, has) = unit_in_use p plan.units [] (Some (runs.t, words)) e r runs.sees u used in (
              other,
              future_at-renamed (sees.unit_of r.blocks) q.futures x ∙ ap (renamed (sees.unit_of r.blocks)) names ∙ has,
              unit_small p plan.units [] (Some (runs.t, words)) e r runs.sees u other used has,
            ) in (
              arguments,
              record {
                numbers = numbers;
                futures = futures;
                agrees = λ k e'. (sound k e').agrees;
                named = λ at x there_x. let (u, names, small) = all at x there_x in (u, names);
              },
              (line, there, ap (λ instr. act_of c instr named) is),
              all,
            )

-- it may pass what is requested
pub line_spawns : (p : Program) (c : Columns) (request : SpawnRequest) (b : BodyOf ℕ) → SpawnLine p c request b → BodyMaySpawn p request b
line_spawns p c request (OfKind q) (arguments, requests, acts, small) = (arguments, requests)
line_spawns p c request (OfMembers members next) none = none

-- the unit that is passed has a word
unit_fits : (futures : List (Option ℕ)) (arguments : List Argument) (at : ℕ) (a : Argument) (found : Option ℕ)
    → Each (variables_passed arguments) (λ x. (u : ℕ) × (future_at futures x ≡ Some u) × (u + 1 < 2 ^ 32)) → slice_get arguments at ≡ Some a
    → found ≡ future_passed futures a → IfSome found (λ unit. unit + 1 < 2 ^ 64)
unit_fits futures arguments at a None all there same = tt
unit_fits futures arguments at (argument.Number n) (Some unit) all there same = absurd (none-some unit (sym same))
unit_fits futures arguments at (argument.Future x) (Some unit) all there same =
    let (k, there_x) = variable_there arguments at x there in
    let (u, names, small) = all k x there_x in
    let is : unit ≡ u = same_Some unit u (same ∙ names) in
    omega (arith, small, is)

-- what is passed may enter the kind
pub may_enter : (p : Program) (c : Columns) (plan : RunPlan) (request : SpawnRequest) (b : BodyOf ℕ) (given : List Passed) → MayRun p plan → request.kind < length p.kinds
    → SpawnLine p c request b → BodyPasses p request b given → AgreesWith p request.kind given → MayEnterWith p request.kind given
may_enter p c plan request (OfMembers members next) given may fits none passes agrees = absurd none
may_enter p c plan request (OfKind q) given may fits (arguments, requests, acts, small) passes agrees =
    let kind = there_at p.kinds request.kind fits in
    let are : variables_at p request.kind ≡ kind.0.variables = ap variable_list kind.1 in
    let agree = agrees kind.0 kind.1 in
    let same = (passes arguments requests).1 in record {
      few = omega (arith, agree.0, (may.formed.kinds request.kind kind.0 kind.1).arguments_are_variables, ap length are);
      sorts = λ at a v there there_v. agree.1 at a v there (ap (λ (vs : List Variable). slice_get vs at) (sym are) ∙ there_v);
      units = λ at a there.
          let (argument, argument_there, is) = same_at future_of (future_passed q.futures) given arguments at a same there in
          unit_fits q.futures arguments at argument (future_of a) small argument_there is;
    }

-- it wants what the request says
line_wants : (p : Program) (c : Columns) (request : SpawnRequest) (b : BodyOf ℕ) (given : List Passed) (class : ℕ) (after : Option ℕ) (first : BodyOf ℕ)
    → SpawnLine p c request b → AsksFor p c b (act.Spawn request) → BodyPasses p request b given → class ≡ kind_class p request.kind → after ≡ unit_in_if b request.behind
    → first ≡ OfKind (entry p (call_of request.kind given))
    → Wants p c b (record { class = class; after = after; priority = request.priority; retry = request.retry; to = request.to; first = first })
line_wants p c request (OfMembers members next) given class after first none asks passes is_class is_after is_first = absurd none
line_wants p c request (OfKind q) given class after first (arguments, requests, acts, small) asks passes is_class is_after is_first =
    let (numbers, futures) = passes arguments requests in
    let call : call_of request.kind given ≡ spawned q request.kind arguments =
    ap (λ (ns : List ℕ). record { kind = request.kind; numbers = ns; futures = map future_of given }) numbers
    ∙ ap (λ (fs : List (Option ℕ)). record { kind = request.kind; numbers = map (number_passed q.numbers) arguments; futures = fs }) futures in
    Wants.by_spawn q request arguments _ asks requests.numbers requests.futures acts (record {
      class = is_class;
      after = is_after;
      priority = refl;
      retry = refl;
      to = refl;
      first = is_first ∙ ap (λ k. OfKind (entry p k)) call;
    })

module _ (p : Program) (e : EngineState) (unit : ℕ) (words : List ℕ) (request : SpawnRequest) where
  -- the running task may pass what it requests
  pub spawns : MayCarryOut p e unit words (act.Spawn request) → MaySpawn p request words
  spawns may = line_spawns p may.moment.columns request (body_of p words)
      (spawn_line p may.moment.columns may.moment.plan e may.moment.run unit words request may.at.may may.at.runs may.at.asks)

  -- what it passes may enter the kind
  pub enters : (given : List Passed) → MayCarryOut p e unit words (act.Spawn request) → request.kind < length p.kinds → Passes p request words given
      → AgreesWith p request.kind given → MayEnterWith p request.kind given
  enters given may fits passes agrees = may_enter p may.moment.columns may.moment.plan request (body_of p words) given may.at.may fits
      (spawn_line p may.moment.columns may.moment.plan e may.moment.run unit words request may.at.may may.at.runs may.at.asks) passes agrees

  -- the spawn is what is asked for
  pub asks_spawn : (given : List Passed) (class : ℕ) (after : Option ℕ) (first : List ℕ) (m : Moment) → AsksAt p e unit words (act.Spawn request) m
      → Passes p request words given → class ≡ kind_class p request.kind → after ≡ unit_in_if (body_of p words) request.behind → IsEntryOf p request.kind given first
      → AsksNewAt p e unit words (wanted p class after request.priority request.retry request.to first) m
  asks_spawn given class after first m at passes is_class is_after is_entry = record {
    may = at.may;
    runs = at.runs;
    wants = line_wants p m.columns request (body_of p words) given class after (body_of p first)
        (spawn_line p m.columns m.plan e m.run unit words request at.may at.runs at.asks) at.asks passes is_class is_after is_entry;
  }
