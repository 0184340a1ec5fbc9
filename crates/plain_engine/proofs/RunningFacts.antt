-- Further facts of a running task that are cited here.
use Rattle.std.proofs.Common.{◌≡◌, ℕ, Option, Some, None, List, [], slice_get, refl, sym, ◌∙◌, ap, subst}
use Rattle.std.specs.List.{filter_map}
use Rattle.task_syntax.specs.Places.{Each}
use Rattle.task_syntax.specs.declared.program.Program.{Program}
use Rattle.task_syntax.specs.declared.columns.Columns.{Columns}
use Rattle.task_meaning.specs.Frame.{state_in, state_at, frame_with, renamed}
use Rattle.frame_code.specs.Words.{OfKind, OfMembers, body_of}
use Rattle.frame_code.specs.Names.{body_with}
use Rattle.frame_code.specs.Members.{member_act}
use Rattle.frame_code.specs.Setting.{unit_of}
use Rattle.frame_code.specs.declared.act.AllRequest.{AllRequest}
use Rattle.frame_code.specs.declared.act.Act.TheVariants as act
use Rattle.frame_code.proofs.HeldActs.{acts-held}
use Rattle.record_core.specs.Journal.{IsUnderWay}
use Rattle.record_core.specs.EndSeen.{RunPlan}
use Rattle.run_model.specs.State.{Body, Run}
use Rattle.run_model.proofs.JournalKept.{under_way}
use Rattle.plain_state.specs.Engine.{EngineState}
use Rattle.plain_state.specs.Sees.{Runs}
use Rattle.plain_state.specs.Sees as sees
use Rattle.plain_state.specs.Laws.{MayRun, AsksFor}
use Rattle.plain_state.proofs.Units.{unit_in_use}
use Rattle.plain_state.proofs.References.{in_use_open}
use Rattle.plain_state.proofs.InHand.{known_at}
use Rattle.plain_state.proofs.Running.{reached_stands, own_says}
use Rattle.plain_state.proofs.OwnLaws.{names_held, frame_seat, frame_unit, frame_used}
use Rattle.plain_engine.specs.Ending.{task_at, task_or_none}

-- the running task is under way
pub running_is_under_way : (p : Program) (c : Columns) (plan : RunPlan) (e : EngineState) (r : Run) (unit : ℕ) (words : List ℕ) → MayRun p plan
    → Runs p c plan e unit words r → IsUnderWay e.journal (task_at e unit)
running_is_under_way p c plan e r unit words may q =
    let used = in_use_open [] r q.t q.body q.runs.has in
    let st = q.sees.tasks q.t used in
    let here = known_at p plan.units [] (Some (q.t, words)) e r q.sees q.t unit used q.at in
    let there : slice_get e.store.records unit ≡ Some st.known = subst (λ x. slice_get e.store.records x ≡ Some st.known) here st.there in
    let is_task : task_at e unit ≡ q.t = ap task_or_none there ∙ st.task in
    subst (λ j. IsUnderWay j (task_at e unit)) (sym q.sees.journal)
    (subst (IsUnderWay r.journal) (sym is_task) (under_way r q.t q.n q.body (reached_stands p c plan r q.reached).numbers q.runs))

-- an aggregate asks for none
member_gathers : (o : Option ℕ) (next : ℕ) (request : AllRequest) → member_act o next ≡ act.All request → ⊥
member_gathers None next request e = cc
member_gathers (Some u) next request e = cc

-- each member of an aggregate that it asks for is named
pub members_are_named : (p : Program) (c : Columns) (plan : RunPlan) (e : EngineState) (r : Run) (unit : ℕ) (words : List ℕ) (request : AllRequest)
    → MayRun p plan → Runs p c plan e unit words r → AsksFor p c (body_of p words) (act.All request)
    → Each request.members (λ x. (u : ℕ) × (unit_of (body_of p words) x ≡ Some u))
members_are_named p c plan e r unit words request may runs asks = by runs.body refl (subst (λ b. AsksFor p c b (act.All request)) was.says asks)
  where
    was : sees.SeesBody p r.blocks words runs.body
    was = own_says p plan.units [] runs.t words e r runs.body runs.sees runs.runs.has

    by : (body : Body) → runs.body ≡ body → AsksFor p c (body_with (sees.unit_of r.blocks) runs.body) (act.All request)
        → Each request.members (λ x. (u : ℕ) × (unit_of (body_of p words) x ≡ Some u))
    by (OfMembers members next) same asks at x there =
        let member : AsksFor p c (OfMembers (filter_map (sees.unit_of r.blocks) members) next) (act.All request) =
        subst (λ b. AsksFor p c (body_with (sees.unit_of r.blocks) b) (act.All request)) same asks in
        absurd (member_gathers (slice_get (filter_map (sees.unit_of r.blocks) members) next) next request member)
    by (OfKind q) same asks at x there =
        let stops = subst (λ b. AsksFor p c (body_with (sees.unit_of r.blocks) b) (act.All request)) same asks in
        let seat = frame_seat p c plan e r unit words may runs q same in
        let is_state : state_at p q.kind q.state ≡ Some seat.state = ap (λ o. state_in o q.state) seat.is_kind ∙ seat.is_state in
        let held = (acts-held p c (frame_with (sees.unit_of r.blocks) q) (act.All request) may.formed may.valid stops seat.state is_state).0 at x there in
        let (u, names) = names_held p r _ q seat x held in
        let used = frame_used p c plan e r unit words may runs q same x u names in
        let (other, has) = unit_in_use p plan.units [] (Some (runs.t, words)) e r runs.sees u used in
        (other, frame_unit p c plan e r unit words may runs q same x ∙ ap (renamed (sees.unit_of r.blocks)) names ∙ has)
