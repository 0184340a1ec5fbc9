use Rattle.std.proofs.Common.{◌≡◌, Option, IsTrue, ◌<◌, Some, length, slice_get, refl, ◌∙◌, ap}
use Rattle.std.proofs.lemmas.Result.{IfOk-weaker}
use Rattle.std.proofs.lemmas.Option.{slice_get_read}
use Rattle.task_check.specs.Asks.{future_in, passed_settled}
use Rattle.task_check.specs.Known.{in_set, knows, will_settle}
use Rattle.task_check.specs.declared.fault.Cause.TheVariants.{StateNeeds}
use Rattle.task_check.specs.declared.fault.Found.{Found}
use Rattle.task_check.specs.Faults.{IsFirst}
use Rattle.task_check.specs.Parts.{LackingFault}
use Rattle.task_syntax.specs.Facts.{has}
use Rattle.task_syntax.specs.declared.program.State.{State}
use Rattle.task_check.proofs.Lacks.{passed-each, lacking-same, same-some}
use Rattle.task_check.proofs.line.spawn_needs.Goals as goal

pub first_lacking-requires-clause-within : goal.first_lacking-requires-clause-within
first_lacking-requires-clause-within c =
    rw (c.as_slice-asked.ensures.value, c.in_ok-futures.ensures) (passed-each future_in (λ at. has at c.as_slice-2.result.now) (λ x. x < length c.args.kind.now.variables) 0 c.args.arguments.now (λ i a e so. c.requires.arguments i a e))

pub returns : goal.returns
returns c =
    let first : State = c.index-as_slice-0.result in
    let here : slice_get c.args.callee.now.states 0 ≡ Some first = slice_get_read c.args.callee.now.states (length c.args.callee.now.states) 0 first refl c.requires.callee (rw c.as_slice.ensures at c.index-as_slice-0.is) in
    let step : (r : Option Found) → IsFirst (LackingFault c.args.line StateNeeds 0 c.args.kind.now c.as_slice-asked.result.now (λ x. IsTrue (in_set x c.settling-settling.result))) r
    → (entry : State) → slice_get c.args.callee.now.states 0 ≡ Some entry
    → IsFirst (LackingFault c.args.line StateNeeds 0 c.args.kind.now (passed_settled future_in entry.settled c.args.arguments.now) (λ x. IsTrue (will_settle (λ q. knows q c.args.known.now) c.args.behind x))) r = λ r faults entry starts.
    let same : first ≡ entry = same-some (slice_get c.args.callee.now.states 0) first entry here starts in
    let settled : c.as_slice-2.result.now ≡ entry.settled = c.as_slice-2.ensures ∙ ap (λ (s : State). s.settled) same in
    let asked : c.as_slice-asked.result.now ≡ passed_settled future_in entry.settled c.args.arguments.now =
    c.as_slice-asked.ensures.value ∙ (c.in_ok-futures.ensures ∙ ap (λ xs. passed_settled future_in xs c.args.arguments.now) settled) in
    lacking-same c.args.line StateNeeds 0 0 c.args.kind.now c.as_slice-asked.result.now (passed_settled future_in entry.settled c.args.arguments.now)
    (λ x. in_set x c.settling-settling.result) (λ x. will_settle (λ q. knows q c.args.known.now) c.args.behind x) refl asked c.settling-settling.ensures r faults in
    IfOk-weaker _ _ _ step c.first_lacking.ensures
