use Rattle.std.proofs.Common.{◌≡◌, ◌<◌, Option, Some, length, slice_get, subst, refl, ◌∙◌, ap}
use Rattle.std.proofs.lemmas.Result.{IfOk-weaker}
use Rattle.std.proofs.lemmas.Option.{slice_get_read}
use Rattle.task_check.specs.Asks.{root_in, passed_settled}
use Rattle.task_check.specs.declared.fault.Found.{Found}
use Rattle.task_check.specs.Faults.{IsFirst}
use Rattle.task_check.specs.Parts.{UnbehindFault}
use Rattle.task_syntax.specs.Facts.{has}
use Rattle.task_syntax.specs.declared.program.State.{State}
use Rattle.task_check.proofs.Lacks.{passed-each, same-some}
use Rattle.task_check.proofs.root.root_needs.Goals as goal

pub first_unbehind-requires : goal.first_unbehind-requires
first_unbehind-requires c =
    rw (c.as_slice-asked.ensures.value, c.in_ok-roots.ensures, c.as_slice-3.ensures) (passed-each root_in (λ at. has at c.as_slice-2.result.now) (λ x. x < length c.args.program.now.roots) 0 c.args.root.now.arguments (λ i a e so. c.requires.arguments i a e))

pub returns : goal.returns
returns c =
    let first : State = c.index-as_slice-0.result in
    let here : slice_get c.args.callee.now.states 0 ≡ Some first = slice_get_read c.args.callee.now.states (length c.args.callee.now.states) 0 first refl c.requires.callee (rw c.as_slice.ensures at c.index-as_slice-0.is) in
    let step : (r : Option Found) → IsFirst (UnbehindFault c.args.program.now c.args.root.now.line c.args.root.now.behind c.as_slice-asked.result.now) r
    → (entry : State) → slice_get c.args.callee.now.states 0 ≡ Some entry
    → IsFirst (UnbehindFault c.args.program.now c.args.root.now.line c.args.root.now.behind (passed_settled root_in entry.settled c.args.root.now.arguments)) r = λ r faults entry starts.
    let same : first ≡ entry = same-some (slice_get c.args.callee.now.states 0) first entry here starts in
    let settled : c.as_slice-2.result.now ≡ entry.settled = c.as_slice-2.ensures ∙ ap (λ (s : State). s.settled) same in
    let asked : c.as_slice-asked.result.now ≡ passed_settled root_in entry.settled c.args.root.now.arguments =
    c.as_slice-asked.ensures.value ∙ (c.in_ok-roots.ensures ∙ (ap (λ xs. passed_settled root_in c.as_slice-2.result.now xs) c.as_slice-3.ensures ∙ ap (λ xs. passed_settled root_in xs c.args.root.now.arguments) settled)) in
    subst (λ xs. IsFirst (UnbehindFault c.args.program.now c.args.root.now.line c.args.root.now.behind xs) r) asked faults in
    IfOk-weaker _ _ _ step c.first_unbehind.ensures
