use Rattle.std.proofs.Common.{◌≡◌, false, slice_index, sym, ◌∙◌, ap, subst}
use Rattle.task_syntax.specs.declared.program.Program.{Program}
use Rattle.task_meaning.specs.Frame.{holds_at, holds_in, state_in}
use Rattle.frame_code.specs.Control.{control_kind, is_aggregate}
use Rattle.frame_code.specs.Words.{body_of}
use Rattle.frame_code.specs.Ways.{BodyHasWay}
use Rattle.frame_code.specs.Units.{named_in}
use Rattle.frame_code.specs.declared.words.Control.{Control}
use Rattle.frame_code.proofs.HeldFrames.{held-of_task, parts-among}
use Rattle.frame_code.proofs.held.enter_held.Goals as goal

pub returns-clause-given_up : goal.returns-clause-given_up
returns-clause-given_up c =
    let p = c.args.checked.now in
    let old = c.args.frame.now.items in
    let mid = c.as_mut_slice.result.now in
    let same = c.as_mut_slice.ensures.value in
    let task : is_aggregate (slice_index mid 0) ≡ false = ap (λ l. is_aggregate (slice_index l 0)) same ∙ (sym c.is_aggregate.ensures ∙ c.if-is_aggregate.false) in
    let kind : c.unpack.result.kind ≡ control_kind (slice_index mid 0)
    = ap (λ (k : Control). k.kind) c.unpack.ensures ∙ (ap (λ l. control_kind (slice_index l 0)) c.as_slice.ensures.value ∙ ap (λ l. control_kind (slice_index l 0)) (sym same)) in
    let holds : holds_at p c.unpack.result.kind c.args.target ≡ c.state_at-state.result.now.holds
    = ap (λ (r : Program). holds_at r c.unpack.result.kind c.args.target) (sym c.program.ensures.same)
    ∙ (ap (λ o. holds_in (state_in o c.args.target)) c.kind_at-kind.ensures ∙ ap holds_in c.state_at-state.ensures) in
    let h = held-of_task p c.args.target old mid c.keep_held.new.words c.as_slice-2.result.now c.keep_held.new.given_up (ap (body_of p) same ∙ c.enter.ensures.moved) task
    (subst (λ l. BodyHasWay p (body_of p l)) (sym same) c.enter.ensures.way)
    (c.as_slice-2.ensures ∙ (sym holds ∙ ap (λ k. holds_at p k c.args.target) kind)) c.keep_held.ensures.kept c.keep_held.ensures.parts in
    parts-among c.keep_held.new.given_up (named_in p c.keep_held.new.words) (named_in p old) h.2
