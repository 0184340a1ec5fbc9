use Rattle.std.proofs.Common.{length, slice_index, ◌∙◌, ap}
use Rattle.frame_code.specs.Run.{unpacked}
use Rattle.frame_code.specs.Told.{act_told}
use Rattle.frame_code.proofs.ControlWords.{frame-members}
use Rattle.frame_code.proofs.Aggregates.{refill-same, is-group, member-asked, aggregate-acts, aggregate-meaning, aggregate-allows}
use Rattle.frame_code.proofs.AdvanceClauses.{run-advances}
use Rattle.frame_code.proofs.run.advance.Goals as goal

pub returns-then-control-eq-AGGREGATE-clause-acts : goal.returns-then-control-eq-AGGREGATE-clause-acts
returns-then-control-eq-AGGREGATE-clause-acts c =
    let old = c.args.frame.now.items in
    let same = c.as_mut_slice-words.ensures.value in
    let control = c.unpack-control.result in
    let says = c.unpack-control.ensures ∙ ap (λ l. unpacked (slice_index l 0)) same in
    let group = is-group old control says c.if-control-eq-AGGREGATE.true in
    aggregate-acts c.args.checked.now c.args.columns.now old _ (act_told c.next_activation.result c.args.requests.now) group (refill-same old c.as_mut_slice-words.result.now (ap length same) ∙ same)
    (member-asked old control (act_told c.next_activation.result c.args.requests.now) (frame-members c.args.checked.now old c.requires group) says (λ before member. c.next_activation.ensures.waits before member c.args.requests.now)
    (λ after. c.next_activation.ensures.done after c.args.requests.now))

pub returns-then-control-eq-AGGREGATE-clause-meaning : goal.returns-then-control-eq-AGGREGATE-clause-meaning
returns-then-control-eq-AGGREGATE-clause-meaning c =
    let old = c.args.frame.now.items in
    let same = c.as_mut_slice-words.ensures.value in
    let control = c.unpack-control.result in
    let says = c.unpack-control.ensures ∙ ap (λ l. unpacked (slice_index l 0)) same in
    let group = is-group old control says c.if-control-eq-AGGREGATE.true in
    aggregate-meaning c.args.checked.now c.args.columns.now old _ (act_told c.next_activation.result c.args.requests.now) group (refill-same old c.as_mut_slice-words.result.now (ap length same) ∙ same)
    (member-asked old control (act_told c.next_activation.result c.args.requests.now) (frame-members c.args.checked.now old c.requires group) says (λ before member. c.next_activation.ensures.waits before member c.args.requests.now)
    (λ after. c.next_activation.ensures.done after c.args.requests.now))

pub returns-then-control-eq-AGGREGATE-clause-next : goal.returns-then-control-eq-AGGREGATE-clause-next
returns-then-control-eq-AGGREGATE-clause-next c =
    let old = c.args.frame.now.items in
    let same = c.as_mut_slice-words.ensures.value in
    let control = c.unpack-control.result in
    let says = c.unpack-control.ensures ∙ ap (λ l. unpacked (slice_index l 0)) same in
    let group = is-group old control says c.if-control-eq-AGGREGATE.true in
    aggregate-allows c.args.checked.now old _ (act_told c.next_activation.result c.args.requests.now) group (refill-same old c.as_mut_slice-words.result.now (ap length same) ∙ same)
    (member-asked old control (act_told c.next_activation.result c.args.requests.now) (frame-members c.args.checked.now old c.requires group) says (λ before member. c.next_activation.ensures.waits before member c.args.requests.now)
    (λ after. c.next_activation.ensures.done after c.args.requests.now))

pub returns-else-control-eq-AGGREGATE-clause-meaning : goal.returns-else-control-eq-AGGREGATE-clause-meaning
returns-else-control-eq-AGGREGATE-clause-meaning c = (run-advances c.args.checked.now c.args.columns.now c.args.frame.now.items c.as_mut_slice-words.result.now c.run.new.words
    c.unpack-control.result (act_told c.run.result c.run.new.requests) c.run.ensures.formed c.run.ensures.valid c.as_mut_slice-words.ensures.value c.run.auto.words c.unpack-control.ensures c.if-control-eq-AGGREGATE.false
    c.run.ensures.run).meaning

pub returns-else-control-eq-AGGREGATE-clause-held : goal.returns-else-control-eq-AGGREGATE-clause-held
returns-else-control-eq-AGGREGATE-clause-held c = (run-advances c.args.checked.now c.args.columns.now c.args.frame.now.items c.as_mut_slice-words.result.now c.run.new.words
    c.unpack-control.result (act_told c.run.result c.run.new.requests) c.run.ensures.formed c.run.ensures.valid c.as_mut_slice-words.ensures.value c.run.auto.words c.unpack-control.ensures c.if-control-eq-AGGREGATE.false
    c.run.ensures.run).held

pub returns-else-control-eq-AGGREGATE-clause-next : goal.returns-else-control-eq-AGGREGATE-clause-next
returns-else-control-eq-AGGREGATE-clause-next c = (run-advances c.args.checked.now c.args.columns.now c.args.frame.now.items c.as_mut_slice-words.result.now c.run.new.words
    c.unpack-control.result (act_told c.run.result c.run.new.requests) c.run.ensures.formed c.run.ensures.valid c.as_mut_slice-words.ensures.value c.run.auto.words c.unpack-control.ensures c.if-control-eq-AGGREGATE.false
    c.run.ensures.run).next

pub returns-else-control-eq-AGGREGATE-clause-names : goal.returns-else-control-eq-AGGREGATE-clause-names
returns-else-control-eq-AGGREGATE-clause-names c = (run-advances c.args.checked.now c.args.columns.now c.args.frame.now.items c.as_mut_slice-words.result.now c.run.new.words
    c.unpack-control.result (act_told c.run.result c.run.new.requests) c.run.ensures.formed c.run.ensures.valid c.as_mut_slice-words.ensures.value c.run.auto.words c.unpack-control.ensures c.if-control-eq-AGGREGATE.false
    c.run.ensures.run).names

pub returns-else-control-eq-AGGREGATE-clause-way : goal.returns-else-control-eq-AGGREGATE-clause-way
returns-else-control-eq-AGGREGATE-clause-way c = (run-advances c.args.checked.now c.args.columns.now c.args.frame.now.items c.as_mut_slice-words.result.now c.run.new.words
    c.unpack-control.result (act_told c.run.result c.run.new.requests) c.run.ensures.formed c.run.ensures.valid c.as_mut_slice-words.ensures.value c.run.auto.words c.unpack-control.ensures c.if-control-eq-AGGREGATE.false
    c.run.ensures.run).way
