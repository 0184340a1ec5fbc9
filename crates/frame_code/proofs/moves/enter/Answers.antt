use Rattle.std.proofs.Common.{◌+◌, length, slice_index, ◌∙◌, ap, subst}
use Rattle.std.specs.List.{refill}
use Rattle.frame_code.specs.Control.{control_at, control_state}
use Rattle.frame_code.specs.Run.{unpacked, IsMovedTo}
use Rattle.frame_code.proofs.Aggregates.{is-group, is-task}
use Rattle.frame_code.proofs.PassedFrames.{written-next}
use Rattle.frame_code.proofs.MovedFrames.{moved-words}
use Rattle.frame_code.proofs.EnteredFrames.{task-target, entered-clauses, group-clauses}
use Rattle.frame_code.proofs.moves.enter.Goals as goal

pub stand-requires-else-control-eq-AGGREGATE-clause-state : goal.stand-requires-else-control-eq-AGGREGATE-clause-state
stand-requires-else-control-eq-AGGREGATE-clause-state c =
    let old = c.args.frame.now.items in
    let says = c.unpack-control.ensures ∙ ap (λ l. unpacked (slice_index l 0)) c.as_mut_slice-words.ensures.value in
    let task = is-task old c.unpack-control.result says c.if-control-eq-AGGREGATE.false in
    (task-target c.args.checked.now old c.args.target c.program-program.ensures.formed task c.requires.respawn).fits

pub returns-then-control-eq-AGGREGATE-clause-frame : goal.returns-then-control-eq-AGGREGATE-clause-frame
returns-then-control-eq-AGGREGATE-clause-frame c =
    let old = c.args.frame.now.items in
    let read = c.as_mut_slice-words.result.now in
    let same = c.as_mut_slice-words.ensures.value in
    let says = c.unpack-control.ensures ∙ ap (λ l. unpacked (slice_index l 0)) same in
    let group = is-group old c.unpack-control.result says c.if-control-eq-AGGREGATE.true in
    (group-clauses c.args.checked.now old _ c.args.target c.requires.frame group c.requires.respawn
    (subst (λ l. IsMovedTo (control_state (slice_index old 0)) (control_at (slice_index old 0) + 1) l (refill (length old) old c.stand.new.words)) same
    (written-next old read read c.stand.new.words c.unpack-control.result same c.unpack-control.ensures (ap length same) c.stand.ensures))).0

pub returns-then-control-eq-AGGREGATE-clause-moved : goal.returns-then-control-eq-AGGREGATE-clause-moved
returns-then-control-eq-AGGREGATE-clause-moved c =
    let old = c.args.frame.now.items in
    let read = c.as_mut_slice-words.result.now in
    let same = c.as_mut_slice-words.ensures.value in
    let says = c.unpack-control.ensures ∙ ap (λ l. unpacked (slice_index l 0)) same in
    let group = is-group old c.unpack-control.result says c.if-control-eq-AGGREGATE.true in
    (group-clauses c.args.checked.now old _ c.args.target c.requires.frame group c.requires.respawn
    (subst (λ l. IsMovedTo (control_state (slice_index old 0)) (control_at (slice_index old 0) + 1) l (refill (length old) old c.stand.new.words)) same
    (written-next old read read c.stand.new.words c.unpack-control.result same c.unpack-control.ensures (ap length same) c.stand.ensures))).1

pub returns-else-control-eq-AGGREGATE-clause-frame : goal.returns-else-control-eq-AGGREGATE-clause-frame
returns-else-control-eq-AGGREGATE-clause-frame c =
    let old = c.args.frame.now.items in
    let read = c.as_mut_slice-words.result.now in
    let same = c.as_mut_slice-words.ensures.value in
    let says = c.unpack-control.ensures ∙ ap (λ l. unpacked (slice_index l 0)) same in
    let task = is-task old c.unpack-control.result says c.if-control-eq-AGGREGATE.false in
    (entered-clauses c.args.checked.now old _ c.args.target c.requires.frame task
    (task-target c.args.checked.now old c.args.target c.program-program.ensures.formed task c.requires.respawn)
    (moved-words old read c.stand-else-control-eq-AGGREGATE.new.words c.args.target 0 same c.stand-else-control-eq-AGGREGATE.ensures)).0

pub returns-else-control-eq-AGGREGATE-clause-moved : goal.returns-else-control-eq-AGGREGATE-clause-moved
returns-else-control-eq-AGGREGATE-clause-moved c =
    let old = c.args.frame.now.items in
    let read = c.as_mut_slice-words.result.now in
    let same = c.as_mut_slice-words.ensures.value in
    let says = c.unpack-control.ensures ∙ ap (λ l. unpacked (slice_index l 0)) same in
    let task = is-task old c.unpack-control.result says c.if-control-eq-AGGREGATE.false in
    (entered-clauses c.args.checked.now old _ c.args.target c.requires.frame task
    (task-target c.args.checked.now old c.args.target c.program-program.ensures.formed task c.requires.respawn)
    (moved-words old read c.stand-else-control-eq-AGGREGATE.new.words c.args.target 0 same c.stand-else-control-eq-AGGREGATE.ensures)).1

pub returns-else-control-eq-AGGREGATE-clause-way : goal.returns-else-control-eq-AGGREGATE-clause-way
returns-else-control-eq-AGGREGATE-clause-way c =
    let old = c.args.frame.now.items in
    let read = c.as_mut_slice-words.result.now in
    let same = c.as_mut_slice-words.ensures.value in
    let says = c.unpack-control.ensures ∙ ap (λ l. unpacked (slice_index l 0)) same in
    let task = is-task old c.unpack-control.result says c.if-control-eq-AGGREGATE.false in
    (entered-clauses c.args.checked.now old _ c.args.target c.requires.frame task
    (task-target c.args.checked.now old c.args.target c.program-program.ensures.formed task c.requires.respawn)
    (moved-words old read c.stand-else-control-eq-AGGREGATE.new.words c.args.target 0 same c.stand-else-control-eq-AGGREGATE.ensures)).2
